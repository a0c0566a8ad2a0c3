-- Where nothing is blocked.
use Rattle.std.proofs.Common.{◌≡◌, ℕ, Bool, true, false, if◌then◌else◌, refl}

pub none_there : (there : Bool) → ◌≡◌ {A = ℕ} (if there then 0 else 0) 0
none_there true = refl
none_there false = refl
