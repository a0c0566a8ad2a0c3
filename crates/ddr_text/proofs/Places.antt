-- The log of lines one behind the other.
use Rattle.std.proofs.Common.{◌≡◌, List, [], ◌∷◌, ◌++◌, refl, ap}
use Rattle.ddr_text.specs.ReportParts.{places_of}
use Rattle.ddr_text.specs.declared.lines.ReportLine.{ReportLine}
use Rattle.ddr_text.specs.declared.lines.ReportLine.TheVariants.{Issued, Value, Flip, Stat, End, Refused}

pub places_of-append : (a b : List ReportLine) → places_of (a ++ b) ≡ places_of a ++ places_of b
places_of-append [] b = refl
places_of-append (Issued clock command ∷ a) b = ap (λ l. record { clock = clock; command = command } ∷ l) (places_of-append a b)
places_of-append (Value number line bytes state ∷ a) b = places_of-append a b
places_of-append (Flip clock line device bit ∷ a) b = places_of-append a b
places_of-append (Stat name number ∷ a) b = places_of-append a b
places_of-append (End clock ∷ a) b = places_of-append a b
places_of-append (Refused line reason ∷ a) b = places_of-append a b
