-- What a text states, by whether it is UTF-8.
use Rattle.std.proofs.Common.{◌≡◌, ℕ, List, true, false, Err, refl, cond}
use Rattle.std.specs.Str.{is_utf8, IsUtf8}
use Rattle.std.proofs.lemmas.Str.{is_utf8-from_IsUtf8, IsUtf8-from_is_utf8}
use Rattle.toml.specs.Parse.{parse_document}
use Rattle.speed_bin.specs.Document.{header_stated, header_of}
use Rattle.speed_bin.specs.Version.{Figures}
use Rattle.speed_bin.specs.declared.fault.HeaderFault.TheVariants.{NotToml}

pub stated_bad : (version : Figures) (text : List ℕ) → ¬ IsUtf8 text → header_stated version text ≡ Err NotToml
stated_bad version text broken =
    elim (is_utf8 text) as (λ b. is_utf8 text ≡ b → cond b (header_of version (parse_document text)) (Err NotToml) ≡ Err NotToml) [
      | true ↦ λ is. absurd (broken (IsUtf8-from_is_utf8 text is))
      | false ↦ λ is. refl
    ] refl

pub stated_good : (version : Figures) (text : List ℕ) → IsUtf8 text → header_stated version text ≡ header_of version (parse_document text)
stated_good version text is = rw (is_utf8-from_IsUtf8 text is)
