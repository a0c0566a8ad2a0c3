-- A header that a text states in front of a separator with a version is accepted.
use Rattle.std.proofs.Common.{◌≡◌, ℕ, Bool, true, false, not, ◌&&◌, List, codes, Option, Some, None, Result, Ok, Err, arith, refl, subst}
use Rattle.std.specs.Prelude.{option_and_then, if◌then◌else◌}
use Rattle.std.specs.Str.{is_utf8, bytes_eq}
use Rattle.std.proofs.lemmas.Bool.{and_parts}
use Rattle.toml.specs.Data.{Members}
use Rattle.toml.specs.Parse.{parse_document}
use Rattle.speed_bin.specs.Document.{checks_of, failed, header_in, header_of, header_stated, settings_in, text_at, timing_in, with_bin}
use Rattle.speed_bin.specs.Header.{IsAccepted}
use Rattle.speed_bin.specs.Keys.{all_members, has_required, key_fits, kind_fits, range_fits}
use Rattle.speed_bin.specs.Rules.{first_failing}
use Rattle.speed_bin.specs.Timing.{IsTiming, bin_named, prac_4800, tiny}
use Rattle.speed_bin.specs.Version.{Figures, IsVersion}
use Rattle.speed_bin.specs.declared.fault.HeaderFault.{HeaderFault}
use Rattle.speed_bin.specs.declared.fault.HeaderFault.TheVariants.{NotToml, Key, Kind, Range}
use Rattle.speed_bin.specs.declared.header.Header.{Header}
use Rattle.speed_bin.specs.declared.timing.Timing.{Timing}
use Rattle.speed_bin.proofs.Accepted.{checks_pass}
use Rattle.speed_bin.proofs.Ranges.{settings_fit, timing_fits}

-- ---- The bins

prac-fits : IsTiming prac_4800
prac-fits = record {
  ncl = (omega arith, omega arith);
  ncwl = (omega arith, omega arith);
  nrcd = (omega arith, omega arith);
  nrp = (omega arith, omega arith);
  nras = (omega arith, omega arith);
  nrc = (omega arith, omega arith);
  nrrd_s = (omega arith, omega arith);
  nrrd_l = (omega arith, omega arith);
  nfaw = (omega arith, omega arith);
  nccd_s = (omega arith, omega arith);
  nccd_l = (omega arith, omega arith);
  nccd_l_wr = (omega arith, omega arith);
  nwtr_s = (omega arith, omega arith);
  nwtr_l = (omega arith, omega arith);
  nrtp = (omega arith, omega arith);
  nwr = (omega arith, omega arith);
  nrfc = (omega arith, omega arith);
  nrfcsb = (omega arith, omega arith);
  nrfm = (omega arith, omega arith);
  nrfmsb = (omega arith, omega arith);
  nrefi = (omega arith, omega arith);
  nabo = (omega arith, omega arith);
  nmrd = (omega arith, omega arith);
  necs = (omega arith, omega arith);
}

tiny-fits : IsTiming tiny
tiny-fits = record {
  ncl = (omega arith, omega arith);
  ncwl = (omega arith, omega arith);
  nrcd = (omega arith, omega arith);
  nrp = (omega arith, omega arith);
  nras = (omega arith, omega arith);
  nrc = (omega arith, omega arith);
  nrrd_s = (omega arith, omega arith);
  nrrd_l = (omega arith, omega arith);
  nfaw = (omega arith, omega arith);
  nccd_s = (omega arith, omega arith);
  nccd_l = (omega arith, omega arith);
  nccd_l_wr = (omega arith, omega arith);
  nwtr_s = (omega arith, omega arith);
  nwtr_l = (omega arith, omega arith);
  nrtp = (omega arith, omega arith);
  nwr = (omega arith, omega arith);
  nrfc = (omega arith, omega arith);
  nrfcsb = (omega arith, omega arith);
  nrfm = (omega arith, omega arith);
  nrfmsb = (omega arith, omega arith);
  nrefi = (omega arith, omega arith);
  nabo = (omega arith, omega arith);
  nmrd = (omega arith, omega arith);
  necs = (omega arith, omega arith);
}

bin-fits : (name : List ℕ) (bin : Timing) → bin_named name ≡ Some bin → IsTiming bin
bin-fits name bin e = go (bytes_eq name (codes "4800-prac")) (bytes_eq name (codes "tiny")) e
  where
    go : (first second : Bool) → (if first then Some prac_4800 else (if second then Some tiny else None)) ≡ Some bin → IsTiming bin
    go true second f = let same : prac_4800 ≡ bin = cc in subst IsTiming same prac-fits
    go false true f = let same : tiny ≡ bin = cc in subst IsTiming same tiny-fits
    go false false f = absurd cc

named-fits : (name : Option (List ℕ)) (bin : Timing) → option_and_then bin_named name ≡ Some bin → IsTiming bin
named-fits None bin e = absurd cc
named-fits (Some name) bin e = bin-fits name bin e

-- ---- The header

checked-accepted : (made h : Header) (check : Option ℕ) → first_failing 1 (checks_of made) ≡ check → failed made check ≡ Ok h → (made ≡ h) × (first_failing 1 (checks_of made) ≡ None)
checked-accepted made h None is e = (cc, is)
checked-accepted made h (Some check) is e = absurd cc

with-bin-accepted : (version : Figures) (top : Members) (bin : Option Timing) (h : Header) → ((t : Timing) → bin ≡ Some t → IsTiming t) → has_required top ≡ true → all_members range_fits top ≡ true → IsVersion version → with_bin version top bin ≡ Ok h → IsAccepted h
with-bin-accepted version top None h named required ranges own e = absurd cc
with-bin-accepted version top (Some bin) h named required ranges own e =
    let made : Header = record { timing = timing_in bin top; settings = settings_in top; version = version } in
    let both = checked-accepted made h (first_failing 1 (checks_of made)) refl e in
    subst IsAccepted both.0 (record {
      timing = timing_fits bin top (named bin refl) ranges;
      settings = settings_fit top required ranges;
      version = own;
      checks = checks_pass made both.1;
    })

members-accepted : (version : Figures) (top : Members) (h : Header) → IsVersion version → header_in version top ≡ Ok h → IsAccepted h
members-accepted version top h own e =
    go (all_members key_fits top && has_required top) (all_members kind_fits top) (all_members range_fits top) refl refl e
  where
    go : (keys kinds ranges : Bool) → (all_members key_fits top && has_required top) ≡ keys → all_members range_fits top ≡ ranges
        → ◌≡◌ {A = Result Header HeaderFault} (if not keys then Err Key else (if not kinds then Err Kind else (if not ranges then Err Range else with_bin version top (option_and_then bin_named (text_at (codes "bin") top))))) (Ok h) → IsAccepted h
    go false kinds ranges a b f = absurd cc
    go true false ranges a b f = absurd cc
    go true true false a b f = absurd cc
    go true true true a b f = with-bin-accepted version top (option_and_then bin_named (text_at (codes "bin") top)) h (named-fits (text_at (codes "bin") top)) (and_parts (all_members key_fits top) (has_required top) a).1 b own f

document-accepted : (version : Figures) (top : Option Members) (h : Header) → IsVersion version → header_of version top ≡ Ok h → IsAccepted h
document-accepted version None h own e = absurd cc
document-accepted version (Some top) h own e = members-accepted version top h own e

pub stated-accepted : (version : Figures) (text : List ℕ) (h : Header) → IsVersion version → header_stated version text ≡ Ok h → IsAccepted h
stated-accepted version text h own e = go (is_utf8 text) e
  where
    go : (utf8 : Bool) → (if utf8 then header_of version (parse_document text) else Err NotToml) ≡ Ok h → IsAccepted h
    go true f = document-accepted version (parse_document text) h own f
    go false f = absurd cc
