-- A line of a report has no line feed before its end, and is not too long.
use Rattle.std.proofs.Common.{◌≡◌, ℕ, ◌+◌, ◌*◌, ◌/◌, ◌%◌, ◌^◌, ◌<◌, ◌≤◌, true, false, not, codes, List, [], ◌∷◌, ◌++◌, length, get_or, Option, Some, None, refl, arith, length-append}
use Rattle.std.specs.List.{list_all}
use Rattle.std.specs.Fmt.{decimal}
use Rattle.std.specs.Int.{IsInRange}
use Rattle.std.specs.Str.Parse.{digits_value}
use Rattle.std.proofs.lemmas.Bool.{ne_eqb, and_parts, not-true}
use Rattle.std.proofs.lemmas.Fmt.{digits_decimal, length-decimal-le}
use Rattle.std.proofs.lemmas.List.Elements.{All-nil, All-cons, All-append, All-from_get_or}
use Rattle.std.proofs.lemmas.Str.Parse.{IsNumeralModel, numerals_by_value, tells_by_index}
use Rattle.hex.specs.Hex.{IsBytes, encode_lower, lower_digits}
use Rattle.hex.proofs.HexLemmas.{IsOk-decode_sized, decode_sized-encode_lower, length-encode_with}
use Rattle.command_words.specs.Command.{IsInRange as IsCommandInRange}
use Rattle.command_words.specs.Geometry.{Shape, lines_of}
use Rattle.command_words.specs.Words.{words_of}
use Rattle.command_words.specs.declared.command.Command.{Command}
use Rattle.command_words.specs.declared.command.Command.TheVariants.{Act, Rd, Wr, PrePb, PreSb, PreAb, RefAb, RefSb, RfmAb, RfmSb, Mrw, Ecs, Nop}
use Rattle.ondie_ecc.specs.declared.state.ReadState.{ReadState}
use Rattle.ondie_ecc.specs.declared.state.ReadState.TheVariants.{Clean, Fixed, Lost as LostState}
use Rattle.ddr_text.specs.AcceptedReport.{IsReportLine}
use Rattle.ddr_text.specs.Opening.{is_feed}
use Rattle.ddr_text.specs.Spelling.{report_text, spaced, spaced_word, spaced_second, spaced_words, state_name, stat_name}
use Rattle.ddr_text.specs.declared.lines.ReportLine.{ReportLine}
use Rattle.ddr_text.specs.declared.lines.ReportLine.TheVariants.{Issued, Value, Flip, Stat, End, Refused}
use Rattle.ddr_text.specs.declared.lines.StatName.{StatName}
use Rattle.ddr_text.specs.declared.lines.StatName.TheVariants.{Act as ActName, Rd as RdName, Wr as WrName, Pre, RefAb as RefAbName, RefSb as RefSbName, RfmAb as RfmAbName, RfmSb as RfmSbName, Ecs as EcsName, Alert, Peak, Found, Lost, Worst}
use Rattle.ddr_text.proofs.CleanParts.{HasNoFeed}
use Rattle.ddr_text.proofs.Parts.{digit-high, two-bytes}

-- no byte is a line feed, and there are at most so many
pub record Fits (most : ℕ) (text : List ℕ) : Type 0 where
  pub clean : HasNoFeed text
  pub short : length text ≤ most

join : (m n : ℕ) (a b : List ℕ) → Fits m a → Fits n b → Fits (m + n) (a ++ b)
join m n a b f g = record {
  clean = All-append (λ byte. is_feed byte ≡ false) a b f.clean g.clean;
  short = omega (arith, length-append a b, f.short, g.short);
}

-- ---- Words that are written out

clean-test : (text : List ℕ) → list_all (λ byte. not (is_feed byte)) text ≡ true → HasNoFeed text
clean-test [] h = All-nil (λ byte. is_feed byte ≡ false)
clean-test (byte ∷ bytes) h =
    let parts = and_parts (not (is_feed byte)) _ h in
    All-cons (λ b. is_feed b ≡ false) byte bytes (not-true (is_feed byte) parts.0) (clean-test bytes parts.1)

state-fits : (state : ReadState) → Fits 5 (state_name state)
state-fits Clean = record { clean = clean-test (state_name Clean) refl; short = omega arith }
state-fits Fixed = record { clean = clean-test (state_name Fixed) refl; short = omega arith }
state-fits LostState = record { clean = clean-test (state_name LostState) refl; short = omega arith }

stat-fits : (name : StatName) → Fits 5 (stat_name name)
stat-fits ActName = record { clean = clean-test (stat_name ActName) refl; short = omega arith }
stat-fits RdName = record { clean = clean-test (stat_name RdName) refl; short = omega arith }
stat-fits WrName = record { clean = clean-test (stat_name WrName) refl; short = omega arith }
stat-fits Pre = record { clean = clean-test (stat_name Pre) refl; short = omega arith }
stat-fits RefAbName = record { clean = clean-test (stat_name RefAbName) refl; short = omega arith }
stat-fits RefSbName = record { clean = clean-test (stat_name RefSbName) refl; short = omega arith }
stat-fits RfmAbName = record { clean = clean-test (stat_name RfmAbName) refl; short = omega arith }
stat-fits RfmSbName = record { clean = clean-test (stat_name RfmSbName) refl; short = omega arith }
stat-fits EcsName = record { clean = clean-test (stat_name EcsName) refl; short = omega arith }
stat-fits Alert = record { clean = clean-test (stat_name Alert) refl; short = omega arith }
stat-fits Peak = record { clean = clean-test (stat_name Peak) refl; short = omega arith }
stat-fits Found = record { clean = clean-test (stat_name Found) refl; short = omega arith }
stat-fits Lost = record { clean = clean-test (stat_name Lost) refl; short = omega arith }
stat-fits Worst = record { clean = clean-test (stat_name Worst) refl; short = omega arith }

-- ---- Numbers

own : IsNumeralModel (λ ds. (i : ℕ) → i < length ds → IsInRange 48 57 (get_or ds i 0)) (digits_value 10)
own = numerals_by_value _ tells_by_index

clean-from : (text : List ℕ) → ((i : ℕ) → i < length text → 32 < get_or text i 0) → HasNoFeed text
clean-from text h =
    All-from_get_or (λ byte. is_feed byte ≡ false) text 0 (λ i l. ne_eqb (get_or text i 0) 10 (λ e. let high : 32 < get_or text i 0 = h i l in absurd (omega (arith, e))))

decimal-fits : (n : ℕ) → n < 2 ^ 64 → Fits 20 (decimal n)
decimal-fits n h = record {
  clean = clean-from (decimal n) (λ i l. let r = digits_decimal own n h i l in omega arith);
  short = length-decimal-le 20 n (omega arith) (omega arith) h;
}

spaced-fits : (n : ℕ) → n < 2 ^ 64 → Fits 21 (spaced n)
spaced-fits n h = join 1 20 (codes " ") (decimal n) (record { clean = clean-test (codes " ") refl; short = omega arith }) (decimal-fits n h)

-- ---- Hexadecimal digits

hex-fits : (bytes : List ℕ) (most : ℕ) → IsBytes bytes → 2 * length bytes ≤ most → Fits most (encode_lower bytes)
hex-fits bytes most h few =
    let digits = (IsOk-decode_sized (encode_lower bytes) (length bytes)).0 (rw (decode_sized-encode_lower bytes (length bytes) refl h) refl) in
    record {
      clean = clean-from (encode_lower bytes) (λ i l. digit-high (get_or (encode_lower bytes) i 0) (digits.1 i 0 l));
      short = omega (arith, length-encode_with lower_digits bytes, few);
    }

space-fits : Fits 1 (codes " ")
space-fits = record { clean = clean-test (codes " ") refl; short = omega arith }

word-fits : (word : ℕ) → word < 65536 → Fits 5 (spaced_word word)
word-fits word h =
    join 1 4 (codes " ") (encode_lower (word / 256 ∷ word % 256 ∷ [])) space-fits
    (hex-fits (word / 256 ∷ word % 256 ∷ []) 4 (two-bytes (word / 256) (word % 256) (omega arith) (omega arith)) (omega arith))

abbrev Narrow : Option ℕ → Type 0
Narrow None = Unit {0}
Narrow (Some word) = word < 65536

second-fits : (second : Option ℕ) → Narrow second → Fits 5 (spaced_second second)
second-fits None h = record { clean = All-nil (λ byte. is_feed byte ≡ false); short = omega arith }
second-fits (Some word) h = word-fits word h

first-narrow : (command : Command) → IsCommandInRange command → (words_of command).first < 65536
first-narrow (Act bank row) h = omega (arith, h.0.address, h.0.group)
first-narrow (Rd bank column) h = omega (arith, h.0.address, h.0.group)
first-narrow (Wr bank column) h = omega (arith, h.0.address, h.0.group)
first-narrow (PrePb bank) h = omega (arith, h.address, h.group)
first-narrow (PreSb address) h = omega arith
first-narrow PreAb h = omega arith
first-narrow RefAb h = omega arith
first-narrow (RefSb address) h = omega arith
first-narrow RfmAb h = omega arith
first-narrow (RfmSb address) h = omega arith
first-narrow (Mrw write) h = omega (arith, h.0)
first-narrow Ecs h = omega arith
first-narrow Nop h = omega arith

second-narrow : (command : Command) → IsCommandInRange command → Narrow (words_of command).second
second-narrow (Act bank row) h = omega (arith, h.1)
second-narrow (Rd bank column) h = omega (arith, h.1)
second-narrow (Wr bank column) h = omega (arith, h.1)
second-narrow (Mrw write) h = omega (arith, h.1)
second-narrow (PrePb bank) h = tt
second-narrow (PreSb address) h = tt
second-narrow PreAb h = tt
second-narrow RefAb h = tt
second-narrow (RefSb address) h = tt
second-narrow RfmAb h = tt
second-narrow (RfmSb address) h = tt
second-narrow Ecs h = tt
second-narrow Nop h = tt

words-fit : (command : Command) → IsCommandInRange command → Fits 10 (spaced_words (words_of command))
words-fit command h =
    join 5 5 (spaced_word (words_of command).first) (spaced_second (words_of command).second)
    (word-fits (words_of command).first (first-narrow command h)) (second-fits (words_of command).second (second-narrow command h))

-- ---- Lines

letter-fits : (letter : ℕ) → is_feed letter ≡ false → Fits 1 (letter ∷ [])
letter-fits letter h = record { clean = All-cons (λ byte. is_feed byte ≡ false) letter [] h (All-nil (λ byte. is_feed byte ≡ false)); short = omega arith }

wider : (m n : ℕ) (text : List ℕ) → m ≤ n → Fits m text → Fits n text
wider m n text le f = record { clean = f.clean; short = omega (arith, f.short, le) }

pub text-fits : (g : Shape) (line : ReportLine) → lines_of g ≤ 2 ^ 64 → IsReportLine g line → Fits 511 (report_text line)
unfolding report_text
text-fits g (Issued clock command) small h =
    wider 32 511 (report_text (Issued clock command)) (omega arith)
    (join 22 10 (codes "C" ++ spaced clock) (spaced_words (words_of command))
    (join 1 21 (codes "C") (spaced clock) (letter-fits 67 refl) (spaced-fits clock (omega (arith, h.0))))
    (words-fit command h.1))
text-fits g (Value number line bytes state) small h =
    wider 178 511 (report_text (Value number line bytes state)) (omega arith)
    (join 172 6 (codes "D" ++ spaced number ++ spaced line ++ (codes " " ++ encode_lower bytes)) (codes " " ++ state_name state)
    (join 43 129 (codes "D" ++ spaced number ++ spaced line) (codes " " ++ encode_lower bytes)
    (join 22 21 (codes "D" ++ spaced number) (spaced line)
    (join 1 21 (codes "D") (spaced number) (letter-fits 68 refl) (spaced-fits number h.0))
    (spaced-fits line (omega (arith, h.1, small))))
    (join 1 128 (codes " ") (encode_lower bytes) space-fits (hex-fits bytes 128 h.3 (omega (arith, h.2)))))
    (join 1 5 (codes " ") (state_name state) space-fits (state-fits state)))
text-fits g (Flip clock line device bit) small h =
    wider 85 511 (report_text (Flip clock line device bit)) (omega arith)
    (join 64 21 (codes "F" ++ spaced clock ++ spaced line ++ spaced device) (spaced bit)
    (join 43 21 (codes "F" ++ spaced clock ++ spaced line) (spaced device)
    (join 22 21 (codes "F" ++ spaced clock) (spaced line)
    (join 1 21 (codes "F") (spaced clock) (letter-fits 70 refl) (spaced-fits clock (omega (arith, h.0))))
    (spaced-fits line (omega (arith, h.1, small))))
    (spaced-fits device (omega (arith, h.2))))
    (spaced-fits bit (omega (arith, h.3))))
text-fits g (Stat name number) small h =
    wider 28 511 (report_text (Stat name number)) (omega arith)
    (join 7 21 (codes "S" ++ (codes " " ++ stat_name name)) (spaced number)
    (join 1 6 (codes "S") (codes " " ++ stat_name name) (letter-fits 83 refl)
    (join 1 5 (codes " ") (stat_name name) space-fits (stat-fits name)))
    (spaced-fits number h))
text-fits g (End clock) small h =
    wider 22 511 (report_text (End clock)) (omega arith)
    (join 1 21 (codes "E") (spaced clock) (letter-fits 69 refl) (spaced-fits clock (omega (arith, h))))
text-fits g (Refused line reason) small h =
    wider 43 511 (report_text (Refused line reason)) (omega arith)
    (join 22 21 (codes "X" ++ spaced line) (spaced reason)
    (join 1 21 (codes "X") (spaced line) (letter-fits 88 refl) (spaced-fits line h.0))
    (spaced-fits reason (omega (arith, h.1))))
