-- Words that are read as a command are its own.
use Rattle.std.proofs.Common.{◌≡◌, ℕ, ◌/◌, ◌%◌, ◌<◌, Bool, true, false, cond, not, ◌&&◌, ◌==◌, eqb, Option, Some, None, Result, Ok, Err, refl, sym, ap, ◌∙◌, subst, arith}
use Rattle.std.proofs.lemmas.Bool.{and_parts, eqb-true, not-false}
use Rattle.command_words.specs.Command.{IsBank, IsInRange}
use Rattle.command_words.specs.Words.{words_of}
use Rattle.command_words.specs.Decode.{are_equal, bank_in, address_in, column_in, decode_of, has_bit, has_extra, is_next, lacks_second, row_in, judged, kind_in, low_words, managed_in, named, named_in, precharge_in}
use Rattle.command_words.specs.declared.words.Words.{Words}
use Rattle.command_words.specs.declared.words.WordFault.{WordFault}
use Rattle.command_words.specs.declared.words.WordFault.TheVariants.{Unknown, SecondMissing, SecondExtra, Reserved, Range}
use Rattle.command_words.specs.declared.command.Command.{Command}
use Rattle.command_words.specs.declared.command.Command.TheVariants.{Act, Rd, Wr, PrePb, PreSb, PreAb, RefAb, RefSb, RfmAb, RfmSb, Mrw, Ecs, Nop}

-- a command that is found is within its ranges
record Good (found : Option Command) : Type 0 where
  each : (command : Command) → found ≡ Some command → IsInRange command

good-Some : (command : Command) → IsInRange command → Good (Some command)
good-Some command h = record { each = λ other e. let same : command ≡ other = cc in subst IsInRange same h }

good-None : Good None
good-None = record { each = λ other e. cc }

good-cond : (b : Bool) (x y : Option Command) → Good x → Good y → Good (cond b x y)
good-cond true x y h k = h
good-cond false x y h k = k

bank-good : (word : ℕ) → IsBank (bank_in word)
bank-good word = record { group = omega arith; address = omega arith }

precharge-cond : (b : Bool) (address : ℕ) → address < 4 → IsInRange (cond b (PreSb address) PreAb)
precharge-cond true address h = h
precharge-cond false address h = tt

managed-cond : (b d : Bool) (address : ℕ) → address < 4 → IsInRange (cond b (cond d (RefSb address) (RfmSb address)) (cond d RefAb RfmAb))
managed-cond true true address h = h
managed-cond true false address h = h
managed-cond false true address h = tt
managed-cond false false address h = tt

kind-good : (five first second : ℕ) → Good (kind_in five first second)
kind-good five first second =
    good-cond (five == 0x1d) _ _ (good-Some (Rd (bank_in first) (column_in second)) (bank-good first, omega arith))
    (good-cond (five == 0x0d) _ _ (good-Some (Wr (bank_in first) (column_in second)) (bank-good first, omega arith))
    (good-cond (five == 0x05) _ _ (good-Some (Mrw (record { address = first / 32 % 256; value = second % 256 })) (omega arith, omega arith))
    (good-cond (five == 0x1b) _ _ (good-Some (PrePb (bank_in first)) (bank-good first))
    (good-cond (five == 0x0b) _ _ (good-Some (precharge_in first) (precharge-cond (has_bit 1024 first) (address_in first) (omega arith)))
    (good-cond (five == 0x1f) _ _ (good-Some Nop tt)
    (good-cond (five == 0x13) _ _ (good-Some (managed_in first) (managed-cond (has_bit 1024 first) (has_bit 512 first) (address_in first) (omega arith)))
    (good-cond ((five == 0x0f) && (first / 32 % 256 == 0x0c)) (Some Ecs) None (good-Some Ecs tt) good-None)))))))

named-good : (first second : ℕ) → Good (named_in first second)
unfolding named_in
named-good first second =
    good-cond (first % 4 == 0) _ _ (good-Some (Act (bank_in first) (row_in first second)) (bank-good first, omega arith)) (kind-good (first % 32) first second)

next-same : (a b : Option ℕ) → is_next a b ≡ true → a ≡ b
next-same (Some a) (Some b) h = ap Some (eqb-true a b h)
next-same None None h = refl
next-same (Some a) None h = cc h
next-same None (Some b) h = cc h

same-words : (a b : Words) → are_equal a b ≡ true → a ≡ b
same-words a b h =
    let parts = and_parts (eqb a.first b.first) _ h in
    ap (λ (n : ℕ). record { first = n; second = a.second }) (eqb-true a.first b.first parts.0)
    ∙ ap (λ (o : Option ℕ). record { first = b.first; second = o }) (next-same a.second b.second parts.1)

-- the words are the command's, which is within its ranges
record Own (words : Words) (read : Result Command WordFault) : Type 0 where
  each : (command : Command) → read ≡ Ok command → (words ≡ words_of command) × IsInRange command

own-Err : (words : Words) (fault : WordFault) → Own words (Err fault)
own-Err words fault = record { each = λ command e. cc }

own-Ok : (words : Words) (command : Command) → words ≡ words_of command → IsInRange command → Own words (Ok command)
own-Ok words command h k =
    record { each = λ other e. let same : command ≡ other = cc in (h ∙ ap words_of same, subst IsInRange same k) }

own-cond : (words : Words) (b : Bool) (x y : Result Command WordFault) → Own words x → (b ≡ false → Own words y) → Own words (cond b x y)
own-cond words true x y h k = h
own-cond words false x y h k = k refl

judged-own : (words : Words) (found : Option Command) → Good found → Own words (judged words found)
judged-own words None h = own-Err words Unknown
judged-own words (Some command) h =
    own-cond words (lacks_second command words) _ _ (own-Err words SecondMissing)
    (λ e. own-cond words (has_extra command words) _ _ (own-Err words SecondExtra)
    (λ e. own-cond words (not (are_equal (words_of command) (low_words words))) _ _ (own-Err words Reserved)
    (λ kept. own-cond words (not (are_equal (low_words words) words)) _ _ (own-Err words Range)
    (λ narrow. own-Ok words command
    (sym (same-words (low_words words) words (not-false _ narrow)) ∙ sym (same-words (words_of command) (low_words words) (not-false _ kept)))
    (h.each command refl)))))

pub decoded-Ok : (words : Words) (command : Command) → decode_of words ≡ Ok command → (words ≡ words_of command) × IsInRange command
decoded-Ok words command h = (judged-own words (named words) (named-good _ _)).each command h

abbrev pub Narrow : Option ℕ → Type 0
Narrow None = Unit {0}
Narrow (Some word) = word < 65536

-- a command's words have 16 bits
pub first-fits : (command : Command) → IsInRange command → (words_of command).first < 65536
first-fits (Act bank row) h = omega (arith, h.0.address, h.0.group)
first-fits (Rd bank column) h = omega (arith, h.0.address, h.0.group)
first-fits (Wr bank column) h = omega (arith, h.0.address, h.0.group)
first-fits (PrePb bank) h = omega (arith, h.address, h.group)
first-fits (PreSb address) h = omega arith
first-fits PreAb h = omega arith
first-fits RefAb h = omega arith
first-fits (RefSb address) h = omega arith
first-fits RfmAb h = omega arith
first-fits (RfmSb address) h = omega arith
first-fits (Mrw write) h = omega (arith, h.0)
first-fits Ecs h = omega arith
first-fits Nop h = omega arith

pub second-fits : (command : Command) → IsInRange command → Narrow (words_of command).second
second-fits (Act bank row) h = omega arith
second-fits (Rd bank column) h = omega arith
second-fits (Wr bank column) h = omega arith
second-fits (PrePb bank) h = tt
second-fits (PreSb address) h = tt
second-fits PreAb h = tt
second-fits RefAb h = tt
second-fits (RefSb address) h = tt
second-fits RfmAb h = tt
second-fits (RfmSb address) h = tt
second-fits (Mrw write) h = omega (arith, h.1)
second-fits Ecs h = tt
second-fits Nop h = tt
