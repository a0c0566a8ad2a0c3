-- The verdict on a sound run's log, and the bound on activations up to each place of it.
use Rattle.std.proofs.Common.{true, arith, ◌*◌, nat_lt, ◌≡◌, ℕ, suc, ◌<◌, ◌≤◌, None, List, [], ◌∷◌, length, refl, ap, ◌∙◌}
use Rattle.command_words.specs.declared.place.Bank.{Bank}
use Rattle.command_words.specs.Command.{bank_number}
use Rattle.std.specs.Prelude.{IsTrue}
use Rattle.std.proofs.lemmas.Bool.{lt-ltb}
use Rattle.command_words.specs.declared.command.Command.{Command}
use Rattle.command_words.specs.declared.command.Command.TheVariants.{Act, Rd, Wr, PrePb, PreSb, PreAb, RefAb, RefSb, RfmAb, RfmSb, Mrw, Ecs, Nop}
use Rattle.speed_bin.specs.Counters.{acts}
use Rattle.speed_bin.specs.Header.{IsAccepted, bound, shape_of}
use Rattle.speed_bin.specs.Log.{Log}
use Rattle.speed_bin.specs.Marks.{is_bank, stays_inside, Keeps}
use Rattle.speed_bin.specs.Rules.{broken, broken_at_end, verdict, verdict_after, verdict_at_end}
use Rattle.speed_bin.proofs.Tests.{joined}
use Rattle.speed_bin.specs.declared.header.Header.{Header}
use Rattle.ddr_text.specs.Ranges.{IsCommandOf}
use Rattle.ddr_text.specs.declared.lines.TraceLine.{TraceLine}
use Rattle.reports.specs.Runs.{Issues, Flips, Run, log_of}
use Rattle.reports.specs.Sound.{Sound, IsRun, IsBounded, AllBounded}
use Rattle.reports.proofs.Kept.{first-rule, second-rule, fourth-rule, fifth-rule, twelfth-rule}

pub verdict-sound : (h : Header) (trace : List TraceLine) (run : Run) → Sound h trace run → verdict h (log_of run) ≡ None
verdict-sound h trace [] sound = refl
verdict-sound h trace (Issues s ∷ run) sound =
    ap (λ v. verdict_after v (suc (length (log_of run))) (broken h s.issued.clock s.issued.command (log_of run))) (verdict-sound h trace run sound.1)
    ∙ ap (verdict_after None (suc (length (log_of run)))) sound.0.rules
verdict-sound h trace (Flips k ∷ run) sound = verdict-sound h trace run sound.1

pub verdict-run : (h : Header) (trace : List TraceLine) (run : Run) (clock : ℕ) → IsRun h trace run clock → verdict_at_end h clock (log_of run) ≡ None
verdict-run h trace run clock r =
    ap (λ v. verdict_after v (suc (length (log_of run))) (broken_at_end h clock (log_of run))) (verdict-sound h trace run r.sound)
    ∙ ap (verdict_after None (suc (length (log_of run)))) r.ends

own-bank : (h : Header) (bank : Bank) → bank.group < h.version.groups → bank.address < 4 → is_bank h bank ≡ true
own-bank h bank group address = lt-ltb (bank_number bank) (h.version.groups * 4) (omega (arith, group, address))

pub row-in-range : (h : Header) (command : Command) → IsCommandOf (shape_of h) command → IsTrue (stays_inside h command)
row-in-range h (Act bank row) w = joined (nat_lt row h.settings.rows) (is_bank h bank) (lt-ltb row h.settings.rows w.1) (own-bank h bank w.0.group w.0.address)
row-in-range h (Rd bank column) w = own-bank h bank w.0.group w.0.address
row-in-range h (Wr bank column) w = own-bank h bank w.0.group w.0.address
row-in-range h (PrePb bank) w = own-bank h bank w.group w.address
row-in-range h (PreSb address) w = refl
row-in-range h PreAb w = refl
row-in-range h RefAb w = refl
row-in-range h (RefSb address) w = refl
row-in-range h RfmAb w = refl
row-in-range h (RfmSb address) w = refl
row-in-range h (Mrw write) w = refl
row-in-range h Ecs w = refl
row-in-range h Nop w = refl

pub keeps : (h : Header) (trace : List TraceLine) (run : Run) → Sound h trace run → Keeps h (log_of run)
keeps h trace [] sound = tt
keeps h trace (Issues s ∷ run) sound =
    let clock = s.issued.clock in
    let command = s.issued.command in
    let log = log_of run in (
      keeps h trace run sound.1,
      record {
        in_range = row-in-range h command sound.0.in_range;
        first = first-rule h clock command log sound.0.rules;
        second = second-rule h clock command log sound.0.rules;
        fourth = fourth-rule h clock command log sound.0.rules;
        fifth = fifth-rule h clock command log sound.0.rules;
        twelfth = twelfth-rule h clock command log sound.0.rules;
      },
    )
keeps h trace (Flips k ∷ run) sound = keeps h trace run sound.1

-- the law on activations, of the crate that proves it
abbrev pub Bound : Type 0
Bound = (h : Header) (b row : ℕ) (log : Log) → IsAccepted h → b < 32 → row < h.settings.rows → Keeps h log → acts h b row log ≤ bound h

pub bounded : Bound → (h : Header) (trace : List TraceLine) (run : Run) → IsAccepted h → Sound h trace run → IsBounded h (log_of run)
bounded law h trace run accepted sound b row low within = law h b row (log_of run) accepted low within (keeps h trace run sound)

pub all-bounded : Bound → (h : Header) (trace : List TraceLine) (run : Run) → IsAccepted h → Sound h trace run → AllBounded h (log_of run)
all-bounded law h trace [] accepted sound = bounded law h trace [] accepted sound
all-bounded law h trace (Issues s ∷ run) accepted sound = (bounded law h trace (Issues s ∷ run) accepted sound, all-bounded law h trace run accepted sound.1)
all-bounded law h trace (Flips k ∷ run) accepted sound = all-bounded law h trace run accepted sound.1
