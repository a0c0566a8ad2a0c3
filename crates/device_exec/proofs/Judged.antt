-- What a verdict says of the next command, and that a device may be given one that was judged fine.
use Rattle.std.proofs.Common.{◌≡◌, ℕ, zero, suc, ◌<◌, ◌≤◌, ◌*◌, nat_lt, lt-ltb, ltb-true, slice_get, is_some, Bool, true, false, Option, Some, None, List, [], ◌∷◌, length, refl, sym, ap, ◌∙◌, subst, arith}
use Rattle.std.specs.Coded.{le_prop}
use Rattle.std.proofs.Math.Logic.{∥∥₁_elim}
use Rattle.std.proofs.lemmas.Bool.{and_parts, and_from}
use Rattle.bank_state.specs.Standing.{Fits, StandsFor as BanksFor}
use Rattle.command_words.specs.Command.{IsBank, IsInRange, bank_number}
use Rattle.command_words.specs.Geometry.{Shape}
use Rattle.command_words.specs.Place.{IsInside}
use Rattle.command_words.specs.Words.{Spells}
use Rattle.command_words.specs.declared.command.Command.{Command}
use Rattle.command_words.specs.declared.command.Command.TheVariants.{Act, Rd, Wr, PrePb, PreSb, PreAb, RefAb, RefSb, RfmAb, RfmSb, Mrw, Ecs, Nop}
use Rattle.command_words.specs.declared.place.Bank.{Bank}
use Rattle.command_words.specs.declared.words.Words.{Words}
use Rattle.ddr_text.specs.ReportGrammar.{has_place}
use Rattle.ddr_text.specs.declared.lines.ReportLine.{ReportLine}
use Rattle.ddr_text.specs.declared.lines.ReportLine.TheVariants.{Issued as IssuedLine, End as EndLine}
use Rattle.device_core.specs.Legal.{IsLegal}
use Rattle.device_core.specs.Standing.{StandsFor as DeviceFor, MayFollow, with_command}
use Rattle.device_core.specs.Steps.{Step, log_of}
use Rattle.log_auditor.specs.Auditing.{Taken, has_ended, is_end, told}
use Rattle.log_auditor.specs.declared.judge.Judge.{Judge}
use Rattle.log_auditor.specs.declared.verdict.Rule.{Rule}
use Rattle.log_auditor.specs.declared.verdict.Verdict.TheVariants.{Fine, Breaks}
use Rattle.speed_bin.specs.Alert.{alert}
use Rattle.speed_bin.specs.Header.{shape_of}
use Rattle.speed_bin.specs.Log.{Log, open_at}
use Rattle.speed_bin.specs.Marks.{is_bank, stays_inside}
use Rattle.speed_bin.specs.Rules.{rules_at, first_failing, rule_4, rule_5, broken, broken_at_end, verdict, verdict_after, verdict_at_end}
use Rattle.speed_bin.specs.declared.header.Header.{Header}
use Rattle.device_exec.specs.Scripts.{placed}
use Rattle.device_exec.specs.Standing.{BothStand, IsFine, IsFineForSome, IsJudged, MayTake}
use Rattle.device_exec.specs.declared.memory.Memory.{Memory}

-- ---- Verdicts

told_fine : (o : Option (ℕ × ℕ)) → Fine ≡ told o → o ≡ None
told_fine None e = refl
told_fine (Some breach) e = absurd cc

-- where no rule was broken before, a breach is of the next command
pub none_after : (v : Option (ℕ × ℕ)) (n : ℕ) (b : Option ℕ) → verdict_after v n b ≡ None → b ≡ None
none_after (Some breach) n b e = absurd cc
none_after None n (Some rule) e = absurd cc
none_after None n None e = refl

told_next : (n : ℕ) (b : Option ℕ) (rule : Rule) → Breaks rule ≡ told (verdict_after None n b) → b ≡ Some rule.0
told_next n (Some number) rule e = let own : Rule = record { 0 = number } in let same : rule ≡ own = cc in ap (λ (r : Rule). Some r.0) (sym same)
told_next n None rule e = absurd cc

-- ---- The auditor

-- an auditor of a log without a breach takes a line
pub may_judge : (auditor : Judge) → IsFineForSome auditor → has_ended auditor ≡ false
may_judge auditor some = go (has_ended auditor) (λ h log f. f.going_on)
  where
    go : (b : Bool) → ((h : Header) (log : Log) → IsFine auditor h log → b ≡ false) → b ≡ false
    go false f = refl
    go true f = let never : 1 ≤ 0 = ∥∥₁_elim some le_prop (λ r. let no_end = f r.0 r.1 r.2 in cc) in absurd (omega (arith, never))

never_end : (b : Bool) → (b ≡ true → false ≡ true) → b ≡ false
never_end false f = refl
never_end true f = let both : false ≡ true = f refl in absurd cc

pub judged_fine : (h : Header) (log : Log) (clock : ℕ) (command : Command) (new : Judge) → Taken (IssuedLine clock command) new h log Fine → (has_ended new ≡ true → is_end (IssuedLine clock command) ≡ true)
    → IsFine new h (placed clock command ∷ log)
judged_fine h log clock command new t ends =
    record { stands = t.0; fine = told_fine (verdict h (placed clock command ∷ log)) t.1; going_on = never_end (has_ended new) ends }

pub judged_breaks : (h : Header) (log : Log) (clock : ℕ) (command : Command) (old new : Judge) (rule : Rule) → IsFine old h log → Taken (IssuedLine clock command) new h log (Breaks rule) → broken h clock command log ≡ Some rule.0
judged_breaks h log clock command old new rule f t =
    told_next (suc (length log)) (broken h clock command log) rule (t.1 ∙ ap (λ v. told (verdict_after v (suc (length log)) (broken h clock command log))) f.fine)

pub ended_fine : (h : Header) (log : Log) (clock : ℕ) (new : Judge) → Taken (EndLine clock) new h log Fine → broken_at_end h clock log ≡ None
ended_fine h log clock new t = none_after (verdict h log) (suc (length log)) (broken_at_end h clock log) (told_fine (verdict_at_end h clock log) t)

pub ended_breaks : (h : Header) (log : Log) (clock : ℕ) (old new : Judge) (rule : Rule) → IsFine old h log → Taken (EndLine clock) new h log (Breaks rule) → broken_at_end h clock log ≡ Some rule.0
ended_breaks h log clock old new rule f t =
    told_next (suc (length log)) (broken_at_end h clock log) rule (t ∙ ap (λ v. told (verdict_after v (suc (length log)) (broken_at_end h clock log))) f.fine)

-- ---- What the device may be given

own_bank : (h : Header) (bank : Bank) → IsBank bank → nat_lt bank.group h.version.groups ≡ true → is_bank h bank ≡ true
own_bank h bank inside here = let low = ltb-true bank.group h.version.groups here in let a = inside.address in lt-ltb (bank_number bank) (h.version.groups * 4) (omega (arith, low, a))

-- the row and the bank of a command within the shape are the header's
pub place_kept : (h : Header) (command : Command) → IsInRange command → has_place (shape_of h) command ≡ true → stays_inside h command ≡ true
place_kept h (Act bank row) inside e =
    let p = and_parts (nat_lt row h.settings.rows) (nat_lt bank.group h.version.groups) e in
    and_from (nat_lt row h.settings.rows) (is_bank h bank) p.0 (own_bank h bank inside.0 p.1)
place_kept h (Rd bank column) inside e = own_bank h bank inside.0 e
place_kept h (Wr bank column) inside e = own_bank h bank inside.0 e
place_kept h (PrePb bank) inside e = own_bank h bank inside e
place_kept h (PreSb address) inside e = refl
place_kept h PreAb inside e = refl
place_kept h RefAb inside e = refl
place_kept h (RefSb address) inside e = refl
place_kept h RfmAb inside e = refl
place_kept h (RfmSb address) inside e = refl
place_kept h (Mrw write) inside e = refl
place_kept h Ecs inside e = refl
place_kept h Nop inside e = refl

pub rules_kept : (h : Header) (clock : ℕ) (command : Command) (bytes : Option (List ℕ)) (steps : List Step) → IsJudged h clock command bytes steps → broken h clock command (log_of steps) ≡ None
rules_kept h clock command bytes steps j = none_after (verdict h (log_of steps)) (suc (length (log_of steps))) (broken h clock command (log_of steps)) j.fine

pub legal : (h : Header) (clock : ℕ) (command : Command) (bytes : Option (List ℕ)) (steps : List Step) → IsJudged h clock command bytes steps → IsLegal h clock command (log_of steps)
legal h clock command bytes steps j = record {
  in_time = j.inside.0;
  in_range = j.inside.1;
  row = place_kept h command j.inside.1 j.inside.2;
  rules = rules_kept h clock command bytes steps j;
}

pub may_follow : (h : Header) (clock : ℕ) (command : Command) (words : Words) (bytes : Option (List ℕ)) (steps : List Step) → IsJudged h clock command bytes steps → Spells command words → MayFollow h clock command words bytes steps
may_follow h clock command words bytes steps j spelled = record {
  spelled = spelled;
  given = record { legal = legal h clock command bytes steps j; with_bytes = j.with_bytes };
}

-- ---- Open rows

first_none : (n : ℕ) (test : Bool) (tests : List Bool) → first_failing n (test ∷ tests) ≡ None → (test ≡ true) × (first_failing (suc n) tests ≡ None)
first_none n true tests e = (refl, e)
first_none n false tests e = absurd cc

each_true : (n : ℕ) (tests : List Bool) (k : ℕ) (t : Bool) → first_failing n tests ≡ None → slice_get tests k ≡ Some t → t ≡ true
each_true n [] k t e there = absurd cc
each_true n (test ∷ tests) zero t e there = let f : test ≡ t = cc in sym f ∙ (first_none n test tests e).0
each_true n (test ∷ tests) (suc k) t e there = each_true (suc n) tests k t (first_none n test tests e).1 there

pub fits : (h : Header) (clock : ℕ) (command : Command) (log : Log) → broken h clock command log ≡ None → Fits command log
fits h clock command log e = record {
  fourth = each_true 1 (rules_at h clock command log) 3 (rule_4 command log) e refl;
  fifth = each_true 1 (rules_at h clock command log) 4 (rule_5 command log) e refl;
}

pub took : (it new : Memory) (h : Header) (clock : ℕ) (command : Command) (bytes : Option (List ℕ)) (steps : List Step) → BothStand it h steps → DeviceFor new.device h (with_command clock command bytes steps) → BanksFor new.banks (placed clock command ∷ log_of steps) → new.geometry ≡ it.geometry
    → new.raised ≡ is_some (alert h (log_of (with_command clock command bytes steps))) → BothStand new h (with_command clock command bytes steps)
took it new h clock command bytes steps b device banks geometry raised = record { device = device; banks = banks; geometry = geometry ∙ b.geometry; raised = raised }

-- ---- The open row of an RD

rd_at : (h : Header) (clock : ℕ) (command : Command) (bank : Bank) (column : ℕ) (bytes : Option (List ℕ)) (steps : List Step) → command ≡ Rd bank column → IsJudged h clock command bytes steps → IsJudged h clock (Rd bank column) bytes steps
rd_at h clock command bank column bytes steps is j = subst (λ (c : Command). IsJudged h clock c bytes steps) is j

pub row_inside : (h : Header) (clock : ℕ) (command : Command) (bank : Bank) (column row : ℕ) (bytes : Option (List ℕ)) (steps : List Step) → command ≡ Rd bank column → IsJudged h clock command bytes steps
    → ((b : ℕ) → b < 32 → open_at b (log_of steps) ≡ Some row → row < h.settings.rows)
    → Some row ≡ open_at (bank_number bank) (log_of steps) → IsInside (record { bank = bank; row = row; column = column }) (shape_of h)
row_inside h clock command bank column row bytes steps is j low opened =
    let k = rd_at h clock command bank column bytes steps is j in
    let group = k.inside.1.0.group in
    let address = k.inside.1.0.address in
    record {
      row = low (bank_number bank) (omega (arith, group, address)) (sym opened);
      group = ltb-true bank.group h.version.groups k.inside.2;
    }

-- the same where there is some list; the shape is that of its header
pub some_inside : (it : Memory) (clock : ℕ) (command : Command) (bank : Bank) (column row : ℕ) → command ≡ Rd bank column → MayTake it clock command None
    → ((h : Header) (steps : List Step) → BothStand it h steps → (b : ℕ) → b < 32 → open_at b (log_of steps) ≡ Some row → row < h.settings.rows)
    → ((h : Header) (steps : List Step) → BothStand it h steps → Some row ≡ open_at (bank_number bank) (log_of steps))
    → IsInside (record { bank = bank; row = row; column = column }) it.geometry
some_inside it clock command bank column row is may low opened = record {
  row = ∥∥₁_elim may le_prop (λ r. (inside r.0 r.1 r.2 r.3).row);
  group = ∥∥₁_elim may le_prop (λ r. (inside r.0 r.1 r.2 r.3).group);
}
  where
    inside : (h : Header) (steps : List Step) → BothStand it h steps → IsJudged h clock command None steps → IsInside (record { bank = bank; row = row; column = column }) it.geometry
    inside h steps b j =
        subst (IsInside (record { bank = bank; row = row; column = column })) (sym b.geometry)
        (row_inside h clock command bank column row None steps is j (low h steps b) (opened h steps b))

closed_step : (o : Option ℕ) → o ≡ None → is_some o ≡ true → ⊥
closed_step None e k = cc
closed_step (Some row) e k = cc

-- an RD that keeps the rules has an open row
pub none_closed : (h : Header) (clock : ℕ) (command : Command) (bank : Bank) (column : ℕ) (bytes : Option (List ℕ)) (steps : List Step) → command ≡ Rd bank column → IsJudged h clock command bytes steps → None ≡ open_at (bank_number bank) (log_of steps) → ⊥
none_closed h clock command bank column bytes steps is j closed =
    closed_step (open_at (bank_number bank) (log_of steps)) (sym closed)
    (subst (λ (c : Command). rule_4 c (log_of steps) ≡ true) is (fits h clock command (log_of steps) (rules_kept h clock command bytes steps j)).fourth)
