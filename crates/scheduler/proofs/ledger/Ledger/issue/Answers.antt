use Rattle.std.proofs.Common.{◌≡◌, ◌≤◌, ◌∙◌, ◌&&◌, ◌+◌, ◌∷◌, ap, sym, subst, arith}
use Rattle.std.proofs.Math.Bridge.{le_prop}
use Rattle.std.proofs.Math.Logic.{∥∥₁_elim, ∥∥₁_map}
use Rattle.command_words.specs.Command.{covers}
use Rattle.command_words.specs.Kinds.{effect}
use Rattle.speed_bin.specs.Log.{Log}
use Rattle.log_ledger.specs.Held.{Held}
use Rattle.log_ledger.specs.Standing.{StandsFor as LogStandsFor}
use Rattle.requests.specs.Owed.{is_column, owed_after}
use Rattle.scheduler.specs.declared.ledger.Ledger.{Ledger}
use Rattle.deadlines.proofs.Following.{up_more}
use Rattle.scheduler.proofs.ledger.Ledger.issue.Goals as goal

pub issue-requires-clause-may : goal.issue-requires-clause-may
issue-requires-clause-may c = ∥∥₁_map c.requires.may (λ m. (m.0, m.1, m.2.stands, m.3.follows))

pub overflow_add-self : goal.overflow_add-self
overflow_add-self c =
    let same : c.note.new.self.written ≡ c.args.self.now.written = ap (λ (x : Ledger). x.written) c.note.ensures.rest in
    let few : c.args.self.now.written ≤ 8 = ∥∥₁_elim c.requires.may le_prop (λ m. let written = m.2.written in omega (arith, written)) in
    omega (arith, few, same)

pub returns-clause-stands : goal.returns-clause-stands
returns-clause-stands c = λ h log s suits.
    let same = c.note.ensures.rest in
    let command = c.args.command.now in
    let after : Log = record { clock = c.args.clock; command = command } ∷ log in
    let one : c.note.new.self.written ≡ c.args.self.now.written = ap (λ (x : Ledger). x.written) same in
    let late = suits.late in record {
      accepted = s.accepted;
      stands = subst (λ (x : Held). LogStandsFor x h after) (sym (ap (λ (x : Ledger). x.log) same)) (c.issue.ensures.stands h log s.stands suits.follows);
      owed = λ b low. c.note.ensures.owed b low (λ closes. s.owed b low ∙ suits.spares b low closes) ∙ ap (λ o. owed_after (effect b command) (is_column command && covers command b) o) (s.owed b low);
      written = omega (arith, s.written, one, c.min-self.ensures);
      later = (omega arith, up_more c.args.self.now.from (c.args.clock + 1) log (omega (arith, late)) s.later);
    }
