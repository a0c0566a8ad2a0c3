use Rattle.std.proofs.Common.{◌≡◌, ◌∙◌, ◌∷◌, ℕ, List, Option, sym, ap, subst}
use Rattle.std.proofs.Math.Logic.{∥∥₁_map}
use Rattle.command_words.specs.declared.command.Command.{Command}
use Rattle.mode_registers.specs.Held.{settings_in}
use Rattle.speed_bin.specs.declared.header.Header.{Header}
use Rattle.speed_bin.specs.Alert.{alert}
use Rattle.std.specs.Option.{is_some}
use Rattle.device_core.specs.Held.{Held}
use Rattle.device_core.specs.Rows.{StandsFor as RowsFor}
use Rattle.error_scrub.specs.Cells.{cells_shape}
use Rattle.device_core.specs.Store.{StandsFor as StoreFor}
use Rattle.device_core.specs.Standing.{StandsFor, geometry_of, MayStep, IsGiven, lent, with_command}
use Rattle.device_core.specs.Steps.{Step, log_of}
use Rattle.device_core.specs.Stored.{answer}
use Rattle.device_core.proofs.StepLemmas.{decodes, may_access, may_issue, named, shape_by_some, stays_some}
use Rattle.device_core.proofs.ToldLemmas.{settings_told}
use Rattle.device_core.proofs.device.Device.step.Goals as goal

pub unwrap-command-requires : goal.unwrap-command-requires
unwrap-command-requires c = decodes c.decode.result c.args.self.now c.args.clock c.args.words (lent c.args.bytes) c.decode.ensures.only c.requires

pub access-requires : goal.access-requires
access-requires c =
    let may = subst (λ (d : Held). MayStep d c.args.clock c.args.words (lent c.args.bytes)) (sym c.self.view_is) c.requires in
    may_access c.decode.result _ c.args.clock c.unwrap-command.result c.args.words (lent c.args.bytes) c.decode.ensures.only c.unwrap-command.ensures may

pub issue-requires : goal.issue-requires
issue-requires c =
    let may = subst (λ (d : Held). MayStep d c.args.clock c.args.words (lent c.args.bytes)) (sym c.self.view_is) c.requires in
    may_issue c.self.inside.activations c.self.inside.store c.args.clock c.unwrap-command.result (lent c.args.bytes)
    (may_access c.decode.result _ c.args.clock c.unwrap-command.result c.args.words (lent c.args.bytes) c.decode.ensures.only c.unwrap-command.ensures may)

-- the device stands for the list with the command that the words decode to
longer : (c : goal.After-is_raised) (h : Header) (steps : List Step) → StandsFor c.args.self.now h steps → IsGiven h c.args.clock c.unwrap-command.result (lent c.args.bytes) steps → StandsFor (record { registers = c.tell.new.registers; activations = c.issue.new.self; store = c.access.new.store }) h (with_command c.args.clock c.unwrap-command.result (lent c.args.bytes) steps)
unfolding StandsFor RowsFor
longer c h steps stands given =
    let s = rw (← c.self.view_is) at stands in
    let registers = c.tell.ensures h c.args.clock (log_of steps) s.registers s.activations.accepted given.legal in
    record {
      given = (s.given, given.with_bytes);
      registers = registers;
      activations = c.issue.ensures h (log_of steps) s.activations given.legal
          (λ other. c.settings-told.ensures ∙ ap (λ (held : List (Option ℕ)). settings_in held) registers ∙ settings_told c.give_back.ensures.after h c.args.clock c.unwrap-command.result (log_of steps) s.activations.accepted other given.legal);
      store = c.in_ok-line.ensures.store h steps (record { activations = s.activations; store = s.store }) given;
    }

pub returns-clause-stands : goal.returns-clause-stands
returns-clause-stands c = λ h steps command s may.
    let same = named c.decode.result command c.unwrap-command.result c.args.words c.decode.ensures.only c.unwrap-command.ensures may.given.legal.in_range may.spelled in
    subst (λ (x : Command). StandsFor (record { registers = c.tell.new.registers; activations = c.issue.new.self; store = c.access.new.store }) h (with_command c.args.clock x (lent c.args.bytes) steps)) (sym same)
    (longer c h steps s (subst (λ (x : Command). IsGiven h c.args.clock x (lent c.args.bytes) steps) same may.given))

pub returns-clause-line : goal.returns-clause-line
unfolding StandsFor
returns-clause-line c = λ h steps command stands may.
    let s = rw (← c.self.view_is) at stands in
    let same = named c.decode.result command c.unwrap-command.result c.args.words c.decode.ensures.only c.unwrap-command.ensures may.given.legal.in_range may.spelled in
    subst (λ (x : Command). c.in_ok-line.line ≡ answer h x steps) (sym same)
    (c.in_ok-line.ensures.line h steps (record { activations = s.activations; store = s.store }) (subst (λ (x : Command). IsGiven h c.args.clock x (lent c.args.bytes) steps) same may.given))

pub returns-clause-alert : goal.returns-clause-alert
unfolding StandsFor
returns-clause-alert c = λ h steps command s may.
    let same = named c.decode.result command c.unwrap-command.result c.args.words c.decode.ensures.only c.unwrap-command.ensures may.given.legal.in_range may.spelled in
    let stands = longer c h steps s (subst (λ (x : Command). IsGiven h c.args.clock x (lent c.args.bytes) steps) same may.given) in
    subst (λ (x : Command). c.is_raised.result ≡ is_some (alert h (record { clock = c.args.clock; command = x } ∷ log_of steps))) (sym same)
    (c.is_raised.ensures h (record { clock = c.args.clock; command = c.unwrap-command.result } ∷ log_of steps) stands.activations)

pub returns-in_err-line-clause-geometry : goal.returns-in_err-line-clause-geometry
unfolding geometry_of
returns-in_err-line-clause-geometry c = rw (← c.self.view_is) c.in_err-line.ensures.unchanged.cells.shape

pub returns-clause-geometry : goal.returns-clause-geometry
unfolding geometry_of StandsFor StoreFor
returns-clause-geometry c =
    shape_by_some (cells_shape c.access.new.store.cells) (cells_shape c.args.self.now.store.cells)
    (∥∥₁_map c.requires (λ p.
    let same = named c.decode.result p.2 c.unwrap-command.result c.args.words c.decode.ensures.only c.unwrap-command.ensures p.4.given.legal.in_range p.4.spelled in
    let after = longer c p.0 p.1 p.3 (subst (λ (x : Command). IsGiven p.0 c.args.clock x (lent c.args.bytes) p.1) same p.4.given) in
    after.store.shape ∙ sym p.3.store.shape))

pub invariant_of-self : goal.invariant_of-self
invariant_of-self c = stays_some c.unchanged_stands.ensures c.self.inside.registers c.self.inside.activations c.self.inside.store c.access.new.store c.in_err-line.ensures.unchanged c.self.invariant

pub invariant_of-self-2 : goal.invariant_of-self-2
invariant_of-self-2 c =
    ∥∥₁_map c.requires (λ p.
    let same = named c.decode.result p.2 c.unwrap-command.result c.args.words c.decode.ensures.only c.unwrap-command.ensures p.4.given.legal.in_range p.4.spelled in
    (p.0, with_command c.args.clock c.unwrap-command.result (lent c.args.bytes) p.1, longer c p.0 p.1 p.3 (subst (λ (x : Command). IsGiven p.0 c.args.clock x (lent c.args.bytes) p.1) same p.4.given)))
