use Rattle.std.proofs.Common.{◌≡◌, sym, subst, ap}
use Rattle.command_words.specs.Kinds.{is_precharge, needs_closed}
use Rattle.command_words.specs.declared.command.Command.{Command}
use Rattle.speed_bin.specs.Gap.{gap}
use Rattle.timing_rules.specs.Reach.{reach}
use Rattle.timing_rules.proofs.GapReaches.{nop_reach}
use Rattle.timing_rules.proofs.clocks.Clocks.reach_of.Goals as goal

pub returns-in-Act : goal.returns-in-Act
returns-in-Act c = λ t log s.
    subst (λ (d : Command). c.to_act.result ≡ reach (λ first. gap c.args.self.now.timing first d) log) (sym c.in-Act.is) (c.to_act.ensures t log s c.in-Act.field-1)

pub returns-in-Rd : goal.returns-in-Rd
returns-in-Rd c = λ t log s.
    subst (λ (d : Command). c.to_rd.result ≡ reach (λ first. gap c.args.self.now.timing first d) log) (sym c.in-Rd.is) (c.to_rd.ensures t log s c.in-Rd.field-1)

pub returns-in-Wr : goal.returns-in-Wr
returns-in-Wr c = λ t log s.
    subst (λ (d : Command). c.to_wr.result ≡ reach (λ first. gap c.args.self.now.timing first d) log) (sym c.in-Wr.is) (c.to_wr.ensures t log s c.in-Wr.field-1)

pub returns-in-PrePb : goal.returns-in-PrePb
returns-in-PrePb c = λ t log s.
    subst (λ (d : Command). c.to_precharge.result ≡ reach (λ first. gap c.args.self.now.timing first d) log) (sym c.in-PrePb.is) (c.to_precharge.ensures t log s)

pub returns-in-PreSb : goal.returns-in-PreSb
returns-in-PreSb c = λ t log s. c.to_precharges.ensures t log s c.args.command.now (ap (λ (d : Command). is_precharge d) c.in-PreSb.is) c.scope_of-scope.ensures.covers

pub returns-in-PreAb : goal.returns-in-PreAb
returns-in-PreAb c = λ t log s. c.to_precharges-in-PreAb.ensures t log s c.args.command.now (ap (λ (d : Command). is_precharge d) c.in-PreAb.is) c.scope_of-scope.ensures.covers

pub returns-in-RefAb : goal.returns-in-RefAb
returns-in-RefAb c = λ t log s. c.to_closed.ensures t log s c.args.command.now (ap (λ (d : Command). needs_closed d) c.in-RefAb.is) c.scope_of-scope.ensures.covers

pub returns-in-RefSb : goal.returns-in-RefSb
returns-in-RefSb c = λ t log s. c.to_closed-in-RefSb.ensures t log s c.args.command.now (ap (λ (d : Command). needs_closed d) c.in-RefSb.is) c.scope_of-scope.ensures.covers

pub returns-in-RfmAb : goal.returns-in-RfmAb
returns-in-RfmAb c = λ t log s. c.to_closed-in-RfmAb.ensures t log s c.args.command.now (ap (λ (d : Command). needs_closed d) c.in-RfmAb.is) c.scope_of-scope.ensures.covers

pub returns-in-RfmSb : goal.returns-in-RfmSb
returns-in-RfmSb c = λ t log s. c.to_closed-in-RfmSb.ensures t log s c.args.command.now (ap (λ (d : Command). needs_closed d) c.in-RfmSb.is) c.scope_of-scope.ensures.covers

pub returns-in-Mrw : goal.returns-in-Mrw
returns-in-Mrw c = λ t log s. c.to_closed-in-Mrw.ensures t log s c.args.command.now (ap (λ (d : Command). needs_closed d) c.in-Mrw.is) c.scope_of-scope.ensures.covers

pub returns-in-Ecs : goal.returns-in-Ecs
returns-in-Ecs c = λ t log s. c.to_closed-in-Ecs.ensures t log s c.args.command.now (ap (λ (d : Command). needs_closed d) c.in-Ecs.is) c.scope_of-scope.ensures.covers

pub returns-in-Nop : goal.returns-in-Nop
returns-in-Nop c = λ t log s.
    subst (λ (d : Command). c.args.self.now.bus ≡ reach (λ first. gap c.args.self.now.timing first d) log) (sym c.in-Nop.is) (nop_reach c.args.self.now.timing c.args.self.now.bus log s.bus)
