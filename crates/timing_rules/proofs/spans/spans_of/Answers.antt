use Rattle.std.proofs.Common.{refl, sym, subst}
use Rattle.command_words.specs.declared.command.Command.{Command}
use Rattle.timing_rules.specs.Blocks.{AreSpans}
use Rattle.timing_rules.proofs.spans.spans_of.Goals as goal

pub returns-in-Act : goal.returns-in-Act
returns-in-Act c = subst (λ (d : Command). AreSpans c.after_act.result c.args.timing.now d) (sym c.in-Act.is) (c.after_act.ensures c.in-Act.field-0 c.in-Act.field-1)

pub returns-in-Rd : goal.returns-in-Rd
returns-in-Rd c = subst (λ (d : Command). AreSpans c.after_rd.result c.args.timing.now d) (sym c.in-Rd.is) (c.after_rd.ensures c.in-Rd.field-0 c.in-Rd.field-1)

pub returns-in-Wr : goal.returns-in-Wr
returns-in-Wr c = subst (λ (d : Command). AreSpans c.after_wr.result c.args.timing.now d) (sym c.in-Wr.is) (c.after_wr.ensures c.in-Wr.field-0 c.in-Wr.field-1)

pub returns-in-PrePb : goal.returns-in-PrePb
returns-in-PrePb c = subst (λ (d : Command). AreSpans c.after_precharge.result c.args.timing.now d) (sym c.in-PrePb.is) (c.after_precharge.ensures.bank c.in-PrePb.field-0)

pub returns-in-PreSb : goal.returns-in-PreSb
returns-in-PreSb c = subst (λ (d : Command). AreSpans c.after_precharge-in-PreSb.result c.args.timing.now d) (sym c.in-PreSb.is) (c.after_precharge-in-PreSb.ensures.address c.in-PreSb.field-0)

pub returns-in-RefAb : goal.returns-in-RefAb
returns-in-RefAb c = subst (λ (d : Command). AreSpans c.after_all.result c.args.timing.now d) (sym c.in-RefAb.is) (c.after_all.ensures.refresh c.args.timing.now refl)

pub returns-in-RefSb : goal.returns-in-RefSb
returns-in-RefSb c = subst (λ (d : Command). AreSpans c.after_same.result c.args.timing.now d) (sym c.in-RefSb.is) (c.after_same.ensures.refresh c.args.timing.now c.in-RefSb.field-0 refl)

pub returns-in-RfmAb : goal.returns-in-RfmAb
returns-in-RfmAb c = subst (λ (d : Command). AreSpans c.after_all-in-RfmAb.result c.args.timing.now d) (sym c.in-RfmAb.is) (c.after_all-in-RfmAb.ensures.management c.args.timing.now refl)

pub returns-in-RfmSb : goal.returns-in-RfmSb
returns-in-RfmSb c = subst (λ (d : Command). AreSpans c.after_same-in-RfmSb.result c.args.timing.now d) (sym c.in-RfmSb.is) (c.after_same-in-RfmSb.ensures.management c.args.timing.now c.in-RfmSb.field-0 refl)

pub returns-in-Mrw : goal.returns-in-Mrw
returns-in-Mrw c = subst (λ (d : Command). AreSpans c.after_write.result c.args.timing.now d) (sym c.in-Mrw.is) (c.after_write.ensures c.in-Mrw.field-0)

pub returns-in-Ecs : goal.returns-in-Ecs
returns-in-Ecs c = subst (λ (d : Command). AreSpans c.after_all-in-Ecs.result c.args.timing.now d) (sym c.in-Ecs.is) (c.after_all-in-Ecs.ensures.scrub c.args.timing.now refl)
