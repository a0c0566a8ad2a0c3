use Rattle.std.proofs.Common.{ap, ◌∙◌, ℕ, ◌/◌}
use Rattle.rfm_counts.specs.Held.{Held}
use Rattle.judged_logs.proofs.Steps.{stands_act, stands_lowered, rfm_all, rfm_same, ref_all, ref_same}
use Rattle.judged_logs.proofs.rolling.Rolling.issue.Goals as goal

pub returns-in-Act : goal.returns-in-Act
returns-in-Act c = λ h. rw c.in-Act.is (stands_act h c.args.self.now c.add.new.self c.in-Act.bank c.in-Act.field-1 c.add.ensures.limits c.add.ensures.counts)

pub returns-in-RfmAb : goal.returns-in-RfmAb
returns-in-RfmAb c = λ h. rw c.in-RfmAb.is (stands_lowered h c.args.self.now _ _ _ _ c.lower-in-RfmAb.ensures.limits c.lower-in-RfmAb.ensures.counts (λ m. rfm_all h _ (ap (λ (x : Held). x.raaimt) c.lower.view_is ∙ m)))

pub returns-in-RfmSb : goal.returns-in-RfmSb
returns-in-RfmSb c = λ h. rw c.in-RfmSb.is (stands_lowered h c.args.self.now _ _ _ _ c.lower-in-RfmSb-2.ensures.limits c.lower-in-RfmSb-2.ensures.counts (λ m. rfm_same h _ _ (ap (λ (x : Held). x.raaimt) c.lower-in-RfmSb.view_is ∙ m)))

pub returns-in-RefAb : goal.returns-in-RefAb
returns-in-RefAb c = λ h. rw c.in-RefAb.is (stands_lowered h c.args.self.now _ _ _ _ c.lower-in-RefAb-2.ensures.limits c.lower-in-RefAb-2.ensures.counts (λ m. ref_all h _ (ap (λ (n : ℕ). n / 2) (ap (λ (x : Held). x.raaimt) c.lower-in-RefAb.view_is ∙ m))))

pub returns-in-RefSb : goal.returns-in-RefSb
returns-in-RefSb c = λ h. rw c.in-RefSb.is (stands_lowered h c.args.self.now _ _ _ _ c.lower-in-RefSb-2.ensures.limits c.lower-in-RefSb-2.ensures.counts (λ m. ref_same h _ _ (ap (λ (n : ℕ). n / 2) (ap (λ (x : Held). x.raaimt) c.lower-in-RefSb.view_is ∙ m))))
