use Rattle.std.proofs.Common.{◌≡◌, [], sym, subst, rules}
use Rattle.speed_bin.specs.Timing.{IsTiming}
use Rattle.timing_rules.specs.Gate.{StandsFor}
use Rattle.timing_rules.specs.declared.clocks.Clocks.{Clocks}
use Rattle.timing_rules.proofs.gate.Gate.new.Goals as goal

pub invariant_of-result : goal.invariant_of-result
unfolding StandsFor
invariant_of-result c =
    let held : c.in-Ok.clocks.value ≡ c.new.result = search rules in (
      subst (λ (x : Clocks). IsTiming x.timing) (sym held) c.new.ensures.timing_in_range,
      ∣ (c.args.timing.now, [], subst (λ (x : Clocks). StandsFor x c.args.timing.now []) (sym held) c.new.ensures) ∣₁,
    )
