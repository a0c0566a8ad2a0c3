use Rattle.std.proofs.Common.{refl}
use Rattle.timing_rules.specs.Blocks.{act_group_block, rd_group_block, wr_group_block, act_bank_block, column_block, pre_block, closed_block}
use Rattle.timing_rules.specs.Gate.{StandsFor}
use Rattle.timing_rules.proofs.Reaches.{none_kept}
use Rattle.timing_rules.proofs.clocks.Clocks.new.Goals as goal

pub returns : goal.returns
unfolding StandsFor
returns c =
    let t = c.args.timing.now in
    record {
      timing = refl;
      timing_in_range = c.requires.timing;
      spaced = tt;
      small = tt;
      any = refl;
      bus = refl;
      floor = refl;
      act = refl;
      rd = refl;
      wr = refl;
      act_groups = none_kept 8 (act_group_block t);
      rd_groups = none_kept 8 (rd_group_block t);
      wr_groups = none_kept 8 (wr_group_block t);
      act_banks = none_kept 32 (act_bank_block t);
      columns = none_kept 32 (column_block t);
      precharges = none_kept 32 (pre_block t);
      closed = none_kept 32 (closed_block t);
      window = c.requires.window;
    }
