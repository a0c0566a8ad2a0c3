use Rattle.std.proofs.Common.{◌∙◌, ◌==◌, if◌then◌else◌, refl, ap}
use Rattle.timing_rules.specs.Blocks.{bus_block, floor_block, act_block, rd_block, wr_block, act_group_block, rd_group_block, wr_group_block, act_bank_block, column_block, pre_block, closed_block}
use Rattle.timing_rules.specs.Gate.{StandsFor}
use Rattle.timing_rules.specs.Scope.{is_within}
use Rattle.timing_rules.proofs.Reaches.{more, table_more}
use Rattle.timing_rules.proofs.clocks.Clocks.issue.Goals as goal

pub returns-clause-stands : goal.returns-clause-stands
unfolding StandsFor
returns-clause-stands c = λ t log s follows.
    let self = c.args.self.now in
    let own = self.timing in
    let clock = c.args.clock in
    let command = c.args.command.now in
    let sp = c.spans_of-spans.result in
    let are = c.spans_of-spans.ensures in
    let scope = c.scope_of-scope.result in
    let group = c.group-group.result in
    record {
      timing = s.timing;
      timing_in_range = s.timing_in_range;
      spaced = (s.spaced, follows);
      small = (s.small, c.requires.clock);
      any = refl;
      bus = more bus_block clock sp.bus self.bus c.raised-bus.result command log c.raised-bus.ensures are.bus s.bus;
      floor = more (floor_block own) clock sp.floor self.floor c.raised-floor.result command log c.raised-floor.ensures are.floor s.floor;
      act = more (act_block own) clock sp.act self.act c.raised-act.result command log c.raised-act.ensures are.act s.act;
      rd = more (rd_block own) clock sp.rd self.rd c.raised-rd.result command log c.raised-rd.ensures are.rd s.rd;
      wr = more (wr_block own) clock sp.wr self.wr c.raised-wr.result command log c.raised-wr.ensures are.wr s.wr;
      act_groups = table_more (act_group_block own) 8 clock (λ g. if group == g then sp.act_group else 0) self.act_groups c.raise_group.new.table command log (c.raise_group.ensures.long ∙ s.act_groups.length) c.raise_group.ensures.entries
          (λ g. ap (λ n. if n == g then sp.act_group else 0) c.group-group.ensures.group ∙ are.act_group g) s.act_groups;
      rd_groups = table_more (rd_group_block own) 8 clock (λ g. if group == g then sp.rd_group else 0) self.rd_groups c.raise_group-2.new.table command log (c.raise_group-2.ensures.long ∙ s.rd_groups.length) c.raise_group-2.ensures.entries
          (λ g. ap (λ n. if n == g then sp.rd_group else 0) c.group-group.ensures.group ∙ are.rd_group g) s.rd_groups;
      wr_groups = table_more (wr_group_block own) 8 clock (λ g. if group == g then sp.wr_group else 0) self.wr_groups c.raise_group-3.new.table command log (c.raise_group-3.ensures.long ∙ s.wr_groups.length) c.raise_group-3.ensures.entries
          (λ g. ap (λ n. if n == g then sp.wr_group else 0) c.group-group.ensures.group ∙ are.wr_group g) s.wr_groups;
      act_banks = table_more (act_bank_block own) 32 clock (λ b. if is_within scope b then sp.act_bank else 0) self.act_banks c.raise_banks.new.table command log (c.raise_banks.ensures.long ∙ s.act_banks.length) c.raise_banks.ensures.entries
          (λ b. ap (λ x. if x then sp.act_bank else 0) (c.scope_of-scope.ensures.covers b) ∙ are.act_bank b) s.act_banks;
      columns = table_more (column_block own) 32 clock (λ b. if is_within scope b then sp.column else 0) self.columns c.raise_banks-2.new.table command log (c.raise_banks-2.ensures.long ∙ s.columns.length) c.raise_banks-2.ensures.entries
          (λ b. ap (λ x. if x then sp.column else 0) (c.scope_of-scope.ensures.covers b) ∙ are.column b) s.columns;
      precharges = table_more (pre_block own) 32 clock (λ b. if is_within scope b then sp.pre else 0) self.precharges c.raise_banks-3.new.table command log (c.raise_banks-3.ensures.long ∙ s.precharges.length) c.raise_banks-3.ensures.entries
          (λ b. ap (λ x. if x then sp.pre else 0) (c.scope_of-scope.ensures.covers b) ∙ are.pre b) s.precharges;
      closed = table_more (closed_block own) 32 clock (λ b. if is_within scope b then sp.closed else 0) self.closed c.raise_banks-4.new.table command log (c.raise_banks-4.ensures.long ∙ s.closed.length) c.raise_banks-4.ensures.entries
          (λ b. ap (λ x. if x then sp.closed else 0) (c.scope_of-scope.ensures.covers b) ∙ are.closed b) s.closed;
      window = c.note_act.ensures log s.window;
    }
