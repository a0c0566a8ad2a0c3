use Rattle.std.proofs.Common.{◌≡◌, ◌+◌, ◌*◌, ◌++◌, vec_len, vec_capacity}
use Rattle.row_order.specs.Blocks.{naturals}
use Rattle.row_order.proofs.blocks.make.Given as goal

abbrev pub invariant-rows : goal.invariant-rows
invariant-rows l = (l.pool.items ≡ l.initial.pool.items ++ naturals l.rows l.from l.i) × (vec_len l.pool ≡ vec_len l.initial.pool + l.i) × (vec_capacity l.pool ≡ vec_capacity l.initial.pool) × (l.from ≡ l.block * 16)
