use Rattle.device_core.specs.Standing.{lent}
use Rattle.device_core.specs.Stored.{changes_of, visits}
use Rattle.speed_bin.specs.Header.{shape_of}
use Rattle.device_core.proofs.StepLemmas.{bank_of_rd, bank_of_wr, some_list, scrub_shape, few_steps, store_at_scrub}
use Rattle.device_core.proofs.access.access.Goals as goal

pub read-requires-clause-bank : goal.read-requires-clause-bank
read-requires-clause-bank c = bank_of_rd c.args.rows.now c.args.store.now c.args.clock c.args.command.now c.in-Rd.bank c.in-Rd.column (lent c.args.bytes) c.in-Rd.is c.requires

pub read-requires-clause-are : goal.read-requires-clause-are
read-requires-clause-are c = some_list c.args.rows.now c.args.store.now c.args.clock c.args.command.now (lent c.args.bytes) c.requires

pub write-requires-clause-bank : goal.write-requires-clause-bank
write-requires-clause-bank c = bank_of_wr c.args.rows.now c.args.store.now c.args.clock c.args.command.now c.in-Wr.bank c.in-Wr.column (lent c.args.bytes) c.in-Wr.is c.requires

pub write-requires-clause-are : goal.write-requires-clause-are
write-requires-clause-are c = some_list c.args.rows.now c.args.store.now c.args.clock c.args.command.now (lent c.args.bytes) c.requires

pub scrub-requires-clause-shape : goal.scrub-requires-clause-shape
scrub-requires-clause-shape c = scrub_shape c.args.rows.now c.args.store.now (some_list c.args.rows.now c.args.store.now c.args.clock c.args.command.now (lent c.args.bytes) c.requires)

pub scrub-requires-clause-steps : goal.scrub-requires-clause-steps
scrub-requires-clause-steps c = few_steps c.args.rows.now c.args.store.now c.args.clock c.args.command.now (lent c.args.bytes) c.requires

pub returns-in-Ecs-clause-store : goal.returns-in-Ecs-clause-store
returns-in-Ecs-clause-store c = λ h steps s given.
    store_at_scrub c.scrub.new.self h c.args.clock c.args.command.now (lent c.args.bytes) steps c.in-Ecs.is (c.scrub.ensures (shape_of h) (changes_of h steps) (visits h steps) s.store)
