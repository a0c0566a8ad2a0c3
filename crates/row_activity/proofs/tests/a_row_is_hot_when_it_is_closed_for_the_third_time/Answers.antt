use Rattle.std.proofs.Common.{[]}
use Rattle.row_activity.specs.Trial.{Stand, closed}
use Rattle.row_activity.proofs.TrialLemmas.{once, twice, thrice, managed}
use Rattle.row_activity.proofs.tests.a_row_is_hot_when_it_is_closed_for_the_third_time.Goals as goal

pub open_and_close-once-requires : goal.open_and_close-once-requires
open_and_close-once-requires g c = ([], record { activity = c.in_ok-activity.ensures; rows = c.new-open_rows.ensures }, once)

pub open_and_close-twice-requires : goal.open_and_close-twice-requires
open_and_close-twice-requires g c =
    let start : Stand c.in_ok-activity.activity c.new-open_rows.result [] = record { activity = c.in_ok-activity.ensures; rows = c.new-open_rows.ensures } in
    (closed 0 6 [], c.open_and_close-once.ensures [] start once, twice)

pub open_and_close-thrice-requires : goal.open_and_close-thrice-requires
open_and_close-thrice-requires g c =
    let start : Stand c.in_ok-activity.activity c.new-open_rows.result [] = record { activity = c.in_ok-activity.ensures; rows = c.new-open_rows.ensures } in
    let first = c.open_and_close-once.ensures [] start once in
    (closed 10 16 (closed 0 6 []), c.open_and_close-twice.ensures (closed 0 6 []) first twice, thrice)

pub manage-managed-requires : goal.manage-managed-requires
manage-managed-requires g c =
    let start : Stand c.in_ok-activity.activity c.new-open_rows.result [] = record { activity = c.in_ok-activity.ensures; rows = c.new-open_rows.ensures } in
    let first = c.open_and_close-once.ensures [] start once in
    let second = c.open_and_close-twice.ensures (closed 0 6 []) first twice in
    (closed 20 26 (closed 10 16 (closed 0 6 [])), c.open_and_close-thrice.ensures (closed 10 16 (closed 0 6 [])) second thrice, managed)
