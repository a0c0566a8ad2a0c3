use Rattle.std.proofs.Common.{[], ◌∷◌, ◌++◌}
use Rattle.ddr_text.proofs.Prefixes.{if_err-to, on_ok-to}
use Rattle.rank_pair.proofs.Columns.{IsMade, column_here, column_made, column_made_cut, column_made_issued}
use Rattle.rank_pair.proofs.pair.Pair.read_or_write.Goals as goal

pub column_of-column-requires : goal.column_of-column-requires
column_of-column-requires g c = let r = c.requires in column_here c.args.self.now r.0 r.1 r.2 c.args.rank c.args.access.now r.3 (g.K.Sink.written c.args.sink.now) r.4 r.5

pub issue-requires : goal.issue-requires
issue-requires g c =
    let r = c.requires in
    let made : IsMade c.args.self.now.geometry c.args.access.now c.column_of-column.result = record { column = c.column_of-column.ensures.column; back = c.column_of-column.ensures.back } in
    (r.0, r.1 ++ r.2 ∷ [], r.4.run, column_made c.deadline_laws.ensures c.args.self.now r.0 r.1 r.2 c.args.rank c.args.access.now r.3 (g.K.Sink.written c.args.sink.now) r.4 r.5 c.column_of-column.result made)

pub returns-clause-accessed : goal.returns-clause-accessed
returns-clause-accessed g c =
    let w = g.K.Sink.written c.args.sink.now in
    let made : IsMade c.args.self.now.geometry c.args.access.now c.column_of-column.result = record { column = c.column_of-column.ensures.column; back = c.column_of-column.ensures.back } in
    on_ok-to c.issue.result _ _ (λ issued. λ h front it before o asks.
    column_made_issued c.deadline_laws.ensures c.args.self.now c.issue.new.self h front it c.args.rank c.args.access.now before w (g.K.Sink.written c.issue.new.sink) o asks c.column_of-column.result made
    (issued h (front ++ it ∷ []) o.run (column_made c.deadline_laws.ensures c.args.self.now h front it c.args.rank c.args.access.now before w o asks c.column_of-column.result made))) c.issue.ensures.issued

pub returns-clause-begins_a_report : goal.returns-clause-begins_a_report
returns-clause-begins_a_report g c =
    let w = g.K.Sink.written c.args.sink.now in
    let made : IsMade c.args.self.now.geometry c.args.access.now c.column_of-column.result = record { column = c.column_of-column.ensures.column; back = c.column_of-column.ensures.back } in
    if_err-to c.issue.result _ _ (λ cut. λ h front it before o asks.
    column_made_cut c.deadline_laws.ensures c.args.self.now h front it c.args.rank c.args.access.now before w (g.K.Sink.written c.issue.new.sink) o asks c.column_of-column.result made
    (cut h (front ++ it ∷ []) o.run (column_made c.deadline_laws.ensures c.args.self.now h front it c.args.rank c.args.access.now before w o asks c.column_of-column.result made))) c.issue.ensures.begins_a_report
