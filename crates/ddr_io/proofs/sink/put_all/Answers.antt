use Rattle.std.proofs.Common.{◌++◌, take, arith}
use Rattle.std.proofs.KnownBytes.{Appends-trans, Appends-kept}
use Rattle.ddr_io.proofs.Moved.{moves_front, AppendsPrefix-of}
use Rattle.ddr_io.proofs.sink.put_all.Goals as goal

pub loop-rest-preserved : goal.loop-rest-preserved
loop-rest-preserved g c =
    let (done, split, appended, counted) = c.loop-rest.invariant in
    let rest = c.loop-rest.rest.now in
    let n = c.in-Took.count in
    (done ++ take n rest, moves_front _ done rest n split, Appends-trans _ _ _ _ _ appended c.in-Took.ensures.bytes, grind (arith, counted, c.in-Took.ensures.faults_kept))

pub returns-in-Failed-clause-bytes : goal.returns-in-Failed-clause-bytes
returns-in-Failed-clause-bytes g c =
    let (done, split, appended, counted) = c.loop-rest.invariant in
    AppendsPrefix-of _ _ _ done _ split (Appends-kept _ _ _ _ appended c.in-Failed.ensures.bytes)

pub returns-in-NoMemory-clause-bytes : goal.returns-in-NoMemory-clause-bytes
returns-in-NoMemory-clause-bytes g c =
    let (done, split, appended, counted) = c.loop-rest.invariant in
    AppendsPrefix-of _ _ _ done _ split (Appends-kept _ _ _ _ appended c.in-NoMemory.ensures.bytes)
