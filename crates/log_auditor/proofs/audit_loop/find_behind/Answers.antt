use Rattle.std.proofs.Common.{◌≡◌, ◌∙◌, ℕ, ◌++◌, ◌∷◌, [], refl, ap, subst, sym}
use Rattle.command_words.specs.Geometry.{Shape}
use Rattle.ddr_io.specs.Faults.{Rose}
use Rattle.ddr_io.specs.Line.{next_bytes}
use Rattle.ddr_text.specs.declared.report_reader.Next.TheVariants.{Line, Failed}
use Rattle.ddr_text.specs.declared.report_reader.Stage.TheVariants.{Body}
use Rattle.log_auditor.proofs.Readings.{fewer_left, first_reads, may_judge, next_reads, reads_found, reads_all, reads_refused}
use Rattle.log_auditor.proofs.audit_loop.find_behind.Goals as goal

pub loop-line-init : goal.loop-line-init
loop-line-init g c = record {
  read = (
    [],
    first_reads c.args.header.now c.in-Ok.auditor c.new-lines.result c.args.reader (g.S.Source.left c.args.source.now)
        (c.new-lines.ensures ∙ ap (λ (s : Shape). record { reader = c.args.reader; shape = s; stage = Body; number = 1 }) c.geometry.ensures) c.requires.going_on c.in-Ok.ensures.stands,
  );
  kept = refl;
}

pub next-requires : goal.next-requires
next-requires g c = c.loop-line.invariant.read.1.last

pub judge-finding-requires : goal.judge-finding-requires
judge-finding-requires g c =
    let r = c.loop-line.invariant.read in
    may_judge c.args.header.now (next_bytes c.args.reader.held (g.S.Source.left c.args.source.now)) (next_bytes c.loop-line.lines.reader.held (g.S.Source.left c.loop-line.source))
    c.loop-line.finding c.loop-line.auditor c.loop-line.lines c.next.new.self r.0 c.in-Line.line c.number-number.result r.1 (c.next.ensures.line c.in-Line.line c.in-Line.is) c.number-number.ensures.number

pub loop-line-smaller : goal.loop-line-smaller
loop-line-smaller g c = fewer_left c.loop-line.lines c.next.new.self c.in-Line.line (c.next.ensures.line c.in-Line.line c.in-Line.is)

pub loop-line-preserved : goal.loop-line-preserved
loop-line-preserved g c =
    let r = c.loop-line.invariant.read in
    record {
      read = (
        r.0 ++ c.in-Line.line ∷ [],
        next_reads c.args.header.now (next_bytes c.args.reader.held (g.S.Source.left c.args.source.now)) (next_bytes c.loop-line.lines.reader.held (g.S.Source.left c.loop-line.source)) (next_bytes c.next.new.self.reader.held (g.S.Source.left c.next.new.source))
            c.loop-line.finding c.judge-finding.result c.loop-line.auditor c.judge-finding.new.auditor c.loop-line.lines c.next.new.self r.0 c.in-Line.line c.number-number.result r.1
            (c.next.ensures.line c.in-Line.line c.in-Line.is) c.in-Line.ensures.step c.number-number.ensures.number c.judge-finding.ensures,
      );
      kept = c.next.ensures.faults_kept (λ fails. let none : Line c.in-Line.line ≡ Failed = sym c.in-Line.is ∙ fails in cc) ∙ c.loop-line.invariant.kept;
    }

pub returns-in-End-clause-found : goal.returns-in-End-clause-found
returns-in-End-clause-found g c =
    let r = c.loop-line.invariant.read in
    reads_found c.args.header.now (next_bytes c.args.reader.held (g.S.Source.left c.args.source.now)) (next_bytes c.loop-line.lines.reader.held (g.S.Source.left c.loop-line.source)) (next_bytes c.next.new.self.reader.held (g.S.Source.left c.next.new.source))
    c.loop-line.finding c.loop-line.auditor c.loop-line.lines c.next.new.self r.0 r.1 c.in-End.ensures.step

pub returns-in-End-clause-all : goal.returns-in-End-clause-all
returns-in-End-clause-all g c =
    let r = c.loop-line.invariant.read in
    reads_all c.args.header.now (g.S.Source.left c.args.source.now) (g.S.Source.left c.next.new.source) (next_bytes c.loop-line.lines.reader.held (g.S.Source.left c.loop-line.source)) c.args.reader.held c.next.new.self.reader.held
    c.loop-line.finding c.loop-line.auditor c.loop-line.lines c.next.new.self r.0 r.1 c.in-End.ensures.step

pub returns-in-Refused-clause-found : goal.returns-in-Refused-clause-found
returns-in-Refused-clause-found g c =
    let r = c.loop-line.invariant.read in
    reads_refused c.args.header.now (next_bytes c.args.reader.held (g.S.Source.left c.args.source.now)) (next_bytes c.loop-line.lines.reader.held (g.S.Source.left c.loop-line.source)) (next_bytes c.next.new.self.reader.held (g.S.Source.left c.next.new.source))
    c.loop-line.finding c.loop-line.auditor c.loop-line.lines c.next.new.self r.0 c.in-Refused.number c.in-Refused.reason r.1 c.in-Refused.ensures.step

pub returns-in-Failed-clause-cause : goal.returns-in-Failed-clause-cause
returns-in-Failed-clause-cause g c = subst (λ (before : ℕ). Rose before (g.S.Source.faults c.next.new.source)) c.loop-line.invariant.kept (c.next.ensures.failed c.in-Failed.is)
