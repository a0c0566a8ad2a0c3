use Rattle.ddr_cli.proofs.Ended.{done_of}
use Rattle.ddr_cli.proofs.streams.run_prompting.Goals as goal

pub returns-clause-done : goal.returns-clause-done
returns-clause-done g c = λ which is. (
  _,
  done_of c.args.words.now c.run.result _ _ _ _
      (rw (c.new-source.ensures.reader) at c.run.ensures.replayed)
      (rw (c.new-source.ensures.reader) at c.run.ensures.audited)
      (rw (c.new-source.ensures.reader) at c.run.ensures.shown)
      (rw (c.new-source.ensures.reader) at c.run.ensures.upgraded)
      c.run.ensures.made
      c.run.ensures.made_run
      (rw (c.new-source.ensures.reader) at c.run.ensures.ported)
      (rw (c.new-source.ensures.reader) at c.run.ensures.merged)
      (rw (c.new-source.ensures.reader) at c.run.ensures.executed)
      (rw (c.new-source.ensures.reader) at c.run.ensures.spared)
      (rw (c.new-source.ensures.reader) at c.run.ensures.paired)
      which is,
)
