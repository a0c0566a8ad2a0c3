use Rattle.ddr_text.proofs.report_reader_tests.end_of.Goals as goal

pub loop-preserved : goal.loop-preserved
loop-preserved c = (c.next.ensures.line _ c.in-Line.is).last
