use Rattle.std.proofs.Common.{◌≡◌, ◌+◌, ◌<◌, ◌≤◌, Ok, sym, ◌∙◌, arith}
use Rattle.ddr_text.specs.Grammar.{trace_line_of}
use Rattle.trace_replay.specs.Job.{MOST, clocks_of}
use Rattle.trace_replay.proofs.TraceParts.{more-of}
use Rattle.trace_replay.proofs.trace_lines.judged.Goals as goal

pub returns-then-clocks_of-tally-clause-more : goal.returns-then-clocks_of-tally-clause-more
returns-then-clocks_of-tally-clause-more c =
    let is : trace_line_of c.args.g c.args.text.now ≡ Ok c.in-Ok.line = sym c.read_trace_line.ensures ∙ c.in-Ok.is in
    let few : c.args.tally.lines < MOST = omega (arith, c.if-tally-ge-MOST_LINES.false) in
    let idle : c.args.tally.clocks + clocks_of c.in-Ok.line ≤ 4294967296 = omega (arith, c.if-clocks_of-tally.true, c.clocks_of.ensures, c.requires) in
    more-of c.args.g c.args.tally c.in-Ok.line (c.trace_grammar.ensures.only c.args.g c.args.text.now c.in-Ok.line is).0 c.has_bytes.ensures few idle
