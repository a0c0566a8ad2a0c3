use Rattle.std.proofs.Common.{◌∙◌, ◌<◌, ap, length, arith}
use Rattle.std.specs.Prelude.{option_map}
use Rattle.fair_queue.specs.Arrivals.{arrival_of}
use Rattle.fair_queue.specs.Reading.{Place}
use Rattle.fair_queue.proofs.Parts.{frames-many, frames-port, frames-none}
use Rattle.fair_queue.proofs.port_lines.PortLines.judge.Goals as goal

pub returns-then-self-gt-MOST_LINES : goal.returns-then-self-gt-MOST_LINES
returns-then-self-gt-MOST_LINES c =
    let it : Place = record { reader = c.self.inside.reader; number = c.self.inside.number; ahead = c.self.inside.ahead } in
    rw (← c.self.view_is) (frames-many it c.if-self-gt-MOST_LINES.true)

pub returns-in-Some : goal.returns-in-Some
returns-in-Some c =
    let it : Place = record { reader = c.self.inside.reader; number = c.self.inside.number; ahead = c.self.inside.ahead } in
    let same = ap (λ (p : Place). length p.reader.line) c.self.view_is in
    let fits : length c.self.inside.reader.line < 512 = omega (arith, same, c.requires.short) in
    rw (← c.self.view_is) (frames-port it c.in-Some.port c.if-self-gt-MOST_LINES.false fits (c.in-Some.ensures.port ∙ ap (λ l. option_map (λ a. a.port) (arrival_of l)) c.line.ensures))

pub returns-in-None : goal.returns-in-None
returns-in-None c =
    let it : Place = record { reader = c.self.inside.reader; number = c.self.inside.number; ahead = c.self.inside.ahead } in
    let same = ap (λ (p : Place). length p.reader.line) c.self.view_is in
    let fits : length c.self.inside.reader.line < 512 = omega (arith, same, c.requires.short) in
    rw (← c.self.view_is) (frames-none it c.if-self-gt-MOST_LINES.false fits (c.in-None.ensures.port ∙ ap (λ l. option_map (λ a. a.port) (arrival_of l)) c.line.ensures))
