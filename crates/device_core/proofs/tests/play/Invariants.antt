use Rattle.std.proofs.Common.{◌≡◌, List, drop, true}
use Rattle.speed_bin.specs.declared.header.Header.{Header}
use Rattle.device_core.specs.Standing.{StandsFor}
use Rattle.device_core.specs.Steps.{Step}
use Rattle.device_core.specs.Scripts.{played, is_legal}
use Rattle.device_core.proofs.tests.play.Given as goal

abbrev pub invariant-loop-line : goal.invariant-loop-line
invariant-loop-line l = (h : Header) (steps : List Step) → StandsFor l.initial.device h steps → is_legal h l.bytes l.script steps ≡ true
    → (now : List Step) × (StandsFor l.device h now) × (is_legal h l.bytes (drop l.line-index l.script) now ≡ true)
    × (played l.bytes (drop l.line-index l.script) now ≡ played l.bytes l.script steps)
