-- A trace without I lines asks for no waiting.
use Rattle.std.proofs.Common.{◌≡◌, ℕ, zero, suc, ◌-◌, ◌&&◌, List, [], ◌∷◌, sum, take, drop, refl, ap, ◌∙◌, arith}
use Rattle.std.specs.Prelude.{IsTrue}
use Rattle.std.specs.List.{list_all}
use Rattle.ddr_text.specs.declared.lines.TraceLine.{TraceLine}
use Rattle.ddr_text.specs.declared.lines.TraceLine.TheVariants.{Read, Write, Flip, Idle}
use Rattle.reports.specs.Runs.{Run}
use Rattle.reports.specs.Barriers.{idle_clocks, idles_between, is_past, Serving, servings, is_apart, AreApart, IsIdled}

pub idle-drop : (k : ℕ) (trace : List TraceLine) → idle_clocks trace ≡ [] → idle_clocks (drop k trace) ≡ []
idle-drop zero trace e = e
idle-drop (suc k) [] e = refl
idle-drop (suc k) (Idle clocks ∷ trace) e = cc
idle-drop (suc k) (Read line ∷ trace) e = idle-drop k trace e
idle-drop (suc k) (Write line bytes ∷ trace) e = idle-drop k trace e
idle-drop (suc k) (Flip line device bit ∷ trace) e = idle-drop k trace e

pub idle-take : (k : ℕ) (trace : List TraceLine) → idle_clocks trace ≡ [] → idle_clocks (take k trace) ≡ []
idle-take zero trace e = refl
idle-take (suc k) [] e = refl
idle-take (suc k) (Idle clocks ∷ trace) e = cc
idle-take (suc k) (Read line ∷ trace) e = idle-take k trace e
idle-take (suc k) (Write line bytes ∷ trace) e = idle-take k trace e
idle-take (suc k) (Flip line device bit ∷ trace) e = idle-take k trace e

none_between : (trace : List TraceLine) (a b : ℕ) → idle_clocks trace ≡ [] → idles_between trace a b ≡ []
none_between trace a b e = idle-take (b - 1 - a) (drop a trace) (idle-drop a trace e)

apart-each : (trace : List TraceLine) (a : Serving) (rest : List Serving) → idle_clocks trace ≡ [] → IsTrue (list_all (is_apart trace a) rest)
apart-each trace a [] e = refl
apart-each trace a (b ∷ rest) e =
    ap (λ l. (is_past l a.clock b.clock && is_past (idles_between trace b.number a.number) b.clock a.clock) && list_all (is_apart trace a) rest) (none_between trace a.number b.number e)
    ∙ ap (λ l. is_past l b.clock a.clock && list_all (is_apart trace a) rest) (none_between trace b.number a.number e)
    ∙ apart-each trace a rest e

apart-all : (trace : List TraceLine) (all : List Serving) → idle_clocks trace ≡ [] → AreApart trace all
apart-all trace [] e = tt
apart-all trace (a ∷ rest) e = (apart-each trace a rest e, apart-all trace rest e)

pub idled-none : (trace : List TraceLine) (run : Run) (clock : ℕ) → idle_clocks trace ≡ [] → IsIdled trace run clock
idled-none trace run clock e = record { apart = apart-all trace (servings run) e; total = let none : sum (idle_clocks trace) ≡ 0 = ap sum e in omega (arith, none) }
