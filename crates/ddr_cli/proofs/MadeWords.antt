-- The words that ask for a made job.
use Rattle.std.proofs.Common.{◌≡◌, ◌∙◌, ◌≤◌, ℕ, Bool, true, false, Option, Some, None, List, [], ◌∷◌, String, Result, Ok, Err, inl, inr, refl, map, nat_le, string_bytes, sym, ap, arith}
use Rattle.std.specs.Prelude.{codes, ◌⊎◌, if◌then◌else◌}
use Rattle.std.specs.declared.alloc.Global.{Global}
use Rattle.ddr_text.specs.Grammar.{number_of}
use Rattle.ddr_text.specs.declared.lines.LineFault.{LineFault}
use Rattle.made_jobs.specs.Words.{both, seed_and_requests}
use Rattle.ddr_cli.specs.Words.{IsGen, IsGenRun, Makes}

-- `run` is no seed
no_seed : (words : List (List ℕ)) (seed requests : ℕ) → seed_and_requests (codes "run" ∷ words) ≡ Some (seed, requests) → ⊥
unfolding seed_and_requests number_of
no_seed [] seed requests e = cc
no_seed (word ∷ []) seed requests e = cc
no_seed (word ∷ other ∷ more) seed requests e = cc

behind_gen : (words : List (String Global)) (rest other : List (List ℕ)) → map string_bytes words ≡ codes "gen" ∷ rest → map string_bytes words ≡ codes "gen" ∷ other → rest ≡ other
behind_gen words rest other e f = let both : codes "gen" ∷ rest ≡ codes "gen" ∷ other = sym e ∙ f in cc

behind_run : (rest other : List (List ℕ)) → codes "run" ∷ rest ≡ codes "run" ∷ other → rest ≡ other
behind_run rest other e = cc

-- the words ask either for the job or for its run
pub either_way : (words : List (String Global)) (seed requests n m : ℕ) → IsGen words seed requests → IsGenRun words n m → ⊥
either_way words seed requests n m gen run =
    let rest : gen.0 ≡ codes "run" ∷ run.0 = behind_gen words gen.0 (codes "run" ∷ run.0) gen.1 run.1 in
    no_seed run.0 seed requests (ap seed_and_requests (sym rest) ∙ gen.2)

abbrev none_yet : Option (ℕ × ℕ)
none_yet = None

-- behind `gen` and `run` stand no two numbers
pub none_behind_run : (words : List (String Global)) (rest more : List (List ℕ)) → map string_bytes words ≡ codes "gen" ∷ rest → rest ≡ codes "run" ∷ more → None ≡ seed_and_requests more → ¬ (Makes words)
none_behind_run words rest more e is none = λ makes. go makes.0 makes.1 makes.2
  where
    go : (seed requests : ℕ) → IsGen words seed requests ⊎ IsGenRun words seed requests → ⊥
    go seed requests (inl gen) =
        let same : gen.0 ≡ codes "run" ∷ more = behind_gen words gen.0 rest gen.1 e ∙ is in
        no_seed more seed requests (ap seed_and_requests (sym same) ∙ gen.2)
    go seed requests (inr run) =
        let same : run.0 ≡ more = behind_run run.0 more (behind_gen words (codes "run" ∷ run.0) rest run.1 e ∙ is) in
        let no : none_yet ≡ Some (seed, requests) = none ∙ ap seed_and_requests (sym same) ∙ run.2 in
        cc

abbrev two : ℕ → ℕ → Option (ℕ × ℕ)
two n m = Some (n, m)

abbrev second_of : Option (ℕ × ℕ) → ℕ
second_of None = 0
second_of (Some numbers) = numbers.1

second : (n m seed requests : ℕ) → two n m ≡ two seed requests → m ≡ requests
second n m seed requests e = ap second_of e

few_of : (a b : Result ℕ LineFault) (seed requests : ℕ) → both a b ≡ Some (seed, requests) → requests ≤ 1048576
few_of (Ok n) (Ok m) seed requests e = go (nat_le m 1048576) refl e
  where
    go : (t : Bool) → nat_le m 1048576 ≡ t → (if t then two n m else None) ≡ Some (seed, requests) → requests ≤ 1048576
    go true is f = let same : m ≡ requests = second n m seed requests f in grind (arith, same, is)
    go false is f = absurd cc
few_of (Ok n) (Err fault) seed requests e = absurd cc
few_of (Err fault) b seed requests e = absurd cc

-- a job has at most 1,048,576 requests
pub few_requests : (rest : List (List ℕ)) (seed requests : ℕ) → seed_and_requests rest ≡ Some (seed, requests) → requests ≤ 1048576
unfolding seed_and_requests
few_requests [] seed requests e = absurd cc
few_requests (word ∷ []) seed requests e = absurd cc
few_requests (word ∷ other ∷ []) seed requests e = few_of (number_of word) (number_of other) seed requests e
few_requests (word ∷ other ∷ one ∷ more) seed requests e = absurd cc
