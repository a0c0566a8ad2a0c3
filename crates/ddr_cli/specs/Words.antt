-- The words of the command line. `docs/FORMATS.md` has the same in words.
use Rattle.std.specs.Prelude.{ℕ, ◌≡◌, ◌⊎◌, ◌&&◌, nat_le, if◌then◌else◌, List, [], ◌∷◌, map, codes, string_bytes, String, Some, None, Result, Ok, Err}
use Rattle.std.specs.declared.alloc.Global.{Global}
use Rattle.std.specs.declared.option.Option.{Option}
use Rattle.ddr_text.specs.Grammar.{number_of}
use Rattle.ddr_text.specs.declared.lines.LineFault.{LineFault}
use Rattle.made_jobs.specs.Words.{seed_and_requests}
use Rattle.ddr_cli.specs.declared.form.Form.{Form}
use Rattle.ddr_cli.specs.declared.form.Form.TheVariants as form

-- the one word is `replay`
abbrev pub IsReplay : List (String Global) → Type 0
IsReplay words = map string_bytes words ≡ codes "replay" ∷ []

-- the one word is `audit`
abbrev pub IsAudit : List (String Global) → Type 0
IsAudit words = map string_bytes words ≡ codes "audit" ∷ []

-- the one word is `show`
abbrev pub IsShow : List (String Global) → Type 0
IsShow words = map string_bytes words ≡ codes "show" ∷ []

-- the one word is `upgrade`
abbrev pub IsUpgrade : List (String Global) → Type 0
IsUpgrade words = map string_bytes words ≡ codes "upgrade" ∷ []

-- the one word is `exec`
abbrev pub IsExec : List (String Global) → Type 0
IsExec words = map string_bytes words ≡ codes "exec" ∷ []

-- the one word is `pair`
abbrev pub IsPair : List (String Global) → Type 0
IsPair words = map string_bytes words ≡ codes "pair" ∷ []

-- the words are `gen`, and then two that spell the seed and the number of requests
abbrev pub IsGen : List (String Global) → ℕ → ℕ → Type 0
IsGen words seed requests = (rest : List (List ℕ)) × (map string_bytes words ≡ codes "gen" ∷ rest) × (seed_and_requests rest ≡ Some (seed, requests))

-- the same behind the words `gen` and `run`
abbrev pub IsGenRun : List (String Global) → ℕ → ℕ → Type 0
IsGenRun words seed requests = (rest : List (List ℕ)) × (map string_bytes words ≡ codes "gen" ∷ codes "run" ∷ rest) × (seed_and_requests rest ≡ Some (seed, requests))

-- the words ask for a made job
abbrev pub Makes : List (String Global) → Type 0
Makes words = (seed : ℕ) × (requests : ℕ) × (IsGen words seed requests ⊎ IsGenRun words seed requests)

-- the number, where it is in this range
abbrev pub number_in : ℕ → ℕ → Result ℕ LineFault → Option ℕ
number_in least most (Ok number) = if nat_le least number && nat_le number most then Some number else None
number_in least most (Err fault) = None

-- the number of the words, of which there is to be one, in this range
unfoldable pub only_number : ℕ → ℕ → List (List ℕ) → Option ℕ
only_number least most [] = None
only_number least most (word ∷ []) = number_in least most (number_of word)
only_number least most (word ∷ other ∷ more) = None

-- the words are this one, and then one that spells the number, which is in this range
abbrev pub HasNumber : ℕ → ℕ → List ℕ → List (String Global) → ℕ → Type 0
HasNumber least most word words number = (rest : List (List ℕ)) × (map string_bytes words ≡ word ∷ rest) × (only_number least most rest ≡ Some number)

-- the words are this one, and then one that spells the cap, 1 to 32
abbrev pub HasCap : List ℕ → List (String Global) → ℕ → Type 0
HasCap word words cap = HasNumber 1 32 word words cap

-- the first of two words is `ports`
abbrev pub IsPorts : List (String Global) → ℕ → Type 0
IsPorts words cap = HasCap (codes "ports") words cap

-- the first of two words is `merge`
abbrev pub IsMerge : List (String Global) → ℕ → Type 0
IsMerge words cap = HasCap (codes "merge") words cap

-- the words ask for four ports
abbrev pub AskForPorts : List (String Global) → Type 0
AskForPorts words = (cap : ℕ) × (IsPorts words cap ⊎ IsMerge words cap)

-- the first of two words is `spare`, and the other spells the dead device, 0 to 4
abbrev pub IsSpare : List (String Global) → ℕ → Type 0
IsSpare words dead = HasNumber 0 4 (codes "spare") words dead

-- the words ask for the rules of a log
abbrev pub AskForRules : List (String Global) → Type 0
AskForRules words = IsAudit words ⊎ IsExec words ⊎ ((dead : ℕ) × IsSpare words dead)

-- the words are of the form
abbrev pub IsOfForm : List (String Global) → Form → Type 0
IsOfForm words form.Replay = IsReplay words
IsOfForm words form.Audit = IsAudit words
IsOfForm words form.Show = IsShow words
IsOfForm words form.Upgrade = IsUpgrade words
IsOfForm words (form.Gen seed requests) = IsGen words seed requests
IsOfForm words (form.GenRun seed requests) = IsGenRun words seed requests
IsOfForm words (form.Ports cap) = IsPorts words cap
IsOfForm words (form.Merge cap) = IsMerge words cap
IsOfForm words form.Exec = IsExec words
IsOfForm words (form.Spare dead) = IsSpare words dead
IsOfForm words form.Pair = IsPair words

-- the words are of one of the forms
abbrev pub IsListed : List (String Global) → Type 0
IsListed words = (it : Form) × IsOfForm words it

-- the words are of the form that was found, or of none
abbrev pub IsFoundIn : List (String Global) → Option Form → Type 0
IsFoundIn words None = ¬ (IsListed words)
IsFoundIn words (Some it) = IsOfForm words it
