-- What one command more makes of the stored lines, the scrub's visits and the answers.
use Rattle.std.proofs.Common.{◌≡◌, ◌∙◌, ℕ, ◌+◌, ◌^◌, ◌<◌, ◌≤◌, Bool, true, false, cond, refl, sym, ap, subst, arith, Option, Some, None, is_some, List, [], ◌∷◌, length, IsTrue, Result, Ok, Err, IsOk, OnOk, OnErr}
use native.Mathlib.Bridge.{le_prop}
use Rattle.std.proofs.Math.Logic.{∥∥₁_elim, ∥∥₁_map}
use Rattle.command_words.specs.Command.{bank_number, IsInRange}
use Rattle.command_words.specs.Geometry.{Shape}
use Rattle.command_words.specs.Place.{IsInside, line_of}
use Rattle.command_words.specs.declared.place.Bank.{Bank}
use Rattle.command_words.specs.declared.geometry.Place.{Place}
use Rattle.command_words.specs.declared.command.Command.{Command}
use Rattle.command_words.specs.declared.command.Command.TheVariants.{Rd, Wr, Ecs}
use Rattle.command_words.specs.Words.{Spells}
use Rattle.command_words.specs.declared.words.Words.{Words}
use Rattle.command_words.specs.declared.words.WordFault.{WordFault}
use Rattle.speed_bin.specs.declared.header.Header.{Header}
use Rattle.speed_bin.specs.Header.{IsAccepted, shape_of}
use Rattle.command_words.specs.Kinds.{is_rd, is_wr, is_scrub}
use Rattle.speed_bin.specs.Log.{Issued, Log, open_at, scrubs as scrubs_in}
use Rattle.error_scrub.specs.Cells.{cells_shape, IsUnchanged as CellsUnchanged}
use Rattle.error_scrub.specs.declared.cells.Cells.{Cells}
use Rattle.error_scrub.specs.Changes.{Change, scrubs, turns, StandsFor as CellsFor}
use Rattle.error_scrub.specs.Scrubbing.{Step as Visit, Tally, line_after, StandsFor as ScrubFor}
use Rattle.std.proofs.lemmas.List.Sums.{count_by-le-length, sum_by-cons}
use Rattle.device_core.specs.Access.{AreOf, AreOfSome, MayAccess}
use Rattle.device_core.specs.Legal.{IsLegal, AllLegal}
use Rattle.device_core.specs.Rows.{StandsFor as RowsFor, MayIssue}
use Rattle.device_core.specs.Steps.{Step, Issues, Flips, log_of}
use Rattle.device_core.specs.Store.{StandsFor as StoreFor, IsUnchanged as StoreUnchanged}
use Rattle.device_core.specs.Stored.{also, answer, change_of, changes_of, visits, words_after}
use Rattle.device_core.specs.Standing.{StandsFor, StandsForSome, IsGiven, AllGiven, IsBit, MayStep, IsUnchanged, geometry_of, with_command}
use Rattle.device_core.specs.declared.activations.Activations.{Activations}
use Rattle.device_core.specs.Held.{Held}
use Rattle.device_core.specs.declared.store.Store.{Store}
use Rattle.device_core.proofs.Rules.{passes, short_log, open_inside, open_group, low_bank}

-- ---- Equal numbers and shapes by some list

nat_by_some : (a b : ℕ) → ∥ a ≡ b ∥₁ → a ≡ b
nat_by_some a b same =
    let up : a ≤ b = ∥∥₁_elim same le_prop (λ e. omega arith) in
    let down : b ≤ a = ∥∥₁_elim same le_prop (λ e. omega arith) in
    omega arith

pub shape_by_some : (a b : Shape) → ∥ a ≡ b ∥₁ → a ≡ b
shape_by_some a b same =
    let rows = nat_by_some a.rows b.rows (∥∥₁_map same (λ e. ap (λ (s : Shape). s.rows) e)) in
    let groups = nat_by_some a.groups b.groups (∥∥₁_map same (λ e. ap (λ (s : Shape). s.groups) e)) in
    ap (λ (r : ℕ). record { rows = r; groups = a.groups }) rows ∙ ap (λ (g : ℕ). record { rows = b.rows; groups = g }) groups

-- ---- The scrub's visits

visits_count : (h : Header) (steps : List Step) → length (visits h steps) ≡ scrubs_in (log_of steps)
visits_count h [] = refl
visits_count h (Issues delivered ∷ steps) = go (words_after (changes_of h steps) (line_after (shape_of h) (scrubs_in (log_of steps)))) (is_scrub delivered.issued.command) (visits_count h steps)
    ∙ sym (sum_by-cons (λ (place : Issued). cond (is_scrub place.command) 1 0) delivered.issued (log_of steps))
  where
    go : (found : Visit) (t : Bool) → length (visits h steps) ≡ scrubs_in (log_of steps) → length (cond t (found ∷ visits h steps) (visits h steps)) ≡ cond t 1 0 + scrubs_in (log_of steps)
    go found true ih = omega arith
    go found false ih = omega arith
visits_count h (Flips place device bit ∷ steps) = visits_count h steps

-- ---- One command more

pub store_at_scrub : (store : Store) (h : Header) (clock : ℕ) (command : Command) (bytes : Option (List ℕ)) (steps : List Step) → command ≡ Ecs
    → StoreFor store (shape_of h) (scrubs (line_after (shape_of h) (length (visits h steps))) ∷ changes_of h steps) (words_after (changes_of h steps) (line_after (shape_of h) (length (visits h steps))) ∷ visits h steps)
    → StoreFor store (shape_of h) (changes_of h (with_command clock command bytes steps)) (visits h (with_command clock command bytes steps))
store_at_scrub store h clock command bytes steps is s =
    subst (λ (c : Command). StoreFor store (shape_of h) (changes_of h (with_command clock c bytes steps)) (visits h (with_command clock c bytes steps))) (sym is)
    (subst (λ (n : ℕ). StoreFor store (shape_of h) (scrubs (line_after (shape_of h) n) ∷ changes_of h steps) (words_after (changes_of h steps) (line_after (shape_of h) n) ∷ visits h steps)) (visits_count h steps) s)

pub store_at_write : (store : Store) (h : Header) (clock : ℕ) (command : Command) (bank : Bank) (column : ℕ) (bytes : Option (List ℕ)) (steps : List Step) → command ≡ Wr bank column
    → StoreFor store (shape_of h) (also (change_of h (Wr bank column) bytes (log_of steps)) (changes_of h steps)) (visits h steps)
    → StoreFor store (shape_of h) (changes_of h (with_command clock command bytes steps)) (visits h (with_command clock command bytes steps))
store_at_write store h clock command bank column bytes steps is s =
    subst (λ (c : Command). StoreFor store (shape_of h) (changes_of h (with_command clock c bytes steps)) (visits h (with_command clock c bytes steps))) (sym is) s

-- a command that neither writes nor scrubs leaves the stored lines
pub store_else : (store : Store) (h : Header) (clock : ℕ) (command : Command) (bytes : Option (List ℕ)) (steps : List Step) → is_wr command ≡ false → is_scrub command ≡ false
    → StoreFor store (shape_of h) (changes_of h steps) (visits h steps)
    → StoreFor store (shape_of h) (changes_of h (with_command clock command bytes steps)) (visits h (with_command clock command bytes steps))
store_else store h clock command bytes steps = go command
  where
    go : (c : Command) → is_wr c ≡ false → is_scrub c ≡ false → StoreFor store (shape_of h) (changes_of h steps) (visits h steps) → StoreFor store (shape_of h) (changes_of h (with_command clock c bytes steps)) (visits h (with_command clock c bytes steps))
    go (Wr bank column) w e s = absurd (cc)
    go Ecs w e s = absurd (cc)
    go _ w e s = s

pub no_answer : (h : Header) (command : Command) (steps : List Step) → is_rd command ≡ false → None ≡ answer h command steps
no_answer h (Rd bank column) steps e = absurd (cc)
no_answer h _ steps e = refl

-- ---- What a legal command says of its bank

pub open_at_rd : (h : Header) (clock : ℕ) (command : Command) (bank : Bank) (column : ℕ) (log : Log) → command ≡ Rd bank column → IsLegal h clock command log → IsTrue (is_some (open_at (bank_number bank) log))
open_at_rd h clock command bank column log is legal = subst (λ (c : Command). IsLegal h clock c log → IsTrue (is_some (open_at (bank_number bank) log))) (sym is) (λ l. (passes h clock (Rd bank column) log l).1.1.1.0) legal

pub open_at_wr : (h : Header) (clock : ℕ) (command : Command) (bank : Bank) (column : ℕ) (log : Log) → command ≡ Wr bank column → IsLegal h clock command log → IsTrue (is_some (open_at (bank_number bank) log))
open_at_wr h clock command bank column log is legal = subst (λ (c : Command). IsLegal h clock c log → IsTrue (is_some (open_at (bank_number bank) log))) (sym is) (λ l. (passes h clock (Wr bank column) log l).1.1.1.0) legal

pub bank_of_rd : (rows : Activations) (store : Store) (clock : ℕ) (command : Command) (bank : Bank) (column : ℕ) (bytes : Option (List ℕ)) → command ≡ Rd bank column → MayAccess rows store clock command bytes → bank_number bank < 32
bank_of_rd rows store clock command bank column bytes is may = ∥∥₁_elim may le_prop (λ p. go (subst IsInRange is p.3.legal.in_range))
  where
    go : IsInRange (Rd bank column) → bank_number bank < 32
    go r = low_bank bank r.0

pub bank_of_wr : (rows : Activations) (store : Store) (clock : ℕ) (command : Command) (bank : Bank) (column : ℕ) (bytes : Option (List ℕ)) → command ≡ Wr bank column → MayAccess rows store clock command bytes → bank_number bank < 32
bank_of_wr rows store clock command bank column bytes is may = ∥∥₁_elim may le_prop (λ p. go (subst IsInRange is p.3.legal.in_range))
  where
    go : IsInRange (Wr bank column) → bank_number bank < 32
    go r = low_bank bank r.0

pub some_list : (rows : Activations) (store : Store) (clock : ℕ) (command : Command) (bytes : Option (List ℕ)) → MayAccess rows store clock command bytes → AreOfSome rows store
some_list rows store clock command bytes may = ∥∥₁_map may (λ p. (p.0, p.1, p.2))

-- ---- What the conditions of the parts need

pub scrub_shape : (rows : Activations) (store : Store) → AreOfSome rows store → store.scrub.shape ≡ cells_shape store.cells
unfolding StoreFor
scrub_shape rows store may = shape_by_some _ _ (∥∥₁_map may (λ p. p.2.store.scrub_shape ∙ sym p.2.store.shape))

pub few_steps : (rows : Activations) (store : Store) (clock : ℕ) (command : Command) (bytes : Option (List ℕ)) → MayAccess rows store clock command bytes → store.scrub.steps < 2 ^ 48
unfolding StoreFor RowsFor
few_steps rows store clock command bytes may = ∥∥₁_elim may le_prop (λ p. go p.0 p.1 p.2 p.3)
  where
    go : (h : Header) (steps : List Step) → AreOf rows store h steps → IsGiven h clock command bytes steps → store.scrub.steps < 2 ^ 48
    go h steps s given =
        let made = s.store.steps in
        let counted = visits_count h steps in
        let few = count_by-le-length (λ (place : Issued). is_scrub place.command) (log_of steps) in
        let short = short_log h clock command (log_of steps) s.activations.legal given.legal in
        omega arith

-- a place in an open row is one of the stored lines
pub place_inside : (rows : Activations) (store : Store) (place : Place) → AreOfSome rows store → ((h : Header) (log : Log) → RowsFor rows h log → IsInside place (shape_of h)) → IsInside place (cells_shape store.cells)
unfolding StoreFor
place_inside rows store place may inside = record {
  row = ∥∥₁_elim may le_prop (λ p. (go p.0 p.1 p.2).row);
  group = ∥∥₁_elim may le_prop (λ p. (go p.0 p.1 p.2).group);
}
  where
    go : (h : Header) (steps : List Step) → AreOf rows store h steps → IsInside place (cells_shape store.cells)
    go h steps s = subst (IsInside place) (sym s.store.shape) (inside h (log_of steps) s.activations)

-- the open row of a bank is one of the header's
pub row_inside : (rows : Activations) (bank : Bank) (column row : ℕ) (h : Header) (log : Log) → bank_number bank < 32 → RowsFor rows h log → open_at (bank_number bank) log ≡ Some row → IsInside (record { bank = bank; row = row; column = column }) (shape_of h)
unfolding RowsFor
row_inside rows bank column row h log low s is = record {
  row = open_inside h (bank_number bank) row log s.accepted s.legal low is;
  group = open_group h bank row log s.legal is;
}

-- ---- A turned bit

-- a bit of the geometry is one of the list's
pub bit_inside : (registers : List (Option ℕ)) (activations : Activations) (store : Store) (h : Header) (steps : List Step) (place : Place) (at bit : ℕ)
    → StandsFor (record { registers = registers; activations = activations; store = store }) h steps
    → IsInside place (cells_shape store.cells) → at < 4 → bit < 136 → IsBit h place at bit
unfolding StandsFor StoreFor
bit_inside registers activations store h steps place at bit s inside four word = record { inside = subst (IsInside place) s.store.shape inside; of_four = four; in_word = word }

-- ---- Words

-- what words spell is the command that they decode to
pub decodes : (r : Result Command WordFault) (device : Held) (clock : ℕ) (words : Words) (bytes : Option (List ℕ)) → ((command : Command) → IsInRange command → Spells command words → r ≡ Ok command) → MayStep device clock words bytes → IsOk r
decodes (Ok command) device clock words bytes only may = refl
decodes (Err fault) device clock words bytes only may =
    let no : 1 ≤ 0 = ∥∥₁_elim may le_prop (λ p. let e = only p.2 p.4.given.legal.in_range p.4.spelled in absurd (cc)) in
    absurd (omega arith)

pub named : (r : Result Command WordFault) (command other : Command) (words : Words) → ((command : Command) → IsInRange command → Spells command words → r ≡ Ok command) → r ≡ Ok other → IsInRange command → Spells command words → command ≡ other
named r command other words only is inside spelled = let e = only command inside spelled in cc

pub may_access : (r : Result Command WordFault) (device : Held) (clock : ℕ) (other : Command) (words : Words) (bytes : Option (List ℕ)) → ((command : Command) → IsInRange command → Spells command words → r ≡ Ok command) → r ≡ Ok other → MayStep device clock words bytes → MayAccess device.activations device.store clock other bytes
unfolding StandsFor
may_access r device clock other words bytes only is may =
    ∥∥₁_map may (λ p. (
      p.0,
      p.1,
      record { activations = p.3.activations; store = p.3.store },
      subst (λ (c : Command). IsGiven p.0 clock c bytes p.1) (named r p.2 other words only is p.4.given.legal.in_range p.4.spelled) p.4.given,
    ))

-- the open rows and the activations are asked for their part of the condition
pub may_issue : (rows : Activations) (store : Store) (clock : ℕ) (command : Command) (bytes : Option (List ℕ)) → MayAccess rows store clock command bytes → MayIssue rows clock command
may_issue rows store clock command bytes may = ∥∥₁_map may (λ p. (p.0, log_of p.1, p.2.activations, p.3.legal))

-- ---- The same device

abbrev pub UnchangedLaw : Type 0
UnchangedLaw = (old new : Cells) (log : List Change) → CellsUnchanged old new → CellsFor old log → CellsFor new log

pub still_stands : (law : UnchangedLaw) (old new : Held) (h : Header) (steps : List Step) → IsUnchanged old new → StandsFor old h steps → StandsFor new h steps
unfolding StandsFor StoreFor IsUnchanged
still_stands law old new h steps u s = record {
  given = s.given;
  registers = u.registers ∙ s.registers;
  activations = subst (λ (a : Activations). RowsFor a h (log_of steps)) (sym u.activations) s.activations;
  store = record {
    shape = u.store.cells.shape ∙ s.store.shape;
    scrub_shape = ap (λ (t : Tally). t.shape) u.store.scrub ∙ s.store.scrub_shape;
    cells = law _ _ _ u.store.cells s.store.cells;
    scrub = subst (λ (t : Tally). ScrubFor t (visits h steps)) (sym u.store.scrub) s.store.scrub;
    steps = ap (λ (t : Tally). t.steps) u.store.scrub ∙ s.store.steps;
  };
}

-- ---- What the list of a device says of itself

pub list_accepted : (device : Held) (h : Header) (steps : List Step) → StandsFor device h steps → IsAccepted h
unfolding StandsFor RowsFor
list_accepted device h steps s = s.activations.accepted

pub list_legal : (device : Held) (h : Header) (steps : List Step) → StandsFor device h steps → AllLegal h (log_of steps)
unfolding StandsFor RowsFor
list_legal device h steps s = s.activations.legal

pub list_given : (device : Held) (h : Header) (steps : List Step) → StandsFor device h steps → AllGiven h steps
unfolding StandsFor
list_given device h steps s = s.given

pub list_geometry : (device : Held) (h : Header) (steps : List Step) → StandsFor device h steps → geometry_of device ≡ shape_of h
unfolding StandsFor StoreFor geometry_of
list_geometry device h steps s = s.store.shape

-- ---- A list of the device, once it changed

abbrev pub StaysLaw : Type 0
StaysLaw = (old new : Held) (h : Header) (steps : List Step) → IsUnchanged old new → StandsFor old h steps → StandsFor new h steps

-- where each stored word stays, the device stands for a list as before
pub stays_some : (law : StaysLaw) (registers : List (Option ℕ)) (activations : Activations) (old new : Store) → StoreUnchanged old new
    → StandsForSome (record { registers = registers; activations = activations; store = old })
    → StandsForSome (record { registers = registers; activations = activations; store = new })
unfolding IsUnchanged
stays_some law registers activations old new same some =
    ∥∥₁_map some (λ p. (
      p.0,
      p.1,
      law (record { registers = registers; activations = activations; store = old }) (record { registers = registers; activations = activations; store = new })
          p.0 p.1 (record { registers = refl; activations = refl; store = same }) p.2,
    ))

-- a turned bit makes the list longer
pub flipped : {T E : Type 0} (r : Result T E) (registers : List (Option ℕ)) (activations : Activations) (old new : Store) (place : Place) (at bit : ℕ)
    → OnOk r ((g : Shape) (changes : List Change) (seen : List Visit) → StoreFor old g changes seen → StoreFor new g (turns (line_of place g) at bit ∷ changes) seen)
    → IsInside place (cells_shape old.cells) → at < 4 → bit < 136
    → OnOk r ((h : Header) (steps : List Step) → StandsFor (record { registers = registers; activations = activations; store = old }) h steps
    → StandsFor (record { registers = registers; activations = activations; store = new }) h (Flips place at bit ∷ steps))
unfolding StandsFor
flipped (Ok x) registers activations old new place at bit turned inside four word = λ h steps s. record {
  given = (s.given, bit_inside registers activations old h steps place at bit s inside four word);
  registers = s.registers;
  activations = s.activations;
  store = turned (shape_of h) (changes_of h steps) (visits h steps) s.store;
}
flipped (Err e) registers activations old new place at bit turned inside four word = tt

-- and want of memory leaves it
pub flip_some : {T E : Type 0} (r : Result T E) (law : StaysLaw) (registers : List (Option ℕ)) (activations : Activations) (old new : Store) (place : Place) (at bit : ℕ)
    → OnOk r ((h : Header) (steps : List Step) → StandsFor (record { registers = registers; activations = activations; store = old }) h steps
    → StandsFor (record { registers = registers; activations = activations; store = new }) h (Flips place at bit ∷ steps))
    → OnErr r (StoreUnchanged old new)
    → StandsForSome (record { registers = registers; activations = activations; store = old })
    → StandsForSome (record { registers = registers; activations = activations; store = new })
flip_some (Ok x) law registers activations old new place at bit longer same some = ∥∥₁_map some (λ p. (p.0, Flips place at bit ∷ p.1, longer p.0 p.1 p.2))
flip_some (Err e) law registers activations old new place at bit longer same some = stays_some law registers activations old new same some
