-- What a controller keeps of its requests goes on over each offer and each command.
use Rattle.std.proofs.Common.{◌≡◌, ◌∙◌, ℕ, ◌+◌, ◌<◌, ◌≤◌, ◌⊎◌, inl, inr, ◌==◌, Bool, true, false, cond, Option, Some, None, List, [], ◌∷◌, ◌++◌, length, slice_get, refl, sym, ap, subst, arith, eqb-true, length-append, le_trans}
use Rattle.std.specs.List.{remove}
use Rattle.command_words.specs.Command.{bank_number}
use Rattle.command_words.specs.Geometry.{lines_of}
use Rattle.command_words.specs.declared.place.Bank.{Bank}
use Rattle.command_words.specs.declared.command.Command.{Command}
use Rattle.command_words.specs.declared.command.Command.TheVariants.{Act}
use Rattle.speed_bin.specs.Counts.{commands}
use Rattle.command_words.specs.Kinds.{Opens, Closes, Leaves, effect, is_act, is_precharge, is_scrub, needs_closed}
use Rattle.speed_bin.specs.Log.{Log, Issued, open_at}
use Rattle.speed_bin.specs.Page.{last_row, keeps_page}
use Rattle.speed_bin.specs.Rules.{rule_5}
use Rattle.speed_bin.specs.declared.header.Header.{Header}
use Rattle.speed_bin.proofs.Effects.{closes_precharge}
use Rattle.speed_bin.proofs.Tests.{both}
use Rattle.requests.specs.declared.request.Request.{Request}
use Rattle.requests.specs.declared.waiting.Waiting.{Waiting}
use Rattle.requests.specs.Queue.{Step, places, waiting, waiting_as, span, in_bank, hits, oldest, IsFull}
use Rattle.speed_bin.specs.Header.{shape_of}
use Rattle.speed_bin.specs.Counters.{is_row}
use Rattle.requests.specs.Choice.{IsOldestRow, column_for}
use Rattle.requests.specs.Owed.{is_column, owed_count, Promised, SparesOwed}
use Rattle.requests.specs.Page.{is_managing, Another, IsPaged, Excuses}
use Rattle.command_words.specs.Geometry.{IsGroups}
use Rattle.requests.specs.Requested.{Requested}
use Rattle.requests.proofs.Oldest.{holds}
use Rattle.requests.proofs.Queue.{Rising, rising-waiting, waiting-offer, waiting-serve, waiting-other, known-offer, known-serve, known-other, length-remove, span-remove, span-offer, inside-offer}
use Rattle.requests.proofs.Order.{placed-waiting, its_line, in_order-offer, in_order-serve, in_order-other, once-serve, once-other}
use Rattle.requests.proofs.Owed.{promised-offer, promised-act, promised-column, promised-other, closed_not_owed, opens_nothing}
use Rattle.requests.proofs.Counts.{owed_act, owed_column, owed_same, one_more, no_more}
use Rattle.requests.proofs.Paging.{page_step, paged-step, paged-offer, keeps_excuse, managed_closed, manages_nothing, another-remove, act_another}
use Rattle.requests.proofs.Served.{serving_at}
use Rattle.requests.proofs.Serving.{serving-offer, serving-none}
use Rattle.requests.proofs.CommandKinds.{column_of, column_is_column, column_not_act, column_needs_nothing, column_closes_nothing, precharge_not_act, precharge_no_column, precharge_needs_nothing, closed_not_act, closed_no_column, closed_closes_nothing}

-- ---- The start

not_below : (n : ℕ) → n ≤ 0 → n ≤ 0
not_below n h = h

pub starts : (h : Header) (excused : ℕ → Bool) → IsGroups h.version.groups → Requested h [] [] [] excused
starts h excused groups = record {
  groups = groups;
  waits = refl;
  few = omega arith;
  within = omega arith;
  inside = tt;
  serving = tt;
  known = λ n low. refl;
  once = tt;
  in_order = λ line. refl;
  counted = refl;
  promised = λ b low e. absurd (cc);
  repaid = omega arith;
  paged = record { open_last = λ b row low e. absurd (cc); another = λ b row low e f. absurd (cc) };
  page = refl;
}

-- ---- An offer

rising-queue : (h : Header) (offered : List Request) (log : List Step) (queue : List Waiting) → queue ≡ waiting h offered log → Rising 1 (length offered + 1) queue
rising-queue h offered log queue e = subst (λ (ws : List Waiting). Rising 1 (length offered + 1) ws) (sym e) (rising-waiting h offered log)

pub after_offer : (h : Header) (offered : List Request) (log : List Step) (queue : List Waiting) (excused : ℕ → Bool) (r : Request) → Requested h offered log queue excused → r.line < lines_of (shape_of h) → (IsFull (length offered) queue → ⊥) → Requested h (offered ++ r ∷ []) log (queue ++ waiting_as (shape_of h) (length offered + 1) r ∷ []) excused
after_offer h offered log queue excused r k low room =
    let w = waiting_as (shape_of h) (length offered + 1) r in
    let more : length (offered ++ r ∷ []) ≡ length offered + 1 = length-append offered (r ∷ []) in
    let longer : length (queue ++ w ∷ []) ≡ length queue + 1 = length-append queue (w ∷ []) in
    let new = k.known (length offered + 1) (omega arith) in
    let few : length queue < 32 = strict (length queue) 32 k.few (λ e. room (inl e)) in
    let within : span (length offered) queue < 64 = strict (span (length offered) queue) 64 k.within (λ e. room (inr e)) in
    record {
      groups = k.groups;
      waits = ap (λ (ws : List Waiting). ws ++ w ∷ []) k.waits ∙ sym (waiting-offer h offered log r (length offered + 1) refl new);
      few = omega (arith, few, longer);
      within = subst (λ (n : ℕ). span n (queue ++ w ∷ []) ≤ 64) (sym more) (span-offer (length offered) (length offered + 1) queue w (rising-queue h offered log queue k.waits) refl within);
      inside = inside-offer h offered r k.inside low;
      serving = serving-offer h offered log r new k.serving;
      known = known-offer offered log r k.known;
      once = k.once;
      in_order = in_order-offer h offered log r new k.in_order;
      counted = (let c = k.counted in omega (arith, c, more, longer));
      promised = promised-offer queue (w ∷ []) (places log) k.promised;
      repaid = k.repaid;
      paged = paged-offer excused queue (w ∷ []) (places log) k.paged;
      page = k.page;
    }
  where
    strict : (n m : ℕ) → n ≤ m → (n ≡ m → ⊥) → n < m
    strict n m le ne = grind arith

-- ---- A column

row_some : (o : Option ℕ) (row : ℕ) → is_row o row ≡ true → o ≡ None → ⊥
row_some None row e f = cc
row_some (Some r) row e f = cc

-- a bank that a request hits is open
hit_open : (b c : ℕ) (log : Log) (w : Waiting) → hits b (open_at b log) w ≡ true → open_at c log ≡ None → in_bank c w ≡ false
hit_open b c log w hit closed = go (in_bank c w) refl
  where
    go : (t : Bool) → in_bank c w ≡ t → t ≡ false
    go false p = refl
    go true p =
        let k = both (in_bank b w) (is_row (open_at b log) w.place.row) hit in
        let same : c ≡ b = sym (eqb-true (bank_number w.place.bank) c p) ∙ eqb-true (bank_number w.place.bank) b k.0 in
        absurd (row_some (open_at b log) w.place.row k.1 (ap (λ (i : ℕ). open_at i log) (sym same) ∙ closed))

pub after_column : (h : Header) (offered : List Request) (log : List Step) (queue : List Waiting) (excused later : ℕ → Bool) (clock at b : ℕ) (command : Command) (w : Waiting)
    → Requested h offered log queue excused → command ≡ column_for w.request.kind w.place → slice_get queue at ≡ Some w → oldest (hits b (open_at b (places log))) queue ≡ Some w → Excuses excused later
    → Requested h offered (record { issued = record { clock = clock; command = command }; id = Some w.id } ∷ log) (remove queue at) later
after_column h offered log queue excused later clock at b command w k is here hit more =
    let place : Issued = record { clock = clock; command = command } in
    let step : Step = record { issued = place; id = Some w.id } in
    let c = column_of command w.request.kind w.place is in
    let column = column_is_column command w.request.kind w.place is in
    let here_in : slice_get (waiting h offered log) at ≡ Some w = subst (λ (ws : List Waiting). slice_get ws at ≡ Some w) k.waits here in
    let hit_in : oldest (hits b (open_at b (places log))) (waiting h offered log) ≡ Some w = subst (λ (ws : List Waiting). oldest (hits b (open_at b (places log))) ws ≡ Some w) k.waits hit in
    let own : bank_number w.place.bank ≡ bank_number w.place.bank = refl in
    let shorter = length-remove queue at w here in
    let columns = one_more is_column place (places log) column in
    let acts = no_more is_act place (places log) (column_not_act command column) in
    let owes = owed_column command w.place.bank clock (places log) c in
    let nothing = column_needs_nothing command column in
    record {
      groups = k.groups;
      waits = ap (λ (ws : List Waiting). remove ws at) k.waits ∙ sym (waiting-serve h offered log at w step here_in refl);
      few = (let f = k.few in omega (arith, f, shorter));
      within = le_trans (span-remove (length offered) queue at w (rising-queue h offered log queue k.waits) here) k.within;
      inside = k.inside;
      serving = (k.serving, serving_at h offered log at b w command k.groups k.inside k.in_order here_in hit_in is);
      known = known-serve h offered log at w step k.known here_in refl;
      once = once-serve h offered log at w step here_in refl k.once;
      in_order = in_order-serve h offered log at w step here_in (its_line (shape_of h) (waiting h offered log) b (open_at b (places log)) w (placed-waiting h offered log) hit_in) refl k.in_order;
      counted = (let n = k.counted in omega (arith, n, shorter, columns));
      promised = promised-column queue (places log) w.place.bank command clock at w k.promised c here own;
      repaid = (let r = k.repaid in omega (arith, r, columns, acts, owes));
      paged = paged-step excused later queue (remove queue at) (places log) place k.paged
          (λ i low m. absurd (manages_nothing i command nothing m))
          (λ i row low o e. absurd (column_closes_nothing command i column e))
          (λ i row low closed m a. go i row low closed a);
      page = page_step place (places log) k.page (λ i row low e l. opens_nothing i row command (column_not_act command column) e);
    }
  where
    go : (i row : ℕ) → i < 32 → open_at i (places log) ≡ None → (excused i ≡ true) ⊎ Another i row queue → (later i ≡ true) ⊎ Another i row (remove queue at)
    go i row low closed (inl e) = inl (more i low e)
    go i row low closed (inr a) = inr (another-remove i row at queue w here (hit_open b i (places log) w (holds (hits b (open_at b (places log))) queue w hit) closed) a)

-- ---- A command that serves no request

-- what does not depend on the command
unserving : (h : Header) (offered : List Request) (log : List Step) (queue : List Waiting) (excused later : ℕ → Bool) (place : Issued)
    → Requested h offered log queue excused → is_column place.command ≡ false → Promised queue (place ∷ places log) → commands is_act (place ∷ places log) ≤ commands is_column (place ∷ places log) + owed_count (place ∷ places log) → IsPaged later queue (place ∷ places log) → keeps_page (place ∷ places log) ≡ true
    → Requested h offered (record { issued = place; id = None } ∷ log) queue later
unserving h offered log queue excused later place k no_column promised repaid paged page =
    let step : Step = record { issued = place; id = None } in
    record {
      groups = k.groups;
      waits = k.waits ∙ sym (waiting-other h offered log step refl);
      few = k.few;
      within = k.within;
      inside = k.inside;
      serving = (k.serving, serving-none h offered log place.command no_column);
      known = known-other offered log step k.known refl;
      once = once-other log step refl k.once;
      in_order = in_order-other h offered log step refl k.in_order;
      counted = ap (λ (n : ℕ). n + length queue) (no_more is_column place (places log) no_column) ∙ k.counted;
      promised = promised;
      repaid = repaid;
      paged = paged;
      page = page;
    }

-- ---- An ACT

act_row : (bank : Bank) (row b r : ℕ) → effect b (Act bank row) ≡ Opens r → (bank_number bank ≡ b) × (row ≡ r)
act_row bank row b r e = go (bank_number bank == b) refl e
  where
    go : (t : Bool) → (bank_number bank == b) ≡ t → cond t (Opens row) Leaves ≡ Opens r → (bank_number bank ≡ b) × (row ≡ r)
    go true p f = (eqb-true _ _ p, cc)
    go false p f = absurd (cc)

act_closes_nothing : (bank : Bank) (row b : ℕ) → effect b (Act bank row) ≡ Closes → ⊥
act_closes_nothing bank row b e = let k = (closes_precharge b (Act bank row) e).0 in cc

pub after_activate : (h : Header) (offered : List Request) (log : List Step) (queue : List Waiting) (excused later : ℕ → Bool) (clock : ℕ) (bank : Bank) (row : ℕ)
    → Requested h offered log queue excused → bank_number bank < 32 → open_at (bank_number bank) (places log) ≡ None → IsOldestRow queue (bank_number bank) row → excused (bank_number bank) ≡ false → Excuses excused later
    → Requested h offered (record { issued = record { clock = clock; command = Act bank row }; id = None } ∷ log) queue later
after_activate h offered log queue excused later clock bank row k inside closed chosen unexcused more =
    let place : Issued = record { clock = clock; command = Act bank row } in
    let acts = one_more is_act place (places log) refl in
    let columns = no_more is_column place (places log) refl in
    let owes = owed_act bank row clock (places log) inside (closed_not_owed queue (places log) (bank_number bank) inside k.promised closed) in
    unserving h offered log queue excused later place k refl
    (promised-act queue (places log) bank row clock k.promised chosen)
    (let r = k.repaid in omega (arith, r, acts, columns, owes))
    (paged-step excused later queue queue (places log) place k.paged
    (λ i low m. absurd (manages_nothing i (Act bank row) refl m))
    (λ i r low o e. absurd (act_closes_nothing bank row i e))
    (λ i r low o m a. keeps_excuse excused later queue i r low more a))
    (page_step place (places log) k.page (λ i r low e l.
    let p = act_row bank row i r e in
    let last : last_row (bank_number bank) (places log) ≡ Some row = ap (λ (j : ℕ). last_row j (places log)) p.0 ∙ l ∙ ap (λ (n : ℕ). Some n) (sym p.1) in
    act_another excused queue (places log) (bank_number bank) row row k.paged inside unexcused closed last chosen refl))

-- ---- A precharge

-- each covered bank is owed no longer, and excused or missed
pub closing : (h : Header) (offered : List Request) (log : List Step) (queue : List Waiting) (excused later : ℕ → Bool) (clock : ℕ) (command : Command)
    → Requested h offered log queue excused → is_precharge command ≡ true → SparesOwed command (places log) → ((b row : ℕ) → b < 32 → open_at b (places log) ≡ Some row → effect b command ≡ Closes → (later b ≡ true) ⊎ Another b row queue) → Excuses excused later
    → Requested h offered (record { issued = record { clock = clock; command = command }; id = None } ∷ log) queue later
closing h offered log queue excused later clock command k is spares shut more =
    let place : Issued = record { clock = clock; command = command } in
    let no_act = precharge_not_act command is in
    let no_column = precharge_no_column command is in
    let acts = no_more is_act place (places log) no_act in
    let columns = no_more is_column place (places log) no_column in
    let owes = owed_same command clock (places log) no_act no_column spares in
    unserving h offered log queue excused later place k no_column
    (promised-other queue (places log) command clock k.promised no_act no_column spares)
    (let r = k.repaid in omega (arith, r, acts, columns, owes))
    (paged-step excused later queue queue (places log) place k.paged
    (λ i low m. absurd (manages_nothing i command (precharge_needs_nothing command is) m))
    shut
    (λ i r low o m a. keeps_excuse excused later queue i r low more a))
    (page_step place (places log) k.page (λ i r low e l. opens_nothing i r command no_act e))

-- ---- What needs closed banks

settled : (later : ℕ → Bool) (queue : List Waiting) (command : Command) (i r : ℕ) → is_managing (effect i command) (is_scrub command) ≡ false → (later i ≡ true) ⊎ (is_managing (effect i command) (is_scrub command) ≡ true) → (later i ≡ true) ⊎ Another i r queue
settled later queue command i r m (inl e) = inl e
settled later queue command i r m (inr e) = absurd (let n : true ≡ false = sym e ∙ m in cc)

pub after_closed : (h : Header) (offered : List Request) (log : List Step) (queue : List Waiting) (excused later : ℕ → Bool) (clock : ℕ) (command : Command)
    → Requested h offered log queue excused → needs_closed command ≡ true → rule_5 command (places log) ≡ true → ((b : ℕ) → b < 32 → excused b ≡ true → (later b ≡ true) ⊎ (is_managing (effect b command) (is_scrub command) ≡ true))
    → Requested h offered (record { issued = record { clock = clock; command = command }; id = None } ∷ log) queue later
after_closed h offered log queue excused later clock command k is shut more =
    let place : Issued = record { clock = clock; command = command } in
    let no_act = closed_not_act command is in
    let no_column = closed_no_column command is in
    let acts = no_more is_act place (places log) no_act in
    let columns = no_more is_column place (places log) no_column in
    let spares : SparesOwed command (places log) = λ i low e. absurd (closed_closes_nothing command i is e) in
    let owes = owed_same command clock (places log) no_act no_column spares in
    unserving h offered log queue excused later place k no_column
    (promised-other queue (places log) command clock k.promised no_act no_column spares)
    (let r = k.repaid in omega (arith, r, acts, columns, owes))
    (paged-step excused later queue queue (places log) place k.paged
    (λ i low m. managed_closed i command (places log) low m shut)
    (λ i r low o e. absurd (closed_closes_nothing command i is e))
    (λ i r low o m a. go i r low m a))
    (page_step place (places log) k.page (λ i r low e l. opens_nothing i r command no_act e))
  where
    go : (i r : ℕ) → i < 32 → is_managing (effect i command) (is_scrub command) ≡ false → (excused i ≡ true) ⊎ Another i r queue → (later i ≡ true) ⊎ Another i r queue
    go i r low m (inl e) = settled later queue command i r m (more i low e)
    go i r low m (inr a) = inr a
