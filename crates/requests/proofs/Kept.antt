-- What is kept, after each kind of precharge and management.
use Rattle.std.proofs.Common.{◌≡◌, ℕ, ◌<◌, ◌≤◌, slice_get, arith, ◌⊎◌, inl, inr, Bool, true, false, cond, Option, Some, None, List, ◌∷◌, length, refl, ap, subst, eqb-true}
use Rattle.command_words.specs.Command.{bank_number, covers, IsBank}
use Rattle.command_words.specs.declared.place.Bank.{Bank}
use Rattle.command_words.specs.declared.command.Command.{Command}
use Rattle.command_words.specs.declared.command.Command.TheVariants.{PrePb, RefAb, RefSb, RfmAb, RfmSb, Mrw, Ecs}
use Rattle.command_words.specs.declared.command.Mrw.{Mrw as Write}
use Rattle.speed_bin.specs.Counts.{commands}
use Rattle.command_words.specs.Kinds.{Refreshes, Manages, Leaves, effect, is_act, is_mrw, is_precharge, is_scrub, needs_closed}
use Rattle.speed_bin.specs.Log.{open_at}
use Rattle.speed_bin.specs.Rules.{rule_5}
use Rattle.speed_bin.specs.declared.header.Header.{Header}
use Rattle.speed_bin.proofs.Effects.{closes_precharge}
use Rattle.requests.specs.declared.request.Kind.{Kind}
use Rattle.requests.specs.declared.request.Request.{Request}
use Rattle.requests.specs.declared.waiting.Waiting.{Waiting}
use Rattle.requests.specs.Queue.{Step, places, waiting, hits, oldest, is_of_line}
use Rattle.speed_bin.specs.Header.{shape_of}
use Rattle.requests.specs.Order.{Serves}
use Rattle.requests.specs.Choice.{IsOldestHit, IsMissed}
use Rattle.requests.specs.Owed.{owed, SparesOwed}
use Rattle.requests.specs.Page.{is_managing, Excuses}
use Rattle.requests.specs.Requested.{Requested, IsQueued}
use Rattle.requests.proofs.Counts.{owed_few}
use Rattle.requests.proofs.Order.{placed-waiting, its_line}
use Rattle.requests.proofs.Owed.{closed_not_owed, missed_not_owed}
use Rattle.requests.proofs.Paging.{paged-excuse, missed_another}
use Rattle.requests.proofs.Served.{waits_lem, serves_at, oldest-stands}
use Rattle.requests.proofs.Turns.{closing, after_closed}

pub after_excuse_lem : (h : Header) (offered : List Request) (log : List Step) (queue : List Waiting) (excused later : ℕ → Bool) → Requested h offered log queue excused → Excuses excused later → Requested h offered log queue later
after_excuse_lem h offered log queue excused later k more = record {
  groups = k.groups;
  waits = k.waits;
  few = k.few;
  within = k.within;
  inside = k.inside;
  serving = k.serving;
  known = k.known;
  once = k.once;
  in_order = k.in_order;
  counted = k.counted;
  promised = k.promised;
  repaid = k.repaid;
  paged = paged-excuse excused later queue (places log) k.paged more;
  page = k.page;
}

pub after_precharge_lem : (h : Header) (offered : List Request) (log : List Step) (queue : List Waiting) (excused later : ℕ → Bool) (clock : ℕ) (bank : Bank) → Requested h offered log queue excused → IsMissed queue (bank_number bank) (open_at (bank_number bank) (places log)) → Excuses excused later → Requested h offered (record { issued = record { clock = clock; command = PrePb bank }; id = None } ∷ log) queue later
after_precharge_lem h offered log queue excused later clock bank k missed more =
    closing h offered log queue excused later clock (PrePb bank) k refl
    (λ b low e.
    let m = own b (eqb-true _ _ (closes_precharge b (PrePb bank) e).1) in
    missed_not_owed queue (places log) b low k.promised m.no_hit)
    (λ b row low o e. inr (missed_another queue b row (open_at b (places log)) o (own b (eqb-true _ _ (closes_precharge b (PrePb bank) e).1))))
    more
  where
    own : (b : ℕ) → bank_number bank ≡ b → IsMissed queue b (open_at b (places log))
    own b e = subst (λ (i : ℕ). IsMissed queue i (open_at i (places log))) e missed

pub after_closing_lem : (h : Header) (offered : List Request) (log : List Step) (queue : List Waiting) (excused later : ℕ → Bool) (clock : ℕ) (command : Command) → Requested h offered log queue excused → is_precharge command ≡ true → SparesOwed command (places log) → ((b : ℕ) → b < 32 → covers command b ≡ true → later b ≡ true) → Excuses excused later → Requested h offered (record { issued = record { clock = clock; command = command }; id = None } ∷ log) queue later
after_closing_lem h offered log queue excused later clock command k is spares excuse more =
    closing h offered log queue excused later clock command k is spares (λ b row low o e. inl (excuse b low (closes_precharge b command e).1)) more

covered_managed : (b : ℕ) (command : Command) → needs_closed command ≡ true → is_mrw command ≡ false → covers command b ≡ true → is_managing (effect b command) (is_scrub command) ≡ true
covered_managed b RefAb h m c = refl
covered_managed b (RefSb address) h m c = ap (λ t. is_managing (cond t Refreshes Leaves) false) c
covered_managed b RfmAb h m c = refl
covered_managed b (RfmSb address) h m c = ap (λ t. is_managing (cond t Manages Leaves) false) c
covered_managed b Ecs h m c = refl
covered_managed b (Mrw write) h m c = cc
covered_managed b _ h m c = absurd (cc)

pub after_management_lem : (h : Header) (offered : List Request) (log : List Step) (queue : List Waiting) (excused later : ℕ → Bool) (clock : ℕ) (command : Command) → Requested h offered log queue excused → needs_closed command ≡ true → is_mrw command ≡ false → rule_5 command (places log) ≡ true → ((b : ℕ) → b < 32 → excused b ≡ true → (later b ≡ true) ⊎ (covers command b ≡ true)) → Requested h offered (record { issued = record { clock = clock; command = command }; id = None } ∷ log) queue later
after_management_lem h offered log queue excused later clock command k is no_write shut more =
    after_closed h offered log queue excused later clock command k is shut (λ b low e. go b (more b low e))
  where
    go : (b : ℕ) → (later b ≡ true) ⊎ (covers command b ≡ true) → (later b ≡ true) ⊎ (is_managing (effect b command) (is_scrub command) ≡ true)
    go b (inl e) = inl e
    go b (inr c) = inr (covered_managed b command is no_write c)

pub after_write_lem : (h : Header) (offered : List Request) (log : List Step) (queue : List Waiting) (excused later : ℕ → Bool) (clock : ℕ) (write : Write) → Requested h offered log queue excused → rule_5 (Mrw write) (places log) ≡ true → Excuses excused later → Requested h offered (record { issued = record { clock = clock; command = Mrw write }; id = None } ∷ log) queue later
after_write_lem h offered log queue excused later clock write k shut more = after_closed h offered log queue excused later clock (Mrw write) k refl shut (λ b low e. inl (more b low e))

pub spared_missed : (h : Header) (offered : List Request) (log : List Step) (queue : List Waiting) (excused : ℕ → Bool) (b : ℕ) → Requested h offered log queue excused → b < 32 → oldest (hits b (open_at b (places log))) queue ≡ None → owed b (places log) ≡ false
spared_missed h offered log queue excused b k low none = missed_not_owed queue (places log) b low k.promised none

pub spared_closed : (h : Header) (offered : List Request) (log : List Step) (queue : List Waiting) (excused : ℕ → Bool) (b : ℕ) → Requested h offered log queue excused → b < 32 → open_at b (places log) ≡ None → owed b (places log) ≡ false
spared_closed h offered log queue excused b k low closed = closed_not_owed queue (places log) b low k.promised closed

pub serves_its_line_lem : (h : Header) (offered : List Request) (log : List Step) (b : ℕ) (open_row : Option ℕ) (w : Waiting) → oldest (hits b open_row) (waiting h offered log) ≡ Some w → oldest (is_of_line w.request.line) (waiting h offered log) ≡ Some w
serves_its_line_lem h offered log b open_row w e = its_line (shape_of h) (waiting h offered log) b open_row w (placed-waiting h offered log) e

-- ---- What follows

pub queued_lem : (h : Header) (offered : List Request) (log : List Step) (queue : List Waiting) (excused : ℕ → Bool) (at : ℕ) (w : Waiting) → Requested h offered log queue excused → slice_get queue at ≡ Some w → IsQueued h offered log w
queued_lem h offered log queue excused at w k e = waits_lem h offered log at w k.groups k.inside (subst (λ (ws : List Waiting). slice_get ws at ≡ Some w) k.waits e)

pub serves_lem : (h : Header) (offered : List Request) (log : List Step) (queue : List Waiting) (excused : ℕ → Bool) (kind : Kind) (bank : Bank) (column : ℕ) (id : Option ℕ) → Requested h offered log queue excused → IsBank bank → IsOldestHit queue (bank_number bank) (open_at (bank_number bank) (places log)) kind column id → Serves h offered log kind bank column id
serves_lem h offered log queue excused kind bank column id k range hit =
    let test = hits (bank_number bank) (open_at (bank_number bank) (places log)) in
    let o : oldest test (waiting h offered log) ≡ Some hit.request = subst (λ (ws : List Waiting). oldest test ws ≡ Some hit.request) k.waits hit.oldest_hit in
    let s = oldest-stands test (waiting h offered log) hit.request o in
    serves_at h offered log s.index hit.request kind bank column id k.groups k.inside k.in_order range s.here o hit.kind_is hit.column_is hit.number

pub activations_lem : (h : Header) (offered : List Request) (log : List Step) (queue : List Waiting) (excused : ℕ → Bool) → Requested h offered log queue excused → commands is_act (places log) ≤ length offered
activations_lem h offered log queue excused k =
    let few = owed_few queue (places log) k.promised in
    let r = k.repaid in
    let c = k.counted in
    omega (arith, few, r, c)
