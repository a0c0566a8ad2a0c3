-- Scripts that tests play are legal, and what playing one line takes.
use Rattle.std.proofs.Common.{◌≡◌, ◌∙◌, ◌<◌, ℕ, zero, suc, ◌+◌, Bool, true, false, cond, Option, Some, None, is_some, List, [], ◌∷◌, length, drop, get_or, Result, Ok, Err, IfOk, is_none, nat_lt, refl, sym, ap, subst, arith, leb-true, ltb-true, inl, inr}
use Rattle.command_words.specs.Command.{IsInRange}
use Rattle.command_words.specs.Decode.{decode_of, named_in}
use Rattle.command_words.specs.Words.{Spells}
use Rattle.command_words.specs.declared.command.Command.{Command}
use Rattle.command_words.specs.declared.words.Words.{Words}
use Rattle.command_words.specs.declared.words.WordFault.{WordFault}
use Rattle.speed_bin.specs.declared.header.Header.{Header}
use Rattle.speed_bin.specs.declared.settings.RefreshMode.TheVariants.{All}
use Rattle.speed_bin.specs.Below.{all_below, any_below}
use Rattle.speed_bin.specs.Gap.{n_tail, n_max, n_close, n_col}
use Rattle.speed_bin.specs.Header.{IsAccepted, spare}
use Rattle.speed_bin.specs.Version.{plain}
use Rattle.command_words.specs.Kinds.{is_wr}
use Rattle.speed_bin.specs.Timing.{IsTiming, tiny}
use Rattle.speed_bin.proofs.SpareIsNeeded.{tiny_timing}
use Rattle.speed_bin.proofs.Tests.{both, none_from_test}
use Rattle.device_core.specs.Steps.{Step, Flips}
use Rattle.device_core.specs.Standing.{IsBit, MayFollow, with_command}
use Rattle.device_core.specs.Scripts.{Script, bytes_for, followed, played, may_follow, is_legal, first_place}

-- ---- One line

pub drop_at : {A : Type 0} (xs : List A) (k : ℕ) (d : A) → k < length xs → drop k xs ≡ get_or xs k d ∷ drop (k + 1) xs
drop_at [] k d low = absurd (omega arith)
drop_at (x ∷ xs) zero d low = refl
drop_at (x ∷ xs) (suc k) d low = let e : suc k + 1 ≡ suc (k + 1) = omega arith in rw e (drop_at xs k d (omega arith))

has_bytes : (command : Command) (bytes : List ℕ) → is_some (bytes_for command bytes) ≡ is_wr command
has_bytes command bytes = go (is_wr command)
  where
    go : (t : Bool) → is_some (cond t (Some bytes) None) ≡ t
    go true = refl
    go false = refl

is_unbroken : (o : Option ℕ) → is_none o ≡ true → o ≡ None
is_unbroken o e = none_from_test o e

-- words that a test of the script passes may follow
pub passed : (h : Header) (clock : ℕ) (words : Words) (bytes : List ℕ) (given : Option (List ℕ)) (now : List Step)
    → IfOk (decode_of words) (λ command. Spells command words) → IfOk (decode_of words) IsInRange
    → ((command : Command) → decode_of words ≡ Ok command → given ≡ bytes_for command bytes)
    → may_follow h clock (decode_of words) now ≡ true
    → (command : Command) × (decode_of words ≡ Ok command) × MayFollow h clock command words given now
passed h clock words bytes given now spelled inside has legal = go (decode_of words) refl spelled inside legal
  where
    go : (r : Result Command WordFault) → decode_of words ≡ r → IfOk r (λ command. Spells command words) → IfOk r IsInRange → may_follow h clock r now ≡ true → (command : Command) × (decode_of words ≡ Ok command) × MayFollow h clock command words given now
    go (Err fault) e s i l = absurd (cc)
    go (Ok command) e s i l =
        let early = both _ _ l in
        let rest = both _ _ early.1 in (
          command,
          e,
          record {
            spelled = s;
            given = record {
              legal = record {
                in_time = ltb-true _ _ early.0;
                in_range = i;
                row = rest.0;
                rules = is_unbroken _ rest.1;
              };
              with_bytes = ap (λ (o : Option (List ℕ)). is_some o) (has command e) ∙ has_bytes command bytes;
            };
          },
        )

-- the line with this number
abbrev pub line_at : Script → ℕ → ℕ × ℕ × Option ℕ × Bool
line_at script k = get_or script k (0, 0, None, false)

abbrev pub words_at : Script → ℕ → Words
words_at script k = record { first = (line_at script k).1; second = (line_at script k).2 }

-- the line of a legal script may follow, and the rest is legal after it and ends where the whole does
pub record Follows (h : Header) (script : Script) (k : ℕ) (bytes : List ℕ) (given : Option (List ℕ)) (now last : List Step) : Type 0 where
  pub command : Command
  pub follows : MayFollow h (line_at script k).0 command (words_at script k) given now
  pub legal : is_legal h bytes (drop (k + 1) script) (with_command (line_at script k).0 command given now) ≡ true
  pub ends : played bytes (drop (k + 1) script) (with_command (line_at script k).0 command given now) ≡ last

pub one_line : (h : Header) (script : Script) (k : ℕ) (bytes : List ℕ) (given : Option (List ℕ)) (now last : List Step) → k < length script
    → IfOk (decode_of (words_at script k)) (λ command. Spells command (words_at script k)) → IfOk (decode_of (words_at script k)) IsInRange
    → ((command : Command) → decode_of (words_at script k) ≡ Ok command → given ≡ bytes_for command bytes)
    → is_legal h bytes (drop k script) now ≡ true → played bytes (drop k script) now ≡ last
    → Follows h script k bytes given now last
one_line h script k bytes given now last low spelled inside has legal ends =
    let here : drop k script ≡ line_at script k ∷ drop (k + 1) script = drop_at script k (0, 0, None, false) low in
    let legal_here : is_legal h bytes (line_at script k ∷ drop (k + 1) script) now ≡ true = subst (λ (s : Script). is_legal h bytes s now ≡ true) here legal in
    let ends_here : played bytes (line_at script k ∷ drop (k + 1) script) now ≡ last = subst (λ (s : Script). played bytes s now ≡ last) here ends in
    let tests = both (may_follow h (line_at script k).0 (decode_of (words_at script k)) now) (is_legal h bytes (drop (k + 1) script) (followed (line_at script k).0 (decode_of (words_at script k)) bytes now)) legal_here in
    let p = passed h (line_at script k).0 (words_at script k) bytes given now spelled inside has tests.0 in
    let after : followed (line_at script k).0 (decode_of (words_at script k)) bytes now ≡ with_command (line_at script k).0 p.0 given now =
    ap (λ (r : Result Command WordFault). followed (line_at script k).0 r bytes now) p.1 ∙ ap (λ (o : Option (List ℕ)). with_command (line_at script k).0 p.0 o now) (sym (has p.0 p.1)) in
    record {
      command = p.0;
      follows = p.2;
      legal = subst (λ (s : List Step). is_legal h bytes (drop (k + 1) script) s ≡ true) after tests.1;
      ends = subst (λ (s : List Step). played bytes (drop (k + 1) script) s ≡ last) after ends_here;
    }

-- ---- Headers of the bin `tiny`

abbrev pub small : ℕ → ℕ → ℕ → ℕ → ℕ → Header
small rows eth raaimt raammt ecs_every = record {
  timing = tiny;
  settings = record {
    rows = rows;
    ath = 5;
    eth = eth;
    raaimt = raaimt;
    raammt = raammt;
    refresh = All;
    ecs_every = ecs_every;
  };
  version = plain;
}

pub sixteen_rows_accepted : IsAccepted (small 16 3 8 16 0)
unfolding all_below any_below n_tail n_max n_close n_col spare
sixteen_rows_accepted = record {
  timing = tiny_timing;
  settings = record {
    rows = (leb-true _ _ refl, leb-true _ _ refl);
    ath = (leb-true _ _ refl, leb-true _ _ refl);
    eth = (leb-true _ _ refl, leb-true _ _ refl);
    raaimt = (leb-true _ _ refl, leb-true _ _ refl);
    raammt = (leb-true _ _ refl, leb-true _ _ refl);
    ecs_every = leb-true _ _ refl;
  };
  version = (leb-true _ _ refl, leb-true _ _ refl, inr refl);
  checks = record {
    precharge_within_cycle = leb-true _ _ refl;
    window = ltb-true _ _ refl;
    thresholds = (leb-true _ _ refl, leb-true _ _ refl);
    management = (leb-true _ _ refl, leb-true _ _ refl);
    closing_within_two = leb-true _ _ refl;
    round_within_half = leb-true _ _ refl;
    latencies = refl;
    bursts = (leb-true _ _ refl, leb-true _ _ refl, leb-true _ _ refl);
  };
}

pub scrubbed_accepted : IsAccepted (small 16 3 8 16 1)
unfolding all_below any_below n_tail n_max n_close n_col spare
scrubbed_accepted = record {
  timing = tiny_timing;
  settings = record {
    rows = (leb-true _ _ refl, leb-true _ _ refl);
    ath = (leb-true _ _ refl, leb-true _ _ refl);
    eth = (leb-true _ _ refl, leb-true _ _ refl);
    raaimt = (leb-true _ _ refl, leb-true _ _ refl);
    raammt = (leb-true _ _ refl, leb-true _ _ refl);
    ecs_every = leb-true _ _ refl;
  };
  version = (leb-true _ _ refl, leb-true _ _ refl, inr refl);
  checks = record {
    precharge_within_cycle = leb-true _ _ refl;
    window = ltb-true _ _ refl;
    thresholds = (leb-true _ _ refl, leb-true _ _ refl);
    management = (leb-true _ _ refl, leb-true _ _ refl);
    closing_within_two = leb-true _ _ refl;
    round_within_half = leb-true _ _ refl;
    latencies = refl;
    bursts = (leb-true _ _ refl, leb-true _ _ refl, leb-true _ _ refl);
  };
}

pub two_rows_accepted : IsAccepted (small 2 5 32 64 0)
unfolding all_below any_below n_tail n_max n_close n_col spare
two_rows_accepted = record {
  timing = tiny_timing;
  settings = record {
    rows = (leb-true _ _ refl, leb-true _ _ refl);
    ath = (leb-true _ _ refl, leb-true _ _ refl);
    eth = (leb-true _ _ refl, leb-true _ _ refl);
    raaimt = (leb-true _ _ refl, leb-true _ _ refl);
    raammt = (leb-true _ _ refl, leb-true _ _ refl);
    ecs_every = leb-true _ _ refl;
  };
  version = (leb-true _ _ refl, leb-true _ _ refl, inr refl);
  checks = record {
    precharge_within_cycle = leb-true _ _ refl;
    window = ltb-true _ _ refl;
    thresholds = (leb-true _ _ refl, leb-true _ _ refl);
    management = (leb-true _ _ refl, leb-true _ _ refl);
    closing_within_two = leb-true _ _ refl;
    round_within_half = leb-true _ _ refl;
    latencies = refl;
    bursts = (leb-true _ _ refl, leb-true _ _ refl, leb-true _ _ refl);
  };
}

-- the one row of a bank of four groups, with an alert window for two activations
abbrev pub two_per_cycle : Header
two_per_cycle = record {
  timing = record tiny { nabo = 13 };
  settings = record {
    rows = 1;
    ath = 3;
    eth = 3;
    raaimt = 8;
    raammt = 16;
    refresh = All;
    ecs_every = 0;
  };
  version = record { cycle = 2; groups = 4 };
}

short_window : IsTiming two_per_cycle.timing
short_window = record {
  ncl = tiny_timing.ncl;
  ncwl = tiny_timing.ncwl;
  nrcd = tiny_timing.nrcd;
  nrp = tiny_timing.nrp;
  nras = tiny_timing.nras;
  nrc = tiny_timing.nrc;
  nrrd_s = tiny_timing.nrrd_s;
  nrrd_l = tiny_timing.nrrd_l;
  nfaw = tiny_timing.nfaw;
  nccd_s = tiny_timing.nccd_s;
  nccd_l = tiny_timing.nccd_l;
  nccd_l_wr = tiny_timing.nccd_l_wr;
  nwtr_s = tiny_timing.nwtr_s;
  nwtr_l = tiny_timing.nwtr_l;
  nrtp = tiny_timing.nrtp;
  nwr = tiny_timing.nwr;
  nrfc = tiny_timing.nrfc;
  nrfcsb = tiny_timing.nrfcsb;
  nrfm = tiny_timing.nrfm;
  nrfmsb = tiny_timing.nrfmsb;
  nrefi = tiny_timing.nrefi;
  nabo = (leb-true _ _ refl, leb-true _ _ refl);
  nmrd = tiny_timing.nmrd;
  necs = tiny_timing.necs;
}

pub two_per_cycle_accepted : IsAccepted two_per_cycle
unfolding all_below any_below n_tail n_max n_close n_col spare
two_per_cycle_accepted = record {
  timing = short_window;
  settings = record {
    rows = (leb-true _ _ refl, leb-true _ _ refl);
    ath = (leb-true _ _ refl, leb-true _ _ refl);
    eth = (leb-true _ _ refl, leb-true _ _ refl);
    raaimt = (leb-true _ _ refl, leb-true _ _ refl);
    raammt = (leb-true _ _ refl, leb-true _ _ refl);
    ecs_every = leb-true _ _ refl;
  };
  version = (leb-true _ _ refl, leb-true _ _ refl, inl refl);
  checks = record {
    precharge_within_cycle = leb-true _ _ refl;
    window = ltb-true _ _ refl;
    thresholds = (leb-true _ _ refl, leb-true _ _ refl);
    management = (leb-true _ _ refl, leb-true _ _ refl);
    closing_within_two = leb-true _ _ refl;
    round_within_half = leb-true _ _ refl;
    latencies = refl;
    bursts = (leb-true _ _ refl, leb-true _ _ refl, leb-true _ _ refl);
  };
}

-- ---- Scripts

-- the register writes of sixteen rows, an ACT of row 0 and a WR of its column 0
abbrev pub up_to_write : Script
up_to_write =
    (0, 0x0805, Some 0x000f, false)
    ∷ (4, 0x0825, Some 0x0000, false)
    ∷ (8, 0x0845, Some 0x0005, false)
    ∷ (12, 0x0865, Some 0x0003, false)
    ∷ (16, 0x0885, Some 0x0000, false)
    ∷ (20, 0x08a5, Some 0x0008, false)
    ∷ (24, 0x08c5, Some 0x0010, false)
    ∷ (28, 0x08e5, Some 0x0000, false)
    ∷ (32, 0x0000, Some 0x0000, false)
    ∷ (35, 0x002d, Some 0x0c00, false)
    ∷ []

-- the same where an ECS stands behind each refresh
abbrev pub up_to_write_with_scrub : Script
up_to_write_with_scrub =
    (0, 0x0805, Some 0x000f, false)
    ∷ (4, 0x0825, Some 0x0000, false)
    ∷ (8, 0x0845, Some 0x0005, false)
    ∷ (12, 0x0865, Some 0x0003, false)
    ∷ (16, 0x0885, Some 0x0000, false)
    ∷ (20, 0x08a5, Some 0x0008, false)
    ∷ (24, 0x08c5, Some 0x0010, false)
    ∷ (28, 0x08e5, Some 0x0001, false)
    ∷ (32, 0x0000, Some 0x0000, false)
    ∷ (35, 0x002d, Some 0x0c00, false)
    ∷ []

-- a RD of that column, and a precharge
abbrev pub read_back : Script
read_back =
    (51, 0x003d, Some 0x0400, false)
    ∷ (54, 0x000b, None, false)
    ∷ []

-- a refresh of all banks
abbrev pub refreshed : Script
refreshed =
    (2000, 0x000b, None, false)
    ∷ (2004, 0x0213, None, false)
    ∷ []

-- a refresh, and a scrub of line 0
abbrev pub scrubbed : Script
scrubbed =
    (2000, 0x000b, None, false)
    ∷ (2004, 0x0213, None, false)
    ∷ (2024, 0x018f, None, false)
    ∷ []

-- the row again, a RD and a precharge
abbrev pub read_later : Script
read_later =
    (2536, 0x0000, Some 0x0000, false)
    ∷ (2539, 0x003d, Some 0x0400, false)
    ∷ (2542, 0x000b, None, false)
    ∷ []

-- two rows in turn: the alert is raised, one row is mitigated, and the other raises it again
abbrev pub raised_twice : Script
raised_twice =
    (0, 0x0805, Some 0x0001, false)
    ∷ (4, 0x0825, Some 0x0000, false)
    ∷ (8, 0x0845, Some 0x0005, false)
    ∷ (12, 0x0865, Some 0x0005, false)
    ∷ (16, 0x0885, Some 0x0000, false)
    ∷ (20, 0x08a5, Some 0x0020, false)
    ∷ (24, 0x08c5, Some 0x0040, false)
    ∷ (28, 0x08e5, Some 0x0000, false)
    ∷ (32, 0x0000, Some 0x0000, false)
    ∷ (38, 0x001b, None, false)
    ∷ (42, 0x0000, Some 0x0000, false)
    ∷ (48, 0x001b, None, false)
    ∷ (52, 0x0000, Some 0x0000, false)
    ∷ (58, 0x001b, None, false)
    ∷ (62, 0x0000, Some 0x0000, false)
    ∷ (68, 0x001b, None, false)
    ∷ (72, 0x0004, Some 0x0000, false)
    ∷ (78, 0x001b, None, false)
    ∷ (82, 0x0004, Some 0x0000, false)
    ∷ (88, 0x001b, None, false)
    ∷ (92, 0x0004, Some 0x0000, false)
    ∷ (98, 0x001b, None, false)
    ∷ (102, 0x0004, Some 0x0000, false)
    ∷ (108, 0x001b, None, false)
    ∷ (112, 0x0000, Some 0x0000, false)
    ∷ (118, 0x001b, None, true)
    ∷ (122, 0x0004, Some 0x0000, true)
    ∷ (128, 0x001b, None, true)
    ∷ (132, 0x0004, Some 0x0000, true)
    ∷ (138, 0x001b, None, true)
    ∷ (142, 0x0000, Some 0x0000, true)
    ∷ (148, 0x001b, None, true)
    ∷ (152, 0x0013, None, false)
    ∷ (176, 0x0000, Some 0x0000, false)
    ∷ (182, 0x001b, None, true)
    ∷ (186, 0x0000, Some 0x0000, true)
    ∷ (192, 0x001b, None, true)
    ∷ (196, 0x0000, Some 0x0000, true)
    ∷ (202, 0x001b, None, true)
    ∷ (206, 0x0000, Some 0x0000, true)
    ∷ (212, 0x001b, None, true)
    ∷ (216, 0x0013, None, false)
    ∷ []

-- the row is closed three times, and the alert is raised; it is closed once more, and mitigated
abbrev pub four_closings : Script
four_closings =
    (0, 0x0805, Some 0x0000, false)
    ∷ (4, 0x0825, Some 0x0000, false)
    ∷ (8, 0x0845, Some 0x0003, false)
    ∷ (12, 0x0865, Some 0x0003, false)
    ∷ (16, 0x0885, Some 0x0000, false)
    ∷ (20, 0x08a5, Some 0x0008, false)
    ∷ (24, 0x08c5, Some 0x0010, false)
    ∷ (28, 0x08e5, Some 0x0000, false)
    ∷ (32, 0x03c0, Some 0x0000, false)
    ∷ (38, 0x03db, None, false)
    ∷ (42, 0x03c0, Some 0x0000, false)
    ∷ (48, 0x03db, None, false)
    ∷ (52, 0x03c0, Some 0x0000, false)
    ∷ (58, 0x03db, None, true)
    ∷ (62, 0x03c0, Some 0x0000, true)
    ∷ (68, 0x03db, None, true)
    ∷ (72, 0x0013, None, false)
    ∷ []

pub write_is_legal : (bytes : List ℕ) → is_legal (small 16 3 8 16 0) bytes up_to_write [] ≡ true
unfolding all_below any_below n_tail n_max n_close n_col named_in
write_is_legal bytes = refl

pub read_is_legal : (bytes : List ℕ) → is_legal (small 16 3 8 16 0) bytes read_back (played bytes up_to_write []) ≡ true
unfolding all_below any_below n_tail n_max n_close n_col named_in
read_is_legal bytes = refl

pub read_of_four_is_legal : (bytes : List ℕ) → is_legal (small 16 3 8 16 0) bytes read_back (Flips first_place 3 135 ∷ (Flips first_place 2 127 ∷ (Flips first_place 1 63 ∷ (Flips first_place 0 0 ∷ (played bytes up_to_write []))))) ≡ true
unfolding all_below any_below n_tail n_max n_close n_col named_in
read_of_four_is_legal bytes = refl

pub write_with_scrub_is_legal : (bytes : List ℕ) → is_legal (small 16 3 8 16 1) bytes up_to_write_with_scrub [] ≡ true
unfolding all_below any_below n_tail n_max n_close n_col named_in
write_with_scrub_is_legal bytes = refl

pub scrub_is_legal : (bytes : List ℕ) → is_legal (small 16 3 8 16 1) bytes scrubbed (Flips first_place 0 2 ∷ (played bytes up_to_write_with_scrub [])) ≡ true
unfolding all_below any_below n_tail n_max n_close n_col named_in
scrub_is_legal bytes = refl

pub read_after_scrub_is_legal : (bytes : List ℕ) → is_legal (small 16 3 8 16 1) bytes read_later (Flips first_place 0 4 ∷ (played bytes scrubbed (Flips first_place 0 2 ∷ (played bytes up_to_write_with_scrub [])))) ≡ true
unfolding all_below any_below n_tail n_max n_close n_col named_in
read_after_scrub_is_legal bytes = refl

pub refresh_of_two_flips_is_legal : (bytes : List ℕ) → is_legal (small 16 3 8 16 0) bytes refreshed (Flips first_place 0 2 ∷ (played bytes up_to_write [])) ≡ true
unfolding all_below any_below n_tail n_max n_close n_col named_in
refresh_of_two_flips_is_legal bytes = refl

pub read_of_two_flips_is_legal : (bytes : List ℕ) → is_legal (small 16 3 8 16 0) bytes read_later (Flips first_place 0 4 ∷ (played bytes refreshed (Flips first_place 0 2 ∷ (played bytes up_to_write [])))) ≡ true
unfolding all_below any_below n_tail n_max n_close n_col named_in
read_of_two_flips_is_legal bytes = refl

pub refresh_of_lost_is_legal : (bytes : List ℕ) → is_legal (small 16 3 8 16 0) bytes refreshed (Flips first_place 0 15 ∷ (played bytes up_to_write [])) ≡ true
unfolding all_below any_below n_tail n_max n_close n_col named_in
refresh_of_lost_is_legal bytes = refl

pub read_of_lost_is_legal : (bytes : List ℕ) → is_legal (small 16 3 8 16 0) bytes read_later (Flips first_place 0 127 ∷ (played bytes refreshed (Flips first_place 0 15 ∷ (played bytes up_to_write [])))) ≡ true
unfolding all_below any_below n_tail n_max n_close n_col named_in
read_of_lost_is_legal bytes = refl

pub raised_twice_is_legal : (bytes : List ℕ) → is_legal (small 2 5 32 64 0) bytes raised_twice [] ≡ true
unfolding all_below any_below n_tail n_max n_close n_col named_in
raised_twice_is_legal bytes = refl

pub four_closings_are_legal : (bytes : List ℕ) → is_legal two_per_cycle bytes four_closings [] ≡ true
unfolding all_below any_below n_tail n_max n_close n_col named_in
four_closings_are_legal bytes = refl

-- ---- Bits of line 0

pub is_bit : (h : Header) (of bit : ℕ) → nat_lt 0 h.settings.rows ≡ true → nat_lt 0 h.version.groups ≡ true → nat_lt of 4 ≡ true → nat_lt bit 136 ≡ true → IsBit h first_place of bit
is_bit h of bit rows some four word = record {
  inside = record { row = ltb-true _ _ rows; group = ltb-true _ _ some };
  of_four = ltb-true _ _ four;
  in_word = ltb-true _ _ word;
}
