-- The keys of a header, and what may stand at each.
use Rattle.std.specs.Prelude.{ℕ, Bool, true, false, ◌&&◌, ◌||◌, nat_le, List, [], ◌∷◌, codes, ℤ, pos, negsuc, Option, None, Some, is_some, if◌then◌else◌}
use Rattle.std.specs.List.{list_all}
use Rattle.std.specs.Str.{bytes_eq}
use Rattle.toml.specs.Data.{Data, Members, no_members, member, get_member, as_str, as_integer, as_table}
use Rattle.speed_bin.specs.declared.keys.Bounds.{Bounds}

-- each member passes a test of its key and its value
abbrev pub all_members : (List ℕ → Data → Bool) → Members → Bool
all_members test no_members = true
all_members test (member key value members) = test key value && all_members test members

abbrev pub is_within : Bounds → ℤ → Bool
is_within bounds (pos n) = nat_le bounds.least n && nat_le n bounds.greatest
is_within bounds (negsuc n) = false

-- a whole number within the bounds
abbrev pub is_bounded : Bounds → Option ℤ → Bool
is_bounded bounds (Some number) = is_within bounds number
is_bounded bounds None = false

-- ---- The keys of `timing`

abbrev pub is_latency_key : List ℕ → Bool
is_latency_key key = bytes_eq key (codes "nCL") || (bytes_eq key (codes "nCWL") || (bytes_eq key (codes "nRCD") || (bytes_eq key (codes "nRP") || (bytes_eq key (codes "nRAS") || bytes_eq key (codes "nRC")))))

abbrev pub is_spacing_key : List ℕ → Bool
is_spacing_key key = bytes_eq key (codes "nRRD_S") || (bytes_eq key (codes "nRRD_L") || (bytes_eq key (codes "nFAW") || (bytes_eq key (codes "nCCD_S") || (bytes_eq key (codes "nCCD_L") || bytes_eq key (codes "nCCD_L_WR")))))

abbrev pub is_turnaround_key : List ℕ → Bool
is_turnaround_key key = bytes_eq key (codes "nWTR_S") || (bytes_eq key (codes "nWTR_L") || (bytes_eq key (codes "nRTP") || bytes_eq key (codes "nWR")))

abbrev pub is_upkeep_key : List ℕ → Bool
is_upkeep_key key = bytes_eq key (codes "nRFC") || (bytes_eq key (codes "nRFCsb") || (bytes_eq key (codes "nRFM") || (bytes_eq key (codes "nRFMsb") || (bytes_eq key (codes "nREFI") || (bytes_eq key (codes "nABO") || (bytes_eq key (codes "nMRD") || bytes_eq key (codes "nECS")))))))

-- the names of the timing numbers
unfoldable pub is_timing_key : List ℕ → Bool
is_timing_key key = is_latency_key key || (is_spacing_key key || (is_turnaround_key key || is_upkeep_key key))

-- a timing number has 1 to 65,535 clocks
abbrev pub clocks : Bounds
clocks = record { least = 1; greatest = 65535 }

abbrev pub is_clocks : Data → Bool
is_clocks value = is_bounded clocks (as_integer value)

-- ---- The keys of the header

-- the keys of whole numbers, with their bounds
abbrev pub bounds_of : List ℕ → Option Bounds
bounds_of key =
    if bytes_eq key (codes "format") then Some (record { least = 1; greatest = 1 })
    else (if bytes_eq key (codes "rows") then Some (record { least = 1; greatest = 65536 })
    else (if bytes_eq key (codes "ath") then Some (record { least = 1; greatest = 1023 })
    else (if bytes_eq key (codes "eth") then Some (record { least = 1; greatest = 1023 })
    else (if bytes_eq key (codes "raaimt") then Some (record { least = 1; greatest = 255 })
    else (if bytes_eq key (codes "raammt") then Some (record { least = 1; greatest = 1023 })
    else (if bytes_eq key (codes "ecs_every") then Some (record { least = 0; greatest = 255 })
    else None))))))

abbrev pub is_bin : List ℕ → Bool
is_bin key = bytes_eq key (codes "bin")

abbrev pub is_refresh : List ℕ → Bool
is_refresh key = bytes_eq key (codes "refresh")

abbrev pub is_timing : List ℕ → Bool
is_timing key = bytes_eq key (codes "timing")

-- the name of a refresh mode
abbrev pub is_mode : Option (List ℕ) → Bool
is_mode (Some name) = bytes_eq name (codes "all") || bytes_eq name (codes "same")
is_mode None = false

abbrev pub is_some_bounded : Option Bounds → Option ℤ → Bool
is_some_bounded (Some bounds) number = is_bounded bounds number
is_some_bounded None number = false

-- The members of `timing`, where it is a table: their keys are those of timing numbers, and their values whole numbers
-- within the bounds of clocks. Where it is none, it has no keys, and another kind.
abbrev pub has_timing_keys : Option Members → Bool
has_timing_keys (Some given) = all_members (λ key value. is_timing_key key) given
has_timing_keys None = true

abbrev pub has_timing_kinds : Option Members → Bool
has_timing_kinds (Some given) = all_members (λ key value. is_some (as_integer value)) given
has_timing_kinds None = false

abbrev pub has_timing_clocks : Option Members → Bool
has_timing_clocks (Some given) = all_members (λ key value. is_clocks value) given
has_timing_clocks None = false

-- the key is one of a header; in `timing` it is one of a timing number
unfoldable pub key_fits : List ℕ → Data → Bool
key_fits key value = if is_timing key then has_timing_keys (as_table value) else (is_bin key || (is_refresh key || is_some (bounds_of key)))

-- `bin` and `refresh` are texts, `timing` is a table of whole numbers, and the others are whole numbers
unfoldable pub kind_fits : List ℕ → Data → Bool
kind_fits key value = if is_timing key then has_timing_kinds (as_table value)
    else (if (is_bin key || is_refresh key) then is_some (as_str value) else is_some (as_integer value))

-- each number is within its bounds, and `refresh` is `all` or `same`
unfoldable pub range_fits : List ℕ → Data → Bool
range_fits key value = if is_timing key then has_timing_clocks (as_table value)
    else (if is_bin key then true
    else (if is_refresh key then is_mode (as_str value) else is_some_bounded (bounds_of key) (as_integer value)))

-- every key but `timing` is required
abbrev pub required : List (List ℕ)
required = codes "format" ∷ codes "bin" ∷ codes "rows" ∷ codes "ath" ∷ codes "eth" ∷ codes "raaimt" ∷ codes "raammt" ∷ codes "refresh" ∷ codes "ecs_every" ∷ []

unfoldable pub has_required : Members → Bool
has_required members = list_all (λ key. is_some (get_member key members)) required
