-- Which words of requests write.
use Rattle.std.specs.Prelude.{ℕ, Bool, true, false, if◌then◌else◌, List, Option, Some, None, codes}
use Rattle.std.specs.Str.{bytes_eq}

-- of Ramulator 2's places
unfoldable pub reads_or_writes : List ℕ → Option Bool
reads_or_writes word =
    if bytes_eq word (codes "R") then Some false else (
    if bytes_eq word (codes "W") then Some true else (
    None))

-- of Ramulator 2's byte addresses
unfoldable pub loads_or_stores : List ℕ → Option Bool
loads_or_stores word =
    if bytes_eq word (codes "LD") then Some false else (
    if bytes_eq word (codes "ST") then Some true else (
    None))

-- of DRAMsim3
unfoldable pub transacts : List ℕ → Option Bool
transacts word =
    if bytes_eq word (codes "WRITE") then Some true else (
    if bytes_eq word (codes "write") then Some true else (
    if bytes_eq word (codes "P_MEM_WR") then Some true else (
    if bytes_eq word (codes "BOFF") then Some true else (
    if bytes_eq word (codes "READ") then Some false else (
    if bytes_eq word (codes "read") then Some false else (
    if bytes_eq word (codes "P_MEM_RD") then Some false else (
    if bytes_eq word (codes "P_FETCH") then Some false else (
    None))))))))
