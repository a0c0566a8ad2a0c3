-- Calls that are counted, some of which fail.
use Rattle.std.specs.Prelude.{ℕ, ◌+◌, ◌-◌, ◌^◌, ◌==◌, Bool, List, min, cond}
use Rattle.std.specs.List.{list_any}
use Rattle.ddr_io.specs.Faults.{one_more_fault}

-- the numbers of the calls that fail, how many calls were made, and how many of them failed
pub record Calling : Type 0 where
  pub fails : List ℕ
  pub made : ℕ
  pub faults : ℕ

-- the number of the next call, from 1; it stays at the counter's last value
abbrev pub next_number : Calling → ℕ
next_number calls = min (calls.made + 1) (2 ^ 64 - 1)

-- the next call fails: its number is listed
abbrev pub next_fails : Calling → Bool
next_fails calls = list_any (λ number. number == next_number calls) calls.fails

-- after one more call
abbrev pub one_more_call : Calling → Calling
one_more_call calls = record {
  fails = calls.fails;
  made = next_number calls;
  faults = cond (next_fails calls) (one_more_fault calls.faults) calls.faults;
}
