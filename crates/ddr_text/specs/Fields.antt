-- What the steps of reading answer, without where the fields lie in memory.
use Rattle.std.specs.Prelude.{ℕ, ◌+◌, ◌-◌, ◌*◌, ◌^◌, ◌&&◌, nat_lt, if◌then◌else◌, List, [], Option, Some, None, option_copied, Result, Ok, Err}
use Rattle.std.specs.Borrow.{Bor}
use Rattle.std.specs.Char.{is_ascii_digit}
use Rattle.std.specs.Str.{all_ascii_digits}
use Rattle.std.specs.Str.Parse.{digits_value_after}
use Rattle.ddr_text.specs.declared.lines.LineFault.{LineFault}
use Rattle.ddr_text.specs.Grammar.{fields_of}

-- the fields of what follows a field's space, where there is one
abbrev pub fields_after : Option (List ℕ) → List (List ℕ)
fields_after None = []
fields_after (Some text) = fields_of text

-- the value of decimal digits that follow those of a value, where it is below 2^64
abbrev pub value_from : ℕ → List ℕ → Option ℕ
value_from value digits =
    if all_ascii_digits digits && nat_lt (digits_value_after 10 value digits) (2 ^ 64) then Some (digits_value_after 10 value digits) else None

abbrev pub value_of : List ℕ → Option ℕ
value_of digits = value_from 0 digits

-- a value with one digit more, where it is one and the value stays below 2^64
abbrev pub with_digit : ℕ → ℕ → Option ℕ
with_digit value digit =
    if is_ascii_digit digit && nat_lt (value * 10 + (digit - 48)) (2 ^ 64) then Some (value * 10 + (digit - 48)) else None

abbrev pub seen_one : Result (Bor (List ℕ)) LineFault → Result (List ℕ) LineFault
seen_one (Ok field) = Ok field.now
seen_one (Err fault) = Err fault

abbrev pub seen_two : Result (Bor (List ℕ) × Bor (List ℕ)) LineFault → Result (List ℕ × List ℕ) LineFault
seen_two (Ok fields) = Ok (fields.0.now, fields.1.now)
seen_two (Err fault) = Err fault

abbrev pub seen_three : Result (Bor (List ℕ) × Bor (List ℕ) × Bor (List ℕ)) LineFault → Result (List ℕ × List ℕ × List ℕ) LineFault
seen_three (Ok fields) = Ok (fields.0.now, fields.1.now, fields.2.now)
seen_three (Err fault) = Err fault

abbrev pub seen_four : Result (Bor (List ℕ) × Bor (List ℕ) × Bor (List ℕ) × Bor (List ℕ)) LineFault → Result (List ℕ × List ℕ × List ℕ × List ℕ) LineFault
seen_four (Ok fields) = Ok (fields.0.now, fields.1.now, fields.2.now, fields.3.now)
seen_four (Err fault) = Err fault

abbrev pub seen_optional : Result (Option (Bor (List ℕ))) LineFault → Result (Option (List ℕ)) LineFault
seen_optional (Ok field) = Ok (option_copied field)
seen_optional (Err fault) = Err fault

abbrev pub seen_command : Result (Bor (List ℕ) × Bor (List ℕ) × Option (Bor (List ℕ))) LineFault → Result (List ℕ × List ℕ × Option (List ℕ)) LineFault
seen_command (Ok fields) = Ok (fields.0.now, fields.1.now, option_copied fields.2)
seen_command (Err fault) = Err fault
