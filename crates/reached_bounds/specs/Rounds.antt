-- The rounds of each worked log: of each round the rows that are opened and closed in turn. The first round begins by
-- lifting each row to ATH - 1, which raises no alert. From then on a round has as many turns as the cycle has
-- activations, and the RFMab behind it takes the row with the greatest counter, and of two such rows the one that was
-- closed longer ago.
use Rattle.std.specs.Prelude.{ℕ, zero, suc, List, [], ◌∷◌, ◌++◌, replicate}

-- so many turns of each of so many rows, the last row first
abbrev pub each_row : ℕ → ℕ → List ℕ
each_row times zero = []
each_row times (suc rows) = replicate times rows ++ each_row times rows

-- ---- Two activations in a cycle

abbrev pub one_row_by_two : List (List ℕ)
one_row_by_two =
    (each_row 2 1 ++ 0 ∷ 0 ∷ [])
    ∷ []

abbrev pub two_rows_by_two : List (List ℕ)
two_rows_by_two =
    (each_row 2 2 ++ 1 ∷ 0 ∷ [])
    ∷ (0 ∷ 0 ∷ [])
    ∷ []

abbrev pub four_rows_by_two : List (List ℕ)
four_rows_by_two =
    (each_row 2 4 ++ 3 ∷ 2 ∷ [])
    ∷ (1 ∷ 0 ∷ [])
    ∷ (1 ∷ 0 ∷ [])
    ∷ (0 ∷ 0 ∷ [])
    ∷ []

abbrev pub eight_rows_by_two : List (List ℕ)
eight_rows_by_two =
    (each_row 2 8 ++ 7 ∷ 6 ∷ [])
    ∷ (5 ∷ 4 ∷ [])
    ∷ (3 ∷ 2 ∷ [])
    ∷ (1 ∷ 0 ∷ [])
    ∷ (3 ∷ 2 ∷ [])
    ∷ (1 ∷ 0 ∷ [])
    ∷ (1 ∷ 0 ∷ [])
    ∷ (0 ∷ 0 ∷ [])
    ∷ []

-- ---- Three activations in a cycle

abbrev pub one_row_by_three : List (List ℕ)
one_row_by_three =
    (each_row 3 1 ++ 0 ∷ 0 ∷ 0 ∷ [])
    ∷ []

abbrev pub two_rows_by_three : List (List ℕ)
two_rows_by_three =
    (each_row 3 2 ++ 1 ∷ 1 ∷ 0 ∷ [])
    ∷ (0 ∷ 0 ∷ 0 ∷ [])
    ∷ []

abbrev pub three_rows_by_three : List (List ℕ)
three_rows_by_three =
    (each_row 3 3 ++ 2 ∷ 2 ∷ 1 ∷ [])
    ∷ (1 ∷ 0 ∷ 0 ∷ [])
    ∷ (0 ∷ 0 ∷ 0 ∷ [])
    ∷ []

abbrev pub four_rows_by_three : List (List ℕ)
four_rows_by_three =
    (each_row 3 4 ++ 3 ∷ 2 ∷ 1 ∷ [])
    ∷ (2 ∷ 1 ∷ 0 ∷ [])
    ∷ (1 ∷ 0 ∷ 0 ∷ [])
    ∷ (0 ∷ 0 ∷ 0 ∷ [])
    ∷ []

abbrev pub six_rows_by_three : List (List ℕ)
six_rows_by_three =
    (each_row 3 6 ++ 5 ∷ 4 ∷ 3 ∷ [])
    ∷ (2 ∷ 1 ∷ 0 ∷ [])
    ∷ (3 ∷ 2 ∷ 1 ∷ [])
    ∷ (2 ∷ 1 ∷ 0 ∷ [])
    ∷ (1 ∷ 0 ∷ 0 ∷ [])
    ∷ (0 ∷ 0 ∷ 0 ∷ [])
    ∷ []

-- ---- Four activations in a cycle

abbrev pub one_row_by_four : List (List ℕ)
one_row_by_four =
    (each_row 4 1 ++ 0 ∷ 0 ∷ 0 ∷ 0 ∷ [])
    ∷ []

abbrev pub two_rows_by_four : List (List ℕ)
two_rows_by_four =
    (each_row 4 2 ++ 1 ∷ 1 ∷ 0 ∷ 0 ∷ [])
    ∷ (0 ∷ 0 ∷ 0 ∷ 0 ∷ [])
    ∷ []

abbrev pub three_rows_by_four : List (List ℕ)
three_rows_by_four =
    (each_row 4 3 ++ 2 ∷ 2 ∷ 1 ∷ 0 ∷ [])
    ∷ (1 ∷ 1 ∷ 0 ∷ 0 ∷ [])
    ∷ (0 ∷ 0 ∷ 0 ∷ 0 ∷ [])
    ∷ []

abbrev pub four_rows_by_four : List (List ℕ)
four_rows_by_four =
    (each_row 4 4 ++ 3 ∷ 3 ∷ 2 ∷ 1 ∷ [])
    ∷ (2 ∷ 1 ∷ 0 ∷ 0 ∷ [])
    ∷ (1 ∷ 1 ∷ 0 ∷ 0 ∷ [])
    ∷ (0 ∷ 0 ∷ 0 ∷ 0 ∷ [])
    ∷ []

abbrev pub five_rows_by_four : List (List ℕ)
five_rows_by_four =
    (each_row 4 5 ++ 4 ∷ 3 ∷ 2 ∷ 1 ∷ [])
    ∷ (3 ∷ 2 ∷ 1 ∷ 0 ∷ [])
    ∷ (2 ∷ 1 ∷ 0 ∷ 0 ∷ [])
    ∷ (1 ∷ 1 ∷ 0 ∷ 0 ∷ [])
    ∷ (0 ∷ 0 ∷ 0 ∷ 0 ∷ [])
    ∷ []

abbrev pub seven_rows_by_four : List (List ℕ)
seven_rows_by_four =
    (each_row 4 7 ++ 6 ∷ 5 ∷ 4 ∷ 3 ∷ [])
    ∷ (5 ∷ 4 ∷ 3 ∷ 2 ∷ [])
    ∷ (2 ∷ 1 ∷ 1 ∷ 0 ∷ [])
    ∷ (3 ∷ 2 ∷ 1 ∷ 0 ∷ [])
    ∷ (2 ∷ 1 ∷ 0 ∷ 0 ∷ [])
    ∷ (1 ∷ 1 ∷ 0 ∷ 0 ∷ [])
    ∷ (0 ∷ 0 ∷ 0 ∷ 0 ∷ [])
    ∷ []

-- ---- Five activations in a cycle

abbrev pub one_row_by_five : List (List ℕ)
one_row_by_five =
    (each_row 5 1 ++ 0 ∷ 0 ∷ 0 ∷ 0 ∷ 0 ∷ [])
    ∷ []

abbrev pub three_rows_by_five : List (List ℕ)
three_rows_by_five =
    (each_row 5 3 ++ 2 ∷ 2 ∷ 1 ∷ 1 ∷ 0 ∷ [])
    ∷ (1 ∷ 1 ∷ 0 ∷ 0 ∷ 0 ∷ [])
    ∷ (0 ∷ 0 ∷ 0 ∷ 0 ∷ 0 ∷ [])
    ∷ []
