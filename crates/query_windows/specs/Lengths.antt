-- The lengths that a window's arguments give.
use Rattle.std.specs.Prelude.{ℕ, Option, Some, None, List, [], ◌∷◌, ℤ}
use Rattle.tick_time.specs.declared.unit.Unit.{Unit}
use Rattle.query_windows.specs.declared.arguments.Argument.{Argument}
use Rattle.query_windows.specs.declared.arguments.Argument.TheVariants as argument
use Rattle.query_windows.specs.declared.lengths.Length.{Length}
use Rattle.query_windows.specs.declared.lengths.Lengths.{Lengths}
use Rattle.query_windows.specs.declared.lengths.SessionLengths.{SessionLengths}

abbrev pub length_of : Unit → ℤ → Length
length_of unit n = record { unit = unit; count = n }

abbrev pub hopping : Length → Length → Option ℕ → Option Lengths
hopping size hop offset = Some (record { size = size; hop = hop; offset = offset })

abbrev pub tumbling : Unit → ℤ → Option ℕ → Option Lengths
tumbling unit n offset = hopping (length_of unit n) (length_of unit n) offset

-- a unit and a number, or a Duration; perhaps an Offset behind it
abbrev pub tumbling_of_one : Argument → Option Lengths
tumbling_of_one (argument.Duration unit n) = tumbling unit n None
tumbling_of_one _ = None

abbrev pub tumbling_of_two : Argument → Argument → Option Lengths
tumbling_of_two (argument.Unit unit) (argument.Count n) = tumbling unit n None
tumbling_of_two (argument.Duration unit n) (argument.Offset at) = tumbling unit n (Some at)
tumbling_of_two _ _ = None

abbrev pub tumbling_of_three : Argument → Argument → Argument → Option Lengths
tumbling_of_three (argument.Unit unit) (argument.Count n) (argument.Offset at) =
    tumbling unit n (Some at)
tumbling_of_three _ _ _ = None

unfoldable pub tumbling_of : List Argument → Option Lengths
tumbling_of (a ∷ []) = tumbling_of_one a
tumbling_of (a ∷ b ∷ []) = tumbling_of_two a b
tumbling_of (a ∷ b ∷ c ∷ []) = tumbling_of_three a b c
tumbling_of _ = None

-- a unit and two numbers, or a Duration and a Hop; perhaps an Offset behind them
abbrev pub hopping_in_unit : Argument → Argument → Argument → Option ℕ → Option Lengths
hopping_in_unit (argument.Unit unit) (argument.Count size) (argument.Count hop) offset =
    hopping (length_of unit size) (length_of unit hop) offset
hopping_in_unit _ _ _ offset = None

abbrev pub hopping_by_lengths : Argument → Argument → Option ℕ → Option Lengths
hopping_by_lengths (argument.Duration unit size) (argument.Hop other hop) offset =
    hopping (length_of unit size) (length_of other hop) offset
hopping_by_lengths _ _ offset = None

abbrev pub hopping_of_three : Argument → Argument → Argument → Option Lengths
hopping_of_three a b (argument.Offset at) = hopping_by_lengths a b (Some at)
hopping_of_three a b c = hopping_in_unit a b c None

abbrev pub hopping_of_four : Argument → Argument → Argument → Argument → Option Lengths
hopping_of_four a b c (argument.Offset at) = hopping_in_unit a b c (Some at)
hopping_of_four a b c d = None

unfoldable pub hopping_of : List Argument → Option Lengths
hopping_of (a ∷ b ∷ []) = hopping_by_lengths a b None
hopping_of (a ∷ b ∷ c ∷ []) = hopping_of_three a b c
hopping_of (a ∷ b ∷ c ∷ d ∷ []) = hopping_of_four a b c d
hopping_of _ = None

-- a unit and a number
abbrev pub sliding_of_two : Argument → Argument → Option Length
sliding_of_two (argument.Unit unit) (argument.Count n) = Some (length_of unit n)
sliding_of_two _ _ = None

unfoldable pub sliding_of : List Argument → Option Length
sliding_of (a ∷ b ∷ []) = sliding_of_two a b
sliding_of _ = None

abbrev pub session_lengths : Length → Length → Option SessionLengths
session_lengths timeout most = Some (record { timeout = timeout; most = most })

-- a unit and two numbers
abbrev pub session_of_three : Argument → Argument → Argument → Option SessionLengths
session_of_three (argument.Unit unit) (argument.Count timeout) (argument.Count most) =
    session_lengths (length_of unit timeout) (length_of unit most)
session_of_three _ _ _ = None

unfoldable pub session_of : List Argument → Option SessionLengths
session_of (a ∷ b ∷ c ∷ []) = session_of_three a b c
session_of _ = None
