-- The end of a line, for private clauses.
use Rattle.std.specs.Prelude.{ℕ, ◌-◌, ◌==◌, List, length, take, slice_index, if◌then◌else◌}
use Rattle.arrival_text.specs.Lines.{carriage_return}

-- a line without a CR at its end
abbrev pub without_return : List ℕ → List ℕ
without_return line =
    if slice_index line (length line - 1) == carriage_return then take (length line - 1) line else line
