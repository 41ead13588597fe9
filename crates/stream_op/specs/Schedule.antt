-- Pieces of two inputs that come one after the other.
use Rattle.std.specs.Prelude.{◌≡◌, ℕ, ◌≤◌, List, [], ◌∷◌, ◌++◌}
use Rattle.std.specs.List.{AllByRecursion}
use Rattle.event_value.specs.declared.record.Stamped.{Stamped}
use Rattle.stream_op.specs.declared.schedule.Piece.{Piece}
use Rattle.stream_op.specs.Laws.{Meaning}
use Rattle.stream_op.specs.Rows.{AreNext, below}

-- all left rows
abbrev pub left_rows : List Piece → List Stamped
left_rows [] = []
left_rows (piece ∷ pieces) = piece.left ++ left_rows pieces

-- all right rows
abbrev pub right_rows : List Piece → List Stamped
right_rows [] = []
right_rows (piece ∷ pieces) = piece.right ++ right_rows pieces

-- the moment of the last piece, or w where there is none
abbrev pub last_upto : ℕ → List Piece → ℕ
last_upto w [] = w
last_upto w (piece ∷ pieces) = last_upto piece.upto pieces

-- each piece has rows in order, from the moment before it on and below its own
abbrev pub AreInTurn : ℕ → List Piece → Type 0
AreInTurn w [] = Unit {0}
AreInTurn w (piece ∷ pieces) =
    (w ≤ piece.upto) × AreNext w piece.upto piece.left × AreNext w piece.upto piece.right
    × AreInTurn piece.upto pieces

-- no piece has right rows
abbrev pub HaveNoRights : List Piece → Type 0
HaveNoRights pieces = AllByRecursion (λ piece. piece.right ≡ []) pieces

-- what the answers to all pieces are, behind each other: the rows below the last moment of the
-- meaning over all rows
abbrev pub answers_of : Meaning → List Piece → List Stamped
answers_of op pieces = below (last_upto 0 pieces) (op (left_rows pieces) (right_rows pieces))
