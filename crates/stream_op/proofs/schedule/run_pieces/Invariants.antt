use Rattle.std.proofs.Common.{◌≡◌, ◌++◌, ℕ, List, drop, true}
use Rattle.event_value.specs.declared.record.Stamped.{Stamped}
use Rattle.stream_op.specs.Rows.{below}
use Rattle.stream_op.specs.Schedule.{AreInTurn, HaveNoRights, left_rows, right_rows, last_upto}
use Rattle.stream_op.proofs.schedule.run_pieces.Given as goal

-- the value stands for some lists, of which all below its moment was answered, and which the rest goes on
abbrev pub invariant-loop-piece : goal.invariant-loop-piece
invariant-loop-piece g l =
    let o = g.O.StreamOp in
    let rest = drop l.piece-index l.pieces in
    (left : List Stamped) × (right : List Stamped) × (w : ℕ) × record {
      stands : o.stands l.operator l.spec left right w;
      answered : l.rows ≡ below w (o.op l.spec left right);
      in_turn : AreInTurn w rest;
      no_rights : o.one_input ≡ true → HaveNoRights rest;
      all_left : left ++ left_rows rest ≡ left_rows l.pieces;
      all_right : right ++ right_rows rest ≡ right_rows l.pieces;
      all_upto : last_upto w rest ≡ last_upto 0 l.pieces;
    }
