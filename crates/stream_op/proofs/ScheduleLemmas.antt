-- Steps behind each other, by the laws of a meaning alone.
use Rattle.std.proofs.Common.{◌≡◌, ℕ, ◌≤◌, List, [], ◌++◌, sym, ap, ◌∙◌, Option}
use Rattle.event_value.specs.declared.record.Stamped.{Stamped}
use Rattle.row_order.specs.InOrder.{AllFrom}
use Rattle.row_order.proofs.StretchLemmas.{IsInOrder-append, rows_below-none, rows_below-old, rows_below-append-rows_between}
use Rattle.stream_op.specs.Laws.{Meaning, StreamLaws}
use Rattle.stream_op.specs.Rows.{AreInOrder, AreNext, AreTaken, below, between, time_of}
use Rattle.stream_op.proofs.RowLemmas.{AreInOrder-next, AllFrom-zero}

pub below-zero : (rows : List Stamped) → below 0 rows ≡ []
below-zero rows = rows_below-none time_of 0 rows (AllFrom-zero rows)

module _ {Spec : Type 0} {fits : Spec → Type 0} {op : Spec → Meaning} {reach : Spec → Option ℕ} (laws : StreamLaws fits op reach) where
  -- later rows change nothing below w
  pub op-settled : (spec : Spec) (w : ℕ) (left later_left right later_right : List Stamped) → fits spec → AreTaken w left right
      → AreInOrder later_left → AllFrom time_of w later_left → AreInOrder later_right → AllFrom time_of w later_right
      → below w (op spec (left ++ later_left) (right ++ later_right)) ≡ below w (op spec left right)
  op-settled spec w left later_left right later_right f taken a b c d =
      let l = taken.left_before in
      let r = taken.right_before in
      laws.past_only spec (left ++ later_left) (right ++ later_right) w f
      (IsInOrder-append time_of w left later_left l.below_it b l.in_order a)
      (IsInOrder-append time_of w right later_right r.below_it d r.in_order c)
      ∙ ap (λ rows. below w (op spec rows (below w (right ++ later_right)))) (rows_below-old time_of w left later_left l.below_it b)
      ∙ ap (λ rows. below w (op spec left rows)) (rows_below-old time_of w right later_right r.below_it d)

  -- what was answered so far, with what the next step answers, is all below the new moment
  pub op-answered : (spec : Spec) (w u : ℕ) (left new_left right new_right : List Stamped) → fits spec → w ≤ u → AreTaken w left right
      → AreNext w u new_left → AreNext w u new_right
      → below w (op spec left right) ++ between w u (op spec (left ++ new_left) (right ++ new_right)) ≡ below u (op spec (left ++ new_left) (right ++ new_right))
  op-answered spec w u left new_left right new_right f le taken a b =
      let all = op spec (left ++ new_left) (right ++ new_right) in
      ap (λ rows. rows ++ between w u all) (sym (op-settled spec w left new_left right new_right f taken a.in_order a.from_last b.in_order b.from_last))
      ∙ rows_below-append-rows_between time_of w u all le
      (laws.in_order spec (left ++ new_left) (right ++ new_right) f (AreInOrder-next w u left new_left taken.left_before a) (AreInOrder-next w u right new_right taken.right_before b))
