-- The laws of meanings that work at each time alone.
use Rattle.std.specs.Prelude.{◌≡◌, ℕ, ◌-◌, Bool, ◌&&◌, nat_lt, nat_le, List, ◌++◌, Some}
use Rattle.std.proofs.Common.{sym, ap, ◌∙◌, arith}
use Rattle.event_value.specs.declared.record.Stamped.{Stamped}
use Rattle.row_order.proofs.ListLemmas.{filter-within}
use Rattle.row_order.proofs.StretchLemmas.{IsInOrder-append, IsInOrder-filter, rows_between-new}
use Rattle.stream_op.specs.Laws.{IsWithinReach, StreamLaws}
use Rattle.stream_op.specs.Rows.{AreBefore, AreInOrder, AreNext, between, from_on, time_of}
use Rattle.stream_op.specs.Timewise.{IsTimewise, at_times}

at_times-twice : (test : ℕ → Bool) (rows : List Stamped) → at_times test (at_times test rows) ≡ at_times test rows
at_times-twice test rows = filter-within _ _ (λ row h. h) rows

module _ {op : List Stamped → List Stamped → List Stamped} (timewise : IsTimewise op) where
  pub at_times-op : (test : ℕ → Bool) (left right : List Stamped) → AreInOrder left → AreInOrder right
      → at_times test (op left right) ≡ at_times test (op (at_times test left) (at_times test right))
  at_times-op test left right h k =
      timewise.at_times_alone test left right h k
      ∙ ap (λ rows. op rows (at_times test right)) (sym (at_times-twice test left))
      ∙ ap (op (at_times test (at_times test left))) (sym (at_times-twice test right))
      ∙ sym (timewise.at_times_alone test (at_times test left) (at_times test right) (IsInOrder-filter time_of _ left h) (IsInOrder-filter time_of _ right k))

  from_on-op : (x : ℕ) (left right : List Stamped) → AreInOrder left → AreInOrder right
      → (m : ℕ) → m ≡ x → from_on x (op left right) ≡ from_on x (op (from_on m left) (from_on m right))
  from_on-op x left right h k m e =
      at_times-op (nat_le x) left right h k
      ∙ ap (λ n. from_on x (op (from_on n left) (from_on n right))) (sym e)

  pub IsTimewise-reach : IsWithinReach (Some 0) op
  IsTimewise-reach left right x h k = from_on-op x left right h k (x - 0) (omega arith)

  -- new rows that come next alone give what the whole lists have in their stretch
  pub IsTimewise-next : (w u : ℕ) (left new_left right new_right : List Stamped)
      → AreBefore w left → AreNext w u new_left → AreBefore w right → AreNext w u new_right
      → op new_left new_right ≡ between w u (op (left ++ new_left) (right ++ new_right))
  IsTimewise-next w u left new_left right new_right a b c d =
      sym (timewise.at_times_alone (λ t. nat_le w t && nat_lt t u) (left ++ new_left) (right ++ new_right)
      (IsInOrder-append time_of w left new_left a.below_it b.from_last a.in_order b.in_order)
      (IsInOrder-append time_of w right new_right c.below_it d.from_last c.in_order d.in_order)
      ∙ ap (λ rows. op rows (between w u (right ++ new_right))) (rows_between-new time_of w u left new_left a.below_it b.from_last b.below_new)
      ∙ ap (op new_left) (rows_between-new time_of w u right new_right c.below_it d.from_last d.below_new))

pub IsTimewise-laws : {Spec : Type 0} (fits : Spec → Type 0) {op : Spec → List Stamped → List Stamped → List Stamped}
    → ((spec : Spec) → IsTimewise (op spec)) → StreamLaws fits op (λ spec. Some 0)
IsTimewise-laws fits timewise = record {
  past_only = λ spec left right x f h k. at_times-op (timewise spec) (λ t. nat_lt t x) left right h k;
  in_order = λ spec left right f h k. (timewise spec).in_order left right h k;
  within_reach = λ spec f. IsTimewise-reach (timewise spec);
}
