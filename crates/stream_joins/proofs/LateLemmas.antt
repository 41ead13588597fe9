-- Left rows whose rows all come before a moment may be passed over.
use Rattle.std.proofs.Common.{◌≡◌, ℕ, ◌+◌, ◌-◌, ◌<◌, Bool, true, false, not, cond, nat_lt, List, [], ◌∷◌, ◌++◌, filter, refl, ap, sym, ◌∙◌, arith}
use Rattle.std.specs.List.{flat_map}
use Rattle.std.proofs.lemmas.Bool.Decides.{nat_tests}
use Rattle.std.proofs.lemmas.List.Elements.{filter-append}
use Rattle.event_value.specs.declared.record.Stamped.{Stamped}
use Rattle.row_order.proofs.StretchLemmas.{rows_below-rows_from}
use Rattle.row_order.specs.Stretches.{rows_below}
use Rattle.stream_joins.specs.Bound.{Bound, positive_part, rows_of}
use Rattle.stream_joins.specs.BoundLaws.{rows_of-none_from}
use Rattle.stream_op.specs.Rows.{between, time_of}

ahead-below : (m n p : ℕ) → nat_lt m (n - p) ≡ true → m + p < n
ahead-below m n p h = grind (arith, nat_tests)

rows_between-early : (bound : Bound) (right : List Stamped) (from upto : ℕ) (a : Stamped) → nat_lt a.time (from - positive_part bound.high) ≡ true
    → between from upto (rows_of bound right a) ≡ []
rows_between-early bound right from upto a h =
    sym (rows_below-rows_from time_of from upto (rows_of bound right a))
    ∙ ap (rows_below time_of upto) (rows_of-none_from bound right from a (ahead-below a.time from (positive_part bound.high) h))

pub rows_between-late : (bound : Bound) (right : List Stamped) (from upto : ℕ) (left : List Stamped)
    → between from upto (flat_map (rows_of bound right) left)
    ≡ between from upto (flat_map (rows_of bound right) (filter (λ a. not (nat_lt a.time (from - positive_part bound.high))) left))
rows_between-late bound right from upto [] = refl
rows_between-late bound right from upto (a ∷ left) =
    filter-append _ (rows_of bound right a) (flat_map (rows_of bound right) left)
    ∙ ap (λ l. between from upto (rows_of bound right a) ++ l) (rows_between-late bound right from upto left)
    ∙ by (nat_lt a.time (from - positive_part bound.high)) refl
  where
    late : List Stamped
    late = filter (λ a. not (nat_lt a.time (from - positive_part bound.high))) left

    by : (b : Bool) → nat_lt a.time (from - positive_part bound.high) ≡ b
        → between from upto (rows_of bound right a) ++ between from upto (flat_map (rows_of bound right) late)
        ≡ between from upto (flat_map (rows_of bound right) (cond (not b) (a ∷ late) late))
    by true e = ap (λ l. l ++ between from upto (flat_map (rows_of bound right) late)) (rows_between-early bound right from upto a e)
    by false e = sym (filter-append _ (rows_of bound right a) (flat_map (rows_of bound right) late))
