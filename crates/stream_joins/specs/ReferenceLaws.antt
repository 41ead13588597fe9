-- The laws of a join with a reference.
use Rattle.std.specs.Prelude.{◌≡◌, ℕ, Bool, true, false, cond, List, [], ◌∷◌, ◌++◌, filter, refl, Some}
use Rattle.std.specs.List.{AllByRecursion as Each}
use Rattle.std.specs.List.{flat_map}
use Rattle.std.proofs.Common.{ap, ◌∙◌, arith}
use Rattle.std.proofs.lemmas.List.Elements.{filter-append}
use Rattle.event_value.specs.declared.record.Stamped.{Stamped}
use Rattle.row_order.proofs.ListLemmas.{Each-all, Each-append, Each-map, Each-weaker, filter-all, filter-none}
use Rattle.row_order.specs.InOrder.{AllFrom}
use Rattle.stream_joins.specs.BoundLaws.{Each-or_alone}
use Rattle.stream_joins.specs.Joined.{joined, unmatched}
use Rattle.stream_joins.specs.Reference.{Lookup, is_found, looked_up, reference_join}
use Rattle.stream_joins.specs.Snapshots.{rows_in_force}
use Rattle.stream_op.specs.Laws.{StreamLaws}
use Rattle.stream_op.specs.Rows.{AreInOrder, time_of}
use Rattle.stream_op.specs.Timewise.{IsTimewise, at_times}
use Rattle.stream_op.specs.TimewiseLaws.{IsTimewise-laws}

module _ (lookup : Lookup) where
  -- all rows of a left row are at its time
  looked_up-times : (a : Stamped) → Each (λ row. row.time ≡ a.time) (looked_up lookup a)
  looked_up-times a =
      Each-or_alone _ lookup.outer (unmatched a.time lookup.width a) _ refl
      (Each-map (λ (row : Stamped). row.time ≡ a.time) (joined a.time a) (filter (is_found lookup a) (rows_in_force lookup.snapshots a.time)) (Each-all _ (λ b. refl) _))

  looked_up-at_times : (test : ℕ → Bool) (left : List Stamped) → at_times test (flat_map (looked_up lookup) left) ≡ flat_map (looked_up lookup) (at_times test left)
  looked_up-at_times test [] = refl
  looked_up-at_times test (a ∷ left) =
      filter-append (λ (row : Stamped). test row.time) (looked_up lookup a) (flat_map (looked_up lookup) left)
      ∙ ap (λ l. at_times test (looked_up lookup a) ++ l) (looked_up-at_times test left)
      ∙ elim (test a.time) as (λ b. test a.time ≡ b → at_times test (looked_up lookup a) ++ flat_map (looked_up lookup) (at_times test left) ≡ flat_map (looked_up lookup) (cond b (a ∷ at_times test left) (at_times test left))) [
        | true ↦ λ e. ap (λ l. l ++ flat_map (looked_up lookup) (at_times test left)) (filter-all _ (looked_up lookup a) (Each-weaker _ _ (looked_up lookup a) (λ row t. ap test t ∙ e) (looked_up-times a)))
        | false ↦ λ e. ap (λ l. l ++ flat_map (looked_up lookup) (at_times test left)) (filter-none _ (looked_up lookup a) (Each-weaker _ _ (looked_up lookup a) (λ row t. ap test t ∙ e) (looked_up-times a)))
      ] refl

  looked_up-later : (t : ℕ) (left : List Stamped) → AllFrom time_of t left → AllFrom time_of t (flat_map (looked_up lookup) left)
  looked_up-later t [] h = tt
  looked_up-later t (a ∷ left) h =
      Each-append _ (looked_up lookup a) (flat_map (looked_up lookup) left)
      (Each-weaker _ _ (looked_up lookup a) (λ row e. omega (arith, h.0)) (looked_up-times a))
      (looked_up-later t left h.1)

  -- rows of one time, and behind them rows no earlier
  same_time-front : (t : ℕ) (rows behind : List Stamped) → Each (λ row. row.time ≡ t) rows → AllFrom time_of t behind → AreInOrder behind → AreInOrder (rows ++ behind)
  same_time-front t [] behind h k o = o
  same_time-front t (row ∷ rows) behind h k o = (
    Each-append _ rows behind (Each-weaker _ _ rows (λ other e. omega (arith, h.0)) h.1) (Each-weaker _ _ behind (λ other le. omega (arith, h.0)) k),
    same_time-front t rows behind h.1 k o,
  )

  looked_up-in_order : (left : List Stamped) → AreInOrder left → AreInOrder (flat_map (looked_up lookup) left)
  looked_up-in_order [] h = tt
  looked_up-in_order (a ∷ left) h = same_time-front a.time (looked_up lookup a) (flat_map (looked_up lookup) left) (looked_up-times a) (looked_up-later a.time left h.0) (looked_up-in_order left h.1)

  pub reference_join-timewise : IsTimewise (reference_join lookup)
  reference_join-timewise = record {
    at_times_alone = λ test left right h k. looked_up-at_times test left;
    in_order = λ left right h k. looked_up-in_order left h;
  }

pub reference_join-laws : {Spec : Type 0} (lookups : Spec → Lookup)
    → StreamLaws (λ (spec : Spec). Unit {0}) (λ spec. reference_join (lookups spec)) (λ spec. Some 0)
reference_join-laws lookups = IsTimewise-laws (λ spec. Unit {0}) (λ spec. reference_join-timewise (lookups spec))
