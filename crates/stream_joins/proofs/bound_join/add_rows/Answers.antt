use Rattle.std.proofs.Common.{◌≡◌, false, List, [], ◌∷◌, ◌++◌, append-nil, filter, map, ap, sym, ◌∙◌}
use Rattle.std.specs.List.{list_any}
use Rattle.event_value.specs.declared.record.Stamped.{Stamped}
use Rattle.row_order.proofs.ListLemmas.{filter-filter}
use Rattle.stream_joins.proofs.FoundLemmas.{alone-comes, alone-never, found, found-none, or_alone-some}
use Rattle.stream_joins.specs.Bound.{alone, is_match, is_near, is_pair, pair_row, rows_of}
use Rattle.stream_joins.specs.Joined.{or_alone}
use Rattle.stream_joins.specs.Specs.{bound_of}
use Rattle.stream_op.specs.Rows.{between}
use Rattle.stream_joins.proofs.bound_join.add_rows.Goals as goal
use Rattle.stream_joins.proofs.bound_join.add_rows.Goals.{else-spec-via-then-spec+else-not-any, else-spec-via-else-spec}

pub returns-in_ok-add_alone : goal.returns-in_ok-add_alone
returns-in_ok-add_alone g c = λ order.
    let bound = bound_of g.M.Matches.pairs c.args.spec.now in
    let a = c.args.left.now in
    let right = c.args.right.now in
    let old = c.args.rows.now in
    let from = c.args.stretch.now.from in
    let upto = c.args.stretch.now.upto in
    let near = c.near_rows-near.result.now in
    let q = is_pair bound a in
    let f = pair_row a in
    let matches : filter q near ≡ filter (is_match bound a) right = ap (filter q) (c.near_rows-near.ensures order) ∙ filter-filter q (is_near bound a) right in
    let none : list_any q near ≡ false = sym c.in_ok-any.ensures.any ∙ c.if-not-any.true in
    let rows : rows_of bound right a ≡ alone bound a ∷ [] =
    ap (λ l. or_alone bound.outer (alone bound a) (map f l)) (sym matches) ∙ alone-comes q f bound.outer (alone bound a) near c.if-spec.true none in
    c.in_ok-add_alone.ensures
    ∙ ap (λ (l : List Stamped). l ++ between from upto (alone bound a ∷ []))
    (c.in_ok-any.ensures.pairs ∙ ap (λ l. old ++ between from upto l) (found-none q f near none) ∙ append-nil old)
    ∙ ap (λ l. old ++ between from upto l) (sym rows)

pub returns-else-spec : goal.returns-else-spec
returns-else-spec g c = λ order.
    let bound = bound_of g.M.Matches.pairs c.args.spec.now in
    let a = c.args.left.now in
    let right = c.args.right.now in
    let old = c.args.rows.now in
    let from = c.args.stretch.now.from in
    let upto = c.args.stretch.now.upto in
    let near = c.near_rows-near.result.now in
    let q = is_pair bound a in
    let f = pair_row a in
    let matches : filter q near ≡ filter (is_match bound a) right = ap (filter q) (c.near_rows-near.ensures order) ∙ filter-filter q (is_near bound a) right in
    let same : or_alone bound.outer (alone bound a) (found q f near) ≡ found q f near =
    elim c.else-spec.branch [
      | else-spec-via-then-spec+else-not-any w ↦ or_alone-some q f bound.outer (alone bound a) near (sym c.in_ok-any.ensures.any ∙ w.if-not-any.false)
      | else-spec-via-else-spec w ↦ alone-never q f bound.outer (alone bound a) (found q f near) w.if-spec.false
    ] in
    let rows : rows_of bound right a ≡ found q f near =
    ap (λ l. or_alone bound.outer (alone bound a) (map f l)) (sym matches) ∙ same in
    c.in_ok-any.ensures.pairs ∙ ap (λ l. old ++ between from upto l) (sym rows)
