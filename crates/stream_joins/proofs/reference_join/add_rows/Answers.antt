use Rattle.std.proofs.Common.{◌≡◌, false, List, [], ◌∷◌, ◌++◌, append-nil, take, ap, sym, ◌∙◌, arith}
use Rattle.std.specs.List.{list_any}
use Rattle.std.proofs.lemmas.List.{take_all}
use Rattle.event_value.specs.declared.record.Stamped.{Stamped}
use Rattle.stream_joins.proofs.FoundLemmas.{alone-comes, alone-never, found, found-none, or_alone-some}
use Rattle.stream_joins.specs.Joined.{joined, or_alone, unmatched}
use Rattle.stream_joins.specs.Reference.{is_found}
use Rattle.stream_joins.specs.Specs.{lookup_of}
use Rattle.stream_joins.proofs.reference_join.add_rows.Goals as goal
use Rattle.stream_joins.proofs.reference_join.add_rows.Goals.{else-spec-via-then-spec+else-not-any, else-spec-via-else-spec}

pub returns-in_ok-push-2 : goal.returns-in_ok-push-2
returns-in_ok-push-2 g c =
    let lookup = lookup_of g.M.Matches.pairs c.args.spec.now in
    let a = c.args.left.now in
    let q = is_found lookup a in
    let f = joined a.time a in
    let alone = unmatched a.time lookup.width a in
    let others = c.rows_in_force-other-items.result.now in
    let all : take c.loop-other.other-index others ≡ others = take_all c.loop-other.other-index others (omega arith) in
    let none : list_any q others ≡ false = ap (list_any q) (sym all) ∙ sym c.loop-other.invariant.some ∙ c.if-not-any.true in
    c.in_ok-push-2.ensures.ok
    ∙ ap (λ (row : Stamped). c.loop-other.rows ++ row ∷ []) c.in_ok-row_alone.ensures
    ∙ ap (λ (rows : List Stamped). rows ++ alone ∷ []) (c.loop-other.invariant.pushed ∙ ap (λ l. c.args.rows.now ++ found q f l) all ∙ ap (λ l. c.args.rows.now ++ l) (found-none q f others none) ∙ append-nil c.args.rows.now)
    ∙ ap (λ l. c.args.rows.now ++ l) (sym (alone-comes q f lookup.outer alone others c.if-spec.true none))
    ∙ ap (λ l. c.args.rows.now ++ or_alone lookup.outer alone (found q f l)) c.rows_in_force-other-items.ensures

pub returns-else-spec : goal.returns-else-spec
returns-else-spec g c =
    let lookup = lookup_of g.M.Matches.pairs c.args.spec.now in
    let a = c.args.left.now in
    let q = is_found lookup a in
    let f = joined a.time a in
    let alone = unmatched a.time lookup.width a in
    let others = c.rows_in_force-other-items.result.now in
    let all : take c.loop-other.other-index others ≡ others = take_all c.loop-other.other-index others (omega arith) in
    let some : c.loop-other.any ≡ list_any q others = c.loop-other.invariant.some ∙ ap (list_any q) all in
    let same : or_alone lookup.outer alone (found q f others) ≡ found q f others =
    elim c.else-spec.branch [
      | else-spec-via-then-spec+else-not-any w ↦ or_alone-some q f lookup.outer alone others (sym some ∙ w.if-not-any.false)
      | else-spec-via-else-spec w ↦ alone-never q f lookup.outer alone (found q f others) w.if-spec.false
    ] in
    c.loop-other.invariant.pushed
    ∙ ap (λ l. c.args.rows.now ++ found q f l) all
    ∙ ap (λ l. c.args.rows.now ++ l) (sym same)
    ∙ ap (λ l. c.args.rows.now ++ or_alone lookup.outer alone (found q f l)) c.rows_in_force-other-items.ensures
