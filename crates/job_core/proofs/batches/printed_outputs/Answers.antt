use Rattle.std.proofs.Common.{◌≡◌, ◌++◌, ◌+◌, ◌∷◌, [], List, take, ap, sym, ◌∙◌, arith}
use Rattle.std.proofs.lemmas.List.{take_more}
use Rattle.query_plan.specs.declared.plan.Output.{Output}
use Rattle.event_value.specs.declared.record.Stamped.{Stamped}
use Rattle.job_core.specs.Batches as spec
use Rattle.job_core.proofs.BatchLemmas.{many-taken, printed-enough, printed-push}
use Rattle.job_core.proofs.batches.printed_outputs.Goals as goal

pub loop-i-preserved : goal.loop-i-preserved
loop-i-preserved c =
    let start = c.args.start in
    let outputs = c.args.outputs.now in
    let rows = c.args.rows.now in
    let i = c.loop-i.i in
    let output = c.index-outputs-i.result in
    let own = c.index-rows-i.result in
    let more_outputs : take (i + 1) outputs ≡ take i outputs ++ output ∷ [] =
    take_more outputs i output (omega (arith, c.loop-i-test.true, c.min-i-end.ensures)) ∙ ap (λ (o : Output). take i outputs ++ o ∷ []) (sym c.index-outputs-i.is) in
    let more_rows : take (i + 1) rows ≡ take i rows ++ own ∷ [] =
    take_more rows i own (omega (arith, c.loop-i-test.true, c.min-i-end.ensures)) ∙ ap (λ (r : List Stamped). take i rows ++ r ∷ []) (sym c.index-rows-i.is) in
    c.in_ok-push.ensures.ok
    ∙ ap (λ l. l ++ c.in_ok-printed_rows.field-0 ∷ []) c.loop-i.invariant
    ∙ ap (λ r. spec.printed_outputs start (take i outputs) (take i rows) ++ r ∷ []) (c.in_ok-printed_rows.ensures ∙ ap (spec.printed_rows start output) c.items.ensures)
    ∙ sym (printed-push start (take i outputs) (take i rows) output own (many-taken i outputs rows (omega (arith, c.loop-i-test.true, c.min-i-end.ensures)) (omega (arith, c.loop-i-test.true, c.min-i-end.ensures))))
    ∙ ap (λ os. spec.printed_outputs start os (take i rows ++ own ∷ [])) (sym more_outputs)
    ∙ ap (spec.printed_outputs start (take (i + 1) outputs)) (sym more_rows)

pub returns : goal.returns
returns c =
    c.loop-i.invariant ∙ printed-enough c.args.start c.loop-i.i c.args.outputs.now c.args.rows.now (omega (arith, c.loop-i-test.false, c.min-i-end.ensures))
