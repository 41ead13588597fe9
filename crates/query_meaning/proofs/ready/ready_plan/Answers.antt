use Rattle.std.proofs.Common.{◌≡◌, ℕ, List, IfOk, ap, map, subst, ◌∙◌}
use Rattle.query_meaning.specs.Ready as spec
use Rattle.query_meaning.proofs.ready.ready_plan.Goals as goal

pub returns : goal.returns
returns c =
    let plan = c.args.plan.now in
    let inputs = c.args.inputs.now in
    let versions = c.args.versions.now in
    let references = map (spec.reference_width inputs) plan.references in
    subst (λ (streams : List ℕ). IfOk c.ready_over.result (λ ready. ready ≡ spec.ready_over plan streams references versions))
    (c.items-3.ensures ∙ c.in_ok-streams.ensures ∙ ap (map (spec.stream_width inputs)) c.items.ensures)
    (subst (λ (widths : List ℕ). IfOk c.ready_over.result (λ ready. ready ≡ spec.ready_over plan c.items-3.result.now widths versions))
    (c.items-4.ensures ∙ c.in_ok-references.ensures ∙ ap (map (spec.reference_width inputs)) c.items-2.ensures)
    c.ready_over.ensures)
