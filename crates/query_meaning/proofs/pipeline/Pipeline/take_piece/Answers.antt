use Rattle.std.proofs.Common.{[], ap, length, refl, sym, subst, ◌∙◌}
use Rattle.query_meaning.specs.Lists.{behind_each}
use Rattle.query_meaning.specs.Pipeline.{AreGiven}
use Rattle.query_meaning.proofs.PipelineLemmas.{outputs_over-between}
use Rattle.query_meaning.proofs.pipeline.Pipeline.take_piece.Goals as goal

pub returns : goal.returns
returns c = λ streams at le new many.
    let w = c.args.self.upto in
    let u = c.args.upto in
    let plan = c.args.plan.now in
    let steps = c.items-steps.ensures in
    let given = subst (λ ss. AreGiven streams [] c.args.self.ops ss w) (sym steps) at.are_given in
    let gone = c.in_ok-ops.ensures streams le at.in_order new (subst (λ ops. AreGiven streams [] ops c.items-steps.result.now w) (sym c.into_vec-ops.ensures) given) in (
      c.in_ok-rows.ensures (many ∙ ap length (sym c.items.ensures))
          ∙ ap (behind_each c.args.given) (outputs_over-between w u plan streams c.items-2.result.now c.items-steps.result.now c.items.result.now steps c.items.ensures (c.items-2.ensures ∙ gone.0)),
      record {
        upto_is = refl;
        in_order = at.in_order;
        are_given = subst (λ ss. AreGiven streams [] c.in_ok-ops.ops ss u) steps gone.1;
      },
    )
