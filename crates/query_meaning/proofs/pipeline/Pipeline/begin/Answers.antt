use Rattle.std.proofs.Common.{◌≡◌, ◌++◌, ◌+◌, ◌∷◌, [], take, ap, sym, subst, ◌∙◌, arith}
use Rattle.std.proofs.lemmas.List.{take_all, take_more}
use Rattle.query_meaning.specs.declared.ready.ReadyStep.{ReadyStep}
use Rattle.query_meaning.specs.Pipeline.{AreGiven}
use Rattle.query_meaning.specs.Steps.{rows_of_steps}
use Rattle.query_meaning.proofs.PipelineLemmas.{AreGiven-none, AreGiven-push, IsGiven-begun}
use Rattle.query_meaning.proofs.pipeline.Pipeline.begin.Goals as goal

pub loop-step-init : goal.loop-step-init
loop-step-init c = λ streams. AreGiven-none streams [] c.empty-ops.result 0 c.empty-ops.ensures

pub loop-step-preserved : goal.loop-step-preserved
loop-step-preserved c = λ streams.
    let steps = c.items-steps.result.now in
    let at = c.loop-step.step-index in
    let step = c.step-item.result in
    let more : take (at + 1) steps ≡ take at steps ++ step ∷ [] = take_more steps at step c.loop-step-test.true ∙ ap (λ (s : ReadyStep). take at steps ++ s ∷ []) (sym c.step-item.is) in
    subst (λ ops. AreGiven streams [] ops (take (at + 1) steps) 0) (sym c.in_ok-push.ensures.ok)
    (subst (λ ss. AreGiven streams [] (c.loop-step.ops ++ c.in_ok-begin.field-0 ∷ []) ss 0) (sym more)
    (AreGiven-push streams [] c.loop-step.ops c.in_ok-begin.field-0 (take at steps) step 0 (c.loop-step.invariant streams)
    (IsGiven-begun streams (rows_of_steps streams (take at steps)) c.in_ok-begin.field-0 step c.in_ok-begin.ensures)))

pub returns : goal.returns
returns c = λ streams h.
    let steps = c.items-steps.result.now in
    let all : take c.loop-step.step-index steps ≡ steps = take_all c.loop-step.step-index steps (omega arith) in
    record {
      upto_is = c.zero-upto.ensures;
      in_order = h;
      are_given = subst (λ ss. AreGiven streams [] c.loop-step.ops ss 0) (all ∙ c.items-steps.ensures) (c.loop-step.invariant streams);
    }
