use Rattle.std.proofs.Common.{◌≡◌, ◌++◌, ◌+◌, ◌∷◌, [], drop, take, ap, sym, subst, ◌∙◌, arith}
use Rattle.std.proofs.lemmas.List.{drop_more, take_all, take_more}
use Rattle.query_meaning.specs.declared.ready.ReadyStep.{ReadyStep}
use Rattle.query_meaning.specs.Lists.{all_between}
use Rattle.query_meaning.specs.Pipeline.{AreGiven, IsGiven}
use Rattle.query_meaning.specs.Steps.{rows_of_steps, step_rows}
use Rattle.query_meaning.proofs.PlanLemmas.{rows_behind-order}
use Rattle.query_meaning.proofs.PipelineLemmas.{AreGiven-first, AreGiven-none, AreGiven-push, all_between-push, rows_behind-push}
use Rattle.query_meaning.proofs.pipeline.advance_steps.Goals as goal

pub loop-step-init : goal.loop-step-init
loop-step-init c = λ streams le h new given. record {
  done_are = c.empty-done.ensures;
  rest_given = given;
  next_given = AreGiven-none streams [] c.empty-next.result c.args.upto c.empty-next.ensures;
}

pub loop-step-preserved : goal.loop-step-preserved
loop-step-preserved c = λ streams le h new given.
    let w = c.args.from in
    let u = c.args.upto in
    let steps = c.args.steps.now in
    let at = c.loop-step.step-index in
    let step = c.step-item.result in
    let old = c.loop-step.invariant streams le h new given in
    let before = rows_of_steps streams (take at steps) in
    let rest : drop at steps ≡ step ∷ drop (at + 1) steps = drop_more steps at step c.loop-step-test.true ∙ ap (λ (s : ReadyStep). s ∷ drop (at + 1) steps) (sym c.step-item.is) in
    let more : take (at + 1) steps ≡ take at steps ++ step ∷ [] = take_more steps at step c.loop-step-test.true ∙ ap (λ (s : ReadyStep). take at steps ++ s ∷ []) (sym c.step-item.is) in
    let split = AreGiven-first streams before c.loop-step.rest.items step (drop (at + 1) steps) w (subst (λ ss. AreGiven streams before c.loop-step.rest.items ss w) rest old.rest_given) in
    let taken = c.take_first-op.ensures split.0 split.1 split.2 in
    let given_op = subst (λ o. IsGiven streams before o step w) (sym taken.0) split.3 in
    let gone = c.in_ok-op.ensures streams before le h (rows_behind-order streams [] (take at steps) h tt) new (c.items.ensures ∙ old.done_are) given_op in
    let rows_are : rows_of_steps streams (take (at + 1) steps) ≡ before ++ step_rows streams before step ∷ [] =
    ap (rows_of_steps streams) more ∙ rows_behind-push streams [] (take at steps) step in
    record {
      done_are =
          c.in_ok-push-2.ensures.ok
          ∙ ap (λ l. l ++ c.in_ok-op.rows ∷ []) old.done_are
          ∙ ap (λ rows. all_between w u before ++ rows ∷ []) gone.0
          ∙ sym (all_between-push w u before (step_rows streams before step))
          ∙ ap (all_between w u) (sym rows_are);
      rest_given =
          subst (λ l. AreGiven streams l c.take_first-op.new.ops.items (drop (at + 1) steps) w) (sym rows_are)
          (subst (λ ops. AreGiven streams (before ++ step_rows streams before step ∷ []) ops (drop (at + 1) steps) w) (sym taken.1) split.4);
      next_given =
          subst (λ ops. AreGiven streams [] ops (take (at + 1) steps) u) (sym c.in_ok-push.ensures.ok)
          (subst (λ ss. AreGiven streams [] (c.loop-step.next ++ c.in_ok-op.op ∷ []) ss u) (sym more)
          (AreGiven-push streams [] c.loop-step.next c.in_ok-op.op (take at steps) step u old.next_given gone.1));
    }

pub returns : goal.returns
returns c = λ streams le h new given.
    let w = c.args.from in
    let u = c.args.upto in
    let steps = c.args.steps.now in
    let old = c.loop-step.invariant streams le h new given in
    let all : take c.loop-step.step-index steps ≡ steps = take_all c.loop-step.step-index steps (omega arith) in (
      old.done_are ∙ ap (λ ss. all_between w u (rows_of_steps streams ss)) all,
      subst (λ ss. AreGiven streams [] c.loop-step.next ss u) all old.next_given,
    )
