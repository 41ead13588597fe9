use Rattle.std.proofs.Common.{◌≡◌, ◌++◌, ◌+◌, ◌∷◌, [], append_assoc, append-nil, drop, drop_of_length-le, length, map, ap, sym, ◌∙◌, arith}
use Rattle.std.proofs.lemmas.List.{drop_more}
use Rattle.query_plan.specs.declared.plan.Output.{Output}
use Rattle.query_meaning.specs.Lists.{behind_each}
use Rattle.query_meaning.specs.Meaning.{output_rows}
use Rattle.query_meaning.proofs.PipelineLemmas.{as_many-first, behind_each-none}
use Rattle.query_meaning.proofs.pipeline.with_outputs.Goals as goal

pub loop-output-init : goal.loop-output-init
loop-output-init c = λ many. record {
  as_many = ap length c.into_vec-rest.ensures ∙ many;
  rows_are =
      ap (λ l. l ++ behind_each c.into_vec-rest.result.items (map (output_rows c.args.done.now) c.args.outputs.now)) c.empty-rows.ensures
      ∙ ap (λ l. behind_each l (map (output_rows c.args.done.now) c.args.outputs.now)) c.into_vec-rest.ensures;
}

pub loop-output-preserved : goal.loop-output-preserved
loop-output-preserved c = λ many.
    let outputs = c.args.outputs.now in
    let made = output_rows c.args.done.now in
    let at = c.loop-output.output-index in
    let output = c.output-item.result in
    let old = c.loop-output.invariant many in
    let more : drop at outputs ≡ output ∷ drop (at + 1) outputs = drop_more outputs at output c.loop-output-test.true ∙ ap (λ (o : Output). o ∷ drop (at + 1) outputs) (sym c.output-item.is) in
    let split = as_many-first c.loop-output.rest.items output (drop (at + 1) outputs) (old.as_many ∙ ap length more) in
    let taken = c.take_rows-list.ensures split.0 split.1 split.2 in
    let list = c.in_ok-push_rows.ensures ∙ ap (λ l. l ++ c.list_at.result.now) taken.0 ∙ ap (λ l. split.0 ++ l) c.list_at.ensures in
    record {
      as_many = ap length taken.1 ∙ split.3;
      rows_are =
          ap (λ l. l ++ behind_each c.take_rows-list.new.lists.items (map made (drop (at + 1) outputs))) c.in_ok-push.ensures.ok
          ∙ ap (λ l. (c.loop-output.rows ++ l ∷ []) ++ behind_each c.take_rows-list.new.lists.items (map made (drop (at + 1) outputs))) list
          ∙ ap (λ r. (c.loop-output.rows ++ (split.0 ++ made output) ∷ []) ++ behind_each r (map made (drop (at + 1) outputs))) taken.1
          ∙ append_assoc c.loop-output.rows ((split.0 ++ made output) ∷ []) (behind_each split.1 (map made (drop (at + 1) outputs)))
          ∙ ap (λ os. c.loop-output.rows ++ behind_each (split.0 ∷ split.1) (map made os)) (sym more)
          ∙ ap (λ r. c.loop-output.rows ++ behind_each r (map made (drop at outputs))) (sym split.2)
          ∙ old.rows_are;
    }

pub returns : goal.returns
returns c = λ many.
    let outputs = c.args.outputs.now in
    let made = output_rows c.args.done.now in
    let old = c.loop-output.invariant many in
    let rest = c.loop-output.rest.items in
    let none : drop c.loop-output.output-index outputs ≡ [] = drop_of_length-le outputs (omega arith) in
    sym (append-nil c.loop-output.rows)
    ∙ ap (λ l. c.loop-output.rows ++ l) (sym (behind_each-none rest))
    ∙ ap (λ os. c.loop-output.rows ++ behind_each rest (map made os)) (sym none)
    ∙ old.rows_are
