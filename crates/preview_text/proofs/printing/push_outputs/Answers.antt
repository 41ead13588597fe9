use Rattle.std.proofs.Common.{◌≡◌, ◌⊎◌, List, [], ◌∷◌, arith, refl}
use Rattle.std.proofs.lemmas.Grind.{common_steps}
use Rattle.std.proofs.lemmas.Slice.Zip.{either_empty_from_Zip}
use Rattle.checkpoint_form.specs.declared.batch.Row.{Row}
use Rattle.query_plan.specs.declared.plan.Output.{Output}
use Rattle.preview_text.specs.PreviewText.{outputs_text}
use Rattle.preview_text.proofs.printing.push_outputs.Goals as goal

-- there is nothing to come where one of the lists is empty
outputs_text-empty : (outputs : List Output) (rows : List (List Row)) → (outputs ≡ []) ⊎ (rows ≡ []) → outputs_text outputs rows ≡ []
outputs_text-empty [] rows e = refl
outputs_text-empty (output ∷ outputs) [] e = refl
outputs_text-empty (output ∷ outputs) (row ∷ rows) e = absurd (grind arith)

pub returns : goal.returns
returns c =
    let none = outputs_text-empty _ _ (either_empty_from_Zip c.loop-output.output-iterator c.next.new.self _ c.in-None.is c.next.ensures.steps) in
    grind (arith, common_steps)
