use Rattle.std.proofs.Common.{◌≡◌, ◌⊎◌, ℕ, List, [], ◌∷◌, arith, refl}
use Rattle.std.proofs.lemmas.Grind.{common_steps}
use Rattle.std.proofs.lemmas.Slice.Zip.{either_empty_from_Zip}
use Rattle.event_value.specs.declared.value.Value.{Value}
use Rattle.value_text.specs.Printed.{further_members}
use Rattle.value_text.proofs.print.push_further_members.Goals as goal

-- there is nothing to come where one of the lists is empty
further_members-empty : (names : List (List ℕ)) (values : List Value) → (names ≡ []) ⊎ (values ≡ []) → further_members names values ≡ []
further_members-empty [] values e = refl
further_members-empty (name ∷ names) [] e = refl
further_members-empty (name ∷ names) (value ∷ values) e = absurd (grind arith)

pub returns : goal.returns
returns c =
    let none = further_members-empty _ _ (either_empty_from_Zip c.loop-name.name-iterator c.next.new.self _ c.in-None.is c.next.ensures.steps) in
    grind (arith, common_steps)
