-- What is left of an AND without one of its parts.
use Rattle.std.specs.Prelude.{ℕ, ◌+◌, ◌==◌, if◌then◌else◌, Bool, Option, Some, None, List, [], ◌∷◌, ◌++◌}
use Rattle.query_tree.specs.declared.expr.And.{And, out-And}
use Rattle.query_tree.specs.declared.expr.Not.{Not}
use Rattle.query_forms.specs.declared.form.Form.{Form}
use Rattle.query_forms.specs.declared.form.Form.TheVariants as form
use Rattle.query_readings.specs.declared.reading.Reading.{Reading}
use Rattle.query_readings.specs.declared.scope.Scope.{Scope}
use Rattle.query_readings.specs.Reading.{chain}
use Rattle.query_senses.specs.Readings.{reading_of_not}

abbrev pub other : Scope → Bool → Not → List Reading
other scope is_left_out p = if is_left_out then [] else reading_of_not scope p ∷ []

-- the parts from a place on but the one at a place
abbrev pub others_from : Scope → ℕ → ℕ → List Not → List Reading
others_from scope place without [] = []
others_from scope place without (p ∷ ps) =
    other scope (place == without) p ++ others_from scope (place + 1) without ps

abbrev pub others_of : Scope → And → ℕ → List Reading
others_of scope and without =
    other scope (without == 0) (out-And and).first ++ others_from scope 1 without (out-And and).more

abbrev pub chain_of : Scope → ℕ → Form → List Reading → Option Reading
chain_of scope place f [] = None
chain_of scope place f (r ∷ rs) = Some (chain scope place f r rs)

-- an AND without the part at a place, counted from 0; nothing where no part is left
unfoldable pub reading_without : Scope → And → ℕ → Option Reading
reading_without scope and without =
    chain_of scope (out-And and).place form.And (others_of scope and without)
