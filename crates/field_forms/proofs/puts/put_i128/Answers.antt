use Rattle.std.proofs.Common.{◌≡◌, ◌++◌, ◌∙◌, ℕ, List, OnOk, ap, subst, rules}
use Rattle.std.proofs.lemmas.Int.{to_z-of_z}
use Rattle.std.specs.Int.{cast_unsigned, w128}
use Rattle.std.specs.Int.RustNames.{FitsSigned}
use Rattle.field_forms.specs.Numbers.{low_first}
use Rattle.field_forms.proofs.puts.put_i128.Goals as goal

pub returns-clause-ok : goal.returns-clause-ok
returns-clause-ok c =
    let fits : FitsSigned w128 c.args.number = search rules in
    subst (λ (l : List ℕ). OnOk c.extend.result (c.extend.new.self ≡ c.args.out.now ++ l))
    (c.bytes_of.ensures ∙ ap (low_first 16) (c.cast_unsigned.ensures ∙ ap (cast_unsigned w128) (to_z-of_z w128 c.args.number fits))) c.extend.ensures.ok
