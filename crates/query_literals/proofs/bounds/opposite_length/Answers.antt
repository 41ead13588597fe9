use Rattle.std.specs.Prelude.{FitsSigned}
use Rattle.std.proofs.Common.{ℤ, neg_ℤ, subst}
use mir.Facts.{to_z-of_z}
use mir.Syntax.{w64}
use Rattle.query_literals.proofs.LengthLemmas.{no_span}
use Rattle.query_literals.proofs.bounds.opposite_length.Goals as goal

pub returns-in-None : goal.returns-in-None
returns-in-None c =
    let P : ℤ → Type 0 = λ z. FitsSigned w64 (neg_ℤ z) → ⊥ in
    let far : P c.args.whole = subst P (to_z-of_z c.ranges.whole) (c.in-None.ensures {u = tt}) in
    no_span (neg_ℤ c.args.whole) far c.args.unit
