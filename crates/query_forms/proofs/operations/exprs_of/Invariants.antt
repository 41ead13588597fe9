use Rattle.std.proofs.Common.{◌≡◌, drop, []}
use Rattle.query_forms.specs.Senses as spec
use Rattle.query_forms.proofs.operations.exprs_of.Given as goal

abbrev pub invariant-loop-part : goal.invariant-loop-part
invariant-loop-part l =
    spec.exprs_from l.common l.exprs (drop l.part-index l.parts) ≡
    spec.exprs_from l.common [] l.parts
