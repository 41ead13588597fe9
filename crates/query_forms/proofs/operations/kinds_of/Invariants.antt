use Rattle.std.proofs.Common.{◌≡◌, drop, []}
use Rattle.query_forms.specs.Senses as spec
use Rattle.query_forms.proofs.operations.kinds_of.Given as goal

abbrev pub invariant-loop-part : goal.invariant-loop-part
invariant-loop-part l =
    spec.kinds_from l.kinds (drop l.part-index l.parts) ≡ spec.kinds_from [] l.parts
