use Rattle.std.proofs.Common.{◌≡◌, drop, None}
use Rattle.query_forms.specs.Senses as spec
use Rattle.query_forms.proofs.operations.mix_all.Given as goal

abbrev pub invariant-loop-kind : goal.invariant-loop-kind
invariant-loop-kind l =
    spec.mix_from l.common (drop l.kind-index l.kinds) ≡ spec.mix_from None l.kinds
