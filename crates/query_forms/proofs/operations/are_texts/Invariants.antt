use Rattle.std.proofs.Common.{◌≡◌, drop}
use Rattle.query_forms.specs.Senses as spec
use Rattle.query_forms.proofs.operations.are_texts.Given as goal

abbrev pub invariant-loop-kind : goal.invariant-loop-kind
invariant-loop-kind l =
    spec.are_texts (drop l.kind-index l.kinds) ≡ spec.are_texts l.kinds
