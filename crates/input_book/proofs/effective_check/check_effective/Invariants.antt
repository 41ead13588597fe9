use Rattle.std.proofs.Common.{◌≡◌, [], take, drop, codes}
use Rattle.input_book.specs.Checks.{each, reference_order}
use Rattle.input_book.proofs.effective_check.check_effective.Given as goal

abbrev pub invariant-loop-index : goal.invariant-loop-index
invariant-loop-index l =
    each (λ _ r. reference_order r) (codes "reference") (take l.index l.reference-items) (drop l.index l.reference-items)
    ≡ each (λ _ r. reference_order r) (codes "reference") [] l.reference-items
