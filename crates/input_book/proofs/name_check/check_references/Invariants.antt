use Rattle.std.proofs.Common.{◌≡◌, [], take, drop, codes}
use Rattle.input_book.specs.Checks.{each, reference_names}
use Rattle.input_book.proofs.name_check.check_references.Given as goal

abbrev pub invariant-loop-index : goal.invariant-loop-index
invariant-loop-index l =
    each (reference_names l.streams) (codes "reference") (take l.index l.references) (drop l.index l.references)
    ≡ each (reference_names l.streams) (codes "reference") [] l.references
