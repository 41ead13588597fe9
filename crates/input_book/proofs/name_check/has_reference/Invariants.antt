use Rattle.std.proofs.Common.{◌≡◌, map, drop}
use Rattle.input_book.specs.Checks.{is_among}
use Rattle.input_book.proofs.name_check.has_reference.Given as goal

abbrev pub invariant-loop-reference : goal.invariant-loop-reference
invariant-loop-reference l = is_among (map (λ x. x.name) l.references) l.name ≡ is_among (map (λ x. x.name) (drop l.reference-index l.references)) l.name
