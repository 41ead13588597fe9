use Rattle.std.proofs.Common.{◌≡◌, map, drop}
use Rattle.input_book.specs.Readers.{is_known}
use Rattle.input_book.proofs.members.is_known.Given as goal

abbrev pub invariant-loop-name : goal.invariant-loop-name
invariant-loop-name l = is_known (map (λ k. k.now) l.known) l.key ≡ is_known (map (λ k. k.now) (drop l.name-index l.known)) l.key
