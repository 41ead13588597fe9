use Rattle.std.proofs.Common.{◌≡◌, map}
use Rattle.toml.specs.View.{members_view}
use Rattle.input_book.specs.Readers.{only}
use Rattle.input_book.proofs.members.only.Given as goal

abbrev pub invariant-loop-key : goal.invariant-loop-key
invariant-loop-key l = only (map (λ k. k.now) l.known) (members_view l.fn.table.entries) ≡ only (map (λ k. k.now) l.known) (members_view l.key-iterator)
