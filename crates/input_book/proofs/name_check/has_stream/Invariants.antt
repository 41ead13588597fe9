use Rattle.std.proofs.Common.{◌≡◌, map, drop}
use Rattle.input_book.specs.Checks.{is_among}
use Rattle.input_book.proofs.name_check.has_stream.Given as goal

abbrev pub invariant-loop-stream : goal.invariant-loop-stream
invariant-loop-stream l = is_among (map (λ x. x.name) l.streams) l.name ≡ is_among (map (λ x. x.name) (drop l.stream-index l.streams)) l.name
