use Rattle.std.proofs.Common.{◌≡◌, ◌++◌, length, false}
use Rattle.query_grammar.specs.Leaves.{undoubled, inner_bytes}
use Rattle.query_cursor.proofs.leaves.text_content.Given as goal

-- the bytes so far and those of the rest are all
abbrev pub invariant-bytes : goal.invariant-bytes
invariant-bytes l = l.text ++ undoubled l.second l.rest ≡ undoubled false (inner_bytes l.fn.bytes)

abbrev pub decreases-bytes : goal.decreases-bytes
decreases-bytes l = length l.rest
