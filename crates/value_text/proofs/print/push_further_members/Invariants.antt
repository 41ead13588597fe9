use Rattle.std.proofs.Common.{◌≡◌, ◌++◌}
use Rattle.std.specs.Iterator.Adapters.{zip_first, zip_second}
use Rattle.std.specs.Slice.Iter.{iter_rest}
use Rattle.value_text.specs.Printed.{further_members}
use Rattle.value_text.proofs.print.push_further_members.Given as goal

-- what is printed, and what is still to come
abbrev pub invariant-loop-name : goal.invariant-loop-name
invariant-loop-name l =
    l.out ++ further_members (iter_rest (zip_first l.name-iterator)) (iter_rest (zip_second l.name-iterator)) ≡ l.fn.out ++ further_members l.names l.values
