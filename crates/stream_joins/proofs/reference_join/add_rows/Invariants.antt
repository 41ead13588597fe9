use Rattle.std.proofs.Common.{◌≡◌, ◌++◌, take}
use Rattle.std.specs.List.{list_any}
use Rattle.stream_joins.proofs.FoundLemmas.{found}
use Rattle.stream_joins.specs.Joined.{joined}
use Rattle.stream_joins.specs.Reference.{is_found}
use Rattle.stream_joins.specs.Specs.{lookup_of}
use Rattle.stream_joins.proofs.reference_join.add_rows.Given as goal

abbrev pub invariant-loop-other : goal.invariant-loop-other
invariant-loop-other g l =
    let q = is_found (lookup_of g.M.Matches.pairs l.spec) l.left in
    record {
      pushed : l.rows ≡ l.initial.rows ++ found q (joined l.left.time l.left) (take l.other-index l.other-items);
      some : l.any ≡ list_any q (take l.other-index l.other-items);
    }
