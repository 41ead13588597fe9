use Rattle.std.proofs.Common.{◌≡◌, ◌++◌, take}
use Rattle.std.specs.List.{list_any}
use Rattle.stream_joins.proofs.FoundLemmas.{found}
use Rattle.stream_joins.specs.Bound.{is_pair, pair_row}
use Rattle.stream_joins.specs.Specs.{bound_of}
use Rattle.stream_op.specs.Rows.{between}
use Rattle.stream_joins.proofs.bound_join.add_pairs.Given as goal

abbrev pub invariant-loop-other : goal.invariant-loop-other
invariant-loop-other g l =
    let q = is_pair (bound_of g.M.Matches.pairs l.spec) l.left in
    record {
      pushed : l.rows ≡ l.initial.rows ++ between l.stretch.from l.stretch.upto (found q (pair_row l.left) (take l.other-index l.near));
      some : l.any ≡ list_any q (take l.other-index l.near);
    }
