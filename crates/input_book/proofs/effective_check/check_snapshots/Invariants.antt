use Rattle.std.proofs.Common.{◌≡◌, [], take, drop, codes}
use Rattle.input_book.specs.Checks.{each, last_effective, snapshot_order}
use Rattle.input_book.proofs.effective_check.check_snapshots.Given as goal

abbrev pub invariant-loop-index : goal.invariant-loop-index
invariant-loop-index l = record {
  before : l.before ≡ last_effective (take l.index l.snapshots);
  rest : each snapshot_order (codes "snapshots") (take l.index l.snapshots) (drop l.index l.snapshots)
      ≡ each snapshot_order (codes "snapshots") [] l.snapshots;
}
