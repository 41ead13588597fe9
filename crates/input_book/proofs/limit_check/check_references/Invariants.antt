use Rattle.std.proofs.Common.{◌≡◌, ◌≤◌, [], take, drop, codes}
use Rattle.input_book.specs.Checks.{each, reference_limits, snapshot_count}
use Rattle.input_book.specs.Limits.{max_snapshots}
use Rattle.input_book.proofs.limit_check.check_references.Given as goal

abbrev pub invariant-loop-index : goal.invariant-loop-index
invariant-loop-index l = record {
  count : l.before ≡ snapshot_count (take l.index l.references);
  within : l.before ≤ max_snapshots;
  rest : each (λ passed reference. reference_limits (snapshot_count passed) reference) (codes "reference") (take l.index l.references) (drop l.index l.references)
      ≡ each (λ passed reference. reference_limits (snapshot_count passed) reference) (codes "reference") [] l.references;
}
