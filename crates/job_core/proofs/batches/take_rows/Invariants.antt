use Rattle.std.proofs.Common.{◌≡◌, take, drop}
use Rattle.job_core.specs.Gathered.{joined}
use Rattle.job_core.proofs.batches.take_rows.Given as goal

abbrev pub invariant-loop-i : goal.invariant-loop-i
invariant-loop-i l = record {
  all_are : l.all ≡ joined (take l.i l.fn.rest.items);
  rest_are : l.rest.items ≡ drop l.i l.fn.rest.items;
}
