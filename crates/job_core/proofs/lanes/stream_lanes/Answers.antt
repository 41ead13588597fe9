use Rattle.std.proofs.Common.{◌<◌, ◌^◌, length, ap, sym, subst, ◌∙◌}
use Rattle.std.specs.Prelude.{All}
use Rattle.input_book.specs.Laws.{IsPartition}
use Rattle.job_core.specs.Fresh.{kinds_from}
use Rattle.job_core.proofs.FreshLemmas.{partitions-fit}
use Rattle.job_core.proofs.lanes.stream_lanes.Goals as goal

pub partition_lanes-requires-clause-count : goal.partition_lanes-requires-clause-count
partition_lanes-requires-clause-count c =
    subst (λ ps. length ps < 2 ^ 16) (sym c.partitions_of.ensures) (partitions-fit c.args.inputs.now c.args.used.now c.requires).0

pub partition_lanes-requires-clause-segments : goal.partition_lanes-requires-clause-segments
partition_lanes-requires-clause-segments c =
    subst (All IsPartition) (sym c.partitions_of.ensures) (partitions-fit c.args.inputs.now c.args.used.now c.requires).1

pub returns-clause-kinds : goal.returns-clause-kinds
returns-clause-kinds c = c.in_ok-lanes.ensures.kinds ∙ ap (kinds_from c.args.used.now 0) c.partitions_of.ensures
