-- What a core that has heard nothing stands for, by its plan and its inputs.
use Rattle.std.specs.Prelude.{ℕ, ◌+◌, List, [], ◌∷◌, ◌++◌, length, map, slice_get, Option, Some, None}
use Rattle.query_plan.specs.declared.plan.Plan.{Plan}
use Rattle.query_plan.specs.declared.plan.StreamUse.{StreamUse}
use Rattle.input_types.specs.declared.inputs.Inputs.{Inputs}
use Rattle.input_types.specs.declared.inputs.Partition.{Partition}
use Rattle.input_types.specs.declared.inputs.SegmentName.{SegmentName}
use Rattle.input_types.specs.declared.inputs.Stream.{Stream}
use Rattle.job_core.specs.Heard.{LaneHeard, nothing_heard}
use Rattle.job_core.specs.Lanes.{LaneKind}

abbrev pub partitions_in : Option Stream → List Partition
partitions_in None = []
partitions_in (Some stream) = stream.partitions

-- the partitions of a stream that the plan uses
abbrev pub partitions_of : Inputs → StreamUse → List Partition
partitions_of inputs used = partitions_in (slice_get inputs.streams used.stream)

-- a lane before its first entry
abbrev pub fresh_lane : Partition → LaneHeard
fresh_lane partition = nothing_heard partition.ended (length partition.segments)

-- the lanes of streams before their first entries, in order of (stream, partition)
abbrev pub fresh_heard_of : Inputs → List StreamUse → List LaneHeard
fresh_heard_of inputs [] = []
fresh_heard_of inputs (used ∷ uses) = map fresh_lane (partitions_of inputs used) ++ fresh_heard_of inputs uses

-- all lanes of a plan
abbrev pub fresh_heard : Plan → Inputs → List LaneHeard
fresh_heard plan inputs = fresh_heard_of inputs plan.streams

-- the ends of segments
abbrev pub throughs_of : List SegmentName → List ℕ
throughs_of segments = map (λ segment. segment.through) segments

-- the lane of this partition of a stream
abbrev pub lane_kind : StreamUse → ℕ → Partition → LaneKind
lane_kind used number partition = record {
  used = used;
  partition = number;
  throughs = throughs_of partition.segments;
  ended = partition.ended;
}

-- those of partitions of a stream, from this number on
abbrev pub kinds_from : StreamUse → ℕ → List Partition → List LaneKind
kinds_from used number [] = []
kinds_from used number (partition ∷ partitions) =
    lane_kind used number partition ∷ kinds_from used (number + 1) partitions

-- those of streams, in order of (stream, partition)
abbrev pub lane_kinds : Inputs → List StreamUse → List LaneKind
lane_kinds inputs [] = []
lane_kinds inputs (used ∷ uses) = kinds_from used 0 (partitions_of inputs used) ++ lane_kinds inputs uses

-- how many lanes each stream has
abbrev pub lane_counts : Inputs → List StreamUse → List ℕ
lane_counts inputs uses = map (λ used. length (partitions_of inputs used)) uses
