-- Which partition of which stream each lane is, and what it has heard once its files are read, for private clauses.
use Rattle.std.specs.Prelude.{◌≡◌, ℕ, Bool, List, [], length, map, slice_get, Option, Some, None}
use Rattle.std.specs.List.{flat_map}
use Rattle.std.specs.Option.{option_map}
use Rattle.arrival_log.specs.Log.{LaneEntry, lane_entries, position}
use Rattle.query_plan.specs.declared.plan.StreamUse.{StreamUse}
use Rattle.input_types.specs.declared.inputs.Inputs.{Inputs}
use Rattle.input_types.specs.declared.inputs.Partition.{Partition}
use Rattle.input_types.specs.declared.inputs.Stream.{Stream}
use Rattle.job_core.specs.Fresh.{fresh_lane, throughs_of}
use Rattle.job_core.specs.Heard.{LaneHeard, is_closed}
use Rattle.job_core.specs.Lane.{LaneStands}
use Rattle.job_core.specs.declared.lane.Lane.{Lane}
use Rattle.outside.specs.KnownFiles.{KnownFiles}
use Rattle.log_reading.specs.Log.{partition_files, segment_in}

-- a partition with its stream
pub record LanePlace : Type 0 where
  pub stream : Stream
  pub partition : Partition

abbrev pub place_at : Stream → Partition → LanePlace
place_at stream partition = record { stream = stream; partition = partition }

-- the partitions of a stream
abbrev pub places_in : Option Stream → List LanePlace
places_in None = []
places_in (Some stream) = map (place_at stream) stream.partitions

-- those of the streams that are used, in order of (stream, partition)
abbrev pub places : Inputs → List StreamUse → List LanePlace
places inputs uses = flat_map (λ used. places_in (slice_get inputs.streams used.stream)) uses

-- the partition of this number
abbrev pub place_in : Option Stream → ℕ → Option LanePlace
place_in None number = None
place_in (Some stream) number = option_map (place_at stream) (slice_get stream.partitions number)

-- that of a lane
abbrev pub place_of : Inputs → Lane → Option LanePlace
place_of inputs lane = place_in (slice_get inputs.streams lane.used.stream) lane.partition

abbrev pub files_at : Option LanePlace → List (List ℕ)
files_at None = []
files_at (Some place) = partition_files place.partition

-- the names of the files of a lane, in order of the segments
abbrev pub lane_files : Inputs → Lane → List (List ℕ)
lane_files inputs lane = files_at (place_of inputs lane)

-- a lane of so many segments has heard these entries, and no rows were given
abbrev pub has_heard : Bool → ℕ → List LaneEntry → LaneHeard
has_heard ended segments entries =
    record { before = []; since = entries; closed = is_closed ended segments (position entries) }

-- the lane of a partition has heard all entries of its segments, as the files hold them
abbrev pub heard_at : KnownFiles → LanePlace → LaneHeard
heard_at known place =
    has_heard place.partition.ended (length place.partition.segments)
    (lane_entries (map (segment_in known place.stream) place.partition.segments))

-- those of the streams that are used
abbrev pub heard_in : KnownFiles → Inputs → List StreamUse → List LaneHeard
heard_in known inputs uses = map (heard_at known) (places inputs uses)

-- the lane is that of this partition, and has heard nothing
pub record IsFreshAt (inputs : Inputs) (lane : Lane) (place : LanePlace) : Type 0 where
  pub place_is : place_of inputs lane ≡ Some place
  pub throughs_are : lane.throughs ≡ throughs_of place.partition.segments
  pub ended_is : lane.ended ≡ place.partition.ended
  pub stands : LaneStands inputs.policy lane (fresh_lane place.partition) 0

-- the lane is that of some partition, and has heard nothing
pub record IsFresh (inputs : Inputs) (lane : Lane) : Type 0 where
  pub place : LanePlace
  pub at : IsFreshAt inputs lane place
