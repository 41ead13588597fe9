-- A lane that is fed what its files hold, for private clauses.
use Rattle.std.specs.Prelude.{◌≡◌, ◌<◌, List, [], ◌∷◌, length, map, Option, IfSome}
use Rattle.arrival_log.specs.Log.{LaneSegment, lane_entries, segment_entries}
use Rattle.event_value.specs.declared.record.Item.{Item}
use Rattle.event_value.specs.declared.policy.Policy.{Policy}
use Rattle.input_types.specs.declared.inputs.Inputs.{Inputs}
use Rattle.input_types.specs.declared.inputs.SegmentName.{SegmentName}
use Rattle.input_types.specs.declared.inputs.Stream.{Stream}
use Rattle.job_core.specs.Fresh.{throughs_of}
use Rattle.job_core.specs.Lane.{IsFed, IsSameLane, LaneStands, through_of}
use Rattle.job_core.specs.declared.lane.Lane.{Lane}
use Rattle.outside.specs.KnownFiles.{KnownFiles}
use Rattle.log_reading.specs.Log.{items_of_file, segment_in}
use Rattle.log_reading.specs.Places.{IsFreshAt, LanePlace, has_heard, heard_at}

-- the lane has heard these entries and no others, and no rows of it were given
abbrev pub HasRead : Policy → Lane → List LaneSegment → Type 0
HasRead policy lane segments =
    LaneStands policy lane (has_heard lane.ended (length lane.throughs) (lane_entries segments)) 0

-- the lane is at the start of this segment
pub record IsAtSegment (lane : Lane) (segment : SegmentName) : Type 0 where
  pub in_segment : lane.place.segment < length lane.throughs
  pub index_is : lane.place.index ≡ 0
  pub through_is : through_of lane ≡ segment.through

-- the lane was fed the items and the mark of a segment, and those are the items of its file
pub record FeedsFile (files : Option KnownFiles) (stream : Stream) (segment : SegmentName) (old new : Lane)
    : Type 0 where
  pub items : List Item
  pub fed : IsFed old (segment_entries (record { items = items; through = segment.through })) new
  pub same : IsSameLane old new
  pub content : IfSome files (λ known. items ≡ items_of_file known stream segment.file)

-- the lane has segments that end so, and has heard nothing
pub record BeginsWith (lane : Lane) (segments : List SegmentName) : Type 0 where
  pub throughs_are : lane.throughs ≡ throughs_of segments
  pub policy : Policy
  pub stands : HasRead policy lane []

-- a lane that has heard nothing was fed some segments, and those are the segments of these files
pub record FeedsFiles (files : Option KnownFiles) (stream : Stream) (names : List SegmentName) (old new : Lane)
    : Type 0 where
  pub segments : List LaneSegment
  pub fed : (policy : Policy) → HasRead policy old [] → HasRead policy new segments
  pub same : IsSameLane old new
  pub count : length segments ≡ length names
  pub content : IfSome files (λ known. segments ≡ map (segment_in known stream) names)

-- a lane of these inputs that has heard nothing was fed all that its files hold
pub record FeedsLane (files : Option KnownFiles) (inputs : Inputs) (old new : Lane) : Type 0 where
  pub same : IsSameLane old new
  pub stands : IfSome files (λ known. (place : LanePlace) → IsFreshAt inputs old place
      → LaneStands inputs.policy new (heard_at known place) 0)

-- each of these lanes
abbrev pub FeedsLanes : Option KnownFiles → Inputs → List Lane → List Lane → Type 0
FeedsLanes files inputs [] [] = Unit {0}
FeedsLanes files inputs [] (new ∷ news) = ⊥
FeedsLanes files inputs (old ∷ olds) [] = ⊥
FeedsLanes files inputs (old ∷ olds) (new ∷ news) =
    FeedsLane files inputs old new × FeedsLanes files inputs olds news
