-- What a core has heard: the entries of each lane, those before the last cut and those since.
use Rattle.std.specs.Prelude.{ℕ, zero, suc, Bool, ◌&&◌, ◌≡◌, ◌+◌, ◌==◌, List, [], ◌∷◌, ◌++◌, map, take, drop}
use Rattle.event_value.specs.declared.record.Event.{Event}
use Rattle.event_value.specs.declared.record.Item.{Item}
use Rattle.event_value.specs.declared.record.Position.{Position}
use Rattle.row_order.specs.Stretches.{rows_from}
use Rattle.arrival_log.specs.Kept.{HeardLane}
use Rattle.arrival_log.specs.Log.{LaneEntry, position, segment_entries}
use Rattle.query_meaning.specs.Streams.{Log}

-- the events at w or later
abbrev pub events_from : ℕ → List Event → List Event
events_from w events = rows_from (λ (e : Event). e.time) w events

-- the entries of a lane, and whether it gets no more
pub record LaneHeard : Type 0 where
  -- the entries that were heard when the core was last cut
  pub before : List LaneEntry
  -- those that were heard since
  pub since : List LaneEntry
  pub closed : Bool

-- all entries that were heard
abbrev pub entries : LaneHeard → List LaneEntry
entries h = h.before ++ h.since

abbrev pub heard_lane : LaneHeard → HeardLane
heard_lane h = record { front = entries h; closed = h.closed }

-- the log of the streams, which have so many lanes each, by the lanes of all streams behind each other
abbrev pub log_of : List ℕ → List LaneHeard → Log
log_of [] heard = []
log_of (count ∷ counts) heard = map heard_lane (take count heard) ∷ log_of counts (drop count heard)

-- the place up to which a lane was heard
abbrev pub place_of : LaneHeard → Position
place_of h = position (entries h)

-- a place is the one behind the item at another
pub record IsBehindItem (old new : Position) : Type 0 where
  pub segment_is : new.segment ≡ old.segment
  pub index_is : new.index ≡ old.index + 1

-- a lane that is ended, of so many segments, gets no more entries behind the last
abbrev pub is_closed : Bool → ℕ → Position → Bool
is_closed ended segments place = ended && (place.segment == segments)

-- nothing was heard
abbrev pub nothing_heard : Bool → ℕ → LaneHeard
nothing_heard ended segments =
    record { before = []; since = []; closed = is_closed ended segments (position []) }

-- the next n entries of a segment that ends at this moment, behind the first ones
abbrev pub next_entries : ℕ → List Item → ℕ → ℕ → List LaneEntry
next_entries through items index n =
    take n (drop index (segment_entries (record { items = items; through = through })))

-- these entries more were heard
abbrev pub with_entries : Bool → ℕ → List LaneEntry → LaneHeard → LaneHeard
with_entries ended segments more h = record {
  before = h.before;
  since = h.since ++ more;
  closed = is_closed ended segments (position (entries h ++ more));
}

-- the core was cut
abbrev pub cut_lane : LaneHeard → LaneHeard
cut_lane h = record { before = entries h; since = []; closed = h.closed }

-- a lane changed
abbrev pub with_lane : (LaneHeard → LaneHeard) → ℕ → List LaneHeard → List LaneHeard
with_lane change n [] = []
with_lane change zero (h ∷ heard) = change h ∷ heard
with_lane change (suc n) (h ∷ heard) = h ∷ with_lane change n heard
