-- A lane that is fed the segments that its files hold.
use Rattle.std.proofs.Common.{◌≡◌, ℕ, zero, suc, ◌+◌, ◌<◌, Bool, List, [], ◌∷◌, ◌++◌, length, map, take, drop, get_or, Option, Some, None, refl, ap, sym, subst, ◌∙◌, arith}
use Rattle.std.proofs.lemmas.List.{flat_map_more, length-append, length-map, length_push, map_push, take_all}
use Rattle.std.specs.Option.{IfSome}
use Rattle.arrival_log.specs.Log.{LaneEntry, LaneSegment, Record, Broken, End, item_entry, segment_entries, lane_entries, place_after, position}
use Rattle.event_value.specs.declared.policy.Policy.{Policy}
use Rattle.event_value.specs.declared.record.Item.{Item}
use Rattle.event_value.specs.declared.record.Item.TheVariants.{Good, Bad}
use Rattle.event_value.specs.declared.record.Position.{Position}
use Rattle.input_types.specs.declared.inputs.Inputs.{Inputs}
use Rattle.input_types.specs.declared.inputs.Partition.{Partition}
use Rattle.input_types.specs.declared.inputs.SegmentName.{SegmentName}
use Rattle.input_types.specs.declared.inputs.Stream.{Stream}
use Rattle.job_core.specs.Fresh.{fresh_lane, throughs_of}
use Rattle.job_core.specs.Lane.{IsFed, IsSameLane, LaneStands, fed_entries, through_of}
use Rattle.job_core.specs.declared.lane.Lane.{Lane}
use Rattle.job_core.proofs.LaneLemmas.{IsSameLane-both, IsSameLane-self}
use Rattle.outside.specs.KnownFiles.{KnownFiles}
use Rattle.log_reading.specs.Asking.{Asks}
use Rattle.log_reading.specs.Feeding.{BeginsWith, FeedsFile, FeedsFiles, FeedsLane, HasRead, IsAtSegment}
use Rattle.log_reading.specs.Log.{items_of_file, segment_in}
use Rattle.log_reading.specs.Places.{IsFresh, IsFreshAt, LanePlace, has_heard, heard_at, place_at, place_of}
use Rattle.log_reading.proofs.KnownLemmas.{IfSome-before, at_none, both}

place_after-append : (first then : List LaneEntry) (place : Position) → place_after place (first ++ then) ≡ place_after (place_after place first) then
place_after-append [] then place = refl
place_after-append (Record enqueued through values ∷ first) then place = place_after-append first then (record { segment = place.segment; index = place.index + 1 })
place_after-append (Broken rule ∷ first) then place = place_after-append first then (record { segment = place.segment; index = place.index + 1 })
place_after-append (End through ∷ first) then place = place_after-append first then (record { segment = place.segment + 1; index = 0 })

items-place : (through : ℕ) (items : List Item) (place : Position)
    → (place_after place (map (item_entry through) items)).segment ≡ place.segment
items-place through [] place = refl
items-place through (Good enqueued values ∷ items) place = items-place through items (record { segment = place.segment; index = place.index + 1 })
items-place through (Bad rule ∷ items) place = items-place through items (record { segment = place.segment; index = place.index + 1 })

segment-place : (segment : LaneSegment) (place : Position)
    → place_after place (segment_entries segment) ≡ record { segment = place.segment + 1; index = 0 }
segment-place segment place =
    place_after-append (map (item_entry segment.through) segment.items) (End segment.through ∷ []) place
    ∙ ap (λ (s : ℕ). record { segment = s + 1; index = 0 }) (items-place segment.through segment.items place)

lane-place : (segments : List LaneSegment) (at : ℕ)
    → place_after (record { segment = at; index = 0 }) (lane_entries segments) ≡ record { segment = at + length segments; index = 0 }
lane-place [] at = ap (λ (s : ℕ). record { segment = s; index = 0 }) (omega arith)
lane-place (segment ∷ segments) at =
    place_after-append (segment_entries segment) (lane_entries segments) (record { segment = at; index = 0 })
    ∙ ap (λ (p : Position). place_after p (lane_entries segments)) (segment-place segment (record { segment = at; index = 0 }))
    ∙ lane-place segments (at + 1) ∙ ap (λ (s : ℕ). record { segment = s; index = 0 }) (omega arith)

-- behind whole segments stands the next one's start
pub position-lane_entries : (segments : List LaneSegment) → position (lane_entries segments) ≡ record { segment = length segments; index = 0 }
position-lane_entries segments = lane-place segments 0 ∙ ap (λ (s : ℕ). record { segment = s; index = 0 }) (omega arith)

-- all entries of a segment, from its start on
pub whole-entries : (lane : Lane) (items : List Item) (n : ℕ) → lane.place.index ≡ 0 → n ≡ length items + 1
    → fed_entries lane items n ≡ segment_entries (record { items = items; through = through_of lane })
whole-entries lane items n index all =
    let through = through_of lane in
    let entries = segment_entries (record { items = items; through = through }) in
    ap (λ (i : ℕ). take n (drop i entries)) index
    ∙ take_all n entries (omega (arith, all, length-append (map (item_entry through) items) (End through ∷ []), length-map items (item_entry through)))

pub FeedsFile-read : (files : Option KnownFiles) (stream : Stream) (segment : SegmentName) (name : List ℕ) (old new : Lane) (items given : List Item) (n : ℕ)
    → IsAtSegment old segment → name ≡ segment.file → given ≡ items → n ≡ length items + 1
    → IfSome files (λ known. items ≡ items_of_file known stream name)
    → IsFed old (fed_entries old given n) new → IsSameLane old new → FeedsFile files stream segment old new
FeedsFile-read files stream segment name old new items given n at name_is given_is n_is content fed same = record {
  items = items;
  fed =
      subst (λ (entries : List LaneEntry). IsFed old entries new)
      (ap (λ (is : List Item). fed_entries old is n) given_is
      ∙ whole-entries old items n at.index_is n_is
      ∙ ap (λ (t : ℕ). segment_entries (record { items = items; through = t })) at.through_is)
      fed;
  same = same;
  content = subst (λ (file : List ℕ). IfSome files (λ known. items ≡ items_of_file known stream file)) name_is content;
}

through-at : (segments : List SegmentName) (i : ℕ) (segment : SegmentName) → i < length segments → segment ≡ get_or segments i segment
    → get_or (throughs_of segments) i 0 ≡ segment.through
through-at [] i segment less is = absurd (omega (arith, less))
through-at (first ∷ segments) zero segment less is = ap (λ (s : SegmentName). s.through) (sym is)
through-at (first ∷ segments) (suc i) segment less is = through-at segments i segment (omega (arith, less)) is

-- ---- the segments of a lane

pub FeedsFiles-start : (files : Option KnownFiles) (stream : Stream) (lane : Lane) → FeedsFiles files stream [] lane lane
FeedsFiles-start files stream lane = record {
  segments = [];
  fed = λ policy read. read;
  same = IsSameLane-self lane;
  count = refl;
  content = at_none files (λ (known : KnownFiles). [] ≡ map (segment_in known stream) []) (λ known. refl);
}

-- where a lane is that was fed whole segments
read-place : (policy : Policy) (lane : Lane) (segments : List LaneSegment) → HasRead policy lane segments → lane.place ≡ record { segment = length segments; index = 0 }
read-place policy lane segments read = read.heard.place_is ∙ position-lane_entries segments

pub IsAtSegment-next : (files : Option KnownFiles) (stream : Stream) (all : List SegmentName) (i : ℕ) (segment : SegmentName) (old new : Lane)
    → i < length all → segment ≡ get_or all i segment → length (take i all) ≡ i
    → BeginsWith old all → FeedsFiles files stream (take i all) old new → IsAtSegment new segment
IsAtSegment-next files stream all i segment old new less is front begins fed =
    let place = read-place begins.policy new fed.segments (fed.fed begins.policy begins.stands) in
    let at : new.place.segment ≡ i = ap (λ (p : Position). p.segment) place ∙ fed.count ∙ front in
    let throughs : new.throughs ≡ throughs_of all = fed.same.throughs_are ∙ begins.throughs_are in
    record {
      in_segment = omega (arith, at, less, ap length throughs, length-map all (λ (s : SegmentName). s.through));
      index_is = ap (λ (p : Position). p.index) place;
      through_is =
          ap (λ (ts : List ℕ). get_or ts new.place.segment 0) throughs
          ∙ ap (λ (n : ℕ). get_or (throughs_of all) n 0) at
          ∙ through-at all i segment less is;
    }

-- one segment more
HasRead-next : (policy : Policy) (between new : Lane) (segments : List LaneSegment) (one : LaneSegment) → IsSameLane between new
    → LaneStands policy new (has_heard between.ended (length between.throughs) (lane_entries segments ++ segment_entries one)) 0
    → HasRead policy new (segments ++ one ∷ [])
HasRead-next policy between new segments one same stands =
    subst (λ (entries : List LaneEntry). LaneStands policy new (has_heard new.ended (length new.throughs) entries) 0) (flat_map_more segment_entries [] segments one)
    (subst (λ (ts : List ℕ). LaneStands policy new (has_heard new.ended (length ts) (lane_entries segments ++ segment_entries one)) 0) (sym same.throughs_are)
    (subst (λ (b : Bool). LaneStands policy new (has_heard b (length between.throughs) (lane_entries segments ++ segment_entries one)) 0) (sym same.ended_is) stands))

pub FeedsFiles-next : (files middle : Option KnownFiles) (asked : List (List ℕ)) (stream : Stream) (names : List SegmentName) (segment : SegmentName) (old between new : Lane)
    → Asks asked files middle → FeedsFiles files stream names old between → FeedsFile middle stream segment between new
    → FeedsFiles files stream (names ++ segment ∷ []) old new
FeedsFiles-next files middle asked stream names segment old between new asks front last =
    let one : LaneSegment = record { items = last.items; through = segment.through } in
    record {
      segments = front.segments ++ one ∷ [];
      fed = λ policy read.
          HasRead-next policy between new front.segments one last.same
          (last.fed policy (has_heard between.ended (length between.throughs) (lane_entries front.segments)) 0 (omega arith) (front.fed policy read));
      same = IsSameLane-both old between new front.same last.same;
      count = length_push front.segments one ∙ ap (λ (n : ℕ). n + 1) front.count ∙ sym (length_push names segment);
      content =
          both files (λ (known : KnownFiles). front.segments ≡ map (segment_in known stream) names)
          (λ (known : KnownFiles). last.items ≡ items_of_file known stream segment.file)
          (λ (known : KnownFiles). front.segments ++ one ∷ [] ≡ map (segment_in known stream) (names ++ segment ∷ []))
          (λ known a b.
          ap (λ (all : List LaneSegment). all ++ one ∷ []) a
          ∙ ap (λ (items : List Item). map (segment_in known stream) names ++ record { items = items; through = segment.through } ∷ []) b
          ∙ sym (map_push (segment_in known stream) names segment))
          front.content
          (IfSome-before (λ (known : KnownFiles). last.items ≡ items_of_file known stream segment.file) asked files middle (λ known left h. h) asks last.content);
    }

-- ---- a lane by its partition

Some-same : (x y : LanePlace) → Some x ≡ Some y → x ≡ y
Some-same x y e = cc

-- the lane of a partition, as one with its segments
fresh-read : (policy : Policy) (lane : Lane) (partition : Partition) → lane.throughs ≡ throughs_of partition.segments → lane.ended ≡ partition.ended
    → LaneStands policy lane (fresh_lane partition) 0 → HasRead policy lane []
fresh-read policy lane partition throughs ended stands =
    let many : length lane.throughs ≡ length partition.segments = ap length throughs ∙ length-map partition.segments (λ (s : SegmentName). s.through) in
    subst (λ (n : ℕ). LaneStands policy lane (has_heard lane.ended n []) 0) (sym many)
    (subst (λ (b : Bool). LaneStands policy lane (has_heard b (length partition.segments) []) 0) (sym ended) stands)

pub no-place : (inputs : Inputs) (lane : Lane) → IsFresh inputs lane → place_of inputs lane ≡ None → ⊥
no-place inputs lane fresh is = none fresh.place (sym fresh.at.place_is ∙ is)
  where
    none : (place : LanePlace) → Some place ≡ None → ⊥
    none place e = cc

pub BeginsWith-fresh : (inputs : Inputs) (lane : Lane) (place : LanePlace) (stream : Stream) (partition : Partition)
    → place_of inputs lane ≡ Some (place_at stream partition) → IsFreshAt inputs lane place → BeginsWith lane partition.segments
BeginsWith-fresh inputs lane place stream partition is at =
    let same : place ≡ place_at stream partition = Some-same place (place_at stream partition) (sym at.place_is ∙ is) in
    let here : IsFreshAt inputs lane (place_at stream partition) = subst (IsFreshAt inputs lane) same at in
    record {
      throughs_are = here.throughs_are;
      policy = inputs.policy;
      stands = fresh-read inputs.policy lane partition here.throughs_are here.ended_is here.stands;
    }

heard-partition : (known : KnownFiles) (inputs : Inputs) (stream : Stream) (partition : Partition) (old new : Lane) (segments : List LaneSegment)
    → IsFreshAt inputs old (place_at stream partition) → ((policy : Policy) → HasRead policy old [] → HasRead policy new segments) → IsSameLane old new
    → segments ≡ map (segment_in known stream) partition.segments → LaneStands inputs.policy new (heard_at known (place_at stream partition)) 0
heard-partition known inputs stream partition old new segments at fed same is =
    let read = fed inputs.policy (fresh-read inputs.policy old partition at.throughs_are at.ended_is at.stands) in
    let many : length new.throughs ≡ length partition.segments = ap length (same.throughs_are ∙ at.throughs_are) ∙ length-map partition.segments (λ (s : SegmentName). s.through) in
    subst (λ (ss : List LaneSegment). LaneStands inputs.policy new (has_heard partition.ended (length partition.segments) (lane_entries ss)) 0) is
    (subst (λ (n : ℕ). LaneStands inputs.policy new (has_heard partition.ended n (lane_entries segments)) 0) many
    (subst (λ (b : Bool). LaneStands inputs.policy new (has_heard b (length new.throughs) (lane_entries segments)) 0) (same.ended_is ∙ at.ended_is) read))

pub FeedsLane-files : (files : Option KnownFiles) (inputs : Inputs) (stream : Stream) (partition : Partition) (old new : Lane)
    → place_of inputs old ≡ Some (place_at stream partition) → FeedsFiles files stream partition.segments old new → FeedsLane files inputs old new
FeedsLane-files files inputs stream partition old new is fed = record {
  same = fed.same;
  stands = both files (λ (known : KnownFiles). fed.segments ≡ map (segment_in known stream) partition.segments) (λ (known : KnownFiles). fed.segments ≡ map (segment_in known stream) partition.segments)
      (λ (known : KnownFiles). (place : LanePlace) → IsFreshAt inputs old place → LaneStands inputs.policy new (heard_at known place) 0)
      (λ known content also. λ place at.
      let same : place ≡ place_at stream partition = Some-same place (place_at stream partition) (sym at.place_is ∙ is) in
      subst (λ (p : LanePlace). LaneStands inputs.policy new (heard_at known p) 0) (sym same)
      (heard-partition known inputs stream partition old new fed.segments (subst (IsFreshAt inputs old) same at) fed.fed fed.same content))
      fed.content fed.content;
}

pub FeedsLane-segments : (files : Option KnownFiles) (inputs : Inputs) (stream : Stream) (partition : Partition) (segments : List SegmentName) (old new : Lane)
    → place_of inputs old ≡ Some (place_at stream partition) → segments ≡ partition.segments → FeedsFiles files stream segments old new → FeedsLane files inputs old new
FeedsLane-segments files inputs stream partition segments old new is same fed =
    FeedsLane-files files inputs stream partition old new is (subst (λ (names : List SegmentName). FeedsFiles files stream names old new) same fed)
