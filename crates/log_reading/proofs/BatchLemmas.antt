-- The batch of ended inputs that were read whole.
use Rattle.std.proofs.Common.{◌≡◌, ℕ, zero, suc, ◌+◌, Bool, true, ◌&&◌, min, List, [], ◌∷◌, ◌++◌, length, map, take, drop, Option, Some, None, refl, ap, sym, subst, ◌∙◌, arith}
use Rattle.std.specs.Prelude.{nat_le, nat_lt, slice_get, ◌≢◌}
use Rattle.std.specs.List.{All, AllPairs, flat_map, sum_by}
use Rattle.std.specs.Option.{IfSome, option_map}
use Rattle.std.proofs.lemmas.Bool.{eq-eqb, le-leb}
use Rattle.std.proofs.lemmas.List.{drop-map, length-map, map-append, take-map}
use Rattle.std.proofs.lemmas.List.Concat.{flat_map-cons}
use Rattle.std.proofs.lemmas.List.Elements.{All-map, All-weaker}
use Rattle.std.proofs.lemmas.List.Folds.{flat_map-map}
use Rattle.std.proofs.lemmas.List.Kept.{AllPairs-cons}
use Rattle.std.proofs.lemmas.List.Sums.{sum_by-cons}
use Rattle.arrival_log.specs.Kept.{HeardLane, Judge, lane_drops, least_watermark}
use Rattle.arrival_log.specs.Log.{LaneSegment, lane_entries, position}
use Rattle.checkpoint_form.specs.declared.batch.Batch.{Batch}
use Rattle.query_plan.specs.declared.plan.Plan.{Plan}
use Rattle.query_plan.specs.declared.plan.StreamUse.{StreamUse}
use Rattle.event_value.specs.declared.policy.Policy.{Policy}
use Rattle.event_value.specs.declared.record.Dropped.{Dropped}
use Rattle.event_value.specs.declared.record.Position.{Position}
use Rattle.event_value.specs.declared.record.Stamped.{Stamped}
use Rattle.input_book.specs.Laws.{IsPartition, IsStream, IsWellFormed}
use Rattle.input_types.specs.declared.inputs.Inputs.{Inputs}
use Rattle.input_types.specs.declared.inputs.Partition.{Partition}
use Rattle.input_types.specs.declared.inputs.Reference.{Reference}
use Rattle.input_types.specs.declared.inputs.Stream.{Stream}
use Rattle.job_core.specs.Batches.{drops_since, drops_since_of, printed_outputs}
use Rattle.job_core.specs.Core.{CoreStands, IsBatch, IsCut, IsSameCore, core_rows, core_watermark}
use Rattle.job_core.specs.Fresh.{lane_counts, partitions_in}
use Rattle.job_core.specs.Heard.{LaneHeard, entries, heard_lane, is_closed, log_of}
use Rattle.job_core.specs.declared.job.Core.{Core}
use Rattle.outside.specs.KnownFiles.{KnownFiles}
use Rattle.query_meaning.specs.Lists.{all_below, all_between}
use Rattle.query_meaning.specs.Meaning.{outputs_over}
use Rattle.query_meaning.specs.Ready.{columns_of_stream, ready_over, ready_plan, reference_width, stream_width}
use Rattle.query_meaning.specs.Streams.{Log, drops_of_lanes, drops_of_streams, judge_of, rows_of_streams, watermark_of_streams}
use Rattle.query_meaning.specs.declared.ready.ReadyPlan.{ReadyPlan}
use Rattle.row_order.proofs.ListLemmas.{Each-all, filter-alike}
use Rattle.stream_joins.specs.Snapshots.{Snapshots}
use Rattle.stream_op.specs.Rows.{below, between}
use Rattle.tick_time.specs.Moment.{end_ticks}
use Rattle.log_reading.specs.Batch.{IsWholeBatch}
use Rattle.log_reading.specs.Core.{FeedsCore}
use Rattle.log_reading.specs.Ended.{ended_inputs, ended_partition, ended_stream}
use Rattle.log_reading.specs.Log.{lane_in, lanes_in, log_files, log_in, partition_files, segment_in, stream_files}
use Rattle.log_reading.specs.Places.{LanePlace, heard_at, heard_in, place_at, places, places_in}
use Rattle.log_reading.proofs.FeedingLemmas.{position-lane_entries}

-- ---- what is between moment 0 and another is what is below it

between-zero : (u : ℕ) (rows : List Stamped) → between 0 u rows ≡ below u rows
between-zero u rows = filter-alike _ _ rows (Each-all _ (λ row. zero-first row.time) rows)
  where
    zero-first : (t : ℕ) → (nat_le 0 t && nat_lt t u) ≡ nat_lt t u
    zero-first t = ap (λ b. b && nat_lt t u) (le-leb 0 t (omega arith))

all_between-zero : (u : ℕ) (lists : List (List Stamped)) → all_between 0 u lists ≡ all_below u lists
all_between-zero u [] = refl
all_between-zero u (rows ∷ lists) =
    ap (λ l. l ∷ all_between 0 u lists) (between-zero u rows) ∙ ap (λ l. below u rows ∷ l) (all_between-zero u lists)

-- ---- ended inputs are well formed

ended-partition : (partition : Partition) → IsPartition partition → IsPartition (ended_partition partition)
ended-partition partition h = record { count = h.count; segments = h.segments; order = h.order }

ended-stream : (stream : Stream) → IsStream stream → IsStream (ended_stream stream)
ended-stream stream h = record {
  name = h.name;
  format = h.format;
  column_count = h.column_count;
  columns = h.columns;
  column_names = h.column_names;
  partition_count = omega (arith, h.partition_count, length-map stream.partitions ended_partition);
  partitions =
      All-map IsPartition ended_partition stream.partitions
      (All-weaker IsPartition (λ p. IsPartition (ended_partition p)) ended-partition stream.partitions h.partitions);
}

AllPairs-map : {X Y : Type 0} (R : Y → Y → Type 0) (f : X → Y) (xs : List X) → AllPairs (λ a b. R (f a) (f b)) xs → AllPairs R (map f xs)
AllPairs-map R f [] h = λ i j d below within. absurd (omega (arith, within))
AllPairs-map R f (x ∷ xs) h =
    AllPairs-cons R (f x) (map f xs)
    (All-map (R (f x)) f xs (λ k d within. h zero (suc k) d (omega arith) (omega (arith, within))))
    (AllPairs-map R f xs (λ i j d below within. h (suc i) (suc j) d (omega (arith, below)) (omega (arith, within))))

sum-map : {X : Type 0} (count : X → ℕ) (f : X → X) → ((x : X) → count (f x) ≡ count x) → (xs : List X) → sum_by count (map f xs) ≡ sum_by count xs
sum-map count f same [] = refl
sum-map count f same (x ∷ xs) =
    sum_by-cons count (f x) (map f xs)
    ∙ ap (λ n. n + sum_by count (map f xs)) (same x)
    ∙ ap (λ n. count x + n) (sum-map count f same xs)
    ∙ sym (sum_by-cons count x xs)

pub ended-well_formed : (inputs : Inputs) → IsWellFormed inputs → IsWellFormed (ended_inputs inputs)
ended-well_formed inputs h =
    let streams = inputs.streams in
    let many = length-map streams ended_stream in
    record {
      stream_count = (omega (arith, h.stream_count.0, many), omega (arith, h.stream_count.1, many));
      streams = All-map IsStream ended_stream streams (All-weaker IsStream (λ s. IsStream (ended_stream s)) ended-stream streams h.streams);
      stream_names = AllPairs-map (λ (a b : Stream). a.name ≢ b.name) ended_stream streams h.stream_names;
      partition_count =
          omega (arith, h.partition_count, sum-map (λ (s : Stream). length s.partitions) ended_stream (λ s. length-map s.partitions ended_partition) streams);
      reference_count = h.reference_count;
      references = h.references;
      reference_names = h.reference_names;
      source_names =
          All-weaker (λ (r : Reference). All (λ (s : Stream). s.name ≢ r.name) streams) (λ (r : Reference). All (λ (s : Stream). s.name ≢ r.name) (map ended_stream streams))
          (λ r free. All-map (λ (s : Stream). s.name ≢ r.name) ended_stream streams free) inputs.references h.source_names;
      snapshot_count = h.snapshot_count;
      policy = h.policy;
    }

-- ---- a plan over ended inputs is ready as over the inputs

width-found : (o : Option Stream) → columns_of_stream (option_map ended_stream o) ≡ columns_of_stream o
width-found None = refl
width-found (Some stream) = refl

found-ended : (streams : List Stream) (n : ℕ) → slice_get (map ended_stream streams) n ≡ option_map ended_stream (slice_get streams n)
found-ended [] n = refl
found-ended (stream ∷ streams) zero = refl
found-ended (stream ∷ streams) (suc n) = found-ended streams n

widths-ended : (inputs : Inputs) (uses : List StreamUse) → map (stream_width (ended_inputs inputs)) uses ≡ map (stream_width inputs) uses
widths-ended inputs [] = refl
widths-ended inputs (used ∷ uses) =
    let found = slice_get inputs.streams used.stream in
    let width : stream_width (ended_inputs inputs) used ≡ stream_width inputs used =
    ap columns_of_stream (found-ended inputs.streams used.stream) ∙ width-found found in
    ap (λ (n : ℕ). n ∷ map (stream_width (ended_inputs inputs)) uses) width
    ∙ ap (λ (ns : List ℕ). stream_width inputs used ∷ ns) (widths-ended inputs uses)

pub ready-ended : (plan : Plan) (inputs : Inputs) (snapshots : List Snapshots) → ready_plan plan (ended_inputs inputs) snapshots ≡ ready_plan plan inputs snapshots
ready-ended plan inputs snapshots =
    ap (λ (widths : List ℕ). ready_over plan widths (map (reference_width inputs) plan.references) snapshots) (widths-ended inputs plan.streams)

-- ---- the log that was heard

closed-ended : (segments : List LaneSegment) (n : ℕ) → n ≡ length segments → is_closed true n (position (lane_entries segments)) ≡ true
closed-ended segments n is =
    ap (λ (p : Position). is_closed true n p) (position-lane_entries segments)
    ∙ eq-eqb (length segments) n (sym is)

lane-ended : (known : KnownFiles) (stream : Stream) (partition : Partition)
    → heard_lane (heard_at known (place_at (ended_stream stream) (ended_partition partition))) ≡ lane_in known stream partition
lane-ended known stream partition =
    let segments = map (segment_in known stream) partition.segments in
    ap (λ (b : Bool). (let lane : HeardLane = record { front = lane_entries segments; closed = b } in lane))
    (closed-ended segments (length partition.segments) (sym (length-map partition.segments (segment_in known stream))))

lanes-ended : (known : KnownFiles) (stream : Stream) (partitions : List Partition)
    → map heard_lane (map (heard_at known) (map (place_at (ended_stream stream)) (map ended_partition partitions))) ≡ map (lane_in known stream) partitions
lanes-ended known stream [] = refl
lanes-ended known stream (partition ∷ partitions) =
    ap (λ (lane : HeardLane). lane ∷ map heard_lane (map (heard_at known) (map (place_at (ended_stream stream)) (map ended_partition partitions)))) (lane-ended known stream partition)
    ∙ ap (λ (lanes : List HeardLane). lane_in known stream partition ∷ lanes) (lanes-ended known stream partitions)

lanes-found : (known : KnownFiles) (o : Option Stream)
    → map heard_lane (map (heard_at known) (places_in (option_map ended_stream o))) ≡ lanes_in known o
lanes-found known None = refl
lanes-found known (Some stream) = lanes-ended known stream stream.partitions

places-many : (o : Option Stream) → length (partitions_in o) ≡ length (places_in o)
places-many None = refl
places-many (Some stream) = sym (length-map stream.partitions (place_at stream))

-- the lists of the streams, taken off the list of all lanes
log-places : (known : KnownFiles) (inputs : Inputs) (uses : List StreamUse)
    → log_of (lane_counts inputs uses) (heard_in known inputs uses) ≡ map (λ (u : StreamUse). map heard_lane (map (heard_at known) (places_in (slice_get inputs.streams u.stream)))) uses
log-places known inputs [] = refl
log-places known inputs (used ∷ uses) =
    let found = slice_get inputs.streams used.stream in
    let here = map (heard_at known) (places_in found) in
    let rest = heard_in known inputs uses in
    let count = length (partitions_in found) in
    let many : count ≡ length here = places-many found ∙ sym (length-map (places_in found) (heard_at known)) in
    let all : heard_in known inputs (used ∷ uses) ≡ here ++ rest =
    ap (map (heard_at known)) (flat_map-cons (λ (u : StreamUse). places_in (slice_get inputs.streams u.stream)) used uses)
    ∙ map-append (heard_at known) (places_in found) (places inputs uses) in
    ap (λ (hs : List LaneHeard). map heard_lane (take count hs) ∷ log_of (lane_counts inputs uses) (drop count hs)) all
    ∙ ap (λ (n : ℕ). map heard_lane (take n (here ++ rest)) ∷ log_of (lane_counts inputs uses) (drop n (here ++ rest))) many
    ∙ ap (λ (hs : List LaneHeard). map heard_lane hs ∷ log_of (lane_counts inputs uses) (drop (length here) (here ++ rest))) (take-front here rest)
    ∙ ap (λ (hs : List LaneHeard). map heard_lane here ∷ log_of (lane_counts inputs uses) hs) (drop-front here rest)
    ∙ ap (λ (log : Log). map heard_lane here ∷ log) (log-places known inputs uses)
  where
    take-front : {X : Type 0} (xs ys : List X) → take (length xs) (xs ++ ys) ≡ xs
    take-front [] ys = refl
    take-front (x ∷ xs) ys = ap (λ l. x ∷ l) (take-front xs ys)

    drop-front : {X : Type 0} (xs ys : List X) → drop (length xs) (xs ++ ys) ≡ ys
    drop-front [] ys = refl
    drop-front (x ∷ xs) ys = drop-front xs ys

pub log-ended : (known : KnownFiles) (inputs : Inputs) (uses : List StreamUse)
    → log_of (lane_counts (ended_inputs inputs) uses) (heard_in known (ended_inputs inputs) uses) ≡ log_in known inputs.streams uses
log-ended known inputs uses = log-places known (ended_inputs inputs) uses ∙ each uses
  where
    each : (us : List StreamUse) → map (λ (u : StreamUse). map heard_lane (map (heard_at known) (places_in (slice_get (map ended_stream inputs.streams) u.stream)))) us ≡ log_in known inputs.streams us
    each [] = refl
    each (used ∷ us) =
        let first = map heard_lane (map (heard_at known) (places_in (slice_get (map ended_stream inputs.streams) used.stream))) in
        ap (λ (lanes : List HeardLane). lanes ∷ map (λ (u : StreamUse). map heard_lane (map (heard_at known) (places_in (slice_get (map ended_stream inputs.streams) u.stream)))) us)
        (ap (λ (o : Option Stream). map heard_lane (map (heard_at known) (places_in o))) (found-ended inputs.streams used.stream) ∙ lanes-found known (slice_get inputs.streams used.stream))
        ∙ ap (λ (log : Log). lanes_in known (slice_get inputs.streams used.stream) ∷ log) (each us)

-- ---- its watermark is the end of time

least-closed : (j : Judge) (known : KnownFiles) (stream : Stream) (partitions : List Partition) → least_watermark j (map (lane_in known stream) partitions) ≡ end_ticks
least-closed j known stream [] = refl
least-closed j known stream (partition ∷ partitions) = ap (min end_ticks) (least-closed j known stream partitions) ∙ omega arith

least-found : (j : Judge) (known : KnownFiles) (o : Option Stream) → least_watermark j (lanes_in known o) ≡ end_ticks
least-found j known None = refl
least-found j known (Some stream) = least-closed j known stream stream.partitions

pub watermark-end : (policy : Policy) (known : KnownFiles) (streams : List Stream) (uses : List StreamUse) → watermark_of_streams policy uses (log_in known streams uses) ≡ end_ticks
watermark-end policy known streams [] = refl
watermark-end policy known streams (used ∷ uses) =
    ap (λ (n : ℕ). min n (watermark_of_streams policy uses (log_in known streams uses))) (least-found (judge_of policy used) known (slice_get streams used.stream))
    ∙ ap (min end_ticks) (watermark-end policy known streams uses)
    ∙ omega arith

-- ---- its dropped records are all of them

drops-at : (j : Judge) (stream partition : ℕ) (known : KnownFiles) (at : List LanePlace)
    → drops_since_of j stream partition (map (heard_at known) at) ≡ drops_of_lanes j stream partition (map heard_lane (map (heard_at known) at))
drops-at j stream partition known [] = refl
drops-at j stream partition known (place ∷ at) =
    ap (λ (ds : List Dropped). lane_drops j stream partition (entries (heard_at known place)) ++ ds) (drops-at j stream (partition + 1) known at)

pub drops-all : (policy : Policy) (uses : List StreamUse) (counts : List ℕ) (known : KnownFiles) (at : List LanePlace)
    → drops_since policy uses counts (map (heard_at known) at) ≡ drops_of_streams policy uses (log_of counts (map (heard_at known) at))
drops-all policy [] counts known at = refl
drops-all policy (used ∷ uses) [] known at = refl
drops-all policy (used ∷ uses) (count ∷ counts) known at =
    let f = heard_at known in
    let j = judge_of policy used in
    ap (λ (hs : List LaneHeard). drops_since_of j used.stream 0 hs ++ drops_since policy uses counts (drop count (map f at))) (take-map f count at)
    ∙ ap (λ (ds : List Dropped). ds ++ drops_since policy uses counts (drop count (map f at))) (drops-at j used.stream 0 known (take count at))
    ∙ ap (λ (hs : List LaneHeard). drops_of_lanes j used.stream 0 (map heard_lane hs) ++ drops_since policy uses counts (drop count (map f at))) (sym (take-map f count at))
    ∙ ap (λ (hs : List LaneHeard). drops_of_lanes j used.stream 0 (map heard_lane (take count (map f at))) ++ drops_since policy uses counts hs) (drop-map f count at)
    ∙ ap (λ (ds : List Dropped). drops_of_lanes j used.stream 0 (map heard_lane (take count (map f at))) ++ ds) (drops-all policy uses counts known (drop count at))
    ∙ ap (λ (hs : List LaneHeard). drops_of_lanes j used.stream 0 (map heard_lane (take count (map f at))) ++ drops_of_streams policy uses (log_of counts hs)) (sym (drop-map f count at))

-- ---- the batch

pub IsWholeBatch-cut : (known : KnownFiles) (inputs : Inputs) (plan : ReadyPlan) (core : Core) (batch : Batch)
    → core.plan ≡ plan → core.policy ≡ inputs.policy → core.start ≡ 0 → core.counts ≡ lane_counts (ended_inputs inputs) plan.streams
    → IsBatch core (heard_in known (ended_inputs inputs) core.plan.streams) 0 batch
    → IsWholeBatch plan inputs.policy (log_in known inputs.streams plan.streams) batch
IsWholeBatch-cut known inputs plan core batch plan_is policy_is start_is counts_are cut =
    let uses = plan.streams in
    let policy = inputs.policy in
    let heard = heard_in known (ended_inputs inputs) core.plan.streams in
    let log : log_of core.counts heard ≡ log_in known inputs.streams uses =
    ap (λ (ns : List ℕ). log_of ns heard) counts_are
    ∙ ap (λ (p : ReadyPlan). log_of (lane_counts (ended_inputs inputs) uses) (heard_in known (ended_inputs inputs) p.streams)) plan_is
    ∙ log-ended known inputs uses in
    let rows : core_rows core heard ≡ rows_of_streams policy uses (log_in known inputs.streams uses) =
    ap (λ (l : Log). rows_of_streams core.policy core.plan.streams l) log
    ∙ ap (λ (p : Policy). rows_of_streams p core.plan.streams (log_in known inputs.streams uses)) policy_is
    ∙ ap (λ (p : ReadyPlan). rows_of_streams policy p.streams (log_in known inputs.streams uses)) plan_is in
    let upto : core_watermark core heard ≡ end_ticks =
    ap (λ (l : Log). watermark_of_streams core.policy core.plan.streams l) log
    ∙ ap (λ (p : ReadyPlan). watermark_of_streams core.policy p.streams (log_in known inputs.streams uses)) plan_is
    ∙ watermark-end core.policy known inputs.streams uses in
    let drops : drops_since core.policy core.plan.streams core.counts heard ≡ drops_of_streams policy uses (log_in known inputs.streams uses) =
    drops-all core.policy core.plan.streams core.counts known (places (ended_inputs inputs) core.plan.streams)
    ∙ ap (λ (l : Log). drops_of_streams core.policy core.plan.streams l) log
    ∙ ap (λ (p : Policy). drops_of_streams p core.plan.streams (log_in known inputs.streams uses)) policy_is
    ∙ ap (λ (p : ReadyPlan). drops_of_streams policy p.streams (log_in known inputs.streams uses)) plan_is in
    record {
      outputs_are =
          cut.outputs_are
          ∙ ap (λ (s : ℕ). printed_outputs s core.plan.outputs (all_between 0 (core_watermark core heard) (outputs_over core.plan (core_rows core heard)))) start_is
          ∙ ap (λ (u : ℕ). printed_outputs 0 core.plan.outputs (all_between 0 u (outputs_over core.plan (core_rows core heard)))) upto
          ∙ ap (λ (rs : List (List Stamped)). printed_outputs 0 core.plan.outputs (all_between 0 end_ticks (outputs_over core.plan rs))) rows
          ∙ ap (λ (p : ReadyPlan). printed_outputs 0 p.outputs (all_between 0 end_ticks (outputs_over p (rows_of_streams policy uses (log_in known inputs.streams uses))))) plan_is
          ∙ ap (printed_outputs 0 plan.outputs) (all_between-zero end_ticks (outputs_over plan (rows_of_streams policy uses (log_in known inputs.streams uses))));
      drops_are = cut.drops_are ∙ drops;
    }

-- ---- a core that was fed and cut

files-partitions : (partitions : List Partition) → flat_map partition_files (map ended_partition partitions) ≡ flat_map partition_files partitions
files-partitions partitions = flat_map-map partition_files ended_partition partitions

files-found : (o : Option Stream) → stream_files (option_map ended_stream o) ≡ stream_files o
files-found None = refl
files-found (Some stream) = files-partitions stream.partitions

files-ended : (inputs : Inputs) (uses : List StreamUse) → log_files (ended_inputs inputs).streams uses ≡ log_files inputs.streams uses
files-ended inputs [] = refl
files-ended inputs (used ∷ uses) =
    let old = λ (u : StreamUse). stream_files (slice_get inputs.streams u.stream) in
    let new = λ (u : StreamUse). stream_files (slice_get (map ended_stream inputs.streams) u.stream) in
    flat_map-cons new used uses
    ∙ ap (λ (names : List (List ℕ)). names ++ flat_map new uses) (ap stream_files (found-ended inputs.streams used.stream) ∙ files-found (slice_get inputs.streams used.stream))
    ∙ ap (λ (names : List (List ℕ)). old used ++ names) (files-ended inputs uses)
    ∙ sym (flat_map-cons old used uses)

pub files-fed : (inputs : Inputs) (plan : Plan) (ended : Inputs) (core : Core) (versions : List Snapshots) → ended ≡ ended_inputs inputs → core.plan ≡ ready_plan plan ended versions
    → log_files ended.streams core.plan.streams ≡ log_files inputs.streams plan.streams
files-fed inputs plan ended core versions is plan_is =
    ap (λ (p : ReadyPlan). log_files ended.streams p.streams) plan_is
    ∙ ap (λ (i : Inputs). log_files i.streams plan.streams) is
    ∙ files-ended inputs plan.streams

cut-known : (known : KnownFiles) (inputs : Inputs) (plan : Plan) (versions : List Snapshots) (core fed rest : Core) (batch : Batch)
    → core.plan ≡ ready_plan plan (ended_inputs inputs) versions → core.policy ≡ inputs.policy → core.start ≡ 0 → core.counts ≡ lane_counts (ended_inputs inputs) plan.streams
    → IsSameCore core fed → CoreStands fed (heard_in known (ended_inputs inputs) core.plan.streams) 0 → IsCut fed rest batch
    → IsWholeBatch (ready_plan plan inputs versions) inputs.policy (log_in known inputs.streams plan.streams) batch
cut-known known inputs plan versions core fed rest batch plan_is policy_is start_is counts_are same stands cut =
    IsWholeBatch-cut known inputs (ready_plan plan inputs versions) fed batch
    (same.plan_is ∙ plan_is ∙ ready-ended plan inputs versions) (same.policy_is ∙ policy_is) (same.start_is ∙ start_is) (same.counts_are ∙ counts_are)
    (cut (heard_in known (ended_inputs inputs) fed.plan.streams) 0
    (subst (λ (p : ReadyPlan). CoreStands fed (heard_in known (ended_inputs inputs) p.streams) 0) (sym same.plan_is) stands)).0

cut-files : (files : Option KnownFiles) (inputs : Inputs) (plan : Plan) (versions : List Snapshots) (core fed rest : Core) (batch : Batch)
    → core.plan ≡ ready_plan plan (ended_inputs inputs) versions → core.policy ≡ inputs.policy → core.start ≡ 0 → core.counts ≡ lane_counts (ended_inputs inputs) plan.streams
    → FeedsCore files (ended_inputs inputs) core fed → IsCut fed rest batch
    → IfSome files (λ known. IsWholeBatch (ready_plan plan inputs versions) inputs.policy (log_in known inputs.streams plan.streams) batch)
cut-files None inputs plan versions core fed rest batch plan_is policy_is start_is counts_are feeds cut = tt
cut-files (Some known) inputs plan versions core fed rest batch plan_is policy_is start_is counts_are feeds cut =
    cut-known known inputs plan versions core fed rest batch plan_is policy_is start_is counts_are feeds.same feeds.stands cut

pub IsWholeBatch-read : (files : Option KnownFiles) (inputs : Inputs) (plan : Plan) (versions : List Snapshots) (ended : Inputs) (core fed rest : Core) (batch : Batch)
    → ended ≡ ended_inputs inputs → core.plan ≡ ready_plan plan ended versions → core.policy ≡ ended.policy → core.start ≡ 0 → core.counts ≡ lane_counts ended plan.streams
    → FeedsCore files ended core fed → IsCut fed rest batch
    → IfSome files (λ known. IsWholeBatch (ready_plan plan inputs versions) inputs.policy (log_in known inputs.streams plan.streams) batch)
IsWholeBatch-read files inputs plan versions ended core fed rest batch is plan_is policy_is start_is counts_are feeds cut =
    cut-files files inputs plan versions core fed rest batch
    (plan_is ∙ ap (λ (i : Inputs). ready_plan plan i versions) is) (policy_is ∙ ap (λ (i : Inputs). i.policy) is) start_is
    (counts_are ∙ ap (λ (i : Inputs). lane_counts i plan.streams) is)
    (subst (λ (i : Inputs). FeedsCore files i core fed) is feeds) cut
