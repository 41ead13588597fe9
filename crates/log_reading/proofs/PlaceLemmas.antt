-- The lanes of a core by the partitions of the streams that its plan uses.
use Rattle.std.proofs.Common.{◌≡◌, ℕ, ◌+◌, ◌<◌, Bool, true, false, List, [], ◌∷◌, ◌++◌, length, map, take, drop, get_or, Option, Some, None, refl, ap, sym, subst, ◌∙◌, append_assoc, arith}
use Rattle.std.specs.Prelude.{slice_get}
use Rattle.std.specs.List.{All, flat_map}
use Rattle.std.specs.Option.{option_map}
use Rattle.std.proofs.lemmas.List.{length-append, map-append, take-append-drop}
use Rattle.std.proofs.lemmas.List.Concat.{flat_map-cons}
use Rattle.std.proofs.lemmas.List.Elements.{All-cons, All-nil}
use Rattle.std.proofs.lemmas.Grind.{flat_map-append}
use Rattle.std.proofs.lemmas.List.Folds.{flat_map-map}
use Rattle.arrival_log.specs.Log.{lane_entries, position}
use Rattle.query_plan.specs.declared.plan.StreamUse.{StreamUse}
use Rattle.input_types.specs.declared.inputs.Inputs.{Inputs}
use Rattle.input_types.specs.declared.inputs.Partition.{Partition}
use Rattle.input_types.specs.declared.inputs.SegmentName.{SegmentName}
use Rattle.input_types.specs.declared.inputs.Stream.{Stream}
use Rattle.job_core.specs.Apart.{HearFurther}
use Rattle.job_core.specs.Fresh.{fresh_heard_of, fresh_lane, kinds_from, lane_kind, lane_kinds, partitions_in}
use Rattle.job_core.specs.Heard.{LaneHeard, is_closed}
use Rattle.job_core.specs.Lane.{LaneStands}
use Rattle.job_core.specs.Lanes.{LaneKind, LanesStand, kind_of}
use Rattle.job_core.specs.declared.lane.Lane.{Lane}
use Rattle.job_core.proofs.CoreLemmas.{kind-same}
use Rattle.job_core.proofs.LaneLemmas.{still-open}
use Rattle.outside.specs.KnownFiles.{KnownFiles}
use Rattle.log_reading.specs.Asking.{Asks}
use Rattle.log_reading.specs.Feeding.{FeedsLane, FeedsLanes}
use Rattle.log_reading.specs.Log.{log_files, partition_files, segment_in, stream_files}
use Rattle.log_reading.specs.Places.{IsFresh, IsFreshAt, LanePlace, files_at, heard_at, lane_files, place_at, place_in, places, places_in}
use Rattle.log_reading.proofs.AskingLemmas.{flat_map-at}
use Rattle.log_reading.proofs.KnownLemmas.{IfSome-before}

-- each lane is that of its place, and has heard nothing
abbrev pub AreFreshAt : Inputs → List Lane → List LanePlace → Type 0
AreFreshAt inputs [] [] = Unit {0}
AreFreshAt inputs [] (place ∷ rest) = ⊥
AreFreshAt inputs (lane ∷ lanes) [] = ⊥
AreFreshAt inputs (lane ∷ lanes) (place ∷ rest) = IsFreshAt inputs lane place × AreFreshAt inputs lanes rest

abbrev pub fresh_at : LanePlace → LaneHeard
fresh_at place = fresh_lane place.partition

-- ---- the lanes before their first entries, by place

fresh-in : (stream : Option Stream) → map fresh_lane (partitions_in stream) ≡ map fresh_at (places_in stream)
fresh-in None = refl
fresh-in (Some stream) = all stream.partitions
  where
    all : (partitions : List Partition) → map fresh_lane partitions ≡ map fresh_at (map (place_at stream) partitions)
    all [] = refl
    all (partition ∷ partitions) = ap (λ hs. fresh_lane partition ∷ hs) (all partitions)

pub fresh-places : (inputs : Inputs) (uses : List StreamUse) → fresh_heard_of inputs uses ≡ map fresh_at (places inputs uses)
fresh-places inputs [] = refl
fresh-places inputs (used ∷ uses) =
    let here = places_in (slice_get inputs.streams used.stream) in
    ap (λ hs. hs ++ fresh_heard_of inputs uses) (fresh-in (slice_get inputs.streams used.stream))
    ∙ ap (λ hs. map fresh_at here ++ hs) (fresh-places inputs uses)
    ∙ sym (map-append fresh_at here (places inputs uses))
    ∙ ap (map fresh_at) (sym (flat_map-cons (λ (u : StreamUse). places_in (slice_get inputs.streams u.stream)) used uses))

-- the kinds of the lanes, by place
kind_at : StreamUse → ℕ → LanePlace → LaneKind
kind_at used number place = lane_kind used number place.partition

-- ---- each lane has its place

None-Some : {X : Type 0} (x : X) → None ≡ Some x → ⊥
None-Some x e = cc

first-of : {X : Type 0} (x y : X) (xs ys : List X) → x ∷ xs ≡ y ∷ ys → x ≡ y
first-of x y xs ys e = cc

rest-of : {X : Type 0} (x y : X) (xs ys : List X) → x ∷ xs ≡ y ∷ ys → xs ≡ ys
rest-of x y xs ys e = cc

-- the partitions of a stream from this number on
are-of_stream : (inputs : Inputs) (used : StreamUse) (stream : Stream) (lanes : List Lane) (number : ℕ) (front partitions : List Partition) (kinds : List LaneKind)
    (more : List Lane → List LanePlace → Type 0) (rest : List LanePlace) (heard : List LaneHeard)
    → slice_get inputs.streams used.stream ≡ Some stream → stream.partitions ≡ front ++ partitions → number ≡ length front
    → map kind_of lanes ≡ kinds_from used number partitions ++ kinds
    → LanesStand inputs.policy lanes (map fresh_lane partitions ++ heard) 0
    → ((left : List Lane) → map kind_of left ≡ kinds → LanesStand inputs.policy left heard 0 → AreFreshAt inputs left rest)
    → AreFreshAt inputs lanes (map (place_at stream) partitions ++ rest)
are-of_stream inputs used stream lanes number front [] kinds more rest heard is whole at kinds_are stand behind = behind lanes kinds_are stand
are-of_stream inputs used stream [] number front (partition ∷ partitions) kinds more rest heard is whole at kinds_are stand behind = absurd stand
are-of_stream inputs used stream (lane ∷ lanes) number front (partition ∷ partitions) kinds more rest heard is whole at kinds_are stand behind =
    let kind : kind_of lane ≡ lane_kind used number partition = first-of _ _ _ _ kinds_are in
    let used_is : lane.used ≡ used = ap (λ (k : LaneKind). k.used) kind in
    let number_is : lane.partition ≡ number = ap (λ (k : LaneKind). k.partition) kind in
    let found : slice_get stream.partitions lane.partition ≡ Some partition =
    ap (slice_get stream.partitions) (number_is ∙ at) ∙ ap (λ ps. slice_get ps (length front)) whole ∙ get-behind front partition partitions in
    let here : IsFreshAt inputs lane (place_at stream partition) = record {
      place_is =
          ap (λ (u : StreamUse). place_in (slice_get inputs.streams u.stream) lane.partition) used_is
          ∙ ap (λ (s : Option Stream). place_in s lane.partition) is
          ∙ ap (option_map (place_at stream)) found;
      throughs_are = ap (λ (k : LaneKind). k.throughs) kind;
      ended_is = ap (λ (k : LaneKind). k.ended) kind;
      stands = stand.0;
    } in (
      here,
      are-of_stream inputs used stream lanes (number + 1) (front ++ partition ∷ []) partitions kinds more rest heard is
          (whole ∙ sym (append_assoc front (partition ∷ []) partitions))
          (omega (arith, at, length-append front (partition ∷ [])))
          (rest-of _ _ _ _ kinds_are) stand.1 behind,
    )
  where
    get-behind : {X : Type 0} (front : List X) (x : X) (xs : List X) → slice_get (front ++ x ∷ xs) (length front) ≡ Some x
    get-behind [] x xs = refl
    get-behind (y ∷ front) x xs = get-behind front x xs

pub are-fresh_at : (inputs : Inputs) (uses : List StreamUse) (lanes : List Lane) → map kind_of lanes ≡ lane_kinds inputs uses
    → LanesStand inputs.policy lanes (fresh_heard_of inputs uses) 0 → AreFreshAt inputs lanes (places inputs uses)
are-fresh_at inputs [] [] kinds stand = tt
are-fresh_at inputs [] (lane ∷ lanes) kinds stand = absurd stand
are-fresh_at inputs (used ∷ uses) lanes kinds stand =
    subst (AreFreshAt inputs lanes) (sym (flat_map-cons (λ (u : StreamUse). places_in (slice_get inputs.streams u.stream)) used uses))
    (by_stream (λ left kinds_left stand_left. are-fresh_at inputs uses left kinds_left stand_left) (slice_get inputs.streams used.stream) refl)
  where
    by_stream : ((left : List Lane) → map kind_of left ≡ lane_kinds inputs uses → LanesStand inputs.policy left (fresh_heard_of inputs uses) 0 → AreFreshAt inputs left (places inputs uses))
        → (found : Option Stream) → slice_get inputs.streams used.stream ≡ found → AreFreshAt inputs lanes (places_in found ++ places inputs uses)
    by_stream behind None is =
        behind lanes
        (kinds ∙ ap (λ (s : Option Stream). kinds_from used 0 (partitions_in s) ++ lane_kinds inputs uses) is)
        (subst (λ (s : Option Stream). LanesStand inputs.policy lanes (map fresh_lane (partitions_in s) ++ fresh_heard_of inputs uses) 0) is stand)
    by_stream behind (Some stream) is =
        are-of_stream inputs used stream lanes 0 [] stream.partitions (lane_kinds inputs uses) (AreFreshAt inputs) (places inputs uses) (fresh_heard_of inputs uses)
        is refl refl
        (kinds ∙ ap (λ (s : Option Stream). kinds_from used 0 (partitions_in s) ++ lane_kinds inputs uses) is)
        (subst (λ (s : Option Stream). LanesStand inputs.policy lanes (map fresh_lane (partitions_in s) ++ fresh_heard_of inputs uses) 0) is stand)
        behind

pub All-fresh : (inputs : Inputs) (lanes : List Lane) (at : List LanePlace) → AreFreshAt inputs lanes at → All (IsFresh inputs) lanes
All-fresh inputs [] at fresh = All-nil (IsFresh inputs)
All-fresh inputs (lane ∷ lanes) [] fresh = absurd fresh
All-fresh inputs (lane ∷ lanes) (place ∷ at) fresh =
    All-cons (IsFresh inputs) lane lanes (record { place = place; at = fresh.0 }) (All-fresh inputs lanes at fresh.1)

-- ---- the files of the lanes

files-at : (inputs : Inputs) (lanes : List Lane) (at : List LanePlace) → AreFreshAt inputs lanes at
    → flat_map (lane_files inputs) lanes ≡ flat_map (λ (p : LanePlace). partition_files p.partition) at
files-at inputs [] [] fresh = refl
files-at inputs [] (place ∷ at) fresh = absurd fresh
files-at inputs (lane ∷ lanes) [] fresh = absurd fresh
files-at inputs (lane ∷ lanes) (place ∷ at) fresh =
    flat_map-cons (lane_files inputs) lane lanes
    ∙ ap (λ (found : Option LanePlace). files_at found ++ flat_map (lane_files inputs) lanes) fresh.0.place_is
    ∙ ap (λ names. partition_files place.partition ++ names) (files-at inputs lanes at fresh.1)
    ∙ sym (flat_map-cons (λ (p : LanePlace). partition_files p.partition) place at)

files-in : (stream : Option Stream) → flat_map (λ (p : LanePlace). partition_files p.partition) (places_in stream) ≡ stream_files stream
files-in None = refl
files-in (Some stream) = flat_map-map (λ (p : LanePlace). partition_files p.partition) (place_at stream) stream.partitions

files-places : (inputs : Inputs) (uses : List StreamUse) → flat_map (λ (p : LanePlace). partition_files p.partition) (places inputs uses) ≡ log_files inputs.streams uses
files-places inputs [] = refl
files-places inputs (used ∷ uses) =
    let files = λ (p : LanePlace). partition_files p.partition in
    let found = slice_get inputs.streams used.stream in
    ap (flat_map files) (flat_map-cons (λ (u : StreamUse). places_in (slice_get inputs.streams u.stream)) used uses)
    ∙ flat_map-append files (places_in found) (places inputs uses)
    ∙ ap (λ names. names ++ flat_map files (places inputs uses)) (files-in found)
    ∙ ap (λ names. stream_files found ++ names) (files-places inputs uses)
    ∙ sym (flat_map-cons (λ (u : StreamUse). stream_files (slice_get inputs.streams u.stream)) used uses)

pub lane_files-log : (inputs : Inputs) (uses : List StreamUse) (lanes : List Lane) → AreFreshAt inputs lanes (places inputs uses)
    → flat_map (lane_files inputs) lanes ≡ log_files inputs.streams uses
lane_files-log inputs uses lanes fresh = files-at inputs lanes (places inputs uses) fresh ∙ files-places inputs uses

-- the files of lanes before one, of it, and of those behind it
pub files-around : (files : Lane → List (List ℕ)) (all front : List Lane) (lane : Lane) → front ≡ take (length front) all → length front < length all → lane ≡ get_or all (length front) lane
    → flat_map files front ++ (files lane ++ flat_map files (drop (length front + 1) all)) ≡ flat_map files all
files-around files all front lane is less at =
    let n = length front in
    ap (λ (lanes : List Lane). flat_map files lanes ++ (files lane ++ flat_map files (drop (n + 1) all))) is
    ∙ ap (λ (names : List (List ℕ)). flat_map files (take n all) ++ names) (sym (flat_map-at files all n lane less at))
    ∙ sym (flat_map-append files (take n all) (drop n all))
    ∙ ap (flat_map files) (take-append-drop n all)

-- ---- the lanes that were fed

-- files that were asked for hold what they held
pub FeedsLane-before : (asked : List (List ℕ)) (files middle : Option KnownFiles) (inputs : Inputs) (old new : Lane) → Asks asked files middle → FeedsLane middle inputs old new
    → FeedsLane files inputs old new
FeedsLane-before asked files middle inputs old new asks fed = record {
  same = fed.same;
  stands =
      IfSome-before (λ (known : KnownFiles). (place : LanePlace) → IsFreshAt inputs old place → LaneStands inputs.policy new (heard_at known place) 0)
      asked files middle (λ known left h. h) asks fed.stands;
}

pub FeedsLanes-push : (files : Option KnownFiles) (inputs : Inputs) (olds news : List Lane) (old new : Lane) → FeedsLanes files inputs olds news → FeedsLane files inputs old new
    → FeedsLanes files inputs (olds ++ old ∷ []) (news ++ new ∷ [])
FeedsLanes-push files inputs [] [] old new front last = (last, tt)
FeedsLanes-push files inputs [] (x ∷ news) old new front last = absurd front
FeedsLanes-push files inputs (x ∷ olds) [] old new front last = absurd front
FeedsLanes-push files inputs (x ∷ olds) (y ∷ news) old new front last = (front.0, FeedsLanes-push files inputs olds news old new front.1 last)

pub kinds-fed : (files : Option KnownFiles) (inputs : Inputs) (olds news : List Lane) → FeedsLanes files inputs olds news → map kind_of news ≡ map kind_of olds
kinds-fed files inputs [] [] fed = refl
kinds-fed files inputs [] (new ∷ news) fed = absurd fed
kinds-fed files inputs (old ∷ olds) [] fed = absurd fed
kinds-fed files inputs (old ∷ olds) (new ∷ news) fed =
    ap (λ kind. kind ∷ map kind_of news) (kind-same old new fed.0.same)
    ∙ ap (λ kinds. kind_of old ∷ kinds) (kinds-fed files inputs olds news fed.1)

pub stand-fed : (known : KnownFiles) (inputs : Inputs) (olds news : List Lane) (at : List LanePlace) → AreFreshAt inputs olds at → FeedsLanes (Some known) inputs olds news
    → LanesStand inputs.policy news (map (heard_at known) at) 0
stand-fed known inputs [] [] [] fresh fed = tt
stand-fed known inputs [] [] (place ∷ at) fresh fed = absurd fresh
stand-fed known inputs [] (new ∷ news) at fresh fed = absurd fed
stand-fed known inputs (old ∷ olds) news [] fresh fed = absurd fresh
stand-fed known inputs (old ∷ olds) [] (place ∷ at) fresh fed = absurd fed
stand-fed known inputs (old ∷ olds) (new ∷ news) (place ∷ at) fresh fed =
    (fed.0.stands place fresh.0, stand-fed known inputs olds news at fresh.1 fed.1)

-- a lane that is closed before its first entry has no segments
nothing-closed : (known : KnownFiles) (place : LanePlace) → (fresh_at place).closed ≡ true → lane_entries (map (segment_in known place.stream) place.partition.segments) ≡ []
nothing-closed known place closed = by_segments place.partition.segments closed
  where
    not-both : (b : Bool) → b ≡ true → b ≡ false → ⊥
    not-both b t f = cc

    by_segments : (segments : List SegmentName) → is_closed place.partition.ended (length segments) (position []) ≡ true
        → lane_entries (map (segment_in known place.stream) segments) ≡ []
    by_segments [] e = refl
    by_segments (segment ∷ segments) e =
        absurd (not-both (is_closed place.partition.ended (length (segment ∷ segments)) (position [])) e
        (still-open place.partition.ended (length (segment ∷ segments)) (position []) (omega arith)))

pub hear-further : (known : KnownFiles) (at : List LanePlace) → HearFurther (map fresh_at at) (map (heard_at known) at)
hear-further known [] = tt
hear-further known (place ∷ at) = (
  record { more = lane_entries (map (segment_in known place.stream) place.partition.segments); entries_are = refl; none_if_closed = nothing-closed known place },
  hear-further known at,
)
