-- What the streams of a core have at some times, by what each lane has there.
use Rattle.std.proofs.Common.{◌≡◌, ◌≤◌, ℕ, zero, suc, ◌+◌, Bool, List, [], ◌∷◌, ◌++◌, filter, map, take, drop, min, refl, ap, sym, ◌∙◌, append-nil, append_assoc, arith}
use Rattle.std.proofs.lemmas.List.{drop-map, map-append, take-append-drop, take-map}
use Rattle.std.proofs.lemmas.List.Elements.{filter-append}
use Rattle.query_plan.specs.declared.plan.StreamUse.{StreamUse}
use Rattle.event_value.specs.declared.policy.Policy.{Policy}
use Rattle.event_value.specs.declared.record.Dropped.{Dropped}
use Rattle.event_value.specs.declared.record.Event.{Event}
use Rattle.event_value.specs.declared.record.Stamped.{Stamped}
use Rattle.row_order.specs.InOrder.{in_order}
use Rattle.row_order.proofs.InOrderLemmas.{IsInOrder-in_order, filter-in_order, map-in_order}
use Rattle.row_order.proofs.ListLemmas.{filter-map}
use Rattle.row_order.proofs.StretchLemmas.{IsInOrder-map}
use Rattle.stream_op.specs.Rows.{time_of}
use Rattle.stream_op.specs.Timewise.{at_times}
use Rattle.tick_time.specs.Moment.{end_ticks}
use Rattle.arrival_log.specs.Kept.{HeardLane, Judge, drops_behind, lane_events, lane_watermark, lanes_events, least_watermark, stream_events}
use Rattle.query_meaning.specs.Lists.{AllInOrder}
use Rattle.query_meaning.specs.Streams.{Log, judge_of, row_of, rows_of_streams, stream_rows, watermark_of_streams}
use Rattle.job_core.specs.Batches.{drops_since, drops_since_of}
use Rattle.job_core.specs.Gathered.{gathered, joined}
use Rattle.job_core.specs.Heard.{LaneHeard, cut_lane, entries, heard_lane, log_of}
use Rattle.job_core.specs.Lanes.{AreAsMany, AreOfStream, AreOfStreams, LaneName, least}

pub AreAsMany-take : {X Y : Type 0} (n : ℕ) (xs : List X) (ys : List Y) → AreAsMany xs ys → AreAsMany (take n xs) (take n ys)
AreAsMany-take zero xs ys h = tt
AreAsMany-take (suc n) [] [] h = tt
AreAsMany-take (suc n) [] (y ∷ ys) h = absurd h
AreAsMany-take (suc n) (x ∷ xs) [] h = absurd h
AreAsMany-take (suc n) (x ∷ xs) (y ∷ ys) h = AreAsMany-take n xs ys h

AreAsMany-drop : {X Y : Type 0} (n : ℕ) (xs : List X) (ys : List Y) → AreAsMany xs ys → AreAsMany (drop n xs) (drop n ys)
AreAsMany-drop zero xs ys h = h
AreAsMany-drop (suc n) [] [] h = tt
AreAsMany-drop (suc n) [] (y ∷ ys) h = absurd h
AreAsMany-drop (suc n) (x ∷ xs) [] h = absurd h
AreAsMany-drop (suc n) (x ∷ xs) (y ∷ ys) h = AreAsMany-drop n xs ys h

-- something of each lane, by its name and what was heard of it
abbrev pub each_lane : {X : Type 0} → (LaneName → LaneHeard → X) → List LaneName → List LaneHeard → List X
each_lane f [] heard = []
each_lane f (name ∷ names) [] = []
each_lane f (name ∷ names) (h ∷ heard) = f name h ∷ each_lane f names heard

each_lane-take : {X : Type 0} (f : LaneName → LaneHeard → X) (n : ℕ) (names : List LaneName) (heard : List LaneHeard) → take n (each_lane f names heard) ≡ each_lane f (take n names) (take n heard)
each_lane-take f zero names heard = refl
each_lane-take f (suc n) [] heard = refl
each_lane-take f (suc n) (name ∷ names) [] = refl
each_lane-take f (suc n) (name ∷ names) (h ∷ heard) = ap (λ l. f name h ∷ l) (each_lane-take f n names heard)

each_lane-none : {X : Type 0} (f : LaneName → LaneHeard → X) (names : List LaneName) → each_lane f names [] ≡ []
each_lane-none f [] = refl
each_lane-none f (name ∷ names) = refl

each_lane-drop : {X : Type 0} (f : LaneName → LaneHeard → X) (n : ℕ) (names : List LaneName) (heard : List LaneHeard) → drop n (each_lane f names heard) ≡ each_lane f (drop n names) (drop n heard)
each_lane-drop f zero names heard = refl
each_lane-drop f (suc n) [] heard = refl
each_lane-drop f (suc n) (name ∷ names) [] = sym (each_lane-none f (drop n names))
each_lane-drop f (suc n) (name ∷ names) (h ∷ heard) = each_lane-drop f n names heard

-- the events of a lane at the times that pass a test
abbrev pub picked_of : (ℕ → Bool) → Policy → LaneName → LaneHeard → List Event
picked_of test policy name h = filter (λ (e : Event). test e.time) (lane_events (judge_of policy name.used) name.partition (entries h))

abbrev pub picked : (ℕ → Bool) → Policy → List LaneName → List LaneHeard → List (List Event)
picked test policy names heard = each_lane (picked_of test policy) names heard

-- the rows of streams that have so many lanes each, by the events of the lanes
abbrev pub rows_of_picked : List ℕ → List (List Event) → List (List Stamped)
rows_of_picked [] events = []
rows_of_picked (count ∷ counts) events =
    map row_of (in_order (λ (e : Event). e.time) (joined (take count events))) ∷ rows_of_picked counts (drop count events)

-- of one stream
joined-picked : (test : ℕ → Bool) (policy : Policy) (used : StreamUse) (partition : ℕ) (names : List LaneName) (heard : List LaneHeard)
    → AreOfStream used partition names → AreAsMany names heard
    → joined (picked test policy names heard) ≡ filter (λ (e : Event). test e.time) (lanes_events (judge_of policy used) partition (map heard_lane heard))
joined-picked test policy used partition [] [] of many = refl
joined-picked test policy used partition [] (h ∷ heard) of many = absurd many
joined-picked test policy used partition (name ∷ names) [] of many = absurd many
joined-picked test policy used partition (name ∷ names) (h ∷ heard) of many =
    let p = λ (e : Event). test e.time in
    let own : picked_of test policy name h ≡ filter p (lane_events (judge_of policy used) partition (entries h)) =
    ap (λ u. filter p (lane_events (judge_of policy u) name.partition (entries h))) of.0
    ∙ ap (λ n. filter p (lane_events (judge_of policy used) n (entries h))) of.1 in
    ap (λ es. es ++ joined (picked test policy names heard)) own
    ∙ ap (λ es. filter p (lane_events (judge_of policy used) partition (entries h)) ++ es) (joined-picked test policy used (partition + 1) names heard of.2 many)
    ∙ sym (filter-append p (lane_events (judge_of policy used) partition (entries h)) (lanes_events (judge_of policy used) (partition + 1) (map heard_lane heard)))

stream-picked : (test : ℕ → Bool) (j : Judge) (lanes : List HeardLane)
    → at_times test (stream_rows j lanes) ≡ map row_of (in_order (λ (e : Event). e.time) (filter (λ (e : Event). test e.time) (lanes_events j 0 lanes)))
stream-picked test j lanes =
    filter-map (λ (row : Stamped). test row.time) row_of (stream_events j lanes)
    ∙ ap (map row_of) (filter-in_order (λ (e : Event). e.time) (λ (e : Event). test e.time) (lanes_events j 0 lanes))

-- of all streams
pub rows-picked : (test : ℕ → Bool) (policy : Policy) (uses : List StreamUse) (counts : List ℕ) (names : List LaneName) (heard : List LaneHeard)
    → AreOfStreams uses counts names → AreAsMany names heard
    → map (at_times test) (rows_of_streams policy uses (log_of counts heard)) ≡ rows_of_picked counts (picked test policy names heard)
rows-picked test policy [] [] names heard of many = refl
rows-picked test policy [] (count ∷ counts) names heard of many = absurd of
rows-picked test policy (used ∷ uses) [] names heard of many = absurd of
rows-picked test policy (used ∷ uses) (count ∷ counts) names heard of many =
    let here : at_times test (stream_rows (judge_of policy used) (map heard_lane (take count heard))) ≡ map row_of (in_order (λ (e : Event). e.time) (joined (take count (picked test policy names heard)))) =
    stream-picked test (judge_of policy used) (map heard_lane (take count heard))
    ∙ ap (λ es. map row_of (in_order (λ (e : Event). e.time) es))
    (sym (joined-picked test policy used 0 (take count names) (take count heard) of.1 (AreAsMany-take count names heard many))
    ∙ ap joined (sym (each_lane-take (picked_of test policy) count names heard))) in
    ap (λ rows. rows ∷ map (at_times test) (rows_of_streams policy uses (log_of counts (drop count heard)))) here
    ∙ ap (λ rows. map row_of (in_order (λ (e : Event). e.time) (joined (take count (picked test policy names heard)))) ∷ rows)
    (rows-picked test policy uses counts (drop count names) (drop count heard) of.2 (AreAsMany-drop count names heard many)
    ∙ ap (rows_of_picked counts) (sym (each_lane-drop (picked_of test policy) count names heard)))

-- the rows of streams are in order
pub rows-order : (policy : Policy) (uses : List StreamUse) (log : Log) → AllInOrder (rows_of_streams policy uses log)
rows-order policy [] log = tt
rows-order policy (used ∷ uses) [] = tt
rows-order policy (used ∷ uses) (lanes ∷ log) = (
  IsInOrder-map (λ (e : Event). e.time) time_of row_of (λ e. refl) (stream_events (judge_of policy used) lanes) (IsInOrder-in_order (λ (e : Event). e.time) (lanes_events (judge_of policy used) 0 lanes)),
  rows-order policy uses log,
)

in_order-map : (es : List Event) → in_order time_of (map row_of es) ≡ map row_of (in_order (λ (e : Event). e.time) es)
in_order-map es = sym (map-in_order (λ (e : Event). e.time) time_of row_of (λ e. refl) es)

joined-map : (lists : List (List Event)) → joined (map (map row_of) lists) ≡ map row_of (joined lists)
joined-map [] = refl
joined-map (es ∷ lists) = ap (λ rows. map row_of es ++ rows) (joined-map lists) ∙ sym (map-append row_of es (joined lists))

-- what was taken out of the lanes, by stream
pub gathered-picked : (counts : List ℕ) (events : List (List Event)) → gathered counts (map (map row_of) events) ≡ rows_of_picked counts events
gathered-picked [] events = refl
gathered-picked (count ∷ counts) events =
    ap (λ rows. in_order time_of (joined rows) ∷ gathered counts (drop count (map (map row_of) events))) (take-map (map row_of) count events)
    ∙ ap (λ rows. in_order time_of rows ∷ gathered counts (drop count (map (map row_of) events))) (joined-map (take count events))
    ∙ ap (λ rows. rows ∷ gathered counts (drop count (map (map row_of) events))) (in_order-map (joined (take count events)))
    ∙ ap (λ rows. map row_of (in_order (λ (e : Event). e.time) (joined (take count events))) ∷ gathered counts rows) (drop-map (map row_of) count events)
    ∙ ap (λ rows. map row_of (in_order (λ (e : Event). e.time) (joined (take count events))) ∷ rows) (gathered-picked counts (drop count events))

-- the watermark of each lane
abbrev pub mark_of : Policy → LaneName → LaneHeard → ℕ
mark_of policy name h = lane_watermark (judge_of policy name.used) (heard_lane h)

pub least-within : (ns : List ℕ) → least ns ≤ end_ticks
least-within [] = omega arith
least-within (n ∷ ns) = omega (arith, least-within ns)

least-append : (ms ns : List ℕ) → least (ms ++ ns) ≡ min (least ms) (least ns)
least-append [] ns = omega (arith, least-within ns)
least-append (m ∷ ms) ns = omega (arith, least-append ms ns)

stream-least : (policy : Policy) (used : StreamUse) (partition : ℕ) (names : List LaneName) (heard : List LaneHeard) → AreOfStream used partition names → AreAsMany names heard
    → least_watermark (judge_of policy used) (map heard_lane heard) ≡ least (each_lane (mark_of policy) names heard)
stream-least policy used partition [] [] of many = refl
stream-least policy used partition [] (h ∷ heard) of many = absurd many
stream-least policy used partition (name ∷ names) [] of many = absurd many
stream-least policy used partition (name ∷ names) (h ∷ heard) of many =
    ap (λ u. min (lane_watermark (judge_of policy u) (heard_lane h)) (least_watermark (judge_of policy used) (map heard_lane heard))) (sym of.0)
    ∙ ap (min (mark_of policy name h)) (stream-least policy used (partition + 1) names heard of.2 many)

pub watermark-least : (policy : Policy) (uses : List StreamUse) (counts : List ℕ) (names : List LaneName) (heard : List LaneHeard)
    → AreOfStreams uses counts names → AreAsMany names heard
    → watermark_of_streams policy uses (log_of counts heard) ≡ least (each_lane (mark_of policy) names heard)
watermark-least policy [] [] names heard of many = sym (ap (λ l. least (each_lane (mark_of policy) l heard)) of)
watermark-least policy [] (count ∷ counts) names heard of many = absurd of
watermark-least policy (used ∷ uses) [] names heard of many = absurd of
watermark-least policy (used ∷ uses) (count ∷ counts) names heard of many =
    let marks = each_lane (mark_of policy) names heard in
    ap (λ m. min m (watermark_of_streams policy uses (log_of counts (drop count heard))))
    (stream-least policy used 0 (take count names) (take count heard) of.1 (AreAsMany-take count names heard many) ∙ ap least (sym (each_lane-take (mark_of policy) count names heard)))
    ∙ ap (min (least (take count marks)))
    (watermark-least policy uses counts (drop count names) (drop count heard) of.2 (AreAsMany-drop count names heard many) ∙ ap least (sym (each_lane-drop (mark_of policy) count names heard)))
    ∙ sym (least-append (take count marks) (drop count marks))
    ∙ ap least (take-append-drop count marks)

pub watermark-within : (policy : Policy) (uses : List StreamUse) (log : Log) → watermark_of_streams policy uses log ≤ end_ticks
watermark-within policy [] log = omega arith
watermark-within policy (used ∷ uses) [] = omega arith
watermark-within policy (used ∷ uses) (lanes ∷ log) = omega (arith, watermark-within policy uses log)

-- the dropped records of a lane since the last cut
abbrev pub since_of : Policy → LaneName → LaneHeard → List Dropped
since_of policy name h = drops_behind (judge_of policy name.used) name.used.stream name.partition h.before h.since

stream-since : (policy : Policy) (used : StreamUse) (partition : ℕ) (names : List LaneName) (heard : List LaneHeard) → AreOfStream used partition names → AreAsMany names heard
    → drops_since_of (judge_of policy used) used.stream partition heard ≡ joined (each_lane (since_of policy) names heard)
stream-since policy used partition [] [] of many = refl
stream-since policy used partition [] (h ∷ heard) of many = absurd many
stream-since policy used partition (name ∷ names) [] of many = absurd many
stream-since policy used partition (name ∷ names) (h ∷ heard) of many =
    ap (λ u. drops_behind (judge_of policy u) u.stream partition h.before h.since ++ drops_since_of (judge_of policy used) used.stream (partition + 1) heard) (sym of.0)
    ∙ ap (λ n. drops_behind (judge_of policy name.used) name.used.stream n h.before h.since ++ drops_since_of (judge_of policy used) used.stream (partition + 1) heard) (sym of.1)
    ∙ ap (λ ds. since_of policy name h ++ ds) (stream-since policy used (partition + 1) names heard of.2 many)

pub joined-append : {X : Type 0} (firsts lasts : List (List X)) → joined (firsts ++ lasts) ≡ joined firsts ++ joined lasts
joined-append [] lasts = refl
joined-append (xs ∷ firsts) lasts = ap (λ l. xs ++ l) (joined-append firsts lasts) ∙ sym (append_assoc xs (joined firsts) (joined lasts))

pub drops-since : (policy : Policy) (uses : List StreamUse) (counts : List ℕ) (names : List LaneName) (heard : List LaneHeard)
    → AreOfStreams uses counts names → AreAsMany names heard
    → drops_since policy uses counts heard ≡ joined (each_lane (since_of policy) names heard)
drops-since policy [] [] names heard of many = sym (ap (λ l. joined (each_lane (since_of policy) l heard)) of)
drops-since policy [] (count ∷ counts) names heard of many = absurd of
drops-since policy (used ∷ uses) [] names heard of many = absurd of
drops-since policy (used ∷ uses) (count ∷ counts) names heard of many =
    let lists = each_lane (since_of policy) names heard in
    ap (λ ds. ds ++ drops_since policy uses counts (drop count heard))
    (stream-since policy used 0 (take count names) (take count heard) of.1 (AreAsMany-take count names heard many) ∙ ap joined (sym (each_lane-take (since_of policy) count names heard)))
    ∙ ap (λ ds. joined (take count lists) ++ ds)
    (drops-since policy uses counts (drop count names) (drop count heard) of.2 (AreAsMany-drop count names heard many) ∙ ap joined (sym (each_lane-drop (since_of policy) count names heard)))
    ∙ sym (joined-append (take count lists) (drop count lists))
    ∙ ap joined (take-append-drop count lists)

-- a cut hears nothing
heard-cut : (heard : List LaneHeard) → map heard_lane (map cut_lane heard) ≡ map heard_lane heard
heard-cut [] = refl
heard-cut (h ∷ heard) =
    ap (λ front. (let lane : HeardLane = record { front = front; closed = h.closed } in lane) ∷ map heard_lane (map cut_lane heard)) (append-nil (entries h))
    ∙ ap (λ lanes. heard_lane h ∷ lanes) (heard-cut heard)

pub log-cut : (counts : List ℕ) (heard : List LaneHeard) → log_of counts (map cut_lane heard) ≡ log_of counts heard
log-cut [] heard = refl
log-cut (count ∷ counts) heard =
    ap (λ l. map heard_lane l ∷ log_of counts (drop count (map cut_lane heard))) (take-map cut_lane count heard)
    ∙ ap (λ lanes. lanes ∷ log_of counts (drop count (map cut_lane heard))) (heard-cut (take count heard))
    ∙ ap (λ l. map heard_lane (take count heard) ∷ log_of counts l) (drop-map cut_lane count heard)
    ∙ ap (λ log. map heard_lane (take count heard) ∷ log) (log-cut counts (drop count heard))
