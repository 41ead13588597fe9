-- Lanes before their first entries.
use Rattle.std.proofs.Common.{◌≡◌, ◌≤◌, ◌<◌, ℕ, suc, ◌+◌, ◌^◌, Option, Some, None, List, [], ◌∷◌, ◌++◌, map, drop, length, refl, ap, sym, ◌∙◌, subst, append-nil, append_assoc, arith}
use Rattle.std.specs.Prelude.{All, slice_get}
use Rattle.std.proofs.Math.Seq.{take-length, drop-length}
use Rattle.std.proofs.lemmas.List.{drop-append-le, length-append, length-map, take-append-le}
use Rattle.std.proofs.lemmas.List.Sums.{get_or-le-sum_by}
use Rattle.std.proofs.lemmas.Option.{get_or_from_slice_get, slice_get_within}
use Rattle.query_plan.specs.declared.plan.StreamUse.{StreamUse}
use Rattle.event_value.specs.declared.policy.Policy.{Policy}
use Rattle.input_book.specs.Laws.{IsPartition, IsWellFormed}
use Rattle.input_types.specs.declared.inputs.Inputs.{Inputs}
use Rattle.input_types.specs.declared.inputs.Partition.{Partition}
use Rattle.input_types.specs.declared.inputs.Stream.{Stream}
use Rattle.job_core.specs.Fresh.{fresh_heard_of, fresh_lane, kinds_from, lane_kind, lane_kinds, partitions_in, partitions_of}
use Rattle.job_core.specs.Heard.{LaneHeard}
use Rattle.job_core.specs.Lanes.{AreOfStream, AreOfStreams, LaneName, LanesStand, name_of}
use Rattle.job_core.specs.declared.lane.Lane.{Lane}

-- the lanes of one stream more
pub AreOfStreams-push : (uses : List StreamUse) (counts : List ℕ) (names : List LaneName) (used : StreamUse) (more : List Lane) → AreOfStreams uses counts names → AreOfStream used 0 (map name_of more)
    → AreOfStreams (uses ++ used ∷ []) (counts ++ length more ∷ []) (names ++ map name_of more)
AreOfStreams-push [] [] names used more h k =
    let new = map name_of more in
    let n : length new ≡ length more = length-map more name_of in
    subst (λ all. AreOfStreams (used ∷ []) (length more ∷ []) (all ++ new)) (sym h)
    (subst (λ m. AreOfStreams (used ∷ []) (m ∷ []) new) n (
      omega arith,
      subst (AreOfStream used 0) (sym (take-length new)) k,
      drop-length new,
    ))
AreOfStreams-push [] (count ∷ counts) names used more h k = absurd h
AreOfStreams-push (first ∷ uses) [] names used more h k = absurd h
AreOfStreams-push (first ∷ uses) (count ∷ counts) names used more h k =
    let new = map name_of more in (
      omega (arith, h.0, length-append names new),
      subst (AreOfStream first 0) (sym (take-append-le count names new h.0)) h.1,
      subst (AreOfStreams (uses ++ used ∷ []) (counts ++ length more ∷ [])) (sym (drop-append-le count names new h.0))
          (AreOfStreams-push uses counts (drop count names) used more h.2 k),
    )

pub AreOfStream-push : (used : StreamUse) (partition : ℕ) (names : List LaneName) (name : LaneName) → AreOfStream used partition names → name.used ≡ used → name.partition ≡ partition + length names
    → AreOfStream used partition (names ++ name ∷ [])
AreOfStream-push used partition [] name h u p = (u, p ∙ omega arith, tt)
AreOfStream-push used partition (first ∷ names) name h u p = (h.0, h.1, AreOfStream-push used (partition + 1) names name h.2 u (omega (arith, p)))

pub LanesStand-append : (policy : Policy) (lanes more : List Lane) (heard others : List LaneHeard) (w : ℕ) → LanesStand policy lanes heard w → LanesStand policy more others w
    → LanesStand policy (lanes ++ more) (heard ++ others) w
LanesStand-append policy [] more [] others w h k = k
LanesStand-append policy [] more (x ∷ heard) others w h k = absurd h
LanesStand-append policy (lane ∷ lanes) more [] others w h k = absurd h
LanesStand-append policy (lane ∷ lanes) more (x ∷ heard) others w h k = (h.0, LanesStand-append policy lanes more heard others w h.1 k)

pub fresh_heard-push : (inputs : Inputs) (uses : List StreamUse) (used : StreamUse) → fresh_heard_of inputs (uses ++ used ∷ []) ≡ fresh_heard_of inputs uses ++ map fresh_lane (partitions_of inputs used)
fresh_heard-push inputs [] used = append-nil (map fresh_lane (partitions_of inputs used))
fresh_heard-push inputs (first ∷ uses) used =
    ap (λ hs. map fresh_lane (partitions_of inputs first) ++ hs) (fresh_heard-push inputs uses used)
    ∙ sym (append_assoc (map fresh_lane (partitions_of inputs first)) (fresh_heard_of inputs uses) (map fresh_lane (partitions_of inputs used)))

-- the partitions of a stream of an accepted document are few, and each has few segments
pub partitions-fit : (inputs : Inputs) (used : StreamUse) → IsWellFormed inputs → (length (partitions_of inputs used) < 2 ^ 16) × All IsPartition (partitions_of inputs used)
partitions-fit inputs used h = by_stream (slice_get inputs.streams used.stream) refl
  where
    by_stream : (o : Option Stream) → slice_get inputs.streams used.stream ≡ o → (length (partitions_in o) < 2 ^ 16) × All IsPartition (partitions_in o)
    by_stream None e = (omega arith, λ k d lt. absurd (omega (arith, lt)))
    by_stream (Some stream) e =
        let at = used.stream in
        let lt = slice_get_within inputs.streams at stream e in
        let is = get_or_from_slice_get inputs.streams at stream stream e in
        let few = get_or-le-sum_by (λ (s : Stream). length s.partitions) inputs.streams at stream lt in
        let here : length stream.partitions ≤ 32 = subst (λ (s : Stream). length s.partitions ≤ 32) is (omega (arith, few, h.partition_count)) in (
          omega (arith, here),
          subst (λ (s : Stream). All IsPartition s.partitions) is (h.streams at stream lt).partitions,
        )

-- ---- the kinds of lanes

pub kinds_from-push : (used : StreamUse) (number : ℕ) (partitions : List Partition) (partition : Partition)
    → kinds_from used number (partitions ++ partition ∷ []) ≡ kinds_from used number partitions ++ lane_kind used (number + length partitions) partition ∷ []
kinds_from-push used number [] partition = ap (λ n. lane_kind used n partition ∷ []) (omega arith)
kinds_from-push used number (first ∷ partitions) partition =
    ap (λ kinds. lane_kind used number first ∷ kinds) (kinds_from-push used (number + 1) partitions partition)
    ∙ ap (λ n. lane_kind used number first ∷ kinds_from used (number + 1) partitions ++ lane_kind used n partition ∷ []) (omega arith)

pub length-kinds_from : (used : StreamUse) (number : ℕ) (partitions : List Partition) → length (kinds_from used number partitions) ≡ length partitions
length-kinds_from used number [] = refl
length-kinds_from used number (partition ∷ partitions) = ap suc (length-kinds_from used (number + 1) partitions)

pub lane_kinds-push : (inputs : Inputs) (uses : List StreamUse) (used : StreamUse)
    → lane_kinds inputs (uses ++ used ∷ []) ≡ lane_kinds inputs uses ++ kinds_from used 0 (partitions_of inputs used)
lane_kinds-push inputs [] used = append-nil (kinds_from used 0 (partitions_of inputs used))
lane_kinds-push inputs (first ∷ uses) used =
    ap (λ kinds. kinds_from first 0 (partitions_of inputs first) ++ kinds) (lane_kinds-push inputs uses used)
    ∙ sym (append_assoc (kinds_from first 0 (partitions_of inputs first)) (lane_kinds inputs uses) (kinds_from used 0 (partitions_of inputs used)))
