-- What a lane's entries so far mean (docs/INPUTS, "Verdicts"): its arrival, its watermark, the marks of
-- its substreams, and the verdict on the next entry. Each number is a greatest value over all entries.
use Rattle.std.specs.Prelude.{ℕ, ◌+◌, ◌-◌, min, max, nat_lt, Bool, false, if◌then◌else◌}
use Rattle.std.specs.Prelude.{List, [], ◌∷◌, ◌++◌, map, Option, Some, None}
use Rattle.std.specs.List.{list_any}
use Rattle.event_value.specs.declared.record.Rule.TheVariants.{NoTime, Early, Late, Disorder}
use Rattle.event_value.specs.declared.value.Value.{Value}
use Rattle.time_policy.specs.Entry.{Entry, Good, Bad, Mark}
use Rattle.time_policy.specs.Substreams.{is_same_substream}
use Rattle.time_policy.specs.declared.rules.Rules.{Rules}
use Rattle.time_policy.specs.declared.verdict.Verdict.{Verdict}
use Rattle.time_policy.specs.declared.verdict.Verdict.TheVariants.{Kept, Dropped}

-- how far a stamp may be ahead of the arrival: five minutes
abbrev pub early_ticks : ℕ
early_ticks = 3_000_000_000

-- the greatest of 0 and the numbers
abbrev pub greatest : List ℕ → ℕ
greatest [] = 0
greatest (n ∷ ns) = max n (greatest ns)

-- the entries of a lane so far, each with its verdict; a mark has none
abbrev pub History : Type 0
History = List (Entry × Option Verdict)

-- the entries of a history
abbrev pub entries_of : History → List Entry
entries_of past = map (λ p. p.0) past

-- the moment that an entry brings: a record the earlier of its enqueue moment and its segment's end
abbrev pub entry_arrival : Entry → ℕ
entry_arrival (Good enqueued through _ _) = min enqueued through
entry_arrival (Bad _) = 0
entry_arrival (Mark through) = through

-- the arrival of a lane: the greatest moment that its entries brought
abbrev pub arrival : List Entry → ℕ
arrival front = greatest (map entry_arrival front)

-- the moment up to which an entry closes a lane that is stamped without OVER: a kept record its time
-- less the disorder tolerance, a mark its moment less the late tolerance
abbrev pub entry_watermark : Rules → (Entry × Option Verdict) → ℕ
entry_watermark r (Good _ _ _ _, Some (Kept t)) = t - r.disorder
entry_watermark r (Good _ _ _ _, Some (Dropped _)) = 0
entry_watermark r (Good _ _ _ _, None) = 0
entry_watermark r (Bad _, _) = 0
entry_watermark r (Mark through, _) = through - r.late

-- the watermark of a lane
abbrev pub watermark_of : Rules → History → ℕ
watermark_of r past =
    if r.stamped then
    (if r.over then arrival (entries_of past) - r.late else greatest (map (entry_watermark r) past))
    else arrival (entries_of past)

-- the moment up to which an entry closes a substream
abbrev pub entry_mark : Rules → List Value → (Entry × Option Verdict) → ℕ
entry_mark r key (Good _ _ _ of, Some (Kept t)) = if is_same_substream of key then t - r.disorder else 0
entry_mark r key (Good _ _ _ _, Some (Dropped _)) = 0
entry_mark r key (Good _ _ _ _, None) = 0
entry_mark r key (Bad _, _) = 0
entry_mark r key (Mark _, _) = 0

-- the mark of a substream
abbrev pub mark_of : Rules → List Value → History → ℕ
mark_of r key past = greatest (map (entry_mark r key) past)

-- the time below which no record of a substream is kept
abbrev pub earliest_time : Rules → List Value → History → ℕ
earliest_time r key past = if r.over then mark_of r key past else watermark_of r past

-- the verdict on a record at time t, which isn't late, by the mark m
abbrev pub verdict_by_mark : Rules → ℕ → ℕ → Verdict
verdict_by_mark r m t =
    if nat_lt t m then (if r.adjust then Kept m else Dropped Disorder) else Kept t

-- the verdict on a record with this stamp, by its arrival a and the mark m: the first case that applies
abbrev pub verdict_by_stamp : Rules → ℕ → ℕ → Option ℕ → Verdict
verdict_by_stamp r a m None = Dropped NoTime
verdict_by_stamp r a m (Some s) =
    if nat_lt (a + early_ticks) s then Dropped Early
    else (if nat_lt s (a - r.late) then (if r.adjust then verdict_by_mark r m (a - r.late) else Dropped Late)
    else verdict_by_mark r m s)

-- the verdict on a record; without TIMESTAMP BY it is kept at its arrival
abbrev pub verdict_by_rules : Rules → ℕ → ℕ → Option ℕ → Verdict
verdict_by_rules r a m stamp = if r.stamped then verdict_by_stamp r a m stamp else Kept a

-- the verdict on an entry after this history
abbrev pub verdict_after : Rules → History → Entry → Option Verdict
verdict_after r past (Good enqueued through stamp key) =
    let a = arrival (entries_of past ++ Good enqueued through stamp key ∷ []) in
    Some (verdict_by_rules r a (earliest_time r key past) stamp)
verdict_after r past (Bad rule) = Some (Dropped rule)
verdict_after r past (Mark through) = None

-- the history after further entries, each judged by all that stand before it
abbrev pub history_after : Rules → History → List Entry → History
history_after r past [] = past
history_after r past (e ∷ es) = history_after r (past ++ (e, verdict_after r past e) ∷ []) es

-- the history of a lane's entries so far
abbrev pub history : Rules → List Entry → History
history r front = history_after r [] front

-- the watermark of a lane after these entries
abbrev pub watermark : Rules → List Entry → ℕ
watermark r front = watermark_of r (history r front)

-- the verdict on an entry after these
abbrev pub verdict : Rules → List Entry → Entry → Option Verdict
verdict r front e = verdict_after r (history r front) e

-- whether an entry is a kept record of a substream
abbrev pub is_kept_of : List Value → (Entry × Option Verdict) → Bool
is_kept_of key (Good _ _ _ of, Some (Kept _)) = is_same_substream of key
is_kept_of key (Good _ _ _ _, Some (Dropped _)) = false
is_kept_of key (Good _ _ _ _, None) = false
is_kept_of key (Bad _, _) = false
is_kept_of key (Mark _, _) = false

-- the mark of a substream that has a kept record
abbrev pub kept_mark_of : Rules → List Value → History → Option ℕ
kept_mark_of r key past = if list_any (is_kept_of key) past then Some (mark_of r key past) else None

-- the same after these entries
abbrev pub kept_mark : Rules → List Value → List Entry → Option ℕ
kept_mark r key front = kept_mark_of r key (history r front)
