-- What one entry changes in a state, by numbers alone: for private clauses.
use Rattle.std.specs.Prelude.{◌≡◌, ℕ, ◌-◌, max, unwrap_or, true, List, if◌then◌else◌}
use Rattle.event_value.specs.declared.value.Value.{Value}
use Rattle.time_policy.specs.PolicyState.{LaneState}
use Rattle.time_policy.specs.SubstreamMarks.{Marks, SetsMark, mark_in}
use Rattle.time_policy.specs.declared.rules.Rules.{Rules}
use Rattle.time_policy.specs.declared.verdict.Verdict.{Verdict}
use Rattle.time_policy.specs.declared.verdict.Verdict.TheVariants.{Kept, Dropped}

-- the time below which a state keeps no record of a substream
abbrev pub earliest_time_in : LaneState → List Value → ℕ
earliest_time_in s key = if s.rules.over then unwrap_or (mark_in s.marks key) 0 else s.watermark

-- the watermark w after a record of a lane that is stamped without OVER
abbrev pub watermark_after_verdict : Rules → ℕ → Verdict → ℕ
watermark_after_verdict r w (Kept t) = max w (t - r.disorder)
watermark_after_verdict r w (Dropped _) = w

-- the watermark w after a record with this verdict, which came at the arrival a
abbrev pub watermark_after_record : Rules → ℕ → ℕ → Verdict → ℕ
watermark_after_record r w a v =
    if r.stamped then (if r.over then max w (a - r.late) else watermark_after_verdict r w v)
    else max w a

-- the watermark w after a mark at a moment, which came at the arrival a
abbrev pub watermark_after_mark : Rules → ℕ → ℕ → ℕ → ℕ
watermark_after_mark r w a through =
    if r.stamped then (if r.over then max w (a - r.late) else max w (through - r.late)) else max w a

-- the marks after a record of a lane with OVER, which was judged by the mark m
abbrev pub MarksAfterVerdict : Rules → List Value → ℕ → Verdict → Marks → Marks → Type 0
MarksAfterVerdict r key m (Kept t) old new = SetsMark key (max m (t - r.disorder)) old new
MarksAfterVerdict r key m (Dropped _) old new = new ≡ old

-- the marks after a record, which was judged by the mark m
abbrev pub MarksAfterRecord : Rules → List Value → ℕ → Verdict → Marks → Marks → Type 0
MarksAfterRecord r key m v old new = r.over ≡ true → MarksAfterVerdict r key m v old new
