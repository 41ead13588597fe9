-- What contracts see of a lane's policy state, and the entries that it stands for.
use Rattle.std.specs.Prelude.{◌≡◌, ℕ, Bool, true, List, unsigned_abs}
use Rattle.event_value.specs.declared.policy.Policy.{Policy}
use Rattle.event_value.specs.declared.value.Value.{Value}
use Rattle.time_policy.specs.Entry.{Entry}
use Rattle.time_policy.specs.SubstreamMarks.{Marks, mark_in}
use Rattle.time_policy.specs.Verdicts.{arrival, kept_mark, watermark}
use Rattle.time_policy.specs.declared.rules.Rules.{Rules}

-- the policies of a lane and how far it is
pub record LaneState : Type 0 where
  pub rules : Rules
  pub arrival : ℕ
  pub watermark : ℕ
  pub marks : Marks

-- the rules of a policy, whose lengths are no less than 0
abbrev pub rules_of : Policy → Bool → Bool → Rules
rules_of policy stamped over = record {
  late = unsigned_abs policy.late;
  disorder = unsigned_abs policy.disorder;
  adjust = policy.adjust;
  stamped = stamped;
  over = over;
}

-- the state has the arrival, the watermark and, with OVER, the marks of the substreams of these entries
pub record StandsFor (s : LaneState) (front : List Entry) : Type 0 where
  pub arrival_is : s.arrival ≡ arrival front
  pub watermark_is : s.watermark ≡ watermark s.rules front
  pub marks_are : s.rules.over ≡ true
      → (key : List Value) → mark_in s.marks key ≡ kept_mark s.rules key front
