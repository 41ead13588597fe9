-- Feeds and cuts in any order, and what their batches are behind each other.
use Rattle.std.specs.Prelude.{◌≡◌, ◌≤◌, ℕ, Bool, false, List, [], ◌∷◌, ◌++◌, map, slice_get, Some}
use Rattle.event_value.specs.declared.policy.Policy.{Policy}
use Rattle.event_value.specs.declared.record.Stamped.{Stamped}
use Rattle.arrival_log.specs.Log.{LaneEntry}
use Rattle.query_meaning.specs.Lists.{all_below, all_between, behind_each}
use Rattle.query_meaning.specs.Meaning.{rows_of_outputs}
use Rattle.query_meaning.specs.declared.ready.ReadyPlan.{ReadyPlan}
use Rattle.query_meaning.specs.Streams.{watermark_of_streams}
use Rattle.job_core.specs.Heard.{LaneHeard, cut_lane, log_of, with_lane}
use Rattle.job_core.specs.Lanes.{AreAsMany, AreOfStreams, LaneName}

-- what may be done with a core
pub data CoreStep : Type 0 where
  -- a lane that isn't closed hears further entries, and is closed behind them or not
  Feed : (place : ℕ) (more : List LaneEntry) (closed : Bool) → CoreStep
  -- the core is cut
  Cut : CoreStep

-- further entries of a lane
abbrev pub fed_lane : List LaneEntry → Bool → LaneHeard → LaneHeard
fed_lane more closed h = record { before = h.before; since = h.since ++ more; closed = closed }

-- what was heard after a step
abbrev pub heard_after_step : List LaneHeard → CoreStep → List LaneHeard
heard_after_step heard (Feed place more closed) = with_lane (fed_lane more closed) place heard
heard_after_step heard Cut = map cut_lane heard

-- what was heard after steps
abbrev pub heard_after : List LaneHeard → List CoreStep → List LaneHeard
heard_after heard [] = heard
heard_after heard (step ∷ steps) = heard_after (heard_after_step heard step) steps

-- a step that feeds no closed lane
abbrev pub IsOpenStep : List LaneHeard → CoreStep → Type 0
IsOpenStep heard (Feed place more closed) = (h : LaneHeard) → slice_get heard place ≡ Some h → h.closed ≡ false
IsOpenStep heard Cut = Unit {0}

-- no step feeds a closed lane
abbrev pub AreOpenSteps : List LaneHeard → List CoreStep → Type 0
AreOpenSteps heard [] = Unit {0}
AreOpenSteps heard (step ∷ steps) = IsOpenStep heard step × AreOpenSteps (heard_after_step heard step) steps

module _ (plan : ReadyPlan) (policy : Policy) (counts : List ℕ) where
  -- the rows of the outputs over what was heard
  abbrev pub meaning : List LaneHeard → List (List Stamped)
  meaning heard = rows_of_outputs plan policy (log_of counts heard)

  -- the least of the watermarks of the lanes
  abbrev pub final_below : List LaneHeard → ℕ
  final_below heard = watermark_of_streams policy plan.streams (log_of counts heard)

  -- the moment up to which a core that was cut up to w is cut after steps
  abbrev pub upto_after : List LaneHeard → ℕ → List CoreStep → ℕ
  upto_after heard w [] = w
  upto_after heard w (Feed place more closed ∷ steps) = upto_after (heard_after_step heard (Feed place more closed)) w steps
  upto_after heard w (Cut ∷ steps) = upto_after (heard_after_step heard Cut) (final_below heard) steps

  -- the rows that were given before, and behind them those of the batches of these steps
  abbrev pub given_after : List (List Stamped) → List LaneHeard → ℕ → List CoreStep → List (List Stamped)
  given_after given heard w [] = given
  given_after given heard w (Feed place more closed ∷ steps) =
      given_after given (heard_after_step heard (Feed place more closed)) w steps
  given_after given heard w (Cut ∷ steps) =
      given_after (behind_each given (all_between w (final_below heard) (meaning heard)))
      (heard_after_step heard Cut) (final_below heard) steps

-- Over every list of feeds and cuts: the rows of the batches behind each other are the rows of the whole meaning
-- below the last watermark, none left out and none twice, and what is heard later changes none of them.
pub record AnySchedule (plan : ReadyPlan) (policy : Policy) (counts : List ℕ) : Type 0 where
  pub whole : (names : List LaneName) (heard : List LaneHeard) (w : ℕ) (steps : List CoreStep)
      → AreOfStreams plan.streams counts names → AreAsMany names heard → w ≤ final_below plan policy counts heard
      → AreOpenSteps heard steps
      → given_after plan policy counts (all_below w (meaning plan policy counts heard)) heard w steps
      ≡ all_below (upto_after plan policy counts heard w steps) (meaning plan policy counts (heard_after heard steps))
  pub settled : (names : List LaneName) (heard : List LaneHeard) (w : ℕ) (steps : List CoreStep)
      → AreOfStreams plan.streams counts names → AreAsMany names heard → w ≤ final_below plan policy counts heard
      → AreOpenSteps heard steps
      → all_below w (meaning plan policy counts (heard_after heard steps)) ≡ all_below w (meaning plan policy counts heard)
