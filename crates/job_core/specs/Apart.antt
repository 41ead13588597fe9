-- Lanes that are taken out of a core, hear further entries, and are put back.
use Rattle.std.specs.Prelude.{◌≡◌, ℕ, true, List, [], ◌∷◌, ◌++◌, map}
use Rattle.arrival_log.specs.Log.{LaneEntry}
use Rattle.job_core.specs.Core.{CoreStands, with_lanes}
use Rattle.job_core.specs.Heard.{LaneHeard, entries}
use Rattle.job_core.specs.Lanes.{LanesStand, kind_of}
use Rattle.job_core.specs.declared.job.Rest.{Rest}
use Rattle.job_core.specs.declared.lane.Lane.{Lane}

-- further entries were heard of a lane, and none of a closed one
pub record HearsFurther (old new : LaneHeard) : Type 0 where
  pub more : List LaneEntry
  pub entries_are : entries new ≡ entries old ++ more
  pub none_if_closed : old.closed ≡ true → more ≡ []

-- of each lane for itself
abbrev pub HearFurther : List LaneHeard → List LaneHeard → Type 0
HearFurther [] [] = Unit {0}
HearFurther [] (new ∷ news) = ⊥
HearFurther (old ∷ olds) [] = ⊥
HearFurther (old ∷ olds) (new ∷ news) = HearsFurther old new × HearFurther olds news

-- The core of lanes that were put back stands for what each of them has heard, if it stood for what each had heard
-- when they were taken out.
pub record StandsApart : Type 0 where
  pub put_back : (rest : Rest) (lanes news : List Lane) (heard others : List LaneHeard) (w : ℕ)
      → CoreStands (with_lanes rest lanes) heard w → map kind_of news ≡ map kind_of lanes
      → LanesStand rest.policy news others w → HearFurther heard others
      → CoreStands (with_lanes rest news) others w
