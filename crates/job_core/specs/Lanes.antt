-- The lanes of a core: which partitions of which streams they are, and what each stands for.
use Rattle.std.specs.Prelude.{◌≡◌, ◌≤◌, ℕ, ◌+◌, Bool, List, [], ◌∷◌, take, drop, length, min, zero, suc, Some, slice_get}
use Rattle.query_plan.specs.declared.plan.StreamUse.{StreamUse}
use Rattle.event_value.specs.declared.policy.Policy.{Policy}
use Rattle.event_value.specs.declared.record.Item.{Item}
use Rattle.event_value.specs.declared.record.Stamped.{Stamped}
use Rattle.tick_time.specs.Moment.{end_ticks}
use Rattle.job_core.specs.Heard.{LaneHeard}
use Rattle.job_core.specs.Lane.{HasUnread, IsFed, IsReleased, IsSameLane, LaneStands, fed_entries}
use Rattle.job_core.specs.declared.lane.Lane.{Lane}

-- which lane it is
pub record LaneName : Type 0 where
  pub used : StreamUse
  pub partition : ℕ

abbrev pub name_of : Lane → LaneName
name_of lane = record { used = lane.used; partition = lane.partition }

-- which lane it is, the ends of its segments, and whether no more segments come
pub record LaneKind : Type 0 where
  pub used : StreamUse
  pub partition : ℕ
  pub throughs : List ℕ
  pub ended : Bool

abbrev pub kind_of : Lane → LaneKind
kind_of lane =
    record { used = lane.used; partition = lane.partition; throughs = lane.throughs; ended = lane.ended }

-- the names are those of a stream's lanes, from this partition on
abbrev pub AreOfStream : StreamUse → ℕ → List LaneName → Type 0
AreOfStream used partition [] = Unit {0}
AreOfStream used partition (name ∷ names) =
    (name.used ≡ used) × (name.partition ≡ partition) × AreOfStream used (partition + 1) names

-- the names are those of the lanes of streams, which have so many lanes each
abbrev pub AreOfStreams : List StreamUse → List ℕ → List LaneName → Type 0
AreOfStreams [] [] names = names ≡ []
AreOfStreams [] (count ∷ counts) names = ⊥
AreOfStreams (used ∷ uses) [] names = ⊥
AreOfStreams (used ∷ uses) (count ∷ counts) names =
    (count ≤ length names) × AreOfStream used 0 (take count names) × AreOfStreams uses counts (drop count names)

-- as many of the one as of the other
abbrev pub AreAsMany : {X Y : Type 0} → List X → List Y → Type 0
AreAsMany [] [] = Unit {0}
AreAsMany [] (y ∷ ys) = ⊥
AreAsMany (x ∷ xs) [] = ⊥
AreAsMany (x ∷ xs) (y ∷ ys) = AreAsMany xs ys

-- each lane stands for what was heard of it
abbrev pub LanesStand : Policy → List Lane → List LaneHeard → ℕ → Type 0
LanesStand policy [] [] w = Unit {0}
LanesStand policy [] (h ∷ heard) w = ⊥
LanesStand policy (lane ∷ lanes) [] w = ⊥
LanesStand policy (lane ∷ lanes) (h ∷ heard) w = LaneStands policy lane h w × LanesStand policy lanes heard w

-- of each lane the rows below u were taken out
abbrev pub AreReleased : ℕ → List Lane → List Lane → List (List Stamped) → Type 0
AreReleased u [] news rows = (news ≡ []) × (rows ≡ [])
AreReleased u (old ∷ olds) news rows =
    (new : Lane) × (more : List Lane) × (first : List Stamped) × (rest : List (List Stamped))
    × (news ≡ new ∷ more) × (rows ≡ first ∷ rest) × IsReleased u old new first × AreReleased u olds more rest

-- the least of moments that are no later than the last
abbrev pub least : List ℕ → ℕ
least [] = end_ticks
least (n ∷ ns) = min n (least ns)

-- a lane of these has so many unread entries in its segment, whose items these are
abbrev pub HasUnreadIn : List Lane → ℕ → List Item → ℕ → Type 0
HasUnreadIn lanes place items n = (lane : Lane) × (slice_get lanes place ≡ Some lane) × HasUnread lane items n

-- another in place of an item
abbrev pub replaced : {X : Type 0} → ℕ → X → List X → List X
replaced n y [] = []
replaced zero y (x ∷ xs) = y ∷ xs
replaced (suc n) y (x ∷ xs) = x ∷ replaced n y xs

-- a lane of these has heard the next entries of its segment
abbrev pub IsFedIn : List Lane → ℕ → List Item → ℕ → List Lane → Type 0
IsFedIn lanes place items n fed = (lane : Lane) → slice_get lanes place ≡ Some lane
    → (new : Lane) × (fed ≡ replaced place new lanes) × IsFed lane (fed_entries lane items n) new × IsSameLane lane new
