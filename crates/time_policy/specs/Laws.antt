-- What holds of every lane.
use Rattle.std.specs.Prelude.{◌≡◌, ℕ, ◌≤◌, List, ◌++◌, Some}
use Rattle.time_policy.specs.Entry.{Entry}
use Rattle.time_policy.specs.Verdicts.{verdict, watermark}
use Rattle.time_policy.specs.declared.rules.Rules.{Rules}
use Rattle.time_policy.specs.declared.verdict.Verdict.TheVariants.{Kept}

-- the next record is kept at the watermark or later, if at all
abbrev pub IsKeptFromWatermark : Rules → Type 0
IsKeptFromWatermark r = (front : List Entry) (e : Entry) (t : ℕ)
    → verdict r front e ≡ Some (Kept t) → watermark r front ≤ t

-- whatever follows, the watermark is no lower than before
abbrev pub NeverFalls : Rules → Type 0
NeverFalls r = (front more : List Entry) → watermark r front ≤ watermark r (front ++ more)
