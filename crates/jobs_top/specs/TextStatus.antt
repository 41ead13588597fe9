-- How the writing of a text ends.
use Rattle.std.specs.Prelude.{◌≡◌, ℕ, List, Option}
use Rattle.outside.specs.Faults.{HasRisen}
use Rattle.outside.specs.Written.{bytes_behind, WritesPrefix}
use Rattle.jobs_top.specs.StatusLines.{memory_line}
use Rattle.jobs_top.specs.declared.status.Status.{Status}
use Rattle.jobs_top.specs.declared.status.Status.TheVariants.{Done, Usage, Refused, ReadFault, OutFault, Memory}

-- a prefix of the text was written, and then the line of the status Memory or a prefix of it
pub record WritesPrefixThenLine (text : List ℕ) (before after : Option (List ℕ)) : Type 0 where
  pub middle : Option (List ℕ)
  pub front : WritesPrefix text before middle
  pub line : WritesPrefix memory_line middle after

-- a prefix of the text was written, and the sink's count of faults has risen
pub record IsCutByFault (text : List ℕ) (old new : ℕ) (before after : Option (List ℕ)) : Type 0 where
  pub cause : HasRisen old new
  pub front : WritesPrefix text before after

-- what was written with each status, and its cause; the others are no end of it
abbrev pub IsTextStatus : List ℕ → ℕ → ℕ → Option (List ℕ) → Option (List ℕ) → Status → Type 0
IsTextStatus text old new before after Done = after ≡ bytes_behind before text
IsTextStatus text old new before after OutFault = IsCutByFault text old new before after
IsTextStatus text old new before after Memory = WritesPrefixThenLine text before after
IsTextStatus text old new before after Usage = ⊥
IsTextStatus text old new before after Refused = ⊥
IsTextStatus text old new before after ReadFault = ⊥
