-- A file that was read up to a limit.
use Rattle.std.specs.Prelude.{◌≡◌, ◌≤◌, ◌⊎◌, ℕ, List, [], ◌∷◌, length, nat_le, if◌then◌else◌}
use Rattle.std.specs.Prelude.{Option, option_map, Result, Err}
use Rattle.outside.specs.KnownFiles.{KnownFiles, files_after_asking}
use Rattle.outside.specs.declared.segment.Segment.{Segment}
use Rattle.outside.specs.declared.segment.Segment.TheVariants.{Bytes, TooLong}
use Rattle.outside.specs.declared.segment.ReadErr.{ReadErr}
use Rattle.outside.specs.declared.segment.ReadErr.TheVariants.{Memory}

-- the bytes, if there are no more than the limit
abbrev pub segment_of : ℕ → List ℕ → Segment
segment_of limit bytes = if nat_le (length bytes) limit then Bytes bytes else TooLong

-- the bytes are no more than the limit
abbrev pub IsWithin : ℕ → Segment → Type 0
IsWithin limit (Bytes bytes) = length bytes ≤ limit
IsWithin limit TooLong = Unit {0}

-- the file is asked for once, or for want of memory perhaps not at all; what is held stays
pub record AsksFor (name : List ℕ) (result : Result Segment ReadErr) (old new : Option KnownFiles)
    : Type 0 where
  pub names : List (List ℕ)
  pub left : List ℕ
  pub known : new ≡ option_map (files_after_asking names left) old
  pub once : (names ≡ name ∷ []) ⊎ ((names ≡ []) × (result ≡ Err Memory))
