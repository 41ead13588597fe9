-- What contracts see of the marks of substreams.
use Rattle.std.specs.Prelude.{◌≡◌, ℕ, List, map, Option, Some, if◌then◌else◌}
use Rattle.std.specs.Map.{lookup}
use Rattle.std.specs.BTreeMap.{BTreeMap}
use Rattle.std.specs.Global.{Vec}
use Rattle.event_value.specs.declared.value.Value.{Value}
use Rattle.time_policy.specs.Substreams.{is_same_substream}

-- the keys of substreams, each with its mark
abbrev pub Marks : Type 0
Marks = List (List Value × ℕ)

-- a key as the list of its values, with its mark
abbrev pub with_values : (Vec Value × ℕ) → (List Value × ℕ)
with_values e = (e.0.items, e.1)

-- the entries of a map, in order of the keys
abbrev pub marks_of : BTreeMap (Vec Value) ℕ → Marks
marks_of m = map with_values m.entries

-- the mark of a substream that has one
abbrev pub mark_in : Marks → List Value → Option ℕ
mark_in marks key = lookup (is_same_substream key) marks

-- the mark of this substream is m now, and that of every other is as before
abbrev pub SetsMark : List Value → ℕ → Marks → Marks → Type 0
SetsMark key m old new = (other : List Value)
    → mark_in new other ≡ (if is_same_substream key other then Some m else mark_in old other)
