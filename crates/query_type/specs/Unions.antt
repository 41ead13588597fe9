-- UNION: selects of equal numbers of columns of equal kinds, joined from the left; names are the first's.
use Rattle.std.specs.Prelude.{map, ℕ, Bool, true, false, if◌then◌else◌, Option, Some, None, List, [], ◌∷◌}
use Rattle.event_value.specs.declared.kind.Kind.{Kind}
use Rattle.query_plan.specs.declared.plan.Step.TheVariants as step
use Rattle.query_tree.specs.declared.script.Union.{Union}
use Rattle.query_tree.specs.declared.select.Select.{Select}
use Rattle.query_forms.specs.declared.fault.Cause.TheVariants as cause
use Rattle.query_forms.specs.Kinds.{is_same_kind}
use Rattle.query_readings.specs.Same.{all_hold}
use Rattle.query_sources.specs.declared.draft.Draft.{Draft}
use Rattle.query_sources.specs.declared.known.KnownSource.{KnownSource}
use Rattle.query_sources.specs.declared.known.ResultColumn.{ResultColumn}
use Rattle.query_sources.specs.Drafts.{noted_at, with_step}
use Rattle.query_type.specs.Selects.{columns_of, select_read}

-- kinds are compared where both are known
abbrev pub is_equal_kind : Option Kind → Option Kind → Bool
is_equal_kind None k = true
is_equal_kind (Some j) None = true
is_equal_kind (Some j) (Some k) = is_same_kind j k

abbrev pub is_equal_column : ResultColumn → ResultColumn → Bool
is_equal_column c e = is_equal_kind c.kind e.kind

-- as many columns, of equal kinds one by one
abbrev pub are_equal_columns : List ResultColumn → List ResultColumn → Bool
are_equal_columns cs es = all_hold (map is_equal_column cs) es

abbrev pub known_kind : Option Kind → Option Kind → Option Kind
known_kind None k = k
known_kind (Some j) k = Some j

abbrev pub merged_column : ResultColumn → ResultColumn → ResultColumn
merged_column c e = record { name = c.name; kind = known_kind c.kind e.kind }

abbrev pub merged_columns : List ResultColumn → List ResultColumn → List ResultColumn
merged_columns [] es = []
merged_columns (c ∷ cs) [] = c ∷ merged_columns cs []
merged_columns (c ∷ cs) (e ∷ es) = merged_column c e ∷ merged_columns cs es

abbrev pub columns_of_select : List KnownSource → Select → List ResultColumn
columns_of_select known s = columns_of known s.items s.tail

abbrev pub read_of_select : List KnownSource → Bool → Select → Draft → Draft
read_of_select known later s d = select_read known s.place later s.items s.tail d

unfoldable pub joined_columns : List KnownSource → List ResultColumn → Select → List ResultColumn
joined_columns known columns s = merged_columns columns (columns_of_select known s)

-- columns that differ are refused at the later SELECT
abbrev pub kinds_noted : List ResultColumn → List ResultColumn → ℕ → Draft → Draft
kinds_noted columns others place d =
    if are_equal_columns columns others then d else noted_at place cause.Kind d

abbrev pub union_step : ℕ → Draft → Draft
union_step first d = with_step (step.Union first d.last) d

-- a further select, and the step that joins it to the rows so far
unfoldable pub joined_read : List KnownSource → List ResultColumn → Select → Draft → Draft
joined_read known columns s d =
    union_step d.last
    (kinds_noted columns (columns_of_select known s) s.place (read_of_select known true s d))

abbrev pub columns_from : List KnownSource → List ResultColumn → List Select → List ResultColumn
columns_from known columns [] = columns
columns_from known columns (s ∷ ss) = columns_from known (joined_columns known columns s) ss

abbrev pub joined_from : List KnownSource → List ResultColumn → List Select → Draft → Draft
joined_from known columns [] d = d
joined_from known columns (s ∷ ss) d =
    joined_from known (joined_columns known columns s) ss (joined_read known columns s d)

-- the columns of a union
abbrev pub columns_of_union : List KnownSource → Union → List ResultColumn
columns_of_union known u = columns_from known (columns_of_select known u.first) u.more

-- the steps of a union and the faults in it
abbrev pub union_read : List KnownSource → Union → Draft → Draft
union_read known u d =
    joined_from known (columns_of_select known u.first) u.more (read_of_select known false u.first d)
