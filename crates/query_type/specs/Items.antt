-- The items of a select: their values, and the names and kinds of its columns.
use Rattle.std.specs.Prelude.{map, ℕ, ◌+◌, ◌-◌, Option, Some, None, Ok, Err, List, [], ◌∷◌, ◌++◌, length, slice_get, codes}
use Rattle.std.specs.Fmt.{decimal}
use Rattle.event_value.specs.declared.kind.Kind.{Kind}
use Rattle.query_plan.specs.declared.expr.Expr.TheVariants.{Col}
use Rattle.query_tree.specs.declared.name.Name.{Name}
use Rattle.query_tree.specs.declared.select.Item.{Item}
use Rattle.query_tree.specs.declared.select.SelectItems.{SelectItems}
use Rattle.query_tree.specs.declared.select.SelectItems.TheVariants.{Star, Listed}
use Rattle.query_tree.specs.declared.source.Alias.{Alias}
use Rattle.query_forms.specs.declared.fault.Cause.{Cause}
use Rattle.query_forms.specs.declared.fault.Cause.TheVariants as cause
use Rattle.query_readings.specs.declared.reading.Face.{Face}
use Rattle.query_readings.specs.declared.reading.Face.TheVariants.{Word, Qualified, Literal, Other}
use Rattle.query_readings.specs.declared.reading.Side.{Side}
use Rattle.query_readings.specs.declared.reading.Side.TheVariants.{Rows, Groups}
use Rattle.query_readings.specs.declared.scope.Scope.{Scope}
use Rattle.query_readings.specs.declared.scope.ScopeColumn.{ScopeColumn}
use Rattle.query_readings.specs.declared.scope.ScopeSource.{ScopeSource}
use Rattle.query_forms.specs.declared.sense.Valued.{Valued}
use Rattle.query_forms.specs.Faults.{Checked, fault_at}
use Rattle.query_readings.specs.Reading.{outcome_of}
use Rattle.query_senses.specs.Readings.{reading}
use Rattle.query_type.specs.declared.items.Picked.{Picked}
use Rattle.query_sources.specs.declared.known.ResultColumn.{ResultColumn}
use Rattle.query_sources.specs.Conditions.{place_of, value_of}
use Rattle.query_sources.specs.Known.{name_at}

-- the name of the item at a place, counted from 1
abbrev pub numbered : ℕ → List ℕ
numbered n = codes "Column" ++ decimal n

-- a column without a written name keeps its own
abbrev pub name_of_face : ℕ → Face → List ℕ
name_of_face n (Word name) = name
name_of_face n (Qualified name) = name
name_of_face n Literal = numbered n
name_of_face n Other = numbered n

abbrev pub name_with : ℕ → ℕ → Option Alias → Face → Name
name_with n place (Some alias) face = alias.name
name_with n place None face = name_at place (name_of_face n face)

abbrev pub item_name : ℕ → Item → Face → Name
item_name n item face = name_with n item.place item.alias face

abbrev pub column : Name → Option Kind → ResultColumn
column name kind = record { name = name; kind = kind }

abbrev pub with_value : Name → Checked Valued → Picked → Picked
with_value name (Ok v) p = record p {
  columns = p.columns ++ column name v.kind ∷ [];
  exprs = p.exprs ++ v.expr ∷ [];
}
with_value name (Err faults) p = record p {
  columns = p.columns ++ column name None ∷ [];
  faults = p.faults ++ faults;
}

abbrev pub with_item : Scope → Side → Picked → Item → Picked
with_item scope side p item =
    let r = reading scope item.expr in
    with_value (item_name (length p.columns + 1) item r.face)
    (value_of (place_of item.expr) (outcome_of side r)) p

abbrev pub with_items : Scope → Side → Picked → List Item → Picked
with_items scope side p [] = p
with_items scope side p (item ∷ more) = with_items scope side (with_item scope side p item) more

abbrev pub with_fault_at : ℕ → Cause → Picked → Picked
with_fault_at place r p = record p { faults = p.faults ++ fault_at place r ∷ [] }

-- how many items a select may have
abbrev pub max_items : ℕ
max_items = 64

abbrev pub with_excess_item : Option Item → Picked → Picked
with_excess_item None p = p
with_excess_item (Some item) p = with_fault_at item.place cause.TooMany p

abbrev pub with_excess : List Item → Picked → Picked
with_excess more p = with_excess_item (slice_get more (max_items - 1)) p

-- `*` stands for all columns of all sources, and is refused over groups
abbrev pub with_column : ℕ → Picked → ScopeColumn → Picked
with_column place p c = record p {
  columns = p.columns ++ column (name_at place c.name) c.kind ∷ [];
  exprs = p.exprs ++ Col c.column ∷ [];
}

abbrev pub with_columns : ℕ → Picked → List ScopeColumn → Picked
with_columns place p [] = p
with_columns place p (c ∷ cs) = with_columns place (with_column place p c) cs

abbrev pub with_sources : ℕ → Picked → List ScopeSource → Picked
with_sources place p [] = p
with_sources place p (s ∷ ss) = with_sources place (with_columns place p s.columns) ss

abbrev pub with_side : Side → ℕ → Picked → Picked
with_side Rows place p = p
with_side Groups place p = with_fault_at place cause.NotGrouped p

abbrev pub with_star : Scope → Side → ℕ → Picked → Picked
with_star scope side place p = with_sources place (with_side side place p) scope.sources

abbrev pub nothing_picked : Picked
nothing_picked = record { columns = []; exprs = []; faults = [] }

-- what the items of a select give, with the faults in them
unfoldable pub picked_of : Scope → Side → SelectItems → Picked
picked_of scope side (Star place) = with_star scope side place nothing_picked
picked_of scope side (Listed place first more) =
    with_excess more (with_items scope side (with_item scope side nothing_picked first) more)

abbrev pub name_of_column : ResultColumn → Name
name_of_column c = c.name

abbrev pub column_names : List ResultColumn → List Name
column_names cs = map name_of_column cs
