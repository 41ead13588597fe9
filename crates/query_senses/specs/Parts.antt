-- Parts of expressions that hold no further ones, or what their parts are.
use Rattle.std.specs.Prelude.{ℕ, Bool, ◌&&◌, if◌then◌else◌, Option, Some, None, List, [], ◌∷◌, codes, slice_get}
use Rattle.tick_time.specs.Unit.{is_name}
use Rattle.event_value.specs.declared.kind.Kind.{Kind}
use Rattle.event_value.specs.declared.kind.Kind.TheVariants as kind
use Rattle.event_value.specs.declared.value.Value.TheVariants as value
use Rattle.query_plan.specs.declared.expr.Expr.TheVariants as expr
use Rattle.query_tree.specs.declared.name.Name.{Name}
use Rattle.query_tree.specs.declared.name.Number.{Number}
use Rattle.query_tree.specs.declared.name.Number.TheVariants.{Whole, Decimal}
use Rattle.query_tree.specs.declared.name.TypeName.{TypeName}
use Rattle.query_senses.specs.declared.calls.Given.{Given}
use Rattle.query_senses.specs.declared.calls.Quantifier.{Quantifier}
use Rattle.query_senses.specs.declared.calls.Quantifier.TheVariants.{Plain, Distinct}
use Rattle.query_forms.specs.declared.fault.Cause.TheVariants as cause
use Rattle.query_forms.specs.declared.form.Form.{Form}
use Rattle.query_forms.specs.declared.form.Form.TheVariants as form
use Rattle.query_readings.specs.declared.reading.Face.TheVariants as face
use Rattle.query_readings.specs.declared.reading.Reading.{Reading}
use Rattle.query_readings.specs.declared.reading.PredicateRest.{PredicateRest}
use Rattle.query_readings.specs.declared.scope.Scope.{Scope}
use Rattle.query_forms.specs.declared.sense.Sense.{Sense}
use Rattle.query_forms.specs.declared.sense.Sense.TheVariants.{Value}
use Rattle.query_forms.specs.Faults.{and_then, refused}
use Rattle.query_readings.specs.Reading.{Outcome, formed, formed_of_one, refused_reading}
use Rattle.query_forms.specs.Senses.{valued}

-- a number that is written out
abbrev pub number_sense : Number → Sense
number_sense (Whole n) = Value (valued (expr.Lit (value.Big n)) (Some kind.Big))
number_sense (Decimal n) = Value (valued (expr.Lit (value.Fixed n)) (Some kind.Fixed))

-- an expression in parentheses doesn't stand for itself
abbrev pub nested : ℕ → Reading → Reading
nested place inner = record inner { place = place; face = face.Other }

abbrev pub nothing_given : Given
nothing_given = record { quantifier = Plain; parts = [] }

abbrev pub quantifier_of : Bool → Quantifier
quantifier_of distinct = if distinct then Distinct else Plain

-- the kind of a type word
unfoldable pub kind_named : List ℕ → Option Kind
kind_named word =
    if is_name (codes "bigint") word then Some kind.Big
    else (if is_name (codes "fixed") word then Some kind.Fixed
    else (if is_name (codes "datetime") word then Some kind.Moment
    else (if is_name (codes "bit") word then Some kind.Bit else None)))

abbrev pub kind_with_size : Name → Option Name → Option Kind
kind_with_size word None = kind_named word.text
kind_with_size word (Some size) =
    if is_name (codes "nvarchar") word.text && is_name (codes "max") size.text
    then Some kind.Text else None

unfoldable pub kind_of_type : TypeName → Option Kind
kind_of_type to = kind_with_size to.word to.size

abbrev pub cast_to : Scope → ℕ → Reading → ℕ → Option Kind → Reading
cast_to scope place inner at None =
    formed scope place form.Unfit (inner ∷ refused_reading at cause.Unsupported ∷ [])
cast_to scope place inner at (Some k) = formed_of_one scope place (form.Cast k) inner

-- a cast; a type that isn't one is refused at its word, beside what is refused in the part
unfoldable pub cast_reading : Scope → ℕ → Reading → TypeName → Reading
cast_reading scope place inner to = cast_to scope place inner to.place (kind_of_type to)

-- how many items IN may have
abbrev pub max_in_items : ℕ
max_in_items = 64

abbrev pub place_of : Option Reading → Option ℕ
place_of None = None
place_of (Some r) = Some r.place

abbrev pub place_above_limit : List Reading → Option ℕ
place_above_limit parts = place_of (slice_get parts max_in_items)

-- the place of the first item of IN above the limit
abbrev pub excess_with : Form → List Reading → Option ℕ
excess_with (form.In negated) parts = place_above_limit parts
excess_with _ parts = None

abbrev pub excess_of : PredicateRest → Option ℕ
excess_of rest = excess_with rest.form rest.parts

abbrev pub limited : ℕ → Outcome → Outcome
limited place outcome = and_then outcome (λ s. refused place cause.TooMany)

abbrev pub limited_reading : Option ℕ → Reading → Reading
limited_reading None r = r
limited_reading (Some place) r = record r { rows = limited place r.rows; groups = limited place r.groups }

-- a sum with what stands behind it
unfoldable pub pred_reading : Scope → ℕ → Reading → PredicateRest → Reading
pred_reading scope place sum rest =
    limited_reading (excess_of rest) (formed scope place rest.form (sum ∷ rest.parts))
