-- What a call of a function is, by the function's name.
use Rattle.std.specs.Prelude.{ℕ, List, [], ◌∷◌}
use Rattle.event_value.specs.declared.aggregate.AggKind.{AggKind}
use Rattle.event_value.specs.declared.aggregate.AggKind.TheVariants as agg
use Rattle.query_tree.specs.declared.name.Path.{Path}
use Rattle.query_senses.specs.declared.calls.Given.{Given}
use Rattle.query_senses.specs.declared.calls.Quantifier.{Quantifier}
use Rattle.query_senses.specs.declared.calls.Quantifier.TheVariants.{Plain, Star, Distinct}
use Rattle.query_forms.specs.declared.fault.Cause.TheVariants as cause
use Rattle.query_forms.specs.declared.form.Form.TheVariants as form
use Rattle.query_readings.specs.declared.functions.DateOperation.{DateOperation}
use Rattle.query_readings.specs.declared.functions.Function.{Function}
use Rattle.query_readings.specs.declared.functions.Function.TheVariants.{Aggregate, Operation, Dated, Window, Time}
use Rattle.query_readings.specs.declared.reading.Reading.{Reading}
use Rattle.query_readings.specs.declared.scope.Scope.{Scope}
use Rattle.query_readings.specs.Functions.{date_form, function_of}
use Rattle.query_readings.specs.Reading.{aggregate, formed, refused_reading, row_count, time_reading}

abbrev pub unsupported : ℕ → Reading
unsupported place = refused_reading place cause.Unsupported

-- DISTINCT and * belong to COUNT alone
abbrev pub count_with : Scope → ℕ → Quantifier → List Reading → Reading
count_with scope place Plain parts = aggregate scope place agg.Count parts
count_with scope place Star parts = row_count scope place
count_with scope place Distinct parts = aggregate scope place agg.CountDistinct parts

abbrev pub aggregate_with : Scope → ℕ → AggKind → Quantifier → List Reading → Reading
aggregate_with scope place agg.Count quantifier parts = count_with scope place quantifier parts
aggregate_with scope place a Plain parts = aggregate scope place a parts
aggregate_with scope place a Star parts = unsupported place
aggregate_with scope place a Distinct parts = unsupported place

-- the first argument is the word of a part, and no expression
abbrev pub dated : Scope → ℕ → DateOperation → List Reading → Reading
dated scope place d [] = formed scope place form.Unfit []
dated scope place d (part ∷ parts) = formed scope place (date_form d part.face) parts

abbrev pub timed : Scope → ℕ → List Reading → Reading
timed scope place [] = time_reading scope place
timed scope place (r ∷ rs) = formed scope place form.Unfit (r ∷ rs)

abbrev pub function_with_parts : Scope → ℕ → Function → List Reading → Reading
function_with_parts scope place (Operation o) parts = formed scope place (form.Apply o) parts
function_with_parts scope place (Dated d) parts = dated scope place d parts
function_with_parts scope place Time parts = timed scope place parts
function_with_parts scope place _ parts = formed scope place form.Unknown parts

abbrev pub function_with_quantifier : Scope → ℕ → Function → Quantifier → List Reading → Reading
function_with_quantifier scope place f Plain parts = function_with_parts scope place f parts
function_with_quantifier scope place f Star parts = unsupported place
function_with_quantifier scope place f Distinct parts = unsupported place

-- a call of a function; a window stands for none where it is no group
unfoldable pub called_function : Scope → ℕ → Function → Given → Reading
called_function scope place Window given = unsupported place
called_function scope place (Aggregate a) given = aggregate_with scope place a given.quantifier given.parts
called_function scope place f given = function_with_quantifier scope place f given.quantifier given.parts

unfoldable pub called : Scope → ℕ → Path → Given → Reading
called scope place path given = called_function scope place (function_of path) given
