-- The functions that names call, without regard to the case of ASCII letters.
use Rattle.std.specs.Prelude.{ℕ, Bool, false, ◌||◌, ◌&&◌, List, codes, Option, Some, None, if◌then◌else◌}
use Rattle.tick_time.specs.Unit.{is_name}
use Rattle.tick_time.specs.Part.{part_named}
use Rattle.tick_time.specs.declared.part.Part.{Part}
use Rattle.tick_time.specs.declared.part.Part.TheVariants as part
use Rattle.query_plan.specs.declared.expr.Op.{Op}
use Rattle.query_plan.specs.declared.expr.Op.TheVariants as op
use Rattle.event_value.specs.declared.aggregate.AggKind.{AggKind}
use Rattle.event_value.specs.declared.aggregate.AggKind.TheVariants as agg
use Rattle.query_tree.specs.declared.name.Name.{Name}
use Rattle.query_tree.specs.declared.name.Path.{Path}
use Rattle.query_forms.specs.declared.form.Form.{Form}
use Rattle.query_forms.specs.declared.form.Form.TheVariants as form
use Rattle.query_readings.specs.declared.functions.DateOperation.{DateOperation}
use Rattle.query_readings.specs.declared.functions.DateOperation.TheVariants as date
use Rattle.query_readings.specs.declared.functions.Function.{Function}
use Rattle.query_readings.specs.declared.functions.Function.TheVariants.{Aggregate, Operation, Dated, Window, Time, Unknown}
use Rattle.query_readings.specs.declared.reading.Face.{Face}
use Rattle.query_readings.specs.declared.reading.Face.TheVariants.{Word, Qualified, Literal, Other}

-- the names of windows
unfoldable pub is_window_name : List ℕ → Bool
is_window_name word =
    is_name (codes "TumblingWindow") word || is_name (codes "HoppingWindow") word
    || is_name (codes "SlidingWindow") word || is_name (codes "SessionWindow") word
    || is_name (codes "SnapshotWindow") word

unfoldable pub aggregate_named : List ℕ → Option AggKind
aggregate_named word =
    if is_name (codes "COUNT") word then Some agg.Count
    else (if is_name (codes "SUM") word then Some agg.Sum
    else (if is_name (codes "AVG") word then Some agg.Avg
    else (if is_name (codes "MIN") word then Some agg.Min
    else (if is_name (codes "MAX") word then Some agg.Max else None))))

unfoldable pub text_operation_named : List ℕ → Option Op
text_operation_named word =
    if is_name (codes "LEN") word then Some op.Len
    else (if is_name (codes "LOWER") word then Some op.Lower
    else (if is_name (codes "UPPER") word then Some op.Upper
    else (if is_name (codes "SUBSTRING") word then Some op.Substring
    else (if is_name (codes "CONCAT") word then Some op.Concat else None))))

unfoldable pub other_operation_named : List ℕ → Option Op
other_operation_named word =
    if is_name (codes "ABS") word then Some op.Abs
    else (if is_name (codes "COALESCE") word then Some op.Coalesce
    else (if is_name (codes "YEAR") word then Some (op.DatePart part.Year)
    else (if is_name (codes "MONTH") word then Some (op.DatePart part.Month)
    else (if is_name (codes "DAY") word then Some (op.DatePart part.Day) else None))))

-- functions whose first argument is the word of a part
unfoldable pub date_operation_named : List ℕ → Option DateOperation
date_operation_named word =
    if is_name (codes "DATEADD") word then Some date.Add
    else (if is_name (codes "DATEDIFF") word then Some date.Diff
    else (if is_name (codes "DATEPART") word then Some date.Field else None))

abbrev pub or_window : Option DateOperation → List ℕ → Function
or_window (Some d) word = Dated d
or_window None word = if is_window_name word then Window else Unknown

abbrev pub or_date : Option Op → List ℕ → Function
or_date (Some o) word = Operation o
or_date None word = or_window (date_operation_named word) word

abbrev pub or_other : Option Op → List ℕ → Function
or_other (Some o) word = Operation o
or_other None word = or_date (other_operation_named word) word

abbrev pub or_operation : Option AggKind → List ℕ → Function
or_operation (Some k) word = Aggregate k
or_operation None word = or_other (text_operation_named word) word

unfoldable pub function_named : List ℕ → Function
function_named word = or_operation (aggregate_named word) word

-- System.Timestamp
abbrev pub is_time_name : Name → Name → Bool
is_time_name first second =
    is_name (codes "System") first.text && is_name (codes "Timestamp") second.text

abbrev pub is_time_with : Name → Option Name → Bool
is_time_with first None = false
is_time_with first (Some second) = is_time_name first second

unfoldable pub is_time : Path → Bool
is_time path = is_time_with path.first path.second

abbrev pub function_with : Name → Option Name → Function
function_with first None = function_named first.text
function_with first (Some second) = if is_time_name first second then Time else Unknown

-- the function that a path names
unfoldable pub function_of : Path → Function
function_of path = function_with path.first path.second

abbrev pub date_op : DateOperation → Part → Op
date_op date.Add p = op.DateAdd p
date_op date.Diff p = op.DateDiff p
date_op date.Field p = op.DatePart p

abbrev pub date_form_of : DateOperation → Option Part → Form
date_form_of d None = form.Unfit
date_form_of d (Some p) = form.Apply (date_op d p)

-- the operation of the part that the first argument names
unfoldable pub date_form : DateOperation → Face → Form
date_form d (Word name) = date_form_of d (part_named name)
date_form d (Qualified name) = form.Unfit
date_form d Literal = form.Unfit
date_form d Other = form.Unfit

-- the pattern of LIKE is a text that is written out
unfoldable pub like_form : Bool → Face → Form
like_form negated Literal = form.Like negated
like_form negated (Word name) = form.Unfit
like_form negated (Qualified name) = form.Unfit
like_form negated Other = form.Unfit
