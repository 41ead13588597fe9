-- The aggregate calls of a select in order of place: their columns over the groups, and what they are computed of.
use Rattle.std.specs.Prelude.{map, ℕ, ◌+◌, Option, Some, None, List, [], ◌∷◌, ◌++◌, length}
use Rattle.query_plan.specs.declared.expr.Expr.{Expr}
use Rattle.query_plan.specs.declared.expr.Expr.TheVariants as expr
use Rattle.event_value.specs.declared.aggregate.AggKind.{AggKind}
use Rattle.event_value.specs.declared.aggregate.Aggregate.{Aggregate}
use Rattle.query_tree.specs.declared.expr.Expr as tree
use Rattle.query_tree.specs.declared.select.Having.{Having}
use Rattle.query_tree.specs.declared.select.Item.{Item}
use Rattle.query_tree.specs.declared.select.SelectItems.{SelectItems}
use Rattle.query_tree.specs.declared.select.SelectItems.TheVariants.{Star, Listed}
use Rattle.query_readings.specs.declared.reading.AggregateCall.{AggregateCall}
use Rattle.query_readings.specs.declared.scope.AggregateColumn.{AggregateColumn}
use Rattle.query_readings.specs.declared.scope.GroupKey.{GroupKey}
use Rattle.query_readings.specs.declared.scope.Scope.{Scope}
use Rattle.query_senses.specs.Readings.{reading}
use Rattle.query_windows.specs.declared.aggregates.Arguments.{Arguments}

abbrev pub calls_in : Scope → tree.Expr → List AggregateCall
calls_in scope e = (reading scope e).calls

abbrev pub calls_in_list : Scope → List Item → List AggregateCall
calls_in_list scope [] = []
calls_in_list scope (item ∷ more) = calls_in scope item.expr ++ calls_in_list scope more

abbrev pub calls_in_items : Scope → SelectItems → List AggregateCall
calls_in_items scope (Star place) = []
calls_in_items scope (Listed place first more) =
    calls_in scope first.expr ++ calls_in_list scope more

abbrev pub calls_in_having : Scope → Option Having → List AggregateCall
calls_in_having scope None = []
calls_in_having scope (Some h) = calls_in scope h.condition

-- the calls in the items and behind HAVING
unfoldable pub calls_of_select : Scope → SelectItems → Option Having → List AggregateCall
calls_of_select scope items having = calls_in_items scope items ++ calls_in_having scope having

-- their columns over the groups, from this one on
abbrev pub call_columns : ℕ → List AggregateCall → List AggregateColumn
call_columns n [] = []
call_columns n (c ∷ cs) = record { place = c.place; column = n } ∷ call_columns (n + 1) cs

abbrev pub expr_of_key : GroupKey → Expr
expr_of_key key = key.expr

abbrev pub key_exprs : List GroupKey → List Expr
key_exprs keys = map expr_of_key keys

abbrev pub aggregate : AggKind → Option ℕ → Aggregate
aggregate kind column = record { kind = kind; column = column }

abbrev pub with_argument : AggKind → Option Expr → Arguments → Arguments
with_argument kind None given =
    record given { aggregates = given.aggregates ++ aggregate kind None ∷ [] }
with_argument kind (Some e) given = record given {
  exprs = given.exprs ++ e ∷ [];
  aggregates = given.aggregates ++ aggregate kind (Some (length given.exprs)) ∷ [];
}

abbrev pub with_call : Arguments → AggregateCall → Arguments
with_call given c = with_argument c.kind c.argument given

abbrev pub with_calls : Arguments → List AggregateCall → Arguments
with_calls given [] = given
with_calls given (c ∷ cs) = with_calls (with_call given c) cs

abbrev pub expr_of_part : ℕ → Expr
expr_of_part column = expr.Col column

abbrev pub part_exprs : List ℕ → List Expr
part_exprs parts = map expr_of_part parts

-- the columns of the parts, the group expressions, and behind them the arguments; COUNT(*) has none
unfoldable pub arguments_of : List ℕ → List GroupKey → List AggregateCall → Arguments
arguments_of parts keys calls =
    with_calls (record { exprs = part_exprs parts ++ key_exprs keys; aggregates = [] }) calls
