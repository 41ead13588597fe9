-- A query without its places: every place in its tree set to 0.
use Rattle.std.specs.Prelude.{◌≡◌, map}
use Rattle.std.specs.Option.{option_map}
use Rattle.query_tree.specs.declared.name.Name.{Name}
use Rattle.query_tree.specs.declared.name.Path.{Path}
use Rattle.query_tree.specs.declared.name.TypeName.{TypeName}
use Rattle.query_tree.specs.declared.expr.Args.{Args, fold-Args}
use Rattle.query_tree.specs.declared.expr.Call.{Call, fold-Call}
use Rattle.query_tree.specs.declared.expr.Not.{Not, fold-Not}
use Rattle.query_tree.specs.declared.expr.PredRest.{PredRest, fold-PredRest}
use Rattle.query_tree.specs.declared.expr.Primary.{Primary, fold-Primary}
use Rattle.query_tree.specs.declared.expr.Unary.{Unary, fold-Unary}
use Rattle.query_tree.specs.declared.expr.And.{And, fold-And}
use Rattle.query_tree.specs.declared.expr.Case.{Case, fold-Case, roll-Case}
use Rattle.query_tree.specs.declared.expr.Expr.{Expr, fold-Expr, roll-Expr}
use Rattle.query_tree.specs.declared.expr.Pred.{Pred, fold-Pred, roll-Pred}
use Rattle.query_tree.specs.declared.expr.Prod.{Prod, fold-Prod, roll-Prod}
use Rattle.query_tree.specs.declared.expr.ProdMore.{ProdMore, fold-ProdMore}
use Rattle.query_tree.specs.declared.expr.Sum.{Sum, fold-Sum, roll-Sum}
use Rattle.query_tree.specs.declared.expr.SumMore.{SumMore, fold-SumMore, roll-SumMore}
use Rattle.query_tree.specs.declared.expr.When.{When, fold-When, roll-When}
use Rattle.query_tree.specs.declared.expr.Args.TheVariants as args
use Rattle.query_tree.specs.declared.expr.Call.TheVariants as call
use Rattle.query_tree.specs.declared.expr.Not.TheVariants as nots
use Rattle.query_tree.specs.declared.expr.PredRest.TheVariants as rest
use Rattle.query_tree.specs.declared.expr.Primary.TheVariants as primary
use Rattle.query_tree.specs.declared.expr.Unary.TheVariants as unary
use Rattle.query_tree.specs.declared.expr.Args.TheOpen.{Args-F, Call-F, Not-F, PredRest-F, Primary-F, Unary-F, And-F, Case-F, Expr-F, Pred-F, Prod-F, ProdMore-F, Sum-F, SumMore-F, When-F}
use Rattle.query_tree.specs.declared.source.Source.{Source}
use Rattle.query_tree.specs.declared.source.Alias.{Alias}
use Rattle.query_tree.specs.declared.source.Stamp.{Stamp}
use Rattle.query_tree.specs.declared.source.Over.{Over}
use Rattle.query_tree.specs.declared.source.Join.{Join}
use Rattle.query_tree.specs.declared.source.Side.{Side}
use Rattle.query_tree.specs.declared.source.Side.TheVariants as side
use Rattle.query_tree.specs.declared.select.Select.{Select}
use Rattle.query_tree.specs.declared.select.SelectItems.{SelectItems}
use Rattle.query_tree.specs.declared.select.Item.{Item}
use Rattle.query_tree.specs.declared.select.Tail.{Tail}
use Rattle.query_tree.specs.declared.select.GroupBy.{GroupBy}
use Rattle.query_tree.specs.declared.select.Group.{Group}
use Rattle.query_tree.specs.declared.select.Partition.{Partition}
use Rattle.query_tree.specs.declared.select.Having.{Having}
use Rattle.query_tree.specs.declared.select.SelectItems.TheVariants as items
use Rattle.query_tree.specs.declared.script.Script.{Script}
use Rattle.query_tree.specs.declared.script.With.{With}
use Rattle.query_tree.specs.declared.script.Def.{Def}
use Rattle.query_tree.specs.declared.script.Union.{Union}
use Rattle.query_tree.specs.declared.script.Stmt.{Stmt}
use Rattle.query_tree.specs.declared.script.MoreStmt.{MoreStmt}

-- ---- names

abbrev pub bare_name : Name → Name
bare_name name = record { place = 0; text = name.text }

abbrev pub bare_path : Path → Path
bare_path path = record { place = 0; first = bare_name path.first; second = option_map bare_name path.second }

abbrev pub bare_type : TypeName → TypeName
bare_type type = record { place = 0; word = bare_name type.word; size = option_map bare_name type.size }

-- ---- levels of an expression, with the parts without their places

abbrev pub args_step : Args-F Args Call Not PredRest Primary Unary And Case Expr Pred Prod ProdMore Sum SumMore When → Args
args_step (Args-F.Star place) = args.Star 0
args_step (Args-F.Listed place distinct first others) = args.Listed 0 distinct first others

abbrev pub call_step : Call-F Args Call Not PredRest Primary Unary And Case Expr Pred Prod ProdMore Sum SumMore When → Call
call_step (Call-F.Cast place word inner type) = call.Cast 0 word inner (bare_type type)
call_step (Call-F.Function place path arguments) = call.Function 0 (bare_path path) arguments

abbrev pub not_step : Not-F Args Call Not PredRest Primary Unary And Case Expr Pred Prod ProdMore Sum SumMore When → Not
not_step (Not-F.Negation place inner) = nots.Negation 0 inner
not_step (Not-F.Pred pred) = nots.Pred pred

abbrev pub rest_step : PredRest-F Args Call Not PredRest Primary Unary And Case Expr Pred Prod ProdMore Sum SumMore When → PredRest
rest_step (PredRest-F.Compare place rel sum) = rest.Compare 0 rel sum
rest_step (PredRest-F.Between place negated low high) = rest.Between 0 negated low high
rest_step (PredRest-F.In place negated first others) = rest.In 0 negated first others
rest_step (PredRest-F.Like place negated sum) = rest.Like 0 negated sum
rest_step (PredRest-F.IsNull place negated) = rest.IsNull 0 negated

abbrev pub primary_step : Primary-F Args Call Not PredRest Primary Unary And Case Expr Pred Prod ProdMore Sum SumMore When → Primary
primary_step (Primary-F.Number place number) = primary.Number 0 number
primary_step (Primary-F.Text place text) = primary.Text 0 text
primary_step (Primary-F.Null place) = primary.Null 0
primary_step (Primary-F.Column path) = primary.Column (bare_path path)
primary_step (Primary-F.Call call) = primary.Call call
primary_step (Primary-F.Case case) = primary.Case case
primary_step (Primary-F.Nested place inner) = primary.Nested 0 inner

abbrev pub unary_step : Unary-F Args Call Not PredRest Primary Unary And Case Expr Pred Prod ProdMore Sum SumMore When → Unary
unary_step (Unary-F.Minus place inner) = unary.Minus 0 inner
unary_step (Unary-F.Primary primary) = unary.Primary primary

abbrev pub and_step : And-F Args Call Not PredRest Primary Unary And Case Expr Pred Prod ProdMore Sum SumMore When → And
and_step and = record { place = 0; first = and.first; more = and.more }

abbrev pub case_step : Case-F Args Call Not PredRest Primary Unary And Case Expr Pred Prod ProdMore Sum SumMore When → Case
case_step case = roll-Case (record { place = 0; subject = case.subject; first = case.first; more = case.more; otherwise = case.otherwise })

abbrev pub expr_step : Expr-F Args Call Not PredRest Primary Unary And Case Expr Pred Prod ProdMore Sum SumMore When → Expr
expr_step expr = roll-Expr (record { place = 0; first = expr.first; more = expr.more })

abbrev pub pred_step : Pred-F Args Call Not PredRest Primary Unary And Case Expr Pred Prod ProdMore Sum SumMore When → Pred
pred_step pred = roll-Pred (record { place = 0; sum = pred.sum; rest = pred.rest })

abbrev pub prod_step : Prod-F Args Call Not PredRest Primary Unary And Case Expr Pred Prod ProdMore Sum SumMore When → Prod
prod_step prod = roll-Prod (record { place = 0; first = prod.first; more = prod.more })

abbrev pub prod_more_step : ProdMore-F Args Call Not PredRest Primary Unary And Case Expr Pred Prod ProdMore Sum SumMore When → ProdMore
prod_more_step more = record { place = 0; sign = more.sign; unary = more.unary }

abbrev pub sum_step : Sum-F Args Call Not PredRest Primary Unary And Case Expr Pred Prod ProdMore Sum SumMore When → Sum
sum_step sum = roll-Sum (record { place = 0; first = sum.first; more = sum.more })

abbrev pub sum_more_step : SumMore-F Args Call Not PredRest Primary Unary And Case Expr Pred Prod ProdMore Sum SumMore When → SumMore
sum_more_step more = roll-SumMore (record { place = 0; sign = more.sign; prod = more.prod })

abbrev pub when_step : When-F Args Call Not PredRest Primary Unary And Case Expr Pred Prod ProdMore Sum SumMore When → When
when_step when = roll-When (record { place = 0; when = when.when; then = when.then })

-- ---- whole parts of an expression

abbrev pub bare_args : Args → Args
bare_args = fold-Args Args Call Not PredRest Primary Unary And Case Expr Pred Prod ProdMore Sum SumMore When args_step call_step not_step rest_step primary_step unary_step and_step case_step expr_step pred_step prod_step prod_more_step sum_step sum_more_step when_step

abbrev pub bare_call : Call → Call
bare_call = fold-Call Args Call Not PredRest Primary Unary And Case Expr Pred Prod ProdMore Sum SumMore When args_step call_step not_step rest_step primary_step unary_step and_step case_step expr_step pred_step prod_step prod_more_step sum_step sum_more_step when_step

abbrev pub bare_not : Not → Not
bare_not = fold-Not Args Call Not PredRest Primary Unary And Case Expr Pred Prod ProdMore Sum SumMore When args_step call_step not_step rest_step primary_step unary_step and_step case_step expr_step pred_step prod_step prod_more_step sum_step sum_more_step when_step

abbrev pub bare_rest : PredRest → PredRest
bare_rest = fold-PredRest Args Call Not PredRest Primary Unary And Case Expr Pred Prod ProdMore Sum SumMore When args_step call_step not_step rest_step primary_step unary_step and_step case_step expr_step pred_step prod_step prod_more_step sum_step sum_more_step when_step

abbrev pub bare_primary : Primary → Primary
bare_primary = fold-Primary Args Call Not PredRest Primary Unary And Case Expr Pred Prod ProdMore Sum SumMore When args_step call_step not_step rest_step primary_step unary_step and_step case_step expr_step pred_step prod_step prod_more_step sum_step sum_more_step when_step

abbrev pub bare_unary : Unary → Unary
bare_unary = fold-Unary Args Call Not PredRest Primary Unary And Case Expr Pred Prod ProdMore Sum SumMore When args_step call_step not_step rest_step primary_step unary_step and_step case_step expr_step pred_step prod_step prod_more_step sum_step sum_more_step when_step

abbrev pub bare_and : And → And
bare_and = fold-And Args Call Not PredRest Primary Unary And Case Expr Pred Prod ProdMore Sum SumMore When args_step call_step not_step rest_step primary_step unary_step and_step case_step expr_step pred_step prod_step prod_more_step sum_step sum_more_step when_step

abbrev pub bare_case : Case → Case
bare_case = fold-Case Args Call Not PredRest Primary Unary And Case Expr Pred Prod ProdMore Sum SumMore When args_step call_step not_step rest_step primary_step unary_step and_step case_step expr_step pred_step prod_step prod_more_step sum_step sum_more_step when_step

abbrev pub bare_expr : Expr → Expr
bare_expr = fold-Expr Args Call Not PredRest Primary Unary And Case Expr Pred Prod ProdMore Sum SumMore When args_step call_step not_step rest_step primary_step unary_step and_step case_step expr_step pred_step prod_step prod_more_step sum_step sum_more_step when_step

abbrev pub bare_pred : Pred → Pred
bare_pred = fold-Pred Args Call Not PredRest Primary Unary And Case Expr Pred Prod ProdMore Sum SumMore When args_step call_step not_step rest_step primary_step unary_step and_step case_step expr_step pred_step prod_step prod_more_step sum_step sum_more_step when_step

abbrev pub bare_prod : Prod → Prod
bare_prod = fold-Prod Args Call Not PredRest Primary Unary And Case Expr Pred Prod ProdMore Sum SumMore When args_step call_step not_step rest_step primary_step unary_step and_step case_step expr_step pred_step prod_step prod_more_step sum_step sum_more_step when_step

abbrev pub bare_prod_more : ProdMore → ProdMore
bare_prod_more = fold-ProdMore Args Call Not PredRest Primary Unary And Case Expr Pred Prod ProdMore Sum SumMore When args_step call_step not_step rest_step primary_step unary_step and_step case_step expr_step pred_step prod_step prod_more_step sum_step sum_more_step when_step

abbrev pub bare_sum : Sum → Sum
bare_sum = fold-Sum Args Call Not PredRest Primary Unary And Case Expr Pred Prod ProdMore Sum SumMore When args_step call_step not_step rest_step primary_step unary_step and_step case_step expr_step pred_step prod_step prod_more_step sum_step sum_more_step when_step

abbrev pub bare_sum_more : SumMore → SumMore
bare_sum_more = fold-SumMore Args Call Not PredRest Primary Unary And Case Expr Pred Prod ProdMore Sum SumMore When args_step call_step not_step rest_step primary_step unary_step and_step case_step expr_step pred_step prod_step prod_more_step sum_step sum_more_step when_step

abbrev pub bare_when : When → When
bare_when = fold-When Args Call Not PredRest Primary Unary And Case Expr Pred Prod ProdMore Sum SumMore When args_step call_step not_step rest_step primary_step unary_step and_step case_step expr_step pred_step prod_step prod_more_step sum_step sum_more_step when_step

-- ---- sources

unfoldable pub bare_alias : Alias → Alias
bare_alias alias = record { place = 0; written = alias.written; name = bare_name alias.name }

unfoldable pub bare_over : Over → Over
bare_over over = record { place = 0; first = bare_path over.first; more = map bare_path over.more }

unfoldable pub bare_stamp : Stamp → Stamp
bare_stamp stamp = record { place = 0; expr = bare_expr stamp.expr; over = option_map bare_over stamp.over }

unfoldable pub bare_source : Source → Source
bare_source source = record {
  place = 0;
  name = bare_name source.name;
  alias = option_map bare_alias source.alias;
  stamp = option_map bare_stamp source.stamp;
}

unfoldable pub bare_side : Side → Side
bare_side (side.Inner place) = side.Inner 0
bare_side (side.Left place outer) = side.Left 0 outer

unfoldable pub bare_join : Join → Join
bare_join join = record {
  place = 0;
  side = option_map bare_side join.side;
  join_place = 0;
  source = bare_source join.source;
  on = bare_expr join.on;
}

-- ---- selects

unfoldable pub bare_item : Item → Item
bare_item item = record { place = 0; expr = bare_expr item.expr; alias = option_map bare_alias item.alias }

unfoldable pub bare_items : SelectItems → SelectItems
bare_items (items.Star place) = items.Star 0
bare_items (items.Listed place first others) = items.Listed 0 (bare_item first) (map bare_item others)

unfoldable pub bare_partition : Partition → Partition
bare_partition partition = record { place = 0; first = bare_path partition.first; more = map bare_path partition.more }

unfoldable pub bare_group : Group → Group
bare_group group = record { place = 0; expr = bare_expr group.expr; partition = option_map bare_partition group.partition }

unfoldable pub bare_group_by : GroupBy → GroupBy
bare_group_by groups = record { place = 0; first = bare_group groups.first; more = map bare_group groups.more }

unfoldable pub bare_having : Having → Having
bare_having having = record { place = 0; condition = bare_expr having.condition }

unfoldable pub bare_tail : Tail → Tail
bare_tail tail = record {
  place = 0;
  source = bare_source tail.source;
  joins = map bare_join tail.joins;
  condition = option_map bare_expr tail.condition;
  groups = option_map bare_group_by tail.groups;
  having = option_map bare_having tail.having;
}

unfoldable pub bare_select : Select → Select
bare_select select = record { place = 0; items = bare_items select.items; tail = bare_tail select.tail }

-- ---- statements

unfoldable pub bare_union : Union → Union
bare_union union = record { place = 0; first = bare_select union.first; more = map bare_select union.more }

unfoldable pub bare_def : Def → Def
bare_def def = record { place = 0; name = bare_name def.name; union = bare_union def.union }

unfoldable pub bare_with : With → With
bare_with with = record { place = 0; first = bare_def with.first; more = map bare_def with.more }

unfoldable pub bare_stmt : Stmt → Stmt
bare_stmt stmt = record {
  place = 0;
  items = bare_items stmt.items;
  output = bare_name stmt.output;
  tail = bare_tail stmt.tail;
  more = map bare_select stmt.more;
}

unfoldable pub bare_more : MoreStmt → MoreStmt
bare_more next = record { place = 0; semicolon = next.semicolon; stmt = bare_stmt next.stmt }

unfoldable pub bare_script : Script → Script
bare_script script = record {
  place = 0;
  with = option_map bare_with script.with;
  first = bare_stmt script.first;
  more = map bare_more script.more;
  semicolon = script.semicolon;
}

-- two queries are equal but for the places in their trees
unfoldable pub IsSameButPlaces : Script → Script → Type 0
IsSameButPlaces a b = bare_script a ≡ bare_script b
