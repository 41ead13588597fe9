-- What an expression of a query is: level by level down its tree, with what each part is in its place.
use Rattle.std.specs.Prelude.{map, ℕ, is_some, Option, Some, None, List, [], ◌∷◌, ◌++◌}
use Rattle.event_value.specs.declared.kind.Kind.TheVariants as kind
use Rattle.event_value.specs.declared.value.Value.TheVariants as value
use Rattle.query_plan.specs.declared.expr.Op.TheVariants as op
use Rattle.query_plan.specs.declared.expr.Expr.TheVariants as expr
use Rattle.query_tree.specs.declared.expr.Args.TheOpen.{Args-F, Call-F, Not-F, PredRest-F, Primary-F, Unary-F}
use Rattle.query_tree.specs.declared.expr.Args.{Args, fold-Args}
use Rattle.query_tree.specs.declared.expr.Call.{Call, fold-Call}
use Rattle.query_tree.specs.declared.expr.Not.{Not, fold-Not}
use Rattle.query_tree.specs.declared.expr.PredRest.{PredRest, fold-PredRest}
use Rattle.query_tree.specs.declared.expr.Primary.{Primary, fold-Primary}
use Rattle.query_tree.specs.declared.expr.Unary.{Unary, fold-Unary}
use Rattle.query_tree.specs.declared.expr.And.{And, fold-And}
use Rattle.query_tree.specs.declared.expr.Case.{Case, fold-Case, out-Case}
use Rattle.query_tree.specs.declared.expr.Expr.{Expr, fold-Expr}
use Rattle.query_tree.specs.declared.expr.Pred.{Pred, fold-Pred}
use Rattle.query_tree.specs.declared.expr.Prod.{Prod, fold-Prod}
use Rattle.query_tree.specs.declared.expr.ProdMore.{ProdMore, fold-ProdMore}
use Rattle.query_tree.specs.declared.expr.Sum.{Sum, fold-Sum}
use Rattle.query_tree.specs.declared.expr.SumMore.{SumMore, fold-SumMore}
use Rattle.query_tree.specs.declared.expr.When.{When, fold-When}
use Rattle.query_senses.specs.declared.calls.Given.{Given}
use Rattle.query_senses.specs.declared.calls.Quantifier.TheVariants.{Star}
use Rattle.query_forms.specs.declared.form.Form.{Form}
use Rattle.query_forms.specs.declared.form.Form.TheVariants as form
use Rattle.query_readings.specs.declared.reading.Face.TheVariants as face
use Rattle.query_readings.specs.declared.reading.Part.{Part}
use Rattle.query_readings.specs.declared.reading.Reading.{Reading}
use Rattle.query_readings.specs.declared.reading.PredicateRest.{PredicateRest}
use Rattle.query_readings.specs.declared.scope.Scope.{Scope}
use Rattle.query_forms.specs.declared.sense.Sense.TheVariants.{Value}
use Rattle.query_forms.specs.Forms.{rel_of, sum_form, prod_form}
use Rattle.query_readings.specs.Functions.{like_form}
use Rattle.query_senses.specs.Levels.{ArgsLevel, CallLevel, NotLevel, PredRestLevel, PrimaryLevel, UnaryLevel, AndLevel, CaseLevel, ExprLevel, PredLevel, ProdLevel, ProdMoreLevel, SumLevel, SumMoreLevel, WhenLevel}
use Rattle.query_senses.specs.Parts.{number_sense, nested, nothing_given, quantifier_of, cast_reading, pred_reading}
use Rattle.query_senses.specs.Calls.{called}
use Rattle.query_readings.specs.Reading.{as_pattern, chain, column_reading, formed, formed_of_one, operations, plain}
use Rattle.query_forms.specs.Senses.{valued}

abbrev pub list_of : Option Reading → List Reading
list_of None = []
list_of (Some r) = r ∷ []

-- the parts behind WHEN and THEN in turn
abbrev pub joined : List (List Reading) → List Reading
joined [] = []
joined (ps ∷ more) = ps ++ joined more

abbrev pub rest : Form → List Reading → PredicateRest
rest f parts = record { form = f; parts = parts }

abbrev pub part : Form → Reading → Part
part f r = record { form = f; reading = r }

abbrev pub args_or_nothing : Option Given → Given
args_or_nothing None = nothing_given
args_or_nothing (Some given) = given

module _ (scope : Scope) where
  -- `*`, or arguments
  abbrev pub args_step : ArgsLevel → Given
  args_step (Args-F.Star place) = record { quantifier = Star; parts = [] }
  args_step (Args-F.Listed place distinct first more) =
      record { quantifier = quantifier_of distinct; parts = first ∷ more }

  abbrev pub call_step : CallLevel → Reading
  call_step (Call-F.Cast place word inner to) = cast_reading scope place inner to
  call_step (Call-F.Function place path args) = called scope place path (args_or_nothing args)

  abbrev pub not_step : NotLevel → Reading
  not_step (Not-F.Negation place inner) = formed_of_one scope place form.Not inner
  not_step (Not-F.Pred pred) = pred

  -- what stands behind a sum
  abbrev pub rest_step : PredRestLevel → PredicateRest
  rest_step (PredRest-F.Compare place rel right) = rest (form.Compare (rel_of rel)) (right ∷ [])
  rest_step (PredRest-F.Between place negated low high) = rest (form.Between negated) (low ∷ high ∷ [])
  rest_step (PredRest-F.In place negated first more) = rest (form.In negated) (first ∷ more)
  rest_step (PredRest-F.Like place negated pattern) =
      rest (like_form negated pattern.face) (as_pattern pattern ∷ [])
  rest_step (PredRest-F.IsNull place negated) = rest (form.IsNull negated) []

  abbrev pub primary_step : PrimaryLevel → Reading
  primary_step (Primary-F.Number place n) = plain scope place (number_sense n) face.Other
  primary_step (Primary-F.Text place t) =
      plain scope place (Value (valued (expr.Lit (value.Text t)) (Some kind.Text))) face.Literal
  primary_step (Primary-F.Null place) =
      plain scope place (Value (valued (expr.Lit value.Null) None)) face.Other
  primary_step (Primary-F.Column path) = column_reading scope path
  primary_step (Primary-F.Call call) = call
  primary_step (Primary-F.Case case) = case
  primary_step (Primary-F.Nested place inner) = nested place inner

  abbrev pub unary_step : UnaryLevel → Reading
  unary_step (Unary-F.Minus place inner) = formed_of_one scope place (form.Apply op.Neg) inner
  unary_step (Unary-F.Primary primary) = primary

  abbrev pub and_step : AndLevel → Reading
  and_step node = chain scope node.place form.And node.first node.more

  -- the parts of a CASE in the order of the text
  abbrev pub case_parts : CaseLevel → List Reading
  case_parts node =
      list_of node.subject ++ (node.first ++ joined node.more) ++ list_of node.otherwise

  abbrev pub case_step : CaseLevel → Reading
  case_step node = formed scope node.place (form.Case (is_some node.subject)) (case_parts node)

  abbrev pub expr_step : ExprLevel → Reading
  expr_step node = chain scope node.place form.Or node.first node.more

  abbrev pub pred_with : Option PredicateRest → ℕ → Reading → Reading
  pred_with None place sum = sum
  pred_with (Some r) place sum = pred_reading scope place sum r

  abbrev pub pred_step : PredLevel → Reading
  pred_step node = pred_with node.rest node.place node.sum

  abbrev pub prod_step : ProdLevel → Reading
  prod_step node = operations scope node.place node.first node.more

  abbrev pub prod_more_step : ProdMoreLevel → Part
  prod_more_step node = part (prod_form node.sign) node.unary

  abbrev pub sum_step : SumLevel → Reading
  sum_step node = operations scope node.place node.first node.more

  abbrev pub sum_more_step : SumMoreLevel → Part
  sum_more_step node = part (sum_form node.sign) node.prod

  abbrev pub when_step : WhenLevel → List Reading
  when_step node = node.when ∷ node.then ∷ []

  abbrev pub given_of : Args → Given
  given_of =
      fold-Args Given Reading Reading PredicateRest Reading Reading Reading Reading Reading Reading Reading Part Reading Part (List Reading)
      args_step call_step not_step rest_step primary_step unary_step and_step case_step expr_step pred_step prod_step prod_more_step sum_step sum_more_step when_step

  abbrev pub reading_of_call : Call → Reading
  reading_of_call =
      fold-Call Given Reading Reading PredicateRest Reading Reading Reading Reading Reading Reading Reading Part Reading Part (List Reading)
      args_step call_step not_step rest_step primary_step unary_step and_step case_step expr_step pred_step prod_step prod_more_step sum_step sum_more_step when_step

  abbrev pub reading_of_not : Not → Reading
  reading_of_not =
      fold-Not Given Reading Reading PredicateRest Reading Reading Reading Reading Reading Reading Reading Part Reading Part (List Reading)
      args_step call_step not_step rest_step primary_step unary_step and_step case_step expr_step pred_step prod_step prod_more_step sum_step sum_more_step when_step

  abbrev pub rest_of : PredRest → PredicateRest
  rest_of =
      fold-PredRest Given Reading Reading PredicateRest Reading Reading Reading Reading Reading Reading Reading Part Reading Part (List Reading)
      args_step call_step not_step rest_step primary_step unary_step and_step case_step expr_step pred_step prod_step prod_more_step sum_step sum_more_step when_step

  abbrev pub reading_of_primary : Primary → Reading
  reading_of_primary =
      fold-Primary Given Reading Reading PredicateRest Reading Reading Reading Reading Reading Reading Reading Part Reading Part (List Reading)
      args_step call_step not_step rest_step primary_step unary_step and_step case_step expr_step pred_step prod_step prod_more_step sum_step sum_more_step when_step

  abbrev pub reading_of_unary : Unary → Reading
  reading_of_unary =
      fold-Unary Given Reading Reading PredicateRest Reading Reading Reading Reading Reading Reading Reading Part Reading Part (List Reading)
      args_step call_step not_step rest_step primary_step unary_step and_step case_step expr_step pred_step prod_step prod_more_step sum_step sum_more_step when_step

  abbrev pub reading_of_and : And → Reading
  reading_of_and =
      fold-And Given Reading Reading PredicateRest Reading Reading Reading Reading Reading Reading Reading Part Reading Part (List Reading)
      args_step call_step not_step rest_step primary_step unary_step and_step case_step expr_step pred_step prod_step prod_more_step sum_step sum_more_step when_step

  abbrev pub reading_of_case : Case → Reading
  reading_of_case =
      fold-Case Given Reading Reading PredicateRest Reading Reading Reading Reading Reading Reading Reading Part Reading Part (List Reading)
      args_step call_step not_step rest_step primary_step unary_step and_step case_step expr_step pred_step prod_step prod_more_step sum_step sum_more_step when_step

  -- what an expression is in a scope
  abbrev pub reading : Expr → Reading
  reading =
      fold-Expr Given Reading Reading PredicateRest Reading Reading Reading Reading Reading Reading Reading Part Reading Part (List Reading)
      args_step call_step not_step rest_step primary_step unary_step and_step case_step expr_step pred_step prod_step prod_more_step sum_step sum_more_step when_step

  abbrev pub reading_of_pred : Pred → Reading
  reading_of_pred =
      fold-Pred Given Reading Reading PredicateRest Reading Reading Reading Reading Reading Reading Reading Part Reading Part (List Reading)
      args_step call_step not_step rest_step primary_step unary_step and_step case_step expr_step pred_step prod_step prod_more_step sum_step sum_more_step when_step

  abbrev pub reading_of_prod : Prod → Reading
  reading_of_prod =
      fold-Prod Given Reading Reading PredicateRest Reading Reading Reading Reading Reading Reading Reading Part Reading Part (List Reading)
      args_step call_step not_step rest_step primary_step unary_step and_step case_step expr_step pred_step prod_step prod_more_step sum_step sum_more_step when_step

  abbrev pub part_of_prod : ProdMore → Part
  part_of_prod =
      fold-ProdMore Given Reading Reading PredicateRest Reading Reading Reading Reading Reading Reading Reading Part Reading Part (List Reading)
      args_step call_step not_step rest_step primary_step unary_step and_step case_step expr_step pred_step prod_step prod_more_step sum_step sum_more_step when_step

  abbrev pub reading_of_sum : Sum → Reading
  reading_of_sum =
      fold-Sum Given Reading Reading PredicateRest Reading Reading Reading Reading Reading Reading Reading Part Reading Part (List Reading)
      args_step call_step not_step rest_step primary_step unary_step and_step case_step expr_step pred_step prod_step prod_more_step sum_step sum_more_step when_step

  abbrev pub part_of_sum : SumMore → Part
  part_of_sum =
      fold-SumMore Given Reading Reading PredicateRest Reading Reading Reading Reading Reading Reading Reading Part Reading Part (List Reading)
      args_step call_step not_step rest_step primary_step unary_step and_step case_step expr_step pred_step prod_step prod_more_step sum_step sum_more_step when_step

  abbrev pub parts_of_when : When → List Reading
  parts_of_when =
      fold-When Given Reading Reading PredicateRest Reading Reading Reading Reading Reading Reading Reading Part Reading Part (List Reading)
      args_step call_step not_step rest_step primary_step unary_step and_step case_step expr_step pred_step prod_step prod_more_step sum_step sum_more_step when_step

  -- for private clauses: the parts of a CASE
  abbrev pub reading_in : Option Expr → List Reading
  reading_in None = []
  reading_in (Some e) = reading e ∷ []

  abbrev pub subject_of : Case → List Reading
  subject_of case = reading_in (out-Case case).subject

  abbrev pub otherwise_of : Case → List Reading
  otherwise_of case = reading_in (out-Case case).otherwise

  abbrev pub whens_of : Case → List Reading
  whens_of case =
      parts_of_when (out-Case case).first ++ joined (map parts_of_when (out-Case case).more)
