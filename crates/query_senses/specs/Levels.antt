-- The levels of an expression's tree with what the parts below them are, in the order in which the check takes them.
use Rattle.std.specs.Prelude.{List}
use Rattle.query_tree.specs.declared.expr.Args.TheOpen.{Args-F, Call-F, Not-F, PredRest-F, Primary-F, Unary-F, And-F, Case-F, Expr-F, Pred-F, Prod-F, ProdMore-F, Sum-F, SumMore-F, When-F}
use Rattle.query_senses.specs.declared.calls.Given.{Given}
use Rattle.query_readings.specs.declared.reading.Part.{Part}
use Rattle.query_readings.specs.declared.reading.Reading.{Reading}
use Rattle.query_readings.specs.declared.reading.PredicateRest.{PredicateRest}

abbrev pub ArgsLevel : Type 0
ArgsLevel =
    Args-F Given Reading Reading PredicateRest Reading Reading Reading Reading Reading Reading Reading Part Reading Part (List Reading)

abbrev pub CallLevel : Type 0
CallLevel =
    Call-F Given Reading Reading PredicateRest Reading Reading Reading Reading Reading Reading Reading Part Reading Part (List Reading)

abbrev pub NotLevel : Type 0
NotLevel =
    Not-F Given Reading Reading PredicateRest Reading Reading Reading Reading Reading Reading Reading Part Reading Part (List Reading)

abbrev pub PredRestLevel : Type 0
PredRestLevel =
    PredRest-F Given Reading Reading PredicateRest Reading Reading Reading Reading Reading Reading Reading Part Reading Part (List Reading)

abbrev pub PrimaryLevel : Type 0
PrimaryLevel =
    Primary-F Given Reading Reading PredicateRest Reading Reading Reading Reading Reading Reading Reading Part Reading Part (List Reading)

abbrev pub UnaryLevel : Type 0
UnaryLevel =
    Unary-F Given Reading Reading PredicateRest Reading Reading Reading Reading Reading Reading Reading Part Reading Part (List Reading)

abbrev pub AndLevel : Type 0
AndLevel =
    And-F Given Reading Reading PredicateRest Reading Reading Reading Reading Reading Reading Reading Part Reading Part (List Reading)

abbrev pub CaseLevel : Type 0
CaseLevel =
    Case-F Given Reading Reading PredicateRest Reading Reading Reading Reading Reading Reading Reading Part Reading Part (List Reading)

abbrev pub ExprLevel : Type 0
ExprLevel =
    Expr-F Given Reading Reading PredicateRest Reading Reading Reading Reading Reading Reading Reading Part Reading Part (List Reading)

abbrev pub PredLevel : Type 0
PredLevel =
    Pred-F Given Reading Reading PredicateRest Reading Reading Reading Reading Reading Reading Reading Part Reading Part (List Reading)

abbrev pub ProdLevel : Type 0
ProdLevel =
    Prod-F Given Reading Reading PredicateRest Reading Reading Reading Reading Reading Reading Reading Part Reading Part (List Reading)

abbrev pub ProdMoreLevel : Type 0
ProdMoreLevel =
    ProdMore-F Given Reading Reading PredicateRest Reading Reading Reading Reading Reading Reading Reading Part Reading Part (List Reading)

abbrev pub SumLevel : Type 0
SumLevel =
    Sum-F Given Reading Reading PredicateRest Reading Reading Reading Reading Reading Reading Reading Part Reading Part (List Reading)

abbrev pub SumMoreLevel : Type 0
SumMoreLevel =
    SumMore-F Given Reading Reading PredicateRest Reading Reading Reading Reading Reading Reading Reading Part Reading Part (List Reading)

abbrev pub WhenLevel : Type 0
WhenLevel =
    When-F Given Reading Reading PredicateRest Reading Reading Reading Reading Reading Reading Reading Part Reading Part (List Reading)
