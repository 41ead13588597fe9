-- What a window's arguments are written as.
use Rattle.std.specs.Prelude.{ℕ, false, true, is_some, if◌then◌else◌, Option, Some, None, List, [], ◌∷◌, codes, ℤ}
use Rattle.tick_time.specs.Unit.{is_name}
use Rattle.tick_time.specs.declared.unit.Unit.{Unit}
use Rattle.query_tree.specs.declared.expr.And.{And}
use Rattle.query_tree.specs.declared.expr.Args.{Args, out-Args}
use Rattle.query_tree.specs.declared.expr.Args.TheOpen.{Args-F, Call-F, Primary-F}
use Rattle.query_tree.specs.declared.expr.Call.{Call, out-Call}
use Rattle.query_tree.specs.declared.expr.Expr.{Expr}
use Rattle.query_tree.specs.declared.expr.Not.{Not}
use Rattle.query_tree.specs.declared.expr.Pred.{Pred}
use Rattle.query_tree.specs.declared.expr.PredRest.{PredRest}
use Rattle.query_tree.specs.declared.expr.Primary.{Primary, out-Primary}
use Rattle.query_tree.specs.declared.expr.Prod.{Prod}
use Rattle.query_tree.specs.declared.expr.Sum.{Sum}
use Rattle.query_tree.specs.declared.expr.Unary.{Unary as Signed}
use Rattle.query_tree.specs.declared.expr.Case.{Case}
use Rattle.query_tree.specs.declared.expr.ProdMore.{ProdMore}
use Rattle.query_tree.specs.declared.expr.SumMore.{SumMore}
use Rattle.query_tree.specs.declared.expr.When.{When}
use Rattle.query_tree.specs.declared.name.Name.{Name}
use Rattle.query_tree.specs.declared.name.Path.{Path}
use Rattle.query_windows.specs.declared.arguments.Argument.{Argument}
use Rattle.query_windows.specs.declared.arguments.Argument.TheVariants as argument
use Rattle.query_literals.specs.Bare.{bare_primary, PrimaryNode}
use Rattle.query_literals.specs.Literals.{literal_in, unit_in, unit_of_path, whole_in, whole_of_number}

abbrev pub duration_or_hop : List ℕ → Unit → Option ℤ → Argument
duration_or_hop word unit None = argument.Other
duration_or_hop word unit (Some n) =
    if is_name (codes "Duration") word then argument.Duration unit n
    else (if is_name (codes "Hop") word then argument.Hop unit n else argument.Other)

abbrev pub length_with : ℕ → List ℕ → Option Unit → Expr → Argument
length_with place word None number = argument.Other
length_with place word (Some unit) number =
    if is_name (codes "Offset") word
    then (if is_some (literal_in number) then argument.Offset place else argument.Other)
    else duration_or_hop word unit (whole_in number)

-- Duration or Hop of a unit and a whole number, or Offset of a unit and a number with or without a `-`
unfoldable pub length_named : ℕ → List ℕ → Option Unit → Expr → Argument
length_named place word unit number = length_with place word unit number

abbrev pub ArgsNode : Type 0
ArgsNode =
    Args-F Args Call Not PredRest Primary Signed And Case Expr Pred Prod ProdMore Sum SumMore When

abbrev pub length_of_listed : ℕ → List ℕ → Expr → List Expr → Argument
length_of_listed place word first (number ∷ []) = length_named place word (unit_in first) number
length_of_listed place word first _ = argument.Other

abbrev pub length_in_args : ℕ → List ℕ → ArgsNode → Argument
length_in_args place word (Args-F.Star at) = argument.Other
length_in_args place word (Args-F.Listed at true first more) = argument.Other
length_in_args place word (Args-F.Listed at false first more) =
    length_of_listed place word first more

abbrev pub length_of_args : ℕ → List ℕ → Args → Argument
length_of_args place word args = length_in_args place word (out-Args args)

abbrev pub length_of_name : ℕ → Name → Option Name → Args → Argument
length_of_name place first None args = length_of_args place first.text args
length_of_name place first (Some second) args = argument.Other

abbrev pub length_of_path : ℕ → Path → Args → Argument
length_of_path place path args = length_of_name place path.first path.second args

abbrev pub CallNode : Type 0
CallNode =
    Call-F Args Call Not PredRest Primary Signed And Case Expr Pred Prod ProdMore Sum SumMore When

abbrev pub argument_in_call : CallNode → Argument
argument_in_call (Call-F.Cast place word inner to) = argument.Other
argument_in_call (Call-F.Function place path None) = argument.Other
argument_in_call (Call-F.Function place path (Some args)) = length_of_path place path args

abbrev pub argument_of_call : Call → Argument
argument_of_call c = argument_in_call (out-Call c)

abbrev pub count_or_other : Option ℤ → Argument
count_or_other None = argument.Other
count_or_other (Some n) = argument.Count n

abbrev pub unit_or_other : Option Unit → Argument
unit_or_other None = argument.Other
unit_or_other (Some unit) = argument.Unit unit

abbrev pub argument_in_primary : PrimaryNode → Argument
argument_in_primary (Primary-F.Number place n) = count_or_other (whole_of_number n)
argument_in_primary (Primary-F.Column path) = unit_or_other (unit_of_path path)
argument_in_primary (Primary-F.Call call) = argument_of_call call
argument_in_primary _ = argument.Other

abbrev pub argument_of_primary : Primary → Argument
argument_of_primary p = argument_in_primary (out-Primary p)

abbrev pub argument_of_bare : Option Primary → Argument
argument_of_bare None = argument.Other
argument_of_bare (Some p) = argument_of_primary p

-- what an argument of a window is written as
unfoldable pub argument_in : Expr → Argument
argument_in e = argument_of_bare (bare_primary e)

abbrev pub arguments_of : List Expr → List Argument
arguments_of [] = []
arguments_of (e ∷ es) = argument_in e ∷ arguments_of es

abbrev pub arguments_in_args : ArgsNode → Option (List Argument)
arguments_in_args (Args-F.Star at) = None
arguments_in_args (Args-F.Listed at true first more) = None
arguments_in_args (Args-F.Listed at false first more) =
    Some (argument_in first ∷ arguments_of more)

-- the arguments of a window; with `*` or DISTINCT there are none
abbrev pub arguments_in : Option Args → Option (List Argument)
arguments_in None = Some []
arguments_in (Some args) = arguments_in_args (out-Args args)
