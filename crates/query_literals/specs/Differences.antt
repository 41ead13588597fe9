-- A part of a join's condition that is the difference in time of its two sources, within two numbers.
use Rattle.std.specs.Prelude.{ℕ, Bool, true, false, not, ◌&&◌, if◌then◌else◌, Option, Some, None, List, [], ◌∷◌, codes}
use Rattle.std.specs.Str.{bytes_eq}
use Rattle.tick_time.specs.Unit.{is_name}
use Rattle.tick_time.specs.declared.unit.Unit.{Unit}
use Rattle.query_tree.specs.declared.expr.And.{And}
use Rattle.query_tree.specs.declared.expr.Args.{Args, out-Args}
use Rattle.query_tree.specs.declared.expr.Args.TheOpen.{Args-F, Call-F, Not-F, PredRest-F, Primary-F}
use Rattle.query_tree.specs.declared.expr.Call.{Call, out-Call}
use Rattle.query_tree.specs.declared.expr.Case.{Case}
use Rattle.query_tree.specs.declared.expr.Expr.{Expr}
use Rattle.query_tree.specs.declared.expr.Not.{Not, out-Not}
use Rattle.query_tree.specs.declared.expr.Pred.{Pred, out-Pred}
use Rattle.query_tree.specs.declared.expr.PredRest.{PredRest, out-PredRest}
use Rattle.query_tree.specs.declared.expr.Primary.{Primary, out-Primary}
use Rattle.query_tree.specs.declared.expr.Prod.{Prod}
use Rattle.query_tree.specs.declared.expr.ProdMore.{ProdMore}
use Rattle.query_tree.specs.declared.expr.Sum.{Sum}
use Rattle.query_tree.specs.declared.expr.SumMore.{SumMore}
use Rattle.query_tree.specs.declared.expr.Unary.{Unary as Signed}
use Rattle.query_tree.specs.declared.expr.When.{When}
use Rattle.query_tree.specs.declared.name.Name.{Name}
use Rattle.query_tree.specs.declared.name.Path.{Path}
use Rattle.query_literals.specs.declared.differences.Difference.{Difference}
use Rattle.query_literals.specs.declared.differences.Times.{Times}
use Rattle.query_literals.specs.declared.literals.WholeLiteral.{WholeLiteral}
use Rattle.query_literals.specs.Bare.{bare_primary, NotNode, primary_of_bare, PrimaryNode, unary_of_sum, without}
use Rattle.query_literals.specs.Literals.{literal_of_bare, unit_in}

-- ---- the name that an expression is

abbrev pub name_of_path : Path → Option Name
name_of_path path = without path.second (Some path.first)

abbrev pub name_in_primary : PrimaryNode → Option Name
name_in_primary (Primary-F.Column path) = name_of_path path
name_in_primary _ = None

abbrev pub name_of_primary : Primary → Option Name
name_of_primary p = name_in_primary (out-Primary p)

abbrev pub name_of_bare : Option Primary → Option Name
name_of_bare None = None
name_of_bare (Some p) = name_of_primary p

abbrev pub name_in : Expr → Option Name
name_in e = name_of_bare (bare_primary e)

-- ---- DATEDIFF of a unit and the names of both sources, in either order

abbrev pub times : Unit → Bool → Times
times unit exchanged = record { unit = unit; exchanged = exchanged }

abbrev pub times_of_names : List ℕ → List ℕ → Unit → Name → Name → Option Times
times_of_names left right unit a b =
    if bytes_eq a.text left && bytes_eq b.text right then Some (times unit false)
    else (if bytes_eq a.text right && bytes_eq b.text left then Some (times unit true) else None)

abbrev pub times_with : List ℕ → List ℕ → Option Unit → Option Name → Option Name → Option Times
times_with left right (Some unit) (Some a) (Some b) = times_of_names left right unit a b
times_with left right _ _ _ = None

abbrev pub times_of_listed : List ℕ → List ℕ → Expr → List Expr → Option Times
times_of_listed left right first (a ∷ b ∷ []) =
    times_with left right (unit_in first) (name_in a) (name_in b)
times_of_listed left right first _ = None

abbrev pub ArgsNode : Type 0
ArgsNode =
    Args-F Args Call Not PredRest Primary Signed And Case Expr Pred Prod ProdMore Sum SumMore When

abbrev pub times_in_args : List ℕ → List ℕ → ArgsNode → Option Times
times_in_args left right (Args-F.Star at) = None
times_in_args left right (Args-F.Listed at true first more) = None
times_in_args left right (Args-F.Listed at false first more) =
    times_of_listed left right first more

abbrev pub times_of_args : List ℕ → List ℕ → Args → Option Times
times_of_args left right args = times_in_args left right (out-Args args)

abbrev pub times_named : List ℕ → List ℕ → List ℕ → Args → Option Times
times_named left right word args =
    if is_name (codes "DATEDIFF") word then times_of_args left right args else None

abbrev pub times_of_path : List ℕ → List ℕ → Path → Args → Option Times
times_of_path left right path args =
    without path.second (times_named left right path.first.text args)

abbrev pub CallNode : Type 0
CallNode =
    Call-F Args Call Not PredRest Primary Signed And Case Expr Pred Prod ProdMore Sum SumMore When

abbrev pub times_in_call : List ℕ → List ℕ → CallNode → Option Times
times_in_call left right (Call-F.Cast place word inner to) = None
times_in_call left right (Call-F.Function place path None) = None
times_in_call left right (Call-F.Function place path (Some args)) =
    times_of_path left right path args

abbrev pub times_of_call : List ℕ → List ℕ → Call → Option Times
times_of_call left right c = times_in_call left right (out-Call c)

abbrev pub times_in_primary : List ℕ → List ℕ → PrimaryNode → Option Times
times_in_primary left right (Primary-F.Call c) = times_of_call left right c
times_in_primary left right _ = None

abbrev pub times_of_primary : List ℕ → List ℕ → Primary → Option Times
times_of_primary left right p = times_in_primary left right (out-Primary p)

abbrev pub times_of_bare : List ℕ → List ℕ → Option Primary → Option Times
times_of_bare left right None = None
times_of_bare left right (Some p) = times_of_primary left right p

abbrev pub primary_of_sum : Sum → Option Primary
primary_of_sum s = primary_of_bare (unary_of_sum s)

unfoldable pub times_of_sum : List ℕ → List ℕ → Sum → Option Times
times_of_sum left right s = times_of_bare left right (primary_of_sum s)

-- ---- the difference, within two numbers

abbrev pub turned : WholeLiteral → WholeLiteral
turned n = record n { minus = not n.minus }

abbrev pub difference : Unit → WholeLiteral → WholeLiteral → Difference
difference unit low high = record { unit = unit; low = low; high = high }

-- with the names exchanged it lies within the opposite numbers
abbrev pub difference_of : Times → WholeLiteral → WholeLiteral → Difference
difference_of t low high =
    if t.exchanged then difference t.unit (turned high) (turned low)
    else difference t.unit low high

abbrev pub difference_with : Option Times → Option WholeLiteral → Option WholeLiteral → Option Difference
difference_with (Some t) (Some low) (Some high) = Some (difference_of t low high)
difference_with _ _ _ = None

-- a number is written out, with at most one `-` before it
unfoldable pub literal_of_sum : Sum → Option WholeLiteral
literal_of_sum s = literal_of_bare (unary_of_sum s)

abbrev pub RestNode : Type 0
RestNode =
    PredRest-F Args Call Not PredRest Primary Signed And Case Expr Pred Prod ProdMore Sum SumMore When

abbrev pub difference_in_rest : List ℕ → List ℕ → Sum → RestNode → Option Difference
difference_in_rest left right sum (PredRest-F.Between place false low high) =
    difference_with (times_of_sum left right sum) (literal_of_sum low) (literal_of_sum high)
difference_in_rest left right sum _ = None

abbrev pub difference_by_rest : List ℕ → List ℕ → Sum → Option PredRest → Option Difference
difference_by_rest left right sum None = None
difference_by_rest left right sum (Some rest) =
    difference_in_rest left right sum (out-PredRest rest)

abbrev pub difference_in_pred : List ℕ → List ℕ → Pred → Option Difference
difference_in_pred left right p = difference_by_rest left right (out-Pred p).sum (out-Pred p).rest

abbrev pub difference_in_not : List ℕ → List ℕ → NotNode → Option Difference
difference_in_not left right (Not-F.Negation place inner) = None
difference_in_not left right (Not-F.Pred p) = difference_in_pred left right p

-- a part of a condition, as the difference in time of the sources of these names
unfoldable pub difference_in : List ℕ → List ℕ → Not → Option Difference
difference_in left right part = difference_in_not left right (out-Not part)
