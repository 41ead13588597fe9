-- Units and whole numbers that stand alone.
use Rattle.std.specs.Prelude.{Bool, true, false, Option, Some, None, ℤ}
use Rattle.tick_time.specs.Unit.{unit_named}
use Rattle.tick_time.specs.declared.unit.Unit.{Unit}
use Rattle.query_tree.specs.declared.expr.Args.TheOpen.{Primary-F, Unary-F}
use Rattle.query_tree.specs.declared.expr.Expr.{Expr}
use Rattle.query_tree.specs.declared.expr.Primary.{Primary, out-Primary}
use Rattle.query_tree.specs.declared.expr.Unary.{Unary as Signed, out-Unary}
use Rattle.query_tree.specs.declared.name.Number.{Number}
use Rattle.query_tree.specs.declared.name.Number.TheVariants.{Whole, Decimal}
use Rattle.query_tree.specs.declared.name.Path.{Path}
use Rattle.query_literals.specs.declared.literals.WholeLiteral.{WholeLiteral}
use Rattle.query_literals.specs.Bare.{without, bare_unary, UnaryNode, primary_of, bare_primary, PrimaryNode}

-- ---- the words of units

abbrev pub unit_of_path : Path → Option Unit
unit_of_path path = without path.second (unit_named path.first.text)

abbrev pub unit_in_primary : PrimaryNode → Option Unit
unit_in_primary (Primary-F.Column path) = unit_of_path path
unit_in_primary _ = None

abbrev pub unit_of_primary : Primary → Option Unit
unit_of_primary p = unit_in_primary (out-Primary p)

abbrev pub unit_of_bare : Option Primary → Option Unit
unit_of_bare None = None
unit_of_bare (Some p) = unit_of_primary p

-- the unit whose word an expression is
abbrev pub unit_in : Expr → Option Unit
unit_in e = unit_of_bare (bare_primary e)

-- ---- whole numbers

abbrev pub whole_of_number : Number → Option ℤ
whole_of_number (Whole n) = Some n
whole_of_number (Decimal n) = None

abbrev pub whole_in_primary : PrimaryNode → Option ℤ
whole_in_primary (Primary-F.Number place n) = whole_of_number n
whole_in_primary _ = None

abbrev pub whole_of_primary : Primary → Option ℤ
whole_of_primary p = whole_in_primary (out-Primary p)

abbrev pub whole_of_bare : Option Primary → Option ℤ
whole_of_bare None = None
whole_of_bare (Some p) = whole_of_primary p

-- the whole number that an expression is
abbrev pub whole_in : Expr → Option ℤ
whole_in e = whole_of_bare (bare_primary e)

-- ---- whole numbers with at most one `-` before them

abbrev pub whole_of_unary : Signed → Option ℤ
whole_of_unary u = whole_of_bare (primary_of u)

abbrev pub literal_with : Bool → Option ℤ → Option WholeLiteral
literal_with minus None = None
literal_with minus (Some n) = Some (record { minus = minus; whole = n })

abbrev pub literal_of_node : UnaryNode → Option WholeLiteral
literal_of_node (Unary-F.Primary p) = literal_with false (whole_of_primary p)
literal_of_node (Unary-F.Minus place inner) = literal_with true (whole_of_unary inner)

abbrev pub literal_of : Signed → Option WholeLiteral
literal_of u = literal_of_node (out-Unary u)

abbrev pub literal_of_bare : Option Signed → Option WholeLiteral
literal_of_bare None = None
literal_of_bare (Some u) = literal_of u

-- the whole number that an expression is
abbrev pub literal_in : Expr → Option WholeLiteral
literal_in e = literal_of_bare (bare_unary e)
