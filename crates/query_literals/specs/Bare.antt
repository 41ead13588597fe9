-- Expressions in which no sign of an operation stands.
use Rattle.std.specs.Prelude.{Option, Some, None, List, [], ◌∷◌}
use Rattle.query_tree.specs.declared.expr.And.{And, out-And}
use Rattle.query_tree.specs.declared.expr.Args.{Args}
use Rattle.query_tree.specs.declared.expr.Args.TheOpen.{Not-F, Primary-F, Unary-F}
use Rattle.query_tree.specs.declared.expr.Call.{Call}
use Rattle.query_tree.specs.declared.expr.Expr.{Expr, out-Expr}
use Rattle.query_tree.specs.declared.expr.Not.{Not, out-Not}
use Rattle.query_tree.specs.declared.expr.Pred.{Pred, out-Pred}
use Rattle.query_tree.specs.declared.expr.PredRest.{PredRest}
use Rattle.query_tree.specs.declared.expr.Primary.{Primary}
use Rattle.query_tree.specs.declared.expr.Prod.{Prod, out-Prod}
use Rattle.query_tree.specs.declared.expr.Sum.{Sum, out-Sum}
use Rattle.query_tree.specs.declared.expr.Unary.{Unary as Signed, out-Unary}
use Rattle.query_tree.specs.declared.expr.Case.{Case}
use Rattle.query_tree.specs.declared.expr.ProdMore.{ProdMore}
use Rattle.query_tree.specs.declared.expr.SumMore.{SumMore}
use Rattle.query_tree.specs.declared.expr.When.{When}

abbrev pub alone : {A B : Type 0} → List A → Option B → Option B
alone [] b = b
alone (a ∷ given) b = None

abbrev pub without : {A B : Type 0} → Option A → Option B → Option B
without None b = b
without (Some a) b = None

abbrev pub unary_of_prod : Prod → Option Signed
unary_of_prod p = alone (out-Prod p).more (Some (out-Prod p).first)

abbrev pub unary_of_sum : Sum → Option Signed
unary_of_sum s = alone (out-Sum s).more (unary_of_prod (out-Sum s).first)

abbrev pub unary_of_pred : Pred → Option Signed
unary_of_pred p = without (out-Pred p).rest (unary_of_sum (out-Pred p).sum)

abbrev pub NotNode : Type 0
NotNode = Not-F Args Call Not PredRest Primary Signed And Case Expr Pred Prod ProdMore Sum SumMore When

abbrev pub unary_in_not : NotNode → Option Signed
unary_in_not (Not-F.Negation place inner) = None
unary_in_not (Not-F.Pred p) = unary_of_pred p

abbrev pub unary_of_not : Not → Option Signed
unary_of_not n = unary_in_not (out-Not n)

abbrev pub unary_of_and : And → Option Signed
unary_of_and a = alone (out-And a).more (unary_of_not (out-And a).first)

-- the part that an expression is, perhaps with a `-` before it
unfoldable pub bare_unary : Expr → Option Signed
bare_unary e = alone (out-Expr e).more (unary_of_and (out-Expr e).first)

abbrev pub UnaryNode : Type 0
UnaryNode =
    Unary-F Args Call Not PredRest Primary Signed And Case Expr Pred Prod ProdMore Sum SumMore When

abbrev pub primary_in : UnaryNode → Option Primary
primary_in (Unary-F.Minus place inner) = None
primary_in (Unary-F.Primary p) = Some p

abbrev pub primary_of : Signed → Option Primary
primary_of u = primary_in (out-Unary u)

abbrev pub primary_of_bare : Option Signed → Option Primary
primary_of_bare None = None
primary_of_bare (Some u) = primary_of u

-- the part that an expression is
unfoldable pub bare_primary : Expr → Option Primary
bare_primary e = primary_of_bare (bare_unary e)

abbrev pub PrimaryNode : Type 0
PrimaryNode =
    Primary-F Args Call Not PredRest Primary Signed And Case Expr Pred Prod ProdMore Sum SumMore When
