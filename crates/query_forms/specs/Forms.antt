-- The forms of the signs that are written in an expression.
use Rattle.query_plan.specs.declared.expr.Rel.{Rel}
use Rattle.query_plan.specs.declared.expr.Rel.TheVariants as rel
use Rattle.query_plan.specs.declared.expr.Op.TheVariants as op
use Rattle.query_tree.specs.declared.expr.Rel as written
use Rattle.query_tree.specs.declared.expr.Rel.TheVariants as sign
use Rattle.query_tree.specs.declared.expr.SumSign.{SumSign}
use Rattle.query_tree.specs.declared.expr.SumSign.TheVariants.{Plus, Minus}
use Rattle.query_tree.specs.declared.expr.ProdSign.{ProdSign}
use Rattle.query_tree.specs.declared.expr.ProdSign.TheVariants.{Star, Slash, Percent}
use Rattle.query_forms.specs.declared.form.Form.{Form}
use Rattle.query_forms.specs.declared.form.Form.TheVariants as form

-- the plan's relation
abbrev pub rel_of : written.Rel → Rel
rel_of sign.Eq = rel.Eq
rel_of sign.Ne = rel.Ne
rel_of sign.Lt = rel.Lt
rel_of sign.Le = rel.Le
rel_of sign.Gt = rel.Gt
rel_of sign.Ge = rel.Ge

-- a further part of a sum
abbrev pub sum_form : SumSign → Form
sum_form Plus = form.Apply op.Add
sum_form Minus = form.Apply op.Sub

-- a further part of a product
abbrev pub prod_form : ProdSign → Form
prod_form Star = form.Apply op.Mul
prod_form Slash = form.Apply op.Div
prod_form Percent = form.Apply op.Rem
