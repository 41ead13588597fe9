use Rattle.std.proofs.Common.{◌≡◌, take}
use Rattle.query_meaning.proofs.row_specs.RowExprs.of.Given as goal

abbrev pub invariant-loop-expr : goal.invariant-loop-expr
invariant-loop-expr l = l.copied ≡ take l.expr-index l.exprs
