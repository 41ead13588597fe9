use Rattle.std.proofs.Common.{◌≡◌, map, take}
use Rattle.expr_eval.specs.Values.{value_of}
use Rattle.query_meaning.proofs.row_specs.RowExprsRowBuild.build.Given as goal

abbrev pub invariant-loop-expr : goal.invariant-loop-expr
invariant-loop-expr l = l.values ≡ map (value_of l.row.values l.row.time) (take l.expr-index l.exprs)
