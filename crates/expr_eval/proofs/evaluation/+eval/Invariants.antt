use Rattle.std.proofs.Common.{◌≡◌, map, take, drop}
use Rattle.expr_eval.specs.Values as spec
use Rattle.expr_eval.proofs.evaluation.+eval.Given as goal

abbrev pub invariant-eval_all-loop-expr : goal.invariant-eval_all-loop-expr
invariant-eval_all-loop-expr l = l.found ≡ map (spec.value_of l.values l.time) (take l.expr-index l.exprs)

abbrev pub invariant-first_true-loop-branch : goal.invariant-first_true-loop-branch
invariant-first_true-loop-branch l =
    let each = spec.branch_of l.values l.time in
    spec.first_true (map each (drop l.branch-index l.branches)) ≡ spec.first_true (map each l.branches)
