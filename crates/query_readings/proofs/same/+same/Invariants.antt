use Rattle.std.proofs.Common.{◌≡◌, map, drop}
use Rattle.query_readings.specs.Same as spec
use Rattle.query_readings.proofs.same.+same.Given as goal

abbrev pub invariant-are_same_exprs-loop-expr : goal.invariant-are_same_exprs-loop-expr
invariant-are_same_exprs-loop-expr l =
    spec.all_hold (map spec.is_same_expr (drop l.expr-index l.left)) l.others ≡
    spec.are_same_exprs l.left l.fn.right

abbrev pub invariant-are_same_branches-loop-branch : goal.invariant-are_same_branches-loop-branch
invariant-are_same_branches-loop-branch l =
    spec.all_hold (map spec.is_same_branch (drop l.branch-index l.left)) l.others ≡
    spec.are_same_branches l.left l.fn.right
