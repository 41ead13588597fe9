use Rattle.std.proofs.Common.{◌≡◌, take}
use Rattle.query_plan.proofs.+copies.Given as goal

abbrev pub invariant-expr_copies::copies_of_branches-loop-branch :
    goal.invariant-expr_copies::copies_of_branches-loop-branch
invariant-expr_copies::copies_of_branches-loop-branch l = l.copied ≡ take l.branch-index l.branches

abbrev pub invariant-expr_copies::copies_of_exprs-loop-expr :
    goal.invariant-expr_copies::copies_of_exprs-loop-expr
invariant-expr_copies::copies_of_exprs-loop-expr l = l.copied ≡ take l.expr-index l.exprs
