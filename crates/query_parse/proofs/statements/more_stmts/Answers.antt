-- Each turn reads a statement with the semicolon behind it.
use Rattle.std.proofs.Common.{rules, [], ◌∷◌, ◌++◌, refl, ap, ◌∙◌}
use Rattle.query_tree.specs.declared.script.MoreStmt.{MoreStmt}
use Rattle.query_grammar.specs.Queries.{limits_of}
use Rattle.query_grammar.proofs.Takes.{closed_takes}
use Rattle.query_parse.proofs.StmtLemmas.{one_more}
use Rattle.query_parse.proofs.statements.more_stmts.Goals as goal

pub closeds-smaller : goal.closeds-smaller
closeds-smaller c = (closed_takes (limits_of c.args.nesting)).shorter c.closeds.parser _ _ c.in_ok-stmt.ensures.ok

pub closeds-preserved : goal.closeds-preserved
closeds-preserved c =
    let pushed = c.in_ok-push.ensures.ok ∙ ap (λ (x : MoreStmt). c.closeds.more ++ x ∷ []) c.stmt_behind.ensures in
    one_more (limits_of c.args.nesting) c.args.before c.closeds.more _ c.closeds.last _ c.closeds.parser _ _ _ (search rules) c.in_ok-stmt.ensures.ok pushed refl c.closeds.invariant
