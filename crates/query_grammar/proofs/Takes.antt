-- What is repeated takes a token each time.
use Rattle.std.proofs.Common.{◌<◌, ℕ, suc, arith}
use Rattle.grammar_rules.proofs.Turns.{Takes, takes}
use Rattle.query_tree.specs.declared.name.Path.{Path}
use Rattle.query_tree.specs.declared.expr.Expr.{Expr}
use Rattle.query_tree.specs.declared.expr.And.{And}
use Rattle.query_tree.specs.declared.expr.Not.{Not}
use Rattle.query_tree.specs.declared.expr.SumMore.{SumMore}
use Rattle.query_tree.specs.declared.expr.ProdMore.{ProdMore}
use Rattle.query_tree.specs.declared.expr.When.{When}
use Rattle.query_tree.specs.declared.source.Join.{Join}
use Rattle.query_tree.specs.declared.select.Select.{Select}
use Rattle.query_tree.specs.declared.select.Item.{Item}
use Rattle.query_tree.specs.declared.select.Group.{Group}
use Rattle.query_tree.specs.declared.script.Def.{Def}
use Rattle.query_grammar.specs.ExpressionGrammar.{inside}
use Rattle.query_grammar.specs.StatementGrammar.{Limits, Closed}
use Rattle.query_grammar.specs.Reading.{read_next, read_path, readers, read_or_more, read_and_more, read_sum_more, read_prod_more, read_when, read_join, read_item, read_group, read_union_more, read_def, read_closed}
use Rattle.query_grammar.proofs.ExpressionLines.{InsideFits, inside_fits, Given, next_fits, path_fits, or_more_fits, and_more_fits, sum_more_fits, prod_more_fits, when_fits}
use Rattle.query_grammar.proofs.StatementLines.{Wider, join_fits, item_fits, group_fits, union_more_fits, def_fits, closed_fits}

known : (left : ℕ) → InsideFits (Unit {0}) (inside left) (inside (suc left)) (readers left)
known left = inside_fits (Unit {0}) left (suc left) (omega arith) (λ p. omega arith)

given : (left : ℕ) → 0 < left → Given (Unit {0}) (inside left) (inside (suc left)) (readers left)
given left p = (known left).given p

-- limits, and wider ones
abbrev more : Limits → Limits
more l = record { tokens = suc l.tokens; nesting = suc l.nesting }

wider : (l : Limits) → Wider (Unit {0}) l (more l)
wider l = record { tokens = omega arith; nesting = omega arith; more_tokens = λ p. omega arith; more_nesting = λ p. omega arith }

pub next_path_takes : Takes Path (read_next read_path)
next_path_takes = takes {P = Unit {0}} (next_fits path_fits) tt

pub next_expr_takes : (left : ℕ) → 0 < left → Takes Expr (read_next (readers left).expr)
next_expr_takes left p = takes (next_fits (given left p).expr) tt

pub or_more_takes : (left : ℕ) → Takes And (read_or_more (readers left))
or_more_takes left = takes (or_more_fits (inside left) (inside (suc left)) (readers left) (known left)) tt

pub and_more_takes : (left : ℕ) → Takes Not (read_and_more (readers left))
and_more_takes left = takes (and_more_fits (inside left) (inside (suc left)) (readers left) (known left)) tt

pub sum_more_takes : (left : ℕ) → Takes SumMore (read_sum_more (readers left))
sum_more_takes left = takes (sum_more_fits (inside left) (inside (suc left)) (readers left) (known left)) tt

pub prod_more_takes : (left : ℕ) → Takes ProdMore (read_prod_more (readers left))
prod_more_takes left = takes (prod_more_fits (inside left) (inside (suc left)) (readers left) (known left)) tt

pub when_takes : (left : ℕ) → 0 < left → Takes When (read_when (readers left))
when_takes left p = takes (when_fits (inside left) (inside (suc left)) (readers left) (given left p)) tt

pub join_takes : (l : Limits) → Takes Join (read_join l)
join_takes l = takes (join_fits l (more l) (wider l)) tt

pub next_item_takes : (l : Limits) → Takes Item (read_next (read_item l))
next_item_takes l = takes (next_fits (item_fits l (more l) (wider l))) tt

pub next_group_takes : (l : Limits) → Takes Group (read_next (read_group l))
next_group_takes l = takes (next_fits (group_fits l (more l) (wider l))) tt

pub union_more_takes : (l : Limits) → Takes Select (read_union_more l)
union_more_takes l = takes (union_more_fits l (more l) (wider l)) tt

pub next_def_takes : (l : Limits) → Takes Def (read_next (read_def l))
next_def_takes l = takes (next_fits (def_fits l (more l) (wider l))) tt

pub closed_takes : (l : Limits) → Takes Closed (read_closed l)
closed_takes l = takes (closed_fits l (more l) (wider l)) tt
