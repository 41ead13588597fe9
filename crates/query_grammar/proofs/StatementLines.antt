-- What is known of each line of the grammar of statements and of its reader, within limits and within wider ones.
use Rattle.std.proofs.Common.{◌<◌, ◌≤◌, ℕ, List, [], ◌++◌, false, refl, arith}
use Rattle.grammar_rules.specs.Lexemes.{Lexeme}
use Rattle.grammar_rules.specs.Rules.{both}
use Rattle.grammar_rules.specs.Readers.{read_both}
use Rattle.grammar_rules.specs.Laws.{Fits}
use Rattle.grammar_rules.proofs.Fits.{fits_both, fits_tree, fits_choice, fits_perhaps, fits_repeated, fits_opened, fits_within}
use Rattle.grammar_rules.proofs.PlacedLaws.{fits_placed}
use Rattle.grammar_rules.proofs.SetLaws.{fits_sets}
use Rattle.query_tokens.specs.declared.symbol.Symbol.TheVariants as symbol
use Rattle.query_tree.specs.declared.name.Path.{Path}
use Rattle.query_tree.specs.declared.expr.Expr.{Expr}
use Rattle.query_tree.specs.declared.source.Source.{Source}
use Rattle.query_tree.specs.declared.source.Alias.{Alias}
use Rattle.query_tree.specs.declared.source.Stamp.{Stamp}
use Rattle.query_tree.specs.declared.source.Over.{Over}
use Rattle.query_tree.specs.declared.source.Join.{Join}
use Rattle.query_tree.specs.declared.source.Side.{Side}
use Rattle.query_tree.specs.declared.select.Select.{Select}
use Rattle.query_tree.specs.declared.select.SelectItems.{SelectItems}
use Rattle.query_tree.specs.declared.select.Item.{Item}
use Rattle.query_tree.specs.declared.select.Tail.{Tail}
use Rattle.query_tree.specs.declared.select.GroupBy.{GroupBy}
use Rattle.query_tree.specs.declared.select.Group.{Group}
use Rattle.query_tree.specs.declared.select.Partition.{Partition}
use Rattle.query_tree.specs.declared.select.Having.{Having}
use Rattle.query_tree.specs.declared.script.Script.{Script}
use Rattle.query_tree.specs.declared.script.With.{With}
use Rattle.query_tree.specs.declared.script.Def.{Def}
use Rattle.query_tree.specs.declared.script.Union.{Union}
use Rattle.query_tree.specs.declared.script.Stmt.{Stmt}
use Rattle.query_grammar.specs.Lists.{one, fixed, listed, second_of, name_symbols, path}
use Rattle.query_grammar.specs.ExpressionGrammar.{lower}
use Rattle.query_grammar.specs.StatementGrammar.{Limits, inside_opening, whole_expr, alias, alias_from, over, over_from, stamp, stamp_from, source, source_from, join_side, side_from, on, join, join_from, item, item_from, select_items, items_from, partition, partition_from, group, group_from, group_by, group_by_from, having, having_from, condition, tail, tail_from, select, select_from, union_more, union, union_from, def, def_from, with_defs, with_from, stmt, stmt_from, place_of, semicolon, Closed, closed, statements, script_from}
use Rattle.query_grammar.specs.Reading.{read_fixed, read_paths, expr_symbols, read_whole_expr, alias_symbols, read_alias, read_over, read_stamp, read_source, side_symbols, read_side, join_symbols, read_on, read_join, read_joins, read_item, read_items, read_select_items, read_partition, read_group, read_groups, read_group_by, read_having, read_condition, read_tail, read_select, read_union_more, read_unions, read_union, read_def, read_defs, read_with, read_stmt, read_semicolon, read_closed, read_statements}
use Rattle.query_grammar.proofs.Sets.{paths_go_on, expr_goes_on, stamp_goes_on, source_goes_on, item_goes_on, items_go_on, group_goes_on, groups_go_on, tail_goes_on, unions_go_on, closed_goes_on, script_goes_on}
use Rattle.query_grammar.proofs.ExpressionLines.{fixed_fits, flagged_fits, listed_fits, name_fits, paths_fits, expr_fits}

-- limits, and wider ones
pub record Wider (P : Type 0) (l m : Limits) : Type 0 where
  pub tokens : l.tokens ≤ m.tokens
  pub nesting : l.nesting ≤ m.nesting
  pub more_tokens : P → l.tokens < m.tokens
  pub more_nesting : P → l.nesting < m.nesting

pub wider_same : (l : Limits) → Wider ⊥ l l
wider_same l = record { tokens = omega arith; nesting = omega arith; more_tokens = λ p. absurd p; more_nesting = λ p. absurd p }

whole_expr_fits : {P : Type 0} (l m : Limits) → Wider P l m → Fits Expr P (whole_expr l) (whole_expr m) expr_symbols expr_goes_on false (read_whole_expr l)
unfolding whole_expr read_whole_expr
whole_expr_fits {P} l m w = fits_within l.tokens m.tokens w.tokens w.more_tokens (expr_fits P l.nesting m.nesting w.nesting w.more_nesting)

-- ---- sources

alias_fits : {P : Type 0} → Fits Alias P alias alias alias_symbols [] false read_alias
unfolding alias read_alias
alias_fits = fits_tree alias_from (fits_placed (fits_both (flagged_fits symbol.As refl refl refl) name_fits refl))

over_fits : {P : Type 0} → Fits Over P over over (one symbol.Over) paths_go_on false read_over
unfolding over read_over
over_fits = fits_tree over_from (fits_both (fixed_fits symbol.Over refl refl) paths_fits refl)

stamp_fits : {P : Type 0} (l m : Limits) → Wider P l m → Fits Stamp P (stamp l) (stamp m) (one symbol.Timestamp) stamp_goes_on false (read_stamp l)
unfolding stamp read_stamp
stamp_fits l m w =
    fits_sets (one symbol.Timestamp) stamp_goes_on refl refl
    (fits_tree stamp_from
    (fits_both (fixed_fits symbol.Timestamp refl refl)
    (fits_both (fixed_fits symbol.By refl refl) (fits_both (whole_expr_fits l m w) (fits_perhaps over_fits refl refl) refl) refl) refl))

source_fits : {P : Type 0} (l m : Limits) → Wider P l m → Fits Source P (source l) (source m) name_symbols source_goes_on false (read_source l)
unfolding source read_source
source_fits l m w =
    fits_sets name_symbols source_goes_on refl refl
    (fits_tree source_from
    (fits_both name_fits (fits_both (fits_perhaps alias_fits refl refl) (fits_perhaps (stamp_fits l m w) refl refl) refl) refl))

side_fits : {P : Type 0} → Fits Side P join_side join_side side_symbols (one symbol.Outer) false read_side
unfolding join_side read_side
side_fits =
    fits_tree side_from
    (fits_choice (fixed_fits symbol.Inner refl refl) (fits_both (fixed_fits symbol.Left refl refl) (flagged_fits symbol.Outer refl refl refl) refl) refl refl)

on_fits : {P : Type 0} (l m : Limits) → Wider P l m → Fits Expr P (on l) (on m) (one symbol.On) expr_goes_on false (read_on l)
unfolding on read_on
on_fits l m w = fits_tree second_of (fits_both (fixed_fits symbol.On refl refl) (whole_expr_fits l m w) refl)

pub join_fits : {P : Type 0} (l m : Limits) → Wider P l m → Fits Join P (join l) (join m) join_symbols expr_goes_on false (read_join l)
unfolding join read_join
join_fits l m w =
    fits_tree join_from
    (fits_placed (fits_both (fits_perhaps side_fits refl refl)
    (fits_both (fixed_fits symbol.Join refl refl)
    (fits_both (source_fits l m w) (on_fits l m w) refl) refl) refl))

-- ---- selects

pub item_fits : {P : Type 0} (l m : Limits) → Wider P l m → Fits Item P (item l) (item m) expr_symbols item_goes_on false (read_item l)
unfolding item read_item
item_fits l m w =
    fits_sets expr_symbols item_goes_on refl refl
    (fits_tree item_from (fits_placed (fits_both (whole_expr_fits l m w) (fits_perhaps alias_fits refl refl) refl)))

select_items_fits : {P : Type 0} (l m : Limits) → Wider P l m → Fits SelectItems P (select_items l) (select_items m) (one symbol.Star ++ expr_symbols) items_go_on false (read_select_items l)
unfolding select_items read_select_items read_items
select_items_fits l m w =
    fits_sets (one symbol.Star ++ expr_symbols) items_go_on refl refl
    (fits_tree items_from (fits_placed (fits_choice (fixed_fits symbol.Star refl refl) (listed_fits (item_fits l m w) refl) refl refl)))

partition_parts_fits : {P : Type 0}
    → Fits (Lexeme × (Lexeme × ((Path × List Path) × Lexeme))) P
    (both (fixed symbol.Partition) (both (fixed symbol.By) (both (listed path) (fixed symbol.Close))))
    (both (fixed symbol.Partition) (both (fixed symbol.By) (both (listed path) (fixed symbol.Close)))) (one symbol.Partition) [] false
    (read_both (read_fixed symbol.Partition) (read_both (read_fixed symbol.By) (read_both read_paths (read_fixed symbol.Close))))
partition_parts_fits =
    fits_both (fixed_fits symbol.Partition refl refl)
    (fits_both (fixed_fits symbol.By refl refl) (fits_both paths_fits (fixed_fits symbol.Close refl refl) refl) refl) refl

partition_fits : {P : Type 0} (l m : Limits) → Wider P l m → Fits Partition P (partition l) (partition m) (one symbol.Over) [] false (read_partition l)
unfolding partition read_partition
partition_fits {P} l m w =
    fits_tree partition_from
    (fits_both (fixed_fits symbol.Over refl refl)
    (fits_opened l.nesting m.nesting (one symbol.Open) w.nesting w.more_nesting refl refl (λ h. (partition_parts_fits {P = P}).laws) (λ h. partition_parts_fits)) refl)

pub group_fits : {P : Type 0} (l m : Limits) → Wider P l m → Fits Group P (group l) (group m) expr_symbols group_goes_on false (read_group l)
unfolding group read_group
group_fits l m w =
    fits_sets expr_symbols group_goes_on refl refl
    (fits_tree group_from (fits_placed (fits_both (whole_expr_fits l m w) (fits_perhaps (partition_fits l m w) refl refl) refl)))

group_by_fits : {P : Type 0} (l m : Limits) → Wider P l m → Fits GroupBy P (group_by l) (group_by m) (one symbol.Group) groups_go_on false (read_group_by l)
unfolding group_by read_group_by read_groups
group_by_fits l m w =
    fits_sets (one symbol.Group) groups_go_on refl refl
    (fits_tree group_by_from
    (fits_both (fixed_fits symbol.Group refl refl) (fits_both (fixed_fits symbol.By refl refl) (listed_fits (group_fits l m w) refl) refl) refl))

having_fits : {P : Type 0} (l m : Limits) → Wider P l m → Fits Having P (having l) (having m) (one symbol.Having) expr_goes_on false (read_having l)
unfolding having read_having
having_fits l m w = fits_tree having_from (fits_both (fixed_fits symbol.Having refl refl) (whole_expr_fits l m w) refl)

condition_fits : {P : Type 0} (l m : Limits) → Wider P l m → Fits Expr P (condition l) (condition m) (one symbol.Where) expr_goes_on false (read_condition l)
unfolding condition read_condition
condition_fits l m w = fits_tree second_of (fits_both (fixed_fits symbol.Where refl refl) (whole_expr_fits l m w) refl)

tail_fits : {P : Type 0} (l m : Limits) → Wider P l m → Fits Tail P (tail l) (tail m) (one symbol.From) tail_goes_on false (read_tail l)
unfolding tail read_tail read_joins
tail_fits l m w =
    fits_sets (one symbol.From) tail_goes_on refl refl
    (fits_tree tail_from
    (fits_both (fixed_fits symbol.From refl refl)
    (fits_both (source_fits l m w)
    (fits_both (fits_repeated (join_fits l m w) refl refl)
    (fits_both (fits_perhaps (condition_fits l m w) refl refl)
    (fits_both (fits_perhaps (group_by_fits l m w) refl refl) (fits_perhaps (having_fits l m w) refl refl) refl) refl) refl) refl) refl))

select_fits : {P : Type 0} (l m : Limits) → Wider P l m → Fits Select P (select l) (select m) (one symbol.Select) tail_goes_on false (read_select l)
unfolding select read_select
select_fits l m w =
    fits_tree select_from (fits_both (fixed_fits symbol.Select refl refl) (fits_both (select_items_fits l m w) (tail_fits l m w) refl) refl)

pub union_more_fits : {P : Type 0} (l m : Limits) → Wider P l m → Fits Select P (union_more l) (union_more m) (one symbol.Union) tail_goes_on false (read_union_more l)
unfolding union_more read_union_more
union_more_fits l m w = fits_tree second_of (fits_both (fixed_fits symbol.Union refl refl) (select_fits l m w) refl)

-- ---- statements

union_fits : {P : Type 0} (l m : Limits) → Wider P l m → Fits Union P (union l) (union m) (one symbol.Select) unions_go_on false (read_union l)
unfolding union read_union read_unions
union_fits l m w =
    fits_sets (one symbol.Select) unions_go_on refl refl (fits_tree union_from (fits_both (select_fits l m w) (fits_repeated (union_more_fits l m w) refl refl) refl))

lower_le : (n k : ℕ) → n ≤ k → lower n ≤ lower k
lower_le n k le = omega arith

lower_less : (n k : ℕ) → 0 < n → n < k → lower n < lower k
lower_less n k p less = omega arith

inside_wider : {P : Type 0} (l m : Limits) → 0 < l.nesting → Wider P l m → Wider P (inside_opening l) (inside_opening m)
inside_wider l m p w = record {
  tokens = w.tokens;
  nesting = lower_le l.nesting m.nesting w.nesting;
  more_tokens = w.more_tokens;
  more_nesting = λ q. lower_less l.nesting m.nesting p (w.more_nesting q);
}

pub def_fits : {P : Type 0} (l m : Limits) → Wider P l m → Fits Def P (def l) (def m) name_symbols [] false (read_def l)
unfolding def read_def
def_fits {P} l m w =
    fits_tree def_from
    (fits_both name_fits
    (fits_both (fixed_fits symbol.As refl refl)
    (fits_opened l.nesting m.nesting (one symbol.Open) w.nesting w.more_nesting refl refl
    (λ h. (fits_both {P = ⊥} (union_fits (inside_opening m) (inside_opening m) (wider_same (inside_opening m))) (fixed_fits symbol.Close refl refl) refl).laws)
    (λ h. fits_both (union_fits (inside_opening l) (inside_opening m) (inside_wider l m h w)) (fixed_fits symbol.Close refl refl) refl)) refl) refl)

with_fits : {P : Type 0} (l m : Limits) → Wider P l m → Fits With P (with_defs l) (with_defs m) (one symbol.With) (one symbol.Comma) false (read_with l)
unfolding with_defs read_with read_defs
with_fits l m w =
    fits_sets (one symbol.With) (one symbol.Comma) refl refl
    (fits_tree with_from (fits_both (fixed_fits symbol.With refl refl) (listed_fits (def_fits l m w) refl) refl))

stmt_fits : {P : Type 0} (l m : Limits) → Wider P l m → Fits Stmt P (stmt l) (stmt m) (one symbol.Select) unions_go_on false (read_stmt l)
unfolding stmt read_stmt read_unions
stmt_fits l m w =
    fits_sets (one symbol.Select) unions_go_on refl refl
    (fits_tree stmt_from
    (fits_both (fixed_fits symbol.Select refl refl)
    (fits_both (select_items_fits l m w)
    (fits_both (fixed_fits symbol.Into refl refl)
    (fits_both name_fits (fits_both (tail_fits l m w) (fits_repeated (union_more_fits l m w) refl refl) refl) refl) refl) refl) refl))

semicolon_fits : {P : Type 0} → Fits ℕ P semicolon semicolon (one symbol.Semicolon) [] false read_semicolon
unfolding semicolon read_semicolon
semicolon_fits = fits_tree place_of (fixed_fits symbol.Semicolon refl refl)

pub closed_fits : {P : Type 0} (l m : Limits) → Wider P l m → Fits Closed P (closed l) (closed m) (one symbol.Select) closed_goes_on false (read_closed l)
unfolding closed read_closed
closed_fits l m w =
    fits_sets (one symbol.Select) closed_goes_on refl refl
    (fits_both (stmt_fits l m w) (fits_perhaps semicolon_fits refl refl) refl)

pub statements_fits : {P : Type 0} (l m : Limits) → Wider P l m
    → Fits Script P (statements l) (statements m) (one symbol.With ++ one symbol.Select) script_goes_on false (read_statements l)
unfolding statements read_statements
statements_fits l m w =
    fits_sets (one symbol.With ++ one symbol.Select) script_goes_on refl refl
    (fits_tree script_from
    (fits_placed (fits_both (fits_perhaps (with_fits l m w) refl refl)
    (fits_both (closed_fits l m w) (fits_repeated (closed_fits l m w) refl refl) refl) refl)))
