-- How each line of the grammar of statements is written.
use Rattle.std.proofs.Common.{◌≡◌, ◌⊎◌, inl, inr, ℕ, List, [], ◌∷◌, ◌++◌, Bool, refl, ap, sym, ◌∙◌, map, append_assoc}
use Rattle.std.proofs.lemmas.List.{append-nil}
use Rattle.std.specs.Prelude.{Option, Some, None, is_some}
use Rattle.std.specs.Option.{option_map}
use Rattle.grammar_rules.specs.Lexemes.{Lexeme}
use Rattle.query_tokens.specs.declared.symbol.Symbol.TheVariants as symbol
use Rattle.query_tree.specs.declared.expr.Expr.{Expr}
use Rattle.query_tree.specs.declared.source.Source.{Source}
use Rattle.query_tree.specs.declared.source.Alias.{Alias}
use Rattle.query_tree.specs.declared.source.Stamp.{Stamp}
use Rattle.query_tree.specs.declared.source.Over.{Over}
use Rattle.query_tree.specs.declared.source.Join.{Join}
use Rattle.query_tree.specs.declared.source.Side.{Side}
use Rattle.query_tree.specs.declared.select.Select.{Select}
use Rattle.query_tree.specs.declared.select.SelectItems.{SelectItems}
use Rattle.query_tree.specs.declared.select.Item.{Item}
use Rattle.query_tree.specs.declared.select.Tail.{Tail}
use Rattle.query_tree.specs.declared.select.GroupBy.{GroupBy}
use Rattle.query_tree.specs.declared.select.Group.{Group}
use Rattle.query_tree.specs.declared.select.Partition.{Partition}
use Rattle.query_tree.specs.declared.select.Having.{Having}
use Rattle.query_tree.specs.declared.script.Script.{Script}
use Rattle.query_tree.specs.declared.script.With.{With}
use Rattle.query_tree.specs.declared.script.Def.{Def}
use Rattle.query_tree.specs.declared.script.Union.{Union}
use Rattle.query_tree.specs.declared.script.Stmt.{Stmt}
use Rattle.query_tree.specs.declared.script.MoreStmt.{MoreStmt}
use Rattle.query_tree.specs.declared.source.Side.TheVariants as side
use Rattle.query_tree.specs.declared.select.SelectItems.TheVariants as items
use Rattle.query_grammar.specs.StatementGrammar as grammar
use Rattle.query_grammar.specs.StatementGrammar.{Limits, inside_opening, alias_from, over_from, stamp_from, source_from, side_from, join_from, item_from, items_from, partition_from, group_from, group_by_from, having_from, tail_from, select_from, union_from, def_from, with_from, stmt_from, script_from, place_of, Closed, more_stmts, last_semicolon}
use Rattle.query_print.specs.Words.{Word, Fixed}
use Rattle.query_print.specs.Expressions.{flag, all_words, expr_words}
use Rattle.query_print.specs.Scripts.{optional, alias_words, over_words, stamp_words, source_words, side_words, join_words, item_words, items_words, partition_words, group_words, group_by_words, having_words, where_words, tail_words, select_words, union_words, def_words, defs_words, stmt_words, more_words, script_words}
use Rattle.query_print.specs.Unplaced.{bare_expr, bare_alias, bare_over, bare_stamp, bare_source, bare_side, bare_join, bare_item, bare_items, bare_partition, bare_group, bare_group_by, bare_having, bare_tail, bare_select, bare_union, bare_def, bare_with, bare_stmt, bare_more, bare_script}
use Rattle.query_round_trip.proofs.Printings.{Printed, printed_line, printed_placed, printed_both, printed_choice, printed_perhaps, printed_flagged, printed_repeated, printed_behind, printed_each_behind, printed_listed, printed_opened, printed_within, both_words, both_bare, either_words, either_bare, list_words, behind_words, listed_by, word_alone, no_bare}
use Rattle.query_round_trip.proofs.NamePrints.{printed_name, printed_path}
use Rattle.query_round_trip.proofs.ExpressionPrints.{printed_expr}
use Rattle.query_round_trip.proofs.FixedPrints.{word_With, word_As, word_Union, word_Select, word_Into, word_From, word_Where, word_Group, word_By, word_Having, word_Timestamp, word_Over, word_Inner, word_Left, word_Outer, word_Join, word_On, word_Partition, word_Open, word_Close, word_Semicolon, word_Star}

printed_whole : (l : Limits) → Printed Expr Expr (grammar.whole_expr l) expr_words bare_expr
unfolding grammar.whole_expr
printed_whole l = printed_within l.tokens (printed_expr l.nesting)

-- ---- sources

printed_alias : Printed Alias Alias grammar.alias alias_words bare_alias
unfolding grammar.alias alias_words bare_alias
printed_alias =
    printed_line (printed_placed (printed_both (printed_flagged symbol.As word_As) printed_name)) alias_from (λ v. record { place = 0; written = v.0; name = v.1 }) (λ a. refl) (λ a. refl)

printed_over : Printed Over Over grammar.over over_words bare_over
unfolding grammar.over over_words bare_over
printed_over = printed_line (printed_both word_Over (printed_listed printed_path)) over_from (λ v. record { place = 0; first = v.1.0; more = v.1.1 }) (λ a. refl) (λ a. refl)

printed_stamp : (l : Limits) → Printed Stamp Stamp (grammar.stamp l) stamp_words bare_stamp
unfolding grammar.stamp stamp_words bare_stamp
printed_stamp l =
    printed_line (printed_both word_Timestamp (printed_both word_By (printed_both (printed_whole l) (printed_perhaps printed_over)))) stamp_from
    (λ v. record { place = 0; expr = v.1.1.0; over = v.1.1.1 }) (λ a. refl) (λ a. refl)

printed_source : (l : Limits) → Printed Source Source (grammar.source l) source_words bare_source
unfolding grammar.source source_words bare_source
printed_source l =
    printed_line (printed_both printed_name (printed_both (printed_perhaps printed_alias) (printed_perhaps (printed_stamp l)))) source_from
    (λ v. record { place = 0; name = v.0; alias = v.1.0; stamp = v.1.1 }) (λ a. refl) (λ a. refl)

side_spelt : (a : Lexeme ⊎ (Lexeme × Bool)) → side_words (side_from a) ≡ either_words (word_alone symbol.Inner) (both_words (word_alone symbol.Left) (flag symbol.Outer)) a
unfolding side_words
side_spelt (inl word) = refl
side_spelt (inr words) = refl

abbrev bare_side_of : Unit {0} ⊎ (Unit {0} × Bool) → Side
bare_side_of (inl word) = side.Inner 0
bare_side_of (inr words) = side.Left 0 words.1

side_bared : (a : Lexeme ⊎ (Lexeme × Bool)) → bare_side (side_from a) ≡ bare_side_of (either_bare no_bare (both_bare no_bare (λ b. b)) a)
unfolding bare_side
side_bared (inl word) = refl
side_bared (inr words) = refl

printed_side : Printed Side Side grammar.join_side side_words bare_side
unfolding grammar.join_side
printed_side =
    printed_line (printed_choice word_Inner (printed_both word_Left (printed_flagged symbol.Outer word_Outer))) side_from bare_side_of side_spelt side_bared

printed_on : (l : Limits) → Printed Expr Expr (grammar.on l) (behind_words symbol.On expr_words) bare_expr
unfolding grammar.on
printed_on l = printed_behind symbol.On word_On (printed_whole l)

printed_join : (l : Limits) → Printed Join Join (grammar.join l) join_words bare_join
unfolding grammar.join join_words bare_join
printed_join l =
    printed_line (printed_placed (printed_both (printed_perhaps printed_side) (printed_both word_Join (printed_both (printed_source l) (printed_on l))))) join_from
    (λ v. record { place = 0; side = v.0; join_place = 0; source = v.1.1.0; on = v.1.1.1 }) (λ a. refl) (λ a. refl)

-- ---- selects

printed_item : (l : Limits) → Printed Item Item (grammar.item l) item_words bare_item
unfolding grammar.item item_words bare_item
printed_item l =
    printed_line (printed_placed (printed_both (printed_whole l) (printed_perhaps printed_alias))) item_from (λ v. record { place = 0; expr = v.0; alias = v.1 }) (λ a. refl) (λ a. refl)

items_spelt : (a : ℕ × (Lexeme ⊎ (Item × List Item))) → items_words (items_from a) ≡ either_words (word_alone symbol.Star) (listed_by item_words) a.1
unfolding items_words
items_spelt (place, inl star) = refl
items_spelt (place, inr parts) = refl

abbrev bare_items_of : Unit {0} ⊎ (Item × List Item) → SelectItems
bare_items_of (inl star) = items.Star 0
bare_items_of (inr parts) = items.Listed 0 parts.0 parts.1

items_bared : (a : ℕ × (Lexeme ⊎ (Item × List Item))) → bare_items (items_from a) ≡ bare_items_of (either_bare no_bare (both_bare bare_item (map bare_item)) a.1)
unfolding bare_items
items_bared (place, inl star) = refl
items_bared (place, inr parts) = refl

printed_items : (l : Limits) → Printed SelectItems SelectItems (grammar.select_items l) items_words bare_items
unfolding grammar.select_items
printed_items l = printed_line (printed_placed (printed_choice word_Star (printed_listed (printed_item l)))) items_from bare_items_of items_spelt items_bared

printed_partition : (l : Limits) → Printed Partition Partition (grammar.partition l) partition_words bare_partition
unfolding grammar.partition partition_words bare_partition
printed_partition l =
    printed_line (printed_both word_Over (printed_opened l.nesting symbol.Open word_Open (printed_both word_Partition (printed_both word_By (printed_both (printed_listed printed_path) word_Close)))))
    partition_from (λ v. record { place = 0; first = v.1.1.1.1.0.0; more = v.1.1.1.1.0.1 }) (λ a. refl) (λ a. refl)

printed_group : (l : Limits) → Printed Group Group (grammar.group l) group_words bare_group
unfolding grammar.group group_words bare_group
printed_group l =
    printed_line (printed_placed (printed_both (printed_whole l) (printed_perhaps (printed_partition l)))) group_from (λ v. record { place = 0; expr = v.0; partition = v.1 }) (λ a. refl) (λ a. refl)

printed_group_by : (l : Limits) → Printed GroupBy GroupBy (grammar.group_by l) group_by_words bare_group_by
unfolding grammar.group_by group_by_words bare_group_by
printed_group_by l =
    printed_line (printed_both word_Group (printed_both word_By (printed_listed (printed_group l)))) group_by_from (λ v. record { place = 0; first = v.1.1.0; more = v.1.1.1 }) (λ a. refl) (λ a. refl)

printed_having : (l : Limits) → Printed Having Having (grammar.having l) having_words bare_having
unfolding grammar.having having_words bare_having
printed_having l = printed_line (printed_both word_Having (printed_whole l)) having_from (λ v. record { place = 0; condition = v.1 }) (λ a. refl) (λ a. refl)

printed_condition : (l : Limits) → Printed Expr Expr (grammar.condition l) where_words bare_expr
unfolding grammar.condition
printed_condition l = printed_behind symbol.Where word_Where (printed_whole l)

printed_tail : (l : Limits) → Printed Tail Tail (grammar.tail l) tail_words bare_tail
unfolding grammar.tail tail_words bare_tail
printed_tail l =
    printed_line
    (printed_both word_From (printed_both (printed_source l) (printed_both (printed_repeated (printed_join l))
    (printed_both (printed_perhaps (printed_condition l)) (printed_both (printed_perhaps (printed_group_by l)) (printed_perhaps (printed_having l)))))))
    tail_from (λ v. record { place = 0; source = v.1.0; joins = v.1.1.0; condition = v.1.1.1.0; groups = v.1.1.1.1.0; having = v.1.1.1.1.1 }) (λ a. refl) (λ a. refl)

printed_select : (l : Limits) → Printed Select Select (grammar.select l) select_words bare_select
unfolding grammar.select select_words bare_select
printed_select l =
    printed_line (printed_both word_Select (printed_both (printed_items l) (printed_tail l))) select_from (λ v. record { place = 0; items = v.1.0; tail = v.1.1 }) (λ a. refl) (λ a. refl)

-- ---- statements

printed_union : (l : Limits) → Printed Union Union (grammar.union l) union_words bare_union
unfolding grammar.union grammar.union_more union_words bare_union
printed_union l =
    printed_line (printed_both (printed_select l) (printed_each_behind symbol.Union word_Union (printed_select l))) union_from (λ v. record { place = 0; first = v.0; more = v.1 }) (λ a. refl) (λ a. refl)

printed_def : (l : Limits) → Printed Def Def (grammar.def l) def_words bare_def
unfolding grammar.def def_words bare_def
printed_def l =
    printed_line (printed_both printed_name (printed_both word_As (printed_opened l.nesting symbol.Open word_Open (printed_both (printed_union (inside_opening l)) word_Close))))
    def_from (λ v. record { place = 0; name = v.0; union = v.1.1.1.0 }) (λ a. refl) (λ a. refl)

printed_defs : (l : Limits) → Printed With With (grammar.with_defs l) defs_words bare_with
unfolding grammar.with_defs defs_words bare_with
printed_defs l = printed_line (printed_both word_With (printed_listed (printed_def l))) with_from (λ v. record { place = 0; first = v.1.0; more = v.1.1 }) (λ a. refl) (λ a. refl)

printed_stmt : (l : Limits) → Printed Stmt Stmt (grammar.stmt l) stmt_words bare_stmt
unfolding grammar.stmt grammar.union_more stmt_words bare_stmt
printed_stmt l =
    printed_line
    (printed_both word_Select (printed_both (printed_items l) (printed_both word_Into (printed_both printed_name (printed_both (printed_tail l) (printed_each_behind symbol.Union word_Union (printed_select l)))))))
    stmt_from (λ v. record { place = 0; items = v.1.0; output = v.1.1.1.0; tail = v.1.1.1.1.0; more = v.1.1.1.1.1 }) (λ a. refl) (λ a. refl)

-- ---- semicolons

abbrev semicolon_words : ℕ → List Word
semicolon_words place = Fixed symbol.Semicolon ∷ []

printed_semicolon : Printed ℕ (Unit {0}) grammar.semicolon semicolon_words no_bare
unfolding grammar.semicolon
printed_semicolon = printed_line word_Semicolon place_of (λ v. v) (λ a. refl) (λ a. refl)

abbrev closed_words : Closed → List Word
closed_words = both_words stmt_words (optional semicolon_words)

abbrev BareClosed : Type 0
BareClosed = Stmt × Option (Unit {0})

abbrev bare_closed : Closed → BareClosed
bare_closed = both_bare bare_stmt (option_map no_bare)

printed_closed : (l : Limits) → Printed Closed BareClosed (grammar.closed l) closed_words bare_closed
unfolding grammar.closed
printed_closed l = printed_both (printed_stmt l) (printed_perhaps printed_semicolon)

semicolon_flag : (before : Option ℕ) → flag symbol.Semicolon (is_some before) ≡ optional semicolon_words before
semicolon_flag None = refl
semicolon_flag (Some t) = refl

-- each statement behind the first with the semicolon before it, and the last one behind them
more_spelt : (before : Option ℕ) (others : List Closed)
    → all_words (map more_words (more_stmts before others)) ++ flag symbol.Semicolon (is_some (last_semicolon before others))
    ≡ optional semicolon_words before ++ list_words closed_words others
unfolding more_words
more_spelt before [] = semicolon_flag before ∙ sym (append-nil (optional semicolon_words before))
more_spelt before (next ∷ others) =
    append_assoc (flag symbol.Semicolon (is_some before) ++ stmt_words next.0) (all_words (map more_words (more_stmts next.1 others))) (flag symbol.Semicolon (is_some (last_semicolon next.1 others)))
    ∙ ap (λ (ws : List Word). (flag symbol.Semicolon (is_some before) ++ stmt_words next.0) ++ ws) (more_spelt next.1 others)
    ∙ append_assoc (flag symbol.Semicolon (is_some before)) (stmt_words next.0) (optional semicolon_words next.1 ++ list_words closed_words others)
    ∙ ap (λ (ws : List Word). flag symbol.Semicolon (is_some before) ++ ws)
    (sym (append_assoc (stmt_words next.0) (optional semicolon_words next.1) (list_words closed_words others)))
    ∙ ap (λ (ws : List Word). ws ++ (closed_words next ++ list_words closed_words others)) (semicolon_flag before)

abbrev bare_mores : Option (Unit {0}) → List BareClosed → List MoreStmt
bare_mores before [] = []
bare_mores before (next ∷ others) = record { place = 0; semicolon = is_some before; stmt = next.0 } ∷ bare_mores next.1 others

abbrev bare_last : Option (Unit {0}) → List BareClosed → Bool
bare_last before [] = is_some before
bare_last before (next ∷ others) = bare_last next.1 others

some_bare : (o : Option ℕ) → is_some o ≡ is_some (option_map (no_bare {A = ℕ}) o)
some_bare None = refl
some_bare (Some t) = refl

more_bared : (before : Option ℕ) (others : List Closed) → map bare_more (more_stmts before others) ≡ bare_mores (option_map no_bare before) (map bare_closed others)
unfolding bare_more
more_bared before [] = refl
more_bared before (next ∷ others) =
    ap (λ (b : Bool). record { place = 0; semicolon = b; stmt = bare_stmt next.0 } ∷ map bare_more (more_stmts next.1 others)) (some_bare before)
    ∙ ap (λ (ms : List MoreStmt). record { place = 0; semicolon = is_some (option_map (no_bare {A = ℕ}) before); stmt = bare_stmt next.0 } ∷ ms) (more_bared next.1 others)

last_bared : (before : Option ℕ) (others : List Closed) → is_some (last_semicolon before others) ≡ bare_last (option_map no_bare before) (map bare_closed others)
last_bared before [] = some_bare before
last_bared before (next ∷ others) = last_bared next.1 others

script_spelt : (a : ℕ × (Option With × (Closed × List Closed)))
    → script_words (script_from a) ≡ optional defs_words a.1.0 ++ (closed_words a.1.1.0 ++ list_words closed_words a.1.1.1)
unfolding script_words
script_spelt a =
    ap (λ (ws : List Word). optional defs_words a.1.0 ++ (stmt_words a.1.1.0.0 ++ ws)) (more_spelt a.1.1.0.1 a.1.1.1)
    ∙ ap (λ (ws : List Word). optional defs_words a.1.0 ++ ws) (sym (append_assoc (stmt_words a.1.1.0.0) (optional semicolon_words a.1.1.0.1) (list_words closed_words a.1.1.1)))

abbrev bare_script_of : Option With × (BareClosed × List BareClosed) → Script
bare_script_of v = record { place = 0; with = v.0; first = v.1.0.0; more = bare_mores v.1.0.1 v.1.1; semicolon = bare_last v.1.0.1 v.1.1 }

script_bared : (a : ℕ × (Option With × (Closed × List Closed)))
    → bare_script (script_from a) ≡ bare_script_of (option_map bare_with a.1.0, (bare_closed a.1.1.0, map bare_closed a.1.1.1))
unfolding bare_script
script_bared a =
    ap (λ (ms : List MoreStmt). record { place = 0; with = option_map bare_with a.1.0; first = bare_stmt a.1.1.0.0; more = ms; semicolon = is_some (last_semicolon a.1.1.0.1 a.1.1.1) }) (more_bared a.1.1.0.1 a.1.1.1)
    ∙ ap (λ (b : Bool). record { place = 0; with = option_map bare_with a.1.0; first = bare_stmt a.1.1.0.0; more = bare_mores (option_map no_bare a.1.1.0.1) (map bare_closed a.1.1.1); semicolon = b })
    (last_bared a.1.1.0.1 a.1.1.1)

pub printed_statements : (l : Limits) → Printed Script Script (grammar.statements l) script_words bare_script
unfolding grammar.statements
printed_statements l =
    printed_line (printed_placed (printed_both (printed_perhaps (printed_defs l)) (printed_both (printed_closed l) (printed_repeated (printed_closed l))))) script_from bare_script_of script_spelt script_bared
