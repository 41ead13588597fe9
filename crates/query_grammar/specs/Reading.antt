-- Reading the grammar off the front of the tokens: for each grammar its reader.
use Rattle.std.specs.Prelude.{ℕ, zero, suc, List, [], ◌∷◌, ◌++◌, Bool, Option, Result, Ok, Err}
use Rattle.grammar_rules.specs.declared.stop.Stop.{Stop}
use Rattle.grammar_rules.specs.declared.stop.Stop.TheVariants.{Expected, Deep, Memory}
use Rattle.grammar_rules.specs.Lexemes.{Lexeme, first_place}
use Rattle.grammar_rules.specs.Rules.{first_part}
use Rattle.grammar_rules.specs.Readers.{Reading, Reader, mapped, paired, with_place, read_token, read_flag, read_both, read_tree, read_placed, read_choice, read_or_else, read_perhaps, read_repeated, read_opened, read_within, read_ended}
use Rattle.query_tokens.specs.declared.symbol.Symbol.{Symbol}
use Rattle.query_tokens.specs.declared.symbol.Symbol.TheVariants as symbol
use Rattle.query_tokens.specs.declared.parse_err.ParseErr.{ParseErr}
use Rattle.query_tokens.specs.declared.parse_err.ParseErr.TheVariants.{Expected as expected_at, Deep as deep_at, Memory as no_memory}
use Rattle.query_tokens.specs.declared.token.Token.{Token}
use Rattle.query_tokens.specs.Tokens.{tokens_of}
use Rattle.query_tokens.specs.Lexemes.{lexemes_of}
use Rattle.query_tree.specs.declared.name.Name.{Name}
use Rattle.query_tree.specs.declared.name.Path.{Path}
use Rattle.query_tree.specs.declared.name.TypeName.{TypeName}
use Rattle.query_tree.specs.declared.expr.Expr.{Expr}
use Rattle.query_tree.specs.declared.expr.And.{And}
use Rattle.query_tree.specs.declared.expr.Not.{Not}
use Rattle.query_tree.specs.declared.expr.Not.TheVariants as nots
use Rattle.query_tree.specs.declared.expr.Pred.{Pred}
use Rattle.query_tree.specs.declared.expr.PredRest.{PredRest}
use Rattle.query_tree.specs.declared.expr.Sum.{Sum}
use Rattle.query_tree.specs.declared.expr.SumMore.{SumMore}
use Rattle.query_tree.specs.declared.expr.Prod.{Prod}
use Rattle.query_tree.specs.declared.expr.ProdMore.{ProdMore}
use Rattle.query_tree.specs.declared.expr.Unary.{Unary}
use Rattle.query_tree.specs.declared.expr.Unary.TheVariants as unary
use Rattle.query_tree.specs.declared.expr.Primary.{Primary}
use Rattle.query_tree.specs.declared.expr.Args.{Args}
use Rattle.query_tree.specs.declared.expr.When.{When}
use Rattle.query_tree.specs.declared.source.Source.{Source}
use Rattle.query_tree.specs.declared.source.Alias.{Alias}
use Rattle.query_tree.specs.declared.source.Stamp.{Stamp}
use Rattle.query_tree.specs.declared.source.Over.{Over}
use Rattle.query_tree.specs.declared.source.Join.{Join}
use Rattle.query_tree.specs.declared.source.Side.{Side}
use Rattle.query_tree.specs.declared.select.Select.{Select}
use Rattle.query_tree.specs.declared.select.SelectItems.{SelectItems}
use Rattle.query_tree.specs.declared.select.Item.{Item}
use Rattle.query_tree.specs.declared.select.Tail.{Tail}
use Rattle.query_tree.specs.declared.select.GroupBy.{GroupBy}
use Rattle.query_tree.specs.declared.select.Group.{Group}
use Rattle.query_tree.specs.declared.select.Partition.{Partition}
use Rattle.query_tree.specs.declared.select.Having.{Having}
use Rattle.query_tree.specs.declared.script.Script.{Script}
use Rattle.query_tree.specs.declared.script.With.{With}
use Rattle.query_tree.specs.declared.script.Def.{Def}
use Rattle.query_tree.specs.declared.script.Union.{Union}
use Rattle.query_tree.specs.declared.script.Stmt.{Stmt}
use Rattle.query_grammar.specs.Leaves.{name_of}
use Rattle.query_grammar.specs.Lists.{set_of, one, second_of, name_symbols, part_symbols, path_from, size_from, type_from}
use Rattle.query_grammar.specs.ExpressionGrammar.{lower, number_from, text_from, null_from, args_from, call_args_from, call_from, cast_symbols, cast_type_from, cast_from, when_from, case_from, nested_from, minus_from, prod_symbols, prod_more_from, prod_from, sum_symbols, sum_more_from, sum_from, rel_symbols, compare_from, BetweenParts, InParts, LikeParts, NegatableParts, negatable_from, is_null_from, pred_from, negation_from, and_from, expr_from}
use Rattle.query_grammar.specs.StatementGrammar.{Limits, inside_opening, alias_from, over_from, stamp_from, source_from, side_from, join_from, item_from, items_from, partition_from, group_from, group_by_from, having_from, tail_from, select_from, union_from, def_from, with_from, stmt_from, place_of, Closed, script_from}
use Rattle.query_grammar.specs.Queries.{query_limits}

-- ---- lists, names

abbrev pub read_fixed : Symbol → Reader Lexeme
read_fixed s = read_token (one s)

abbrev pub read_flagged : Symbol → Reader Bool
read_flagged s = read_flag (one s)

-- a comma and a part
abbrev pub read_next : {A : Type 0} → Reader A → Reader A
read_next part = read_tree second_of (read_both (read_fixed symbol.Comma) part)

abbrev pub read_others : {A : Type 0} → Reader A → Reader (List A)
read_others part = read_repeated (one symbol.Comma) (read_next part)

abbrev pub read_listed : {A : Type 0} → Reader A → Reader (A × List A)
read_listed part = read_both part (read_others part)

unfoldable pub read_name : Reader Name
read_name = read_tree name_of (read_token name_symbols)

unfoldable pub read_name_part : Reader Name
read_name_part = read_tree name_of (read_token part_symbols)

unfoldable pub read_second_name : Reader Name
read_second_name = read_tree second_of (read_both (read_fixed symbol.Point) read_name_part)

unfoldable pub read_path : Reader Path
read_path = read_tree path_from (read_both read_name (read_perhaps (one symbol.Point) read_second_name))

unfoldable pub read_paths : Reader (Path × List Path)
read_paths = read_listed read_path

unfoldable pub read_type_size : ℕ → Reader Name
read_type_size left = read_tree size_from (read_opened left (one symbol.Open) (read_both (read_fixed symbol.Word) (read_fixed symbol.Close)))

unfoldable pub read_type_name : ℕ → Reader TypeName
read_type_name left = read_tree type_from (read_both (read_fixed symbol.Word) (read_perhaps (one symbol.Open) (read_type_size left)))

-- ---- expressions

-- how many openings are left, and the readers for what stands inside one
pub record InsideReaders : Type 0 where
  pub left : ℕ
  pub expr : Reader Expr
  pub not : Reader Not
  pub unary : Reader Unary

abbrev pub read_opens : {A : Type 0} → InsideReaders → Symbol → Reader A → Reader (Lexeme × A)
read_opens l word inner = read_opened l.left (one word) inner

-- the symbols that begin a unary, an expression, the arguments of a call, and what may follow a sum
abbrev pub unary_symbols : List ℕ
unary_symbols =
    set_of (symbol.Minus ∷ symbol.Number ∷ symbol.Text ∷ symbol.Null ∷ symbol.Word ∷ symbol.Bracketed ∷ symbol.Cast
    ∷ symbol.TryCast ∷ symbol.Case ∷ symbol.Open ∷ [])

abbrev pub expr_symbols : List ℕ
expr_symbols = one symbol.Not ++ unary_symbols

abbrev pub args_symbols : List ℕ
args_symbols = one symbol.Star ++ one symbol.Distinct ++ expr_symbols

abbrev pub negatable_symbols : List ℕ
negatable_symbols = set_of (symbol.Not ∷ symbol.Between ∷ symbol.In ∷ symbol.Like ∷ [])

abbrev pub rest_symbols : List ℕ
rest_symbols = rel_symbols ++ (negatable_symbols ++ one symbol.Is)

unfoldable pub read_exprs : InsideReaders → Reader (Expr × List Expr)
read_exprs l = read_listed l.expr

unfoldable pub read_arguments : InsideReaders → Reader Args
read_arguments l =
    read_tree args_from
    (read_placed (read_choice (one symbol.Star) (read_fixed symbol.Star)
    (read_both (read_flagged symbol.Distinct) (read_exprs l))))

unfoldable pub read_call_args : InsideReaders → Reader (Option Args)
read_call_args l =
    read_tree call_args_from (read_opens l symbol.Open (read_both (read_perhaps args_symbols (read_arguments l)) (read_fixed symbol.Close)))

unfoldable pub read_column_or_call : InsideReaders → Reader Primary
read_column_or_call l = read_tree call_from (read_both read_path (read_perhaps (one symbol.Open) (read_call_args l)))

unfoldable pub read_cast_type : ℕ → Reader TypeName
read_cast_type left = read_tree cast_type_from (read_both (read_fixed symbol.As) (read_both (read_type_name left) (read_fixed symbol.Close)))

unfoldable pub read_cast : InsideReaders → Reader Primary
read_cast l =
    read_tree cast_from (read_both (read_token cast_symbols) (read_opens l symbol.Open (read_both l.expr (read_cast_type (lower l.left)))))

unfoldable pub read_when : InsideReaders → Reader When
read_when l = read_tree when_from (read_both (read_fixed symbol.When) (read_both l.expr (read_both (read_fixed symbol.Then) l.expr)))

unfoldable pub read_whens : InsideReaders → Reader (List When)
read_whens l = read_repeated (one symbol.When) (read_when l)

unfoldable pub read_else : InsideReaders → Reader Expr
read_else l = read_tree second_of (read_both (read_fixed symbol.Else) l.expr)

unfoldable pub read_case_end : InsideReaders → Reader (Option Expr)
read_case_end l = read_tree first_part (read_both (read_perhaps (one symbol.Else) (read_else l)) (read_fixed symbol.End))

unfoldable pub read_case : InsideReaders → Reader Primary
read_case l =
    read_tree case_from
    (read_opens l symbol.Case
    (read_both (read_perhaps expr_symbols l.expr) (read_both (read_when l) (read_both (read_whens l) (read_case_end l)))))

unfoldable pub read_nested : InsideReaders → Reader Primary
read_nested l = read_tree nested_from (read_opens l symbol.Open (read_both l.expr (read_fixed symbol.Close)))

unfoldable pub read_number : Reader Primary
read_number = read_tree number_from (read_fixed symbol.Number)

unfoldable pub read_text : Reader Primary
read_text = read_tree text_from (read_fixed symbol.Text)

unfoldable pub read_null : Reader Primary
read_null = read_tree null_from (read_fixed symbol.Null)

unfoldable pub read_primary : InsideReaders → Reader Primary
read_primary l =
    read_or_else (one symbol.Number) read_number
    (read_or_else (one symbol.Text) read_text
    (read_or_else (one symbol.Null) read_null
    (read_or_else name_symbols (read_column_or_call l)
    (read_or_else cast_symbols (read_cast l) (read_or_else (one symbol.Case) (read_case l) (read_nested l))))))

unfoldable pub read_minus : InsideReaders → Reader Unary
read_minus l = read_tree minus_from (read_opens l symbol.Minus l.unary)

unfoldable pub read_unary : InsideReaders → Reader Unary
read_unary l = read_or_else (one symbol.Minus) (read_minus l) (read_tree unary.Primary (read_primary l))

unfoldable pub read_prod_more : InsideReaders → Reader ProdMore
read_prod_more l = read_tree prod_more_from (read_both (read_token prod_symbols) (read_unary l))

unfoldable pub read_prod : InsideReaders → Reader Prod
read_prod l = read_tree prod_from (read_placed (read_both (read_unary l) (read_repeated prod_symbols (read_prod_more l))))

unfoldable pub read_sum_more : InsideReaders → Reader SumMore
read_sum_more l = read_tree sum_more_from (read_both (read_token sum_symbols) (read_prod l))

unfoldable pub read_sum : InsideReaders → Reader Sum
read_sum l = read_tree sum_from (read_placed (read_both (read_prod l) (read_repeated sum_symbols (read_sum_more l))))

unfoldable pub read_compare : InsideReaders → Reader PredRest
read_compare l = read_tree compare_from (read_both (read_token rel_symbols) (read_sum l))

unfoldable pub read_between : InsideReaders → Reader BetweenParts
read_between l = read_both (read_fixed symbol.Between) (read_both (read_sum l) (read_both (read_fixed symbol.And) (read_sum l)))

unfoldable pub read_in_list : InsideReaders → Reader InParts
read_in_list l = read_both (read_fixed symbol.In) (read_opens l symbol.Open (read_both (read_exprs l) (read_fixed symbol.Close)))

unfoldable pub read_like : InsideReaders → Reader LikeParts
read_like l = read_both (read_fixed symbol.Like) (read_sum l)

unfoldable pub read_negatable_parts : InsideReaders → Reader NegatableParts
read_negatable_parts l = read_choice (one symbol.Between) (read_between l) (read_choice (one symbol.In) (read_in_list l) (read_like l))

-- what is read behind a place and NOT, or no NOT
abbrev pub negatable_rest : ℕ → Bool → Reading NegatableParts → Reading PredRest
negatable_rest place not parts = mapped negatable_from (mapped (with_place place) (paired not parts))

unfoldable pub read_negatable : InsideReaders → Reader PredRest
read_negatable l = read_tree negatable_from (read_placed (read_both (read_flagged symbol.Not) (read_negatable_parts l)))

unfoldable pub read_is_null : Reader PredRest
read_is_null =
    read_tree is_null_from
    (read_both (read_fixed symbol.Is) (read_both (read_flagged symbol.Not) (read_fixed symbol.Null)))

unfoldable pub read_pred_rest : InsideReaders → Reader PredRest
read_pred_rest l = read_or_else rel_symbols (read_compare l) (read_or_else negatable_symbols (read_negatable l) read_is_null)

unfoldable pub read_pred : InsideReaders → Reader Pred
read_pred l = read_tree pred_from (read_placed (read_both (read_sum l) (read_perhaps rest_symbols (read_pred_rest l))))

unfoldable pub read_negation : InsideReaders → Reader Not
read_negation l = read_tree negation_from (read_opens l symbol.Not l.not)

unfoldable pub read_not : InsideReaders → Reader Not
read_not l = read_or_else (one symbol.Not) (read_negation l) (read_tree nots.Pred (read_pred l))

unfoldable pub read_and_more : InsideReaders → Reader Not
read_and_more l = read_tree second_of (read_both (read_fixed symbol.And) (read_not l))

unfoldable pub read_conjunction : InsideReaders → Reader And
read_conjunction l = read_tree and_from (read_placed (read_both (read_not l) (read_repeated (one symbol.And) (read_and_more l))))

unfoldable pub read_or_more : InsideReaders → Reader And
read_or_more l = read_tree second_of (read_both (read_fixed symbol.Or) (read_conjunction l))

unfoldable pub read_disjunction : InsideReaders → Reader Expr
read_disjunction l =
    read_tree expr_from (read_placed (read_both (read_conjunction l) (read_repeated (one symbol.Or) (read_or_more l))))

abbrev pub nothing_inside : {A : Type 0} → Reader A
nothing_inside ts = Err (Expected, ts)

abbrev pub readers_with : ℕ → InsideReaders → InsideReaders
readers_with left r = record { left = left; expr = r.expr; not = r.not; unary = r.unary }

-- the readers inside an opening where so many may still be made
unfoldable pub inner_readers : ℕ → InsideReaders
inner_readers zero = record { left = zero; expr = nothing_inside; not = nothing_inside; unary = nothing_inside }
inner_readers (suc left) =
    let r = readers_with left (inner_readers left) in
    record { left = suc left; expr = read_disjunction r; not = read_not r; unary = read_unary r }

abbrev pub readers : ℕ → InsideReaders
readers left = readers_with left (inner_readers left)

abbrev pub read_expr : ℕ → Reader Expr
read_expr left = read_disjunction (readers left)

-- ---- statements

unfoldable pub read_whole_expr : Limits → Reader Expr
read_whole_expr l = read_within l.tokens (read_expr l.nesting)

abbrev pub alias_symbols : List ℕ
alias_symbols = one symbol.As ++ name_symbols

unfoldable pub read_alias : Reader Alias
read_alias = read_tree alias_from (read_placed (read_both (read_flagged symbol.As) read_name))

unfoldable pub read_over : Reader Over
read_over = read_tree over_from (read_both (read_fixed symbol.Over) read_paths)

unfoldable pub read_stamp : Limits → Reader Stamp
read_stamp l =
    read_tree stamp_from
    (read_both (read_fixed symbol.Timestamp) (read_both (read_fixed symbol.By) (read_both (read_whole_expr l) (read_perhaps (one symbol.Over) read_over))))

unfoldable pub read_source : Limits → Reader Source
read_source l =
    read_tree source_from
    (read_both read_name (read_both (read_perhaps alias_symbols read_alias) (read_perhaps (one symbol.Timestamp) (read_stamp l))))

abbrev pub side_symbols : List ℕ
side_symbols = set_of (symbol.Inner ∷ symbol.Left ∷ [])

unfoldable pub read_side : Reader Side
read_side =
    read_tree side_from
    (read_choice (one symbol.Inner) (read_fixed symbol.Inner) (read_both (read_fixed symbol.Left) (read_flagged symbol.Outer)))

abbrev pub join_symbols : List ℕ
join_symbols = side_symbols ++ one symbol.Join

unfoldable pub read_on : Limits → Reader Expr
read_on l = read_tree second_of (read_both (read_fixed symbol.On) (read_whole_expr l))

unfoldable pub read_join : Limits → Reader Join
read_join l =
    read_tree join_from
    (read_placed (read_both (read_perhaps side_symbols read_side) (read_both (read_fixed symbol.Join) (read_both (read_source l) (read_on l)))))

unfoldable pub read_joins : Limits → Reader (List Join)
read_joins l = read_repeated join_symbols (read_join l)

unfoldable pub read_item : Limits → Reader Item
read_item l = read_tree item_from (read_placed (read_both (read_whole_expr l) (read_perhaps alias_symbols read_alias)))

unfoldable pub read_items : Limits → Reader (Item × List Item)
read_items l = read_listed (read_item l)

unfoldable pub read_select_items : Limits → Reader SelectItems
read_select_items l = read_tree items_from (read_placed (read_choice (one symbol.Star) (read_fixed symbol.Star) (read_items l)))

unfoldable pub read_partition : Limits → Reader Partition
read_partition l =
    read_tree partition_from
    (read_both (read_fixed symbol.Over)
    (read_opened l.nesting (one symbol.Open)
    (read_both (read_fixed symbol.Partition) (read_both (read_fixed symbol.By) (read_both read_paths (read_fixed symbol.Close))))))

unfoldable pub read_group : Limits → Reader Group
read_group l = read_tree group_from (read_placed (read_both (read_whole_expr l) (read_perhaps (one symbol.Over) (read_partition l))))

unfoldable pub read_groups : Limits → Reader (Group × List Group)
read_groups l = read_listed (read_group l)

unfoldable pub read_group_by : Limits → Reader GroupBy
read_group_by l = read_tree group_by_from (read_both (read_fixed symbol.Group) (read_both (read_fixed symbol.By) (read_groups l)))

unfoldable pub read_having : Limits → Reader Having
read_having l = read_tree having_from (read_both (read_fixed symbol.Having) (read_whole_expr l))

unfoldable pub read_condition : Limits → Reader Expr
read_condition l = read_tree second_of (read_both (read_fixed symbol.Where) (read_whole_expr l))

unfoldable pub read_tail : Limits → Reader Tail
read_tail l =
    read_tree tail_from
    (read_both (read_fixed symbol.From)
    (read_both (read_source l)
    (read_both (read_joins l)
    (read_both (read_perhaps (one symbol.Where) (read_condition l))
    (read_both (read_perhaps (one symbol.Group) (read_group_by l)) (read_perhaps (one symbol.Having) (read_having l)))))))

unfoldable pub read_select : Limits → Reader Select
read_select l = read_tree select_from (read_both (read_fixed symbol.Select) (read_both (read_select_items l) (read_tail l)))

unfoldable pub read_union_more : Limits → Reader Select
read_union_more l = read_tree second_of (read_both (read_fixed symbol.Union) (read_select l))

unfoldable pub read_unions : Limits → Reader (List Select)
read_unions l = read_repeated (one symbol.Union) (read_union_more l)

unfoldable pub read_union : Limits → Reader Union
read_union l = read_tree union_from (read_both (read_select l) (read_unions l))

unfoldable pub read_def : Limits → Reader Def
read_def l =
    read_tree def_from
    (read_both read_name
    (read_both (read_fixed symbol.As)
    (read_opened l.nesting (one symbol.Open) (read_both (read_union (inside_opening l)) (read_fixed symbol.Close)))))

unfoldable pub read_defs : Limits → Reader (Def × List Def)
read_defs l = read_listed (read_def l)

unfoldable pub read_with : Limits → Reader With
read_with l = read_tree with_from (read_both (read_fixed symbol.With) (read_defs l))

unfoldable pub read_stmt : Limits → Reader Stmt
read_stmt l =
    read_tree stmt_from
    (read_both (read_fixed symbol.Select)
    (read_both (read_select_items l)
    (read_both (read_fixed symbol.Into) (read_both read_name (read_both (read_tail l) (read_unions l))))))

unfoldable pub read_semicolon : Reader ℕ
read_semicolon = read_tree place_of (read_fixed symbol.Semicolon)

unfoldable pub read_closed : Limits → Reader Closed
read_closed l = read_both (read_stmt l) (read_perhaps (one symbol.Semicolon) read_semicolon)

abbrev pub read_closeds : Limits → Reader (List Closed)
read_closeds l = read_repeated (one symbol.Select) (read_closed l)

unfoldable pub read_statements : Limits → Reader Script
read_statements l =
    read_tree script_from
    (read_placed (read_both (read_perhaps (one symbol.With) (read_with l))
    (read_both (read_closed l) (read_closeds l))))

abbrev pub read_script : Limits → Reader Script
read_script l = read_ended (read_statements l)

-- ---- whole texts

abbrev pub error_at : Stop → ℕ → ParseErr
error_at Expected place = expected_at place
error_at Deep place = deep_at place
error_at Memory place = no_memory

abbrev pub answer_by : Reading Script → Result Script ParseErr
answer_by (Ok read) = Ok read.0
answer_by (Err stop) = Err (error_at stop.0 (first_place stop.1))

-- the answer for these tokens of a text
abbrev pub answer_in : List ℕ → Result (List Token) ParseErr → Result Script ParseErr
answer_in text (Ok tokens) = answer_by (read_script query_limits (lexemes_of text tokens))
answer_in text (Err error) = Err error

-- the answer for a text
abbrev pub answer_of : List ℕ → Result Script ParseErr
answer_of text = answer_in text (tokens_of text)
