-- The grammar of statements, within limits: of the tokens of an expression that stands in no other, and of how many
-- openings may be open at once.
use Rattle.std.proofs.Common.{inl, inr}
use Rattle.std.specs.Prelude.{◌⊎◌, ℕ, List, [], ◌∷◌, Bool, is_some, Option, Some, None}
use Rattle.grammar_rules.specs.Lexemes.{Lexeme}
use Rattle.grammar_rules.specs.Rules.{Grammar, both, tree, placed, choice, perhaps, repeated, opened, within, ended}
use Rattle.query_tokens.specs.declared.symbol.Symbol.TheVariants as symbol
use Rattle.query_tree.specs.declared.name.Name.{Name}
use Rattle.query_tree.specs.declared.name.Path.{Path}
use Rattle.query_tree.specs.declared.expr.Expr.{Expr}
use Rattle.query_tree.specs.declared.source.Source.{Source}
use Rattle.query_tree.specs.declared.source.Alias.{Alias}
use Rattle.query_tree.specs.declared.source.Stamp.{Stamp}
use Rattle.query_tree.specs.declared.source.Over.{Over}
use Rattle.query_tree.specs.declared.source.Join.{Join}
use Rattle.query_tree.specs.declared.source.Side.{Side}
use Rattle.query_tree.specs.declared.source.Side.TheVariants as side
use Rattle.query_tree.specs.declared.select.Select.{Select}
use Rattle.query_tree.specs.declared.select.SelectItems.{SelectItems}
use Rattle.query_tree.specs.declared.select.SelectItems.TheVariants as items
use Rattle.query_tree.specs.declared.select.Item.{Item}
use Rattle.query_tree.specs.declared.select.Tail.{Tail}
use Rattle.query_tree.specs.declared.select.GroupBy.{GroupBy}
use Rattle.query_tree.specs.declared.select.Group.{Group}
use Rattle.query_tree.specs.declared.select.Partition.{Partition}
use Rattle.query_tree.specs.declared.select.Having.{Having}
use Rattle.query_tree.specs.declared.script.Script.{Script}
use Rattle.query_tree.specs.declared.script.With.{With}
use Rattle.query_tree.specs.declared.script.Def.{Def}
use Rattle.query_tree.specs.declared.script.Union.{Union}
use Rattle.query_tree.specs.declared.script.Stmt.{Stmt}
use Rattle.query_tree.specs.declared.script.MoreStmt.{MoreStmt}
use Rattle.query_grammar.specs.Lists.{one, fixed, flagged, listed, second_of, name, path}
use Rattle.query_grammar.specs.ExpressionGrammar.{expr, lower}

pub record Limits : Type 0 where
  pub tokens : ℕ
  pub nesting : ℕ

-- the limits inside an opening
abbrev pub inside_opening : Limits → Limits
inside_opening l = record { tokens = l.tokens; nesting = lower l.nesting }

-- an expression that stands in no other
unfoldable pub whole_expr : Limits → Grammar Expr
whole_expr l = within l.tokens (expr l.nesting)

-- ---- sources

abbrev pub alias_from : ℕ × (Bool × Name) → Alias
alias_from parts = record { place = parts.0; written = parts.1.0; name = parts.1.1 }

-- [AS] name
unfoldable pub alias : Grammar Alias
alias = tree alias_from (placed (both (flagged symbol.As) name))

abbrev pub over_from : Lexeme × (Path × List Path) → Over
over_from parts = record { place = parts.0.place; first = parts.1.0; more = parts.1.1 }

-- OVER column {"," column}
unfoldable pub over : Grammar Over
over = tree over_from (both (fixed symbol.Over) (listed path))

abbrev pub stamp_from : Lexeme × (Lexeme × (Expr × Option Over)) → Stamp
stamp_from parts = record { place = parts.0.place; expr = parts.1.1.0; over = parts.1.1.1 }

-- TIMESTAMP BY expr [OVER column {"," column}]
unfoldable pub stamp : Limits → Grammar Stamp
stamp l = tree stamp_from (both (fixed symbol.Timestamp) (both (fixed symbol.By) (both (whole_expr l) (perhaps over))))

abbrev pub source_from : Name × (Option Alias × Option Stamp) → Source
source_from parts = record { place = parts.0.place; name = parts.0; alias = parts.1.0; stamp = parts.1.1 }

-- name [[AS] name] [TIMESTAMP BY expr [OVER column {"," column}]]
unfoldable pub source : Limits → Grammar Source
source l = tree source_from (both name (both (perhaps alias) (perhaps (stamp l))))

abbrev pub side_from : Lexeme ⊎ (Lexeme × Bool) → Side
side_from (inl word) = side.Inner word.place
side_from (inr words) = side.Left words.0.place words.1

-- INNER | LEFT [OUTER]
unfoldable pub join_side : Grammar Side
join_side = tree side_from (choice (fixed symbol.Inner) (both (fixed symbol.Left) (flagged symbol.Outer)))

-- ON expr
unfoldable pub on : Limits → Grammar Expr
on l = tree second_of (both (fixed symbol.On) (whole_expr l))

abbrev pub join_from : ℕ × (Option Side × (Lexeme × (Source × Expr))) → Join
join_from parts = record {
  place = parts.0;
  side = parts.1.0;
  join_place = parts.1.1.0.place;
  source = parts.1.1.1.0;
  on = parts.1.1.1.1;
}

-- [INNER | LEFT [OUTER]] JOIN source ON expr
unfoldable pub join : Limits → Grammar Join
join l =
    tree join_from (placed (both (perhaps join_side) (both (fixed symbol.Join) (both (source l) (on l)))))

-- ---- selects

abbrev pub item_from : ℕ × (Expr × Option Alias) → Item
item_from parts = record { place = parts.0; expr = parts.1.0; alias = parts.1.1 }

-- expr [[AS] name]
unfoldable pub item : Limits → Grammar Item
item l = tree item_from (placed (both (whole_expr l) (perhaps alias)))

abbrev pub items_from : ℕ × (Lexeme ⊎ (Item × List Item)) → SelectItems
items_from (place, inl star) = items.Star place
items_from (place, inr parts) = items.Listed place parts.0 parts.1

-- "*" | item {"," item}
unfoldable pub select_items : Limits → Grammar SelectItems
select_items l = tree items_from (placed (choice (fixed symbol.Star) (listed (item l))))

abbrev pub PartitionParts : Type 0
PartitionParts = Lexeme × (Lexeme × (Lexeme × (Lexeme × ((Path × List Path) × Lexeme))))

abbrev pub partition_from : PartitionParts → Partition
partition_from parts = record { place = parts.0.place; first = parts.1.1.1.1.0.0; more = parts.1.1.1.1.0.1 }

-- OVER "(" PARTITION BY column {"," column} ")"
unfoldable pub partition : Limits → Grammar Partition
partition l =
    tree partition_from
    (both (fixed symbol.Over)
    (opened l.nesting (one symbol.Open)
    (both (fixed symbol.Partition) (both (fixed symbol.By) (both (listed path) (fixed symbol.Close))))))

abbrev pub group_from : ℕ × (Expr × Option Partition) → Group
group_from parts = record { place = parts.0; expr = parts.1.0; partition = parts.1.1 }

-- expr [OVER "(" PARTITION BY column {"," column} ")"]
unfoldable pub group : Limits → Grammar Group
group l = tree group_from (placed (both (whole_expr l) (perhaps (partition l))))

abbrev pub group_by_from : Lexeme × (Lexeme × (Group × List Group)) → GroupBy
group_by_from parts = record { place = parts.0.place; first = parts.1.1.0; more = parts.1.1.1 }

-- GROUP BY group {"," group}
unfoldable pub group_by : Limits → Grammar GroupBy
group_by l = tree group_by_from (both (fixed symbol.Group) (both (fixed symbol.By) (listed (group l))))

abbrev pub having_from : Lexeme × Expr → Having
having_from parts = record { place = parts.0.place; condition = parts.1 }

-- HAVING expr
unfoldable pub having : Limits → Grammar Having
having l = tree having_from (both (fixed symbol.Having) (whole_expr l))

-- WHERE expr
unfoldable pub condition : Limits → Grammar Expr
condition l = tree second_of (both (fixed symbol.Where) (whole_expr l))

abbrev pub TailParts : Type 0
TailParts = Lexeme × (Source × (List Join × (Option Expr × (Option GroupBy × Option Having))))

abbrev pub tail_from : TailParts → Tail
tail_from parts = record {
  place = parts.0.place;
  source = parts.1.0;
  joins = parts.1.1.0;
  condition = parts.1.1.1.0;
  groups = parts.1.1.1.1.0;
  having = parts.1.1.1.1.1;
}

-- FROM source {join} [WHERE expr] [GROUP BY group {"," group}] [HAVING expr]
unfoldable pub tail : Limits → Grammar Tail
tail l =
    tree tail_from
    (both (fixed symbol.From)
    (both (source l)
    (both (repeated (join l)) (both (perhaps (condition l)) (both (perhaps (group_by l)) (perhaps (having l)))))))

abbrev pub select_from : Lexeme × (SelectItems × Tail) → Select
select_from parts = record { place = parts.0.place; items = parts.1.0; tail = parts.1.1 }

-- SELECT items tail
unfoldable pub select : Limits → Grammar Select
select l = tree select_from (both (fixed symbol.Select) (both (select_items l) (tail l)))

-- UNION select
unfoldable pub union_more : Limits → Grammar Select
union_more l = tree second_of (both (fixed symbol.Union) (select l))

-- ---- statements

abbrev pub union_from : Select × List Select → Union
union_from parts = record { place = parts.0.place; first = parts.0; more = parts.1 }

-- select {UNION select}
unfoldable pub union : Limits → Grammar Union
union l = tree union_from (both (select l) (repeated (union_more l)))

abbrev pub DefParts : Type 0
DefParts = Name × (Lexeme × (Lexeme × (Union × Lexeme)))

abbrev pub def_from : DefParts → Def
def_from parts = record { place = parts.0.place; name = parts.0; union = parts.1.1.1.0 }

-- name AS "(" union ")"
unfoldable pub def : Limits → Grammar Def
def l =
    tree def_from
    (both name
    (both (fixed symbol.As)
    (opened l.nesting (one symbol.Open) (both (union (inside_opening l)) (fixed symbol.Close)))))

abbrev pub with_from : Lexeme × (Def × List Def) → With
with_from parts = record { place = parts.0.place; first = parts.1.0; more = parts.1.1 }

-- WITH def {"," def}
unfoldable pub with_defs : Limits → Grammar With
with_defs l = tree with_from (both (fixed symbol.With) (listed (def l)))

abbrev pub StmtParts : Type 0
StmtParts = Lexeme × (SelectItems × (Lexeme × (Name × (Tail × List Select))))

abbrev pub stmt_from : StmtParts → Stmt
stmt_from parts = record {
  place = parts.0.place;
  items = parts.1.0;
  output = parts.1.1.1.0;
  tail = parts.1.1.1.1.0;
  more = parts.1.1.1.1.1;
}

-- SELECT items INTO name tail {UNION select}
unfoldable pub stmt : Limits → Grammar Stmt
stmt l =
    tree stmt_from
    (both (fixed symbol.Select)
    (both (select_items l) (both (fixed symbol.Into) (both name (both (tail l) (repeated (union_more l)))))))

-- the place of a semicolon
abbrev pub place_of : Lexeme → ℕ
place_of t = t.place

unfoldable pub semicolon : Grammar ℕ
semicolon = tree place_of (fixed symbol.Semicolon)

-- a statement, and the place of the semicolon that may stand behind it
abbrev pub Closed : Type 0
Closed = Stmt × Option ℕ

unfoldable pub closed : Limits → Grammar Closed
closed l = both (stmt l) (perhaps semicolon)

-- the place of a statement with the semicolon before it
abbrev pub place_behind : Option ℕ → Stmt → ℕ
place_behind None s = s.place
place_behind (Some place) s = place

abbrev pub stmt_behind : Option ℕ → Stmt → MoreStmt
stmt_behind before s = record { place = place_behind before s; semicolon = is_some before; stmt = s }

-- the statements behind one, each with the semicolon before it
abbrev pub more_stmts : Option ℕ → List Closed → List MoreStmt
more_stmts before [] = []
more_stmts before (next ∷ others) = stmt_behind before next.0 ∷ more_stmts next.1 others

-- the semicolon behind the last statement
abbrev pub last_semicolon : Option ℕ → List Closed → Option ℕ
last_semicolon before [] = before
last_semicolon before (next ∷ others) = last_semicolon next.1 others

abbrev pub stmts_behind : Option ℕ → List Closed → List MoreStmt × Option ℕ
stmts_behind before others = (more_stmts before others, last_semicolon before others)

abbrev pub script_from : ℕ × (Option With × (Closed × List Closed)) → Script
script_from parts = record {
  place = parts.0;
  with = parts.1.0;
  first = parts.1.1.0.0;
  more = more_stmts parts.1.1.0.1 parts.1.1.1;
  semicolon = is_some (last_semicolon parts.1.1.0.1 parts.1.1.1);
}

-- [WITH def {"," def}] stmt {[";"] stmt} [";"]
unfoldable pub statements : Limits → Grammar Script
statements l = tree script_from (placed (both (perhaps (with_defs l)) (both (closed l) (repeated (closed l)))))

-- and then the end of the text
abbrev pub script : Limits → Grammar Script
script l = ended (statements l)
