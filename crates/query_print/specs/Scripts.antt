-- The words of a query, node by node, and its canonical text.
use Rattle.std.specs.Prelude.{◌∷◌, [], ◌++◌, List, ℕ, map, Option, Some, None}
use Rattle.query_tokens.specs.declared.symbol.Symbol.TheVariants as symbol
use Rattle.query_tree.specs.declared.expr.Expr.{Expr}
use Rattle.query_tree.specs.declared.source.Source.{Source}
use Rattle.query_tree.specs.declared.source.Alias.{Alias}
use Rattle.query_tree.specs.declared.source.Stamp.{Stamp}
use Rattle.query_tree.specs.declared.source.Over.{Over}
use Rattle.query_tree.specs.declared.source.Join.{Join}
use Rattle.query_tree.specs.declared.source.Side.{Side}
use Rattle.query_tree.specs.declared.source.Side.TheVariants as side
use Rattle.query_tree.specs.declared.select.Select.{Select}
use Rattle.query_tree.specs.declared.select.SelectItems.{SelectItems}
use Rattle.query_tree.specs.declared.select.SelectItems.TheVariants as items
use Rattle.query_tree.specs.declared.select.Item.{Item}
use Rattle.query_tree.specs.declared.select.Tail.{Tail}
use Rattle.query_tree.specs.declared.select.GroupBy.{GroupBy}
use Rattle.query_tree.specs.declared.select.Group.{Group}
use Rattle.query_tree.specs.declared.select.Partition.{Partition}
use Rattle.query_tree.specs.declared.select.Having.{Having}
use Rattle.query_tree.specs.declared.script.Script.{Script}
use Rattle.query_tree.specs.declared.script.With.{With}
use Rattle.query_tree.specs.declared.script.Def.{Def}
use Rattle.query_tree.specs.declared.script.Union.{Union}
use Rattle.query_tree.specs.declared.script.Stmt.{Stmt}
use Rattle.query_tree.specs.declared.script.MoreStmt.{MoreStmt}
use Rattle.query_print.specs.Words.{Fixed, Named, text_of}
use Rattle.query_print.specs.Expressions.{Words, fixed, flag, each_behind, all_words, with_commas, path_words, expr_words}

-- a part that may be absent
abbrev pub optional : {A : Type 0} → (A → Words) → Option A → Words
optional words None = []
optional words (Some part) = words part

-- parts with commas
abbrev pub listed : {A : Type 0} → (A → Words) → A → List A → Words
listed words first others = with_commas (words first) (map words others)

-- ---- sources

unfoldable pub alias_words : Alias → Words
alias_words alias = flag symbol.As alias.written ++ (Named alias.name.text ∷ [])

unfoldable pub over_words : Over → Words
over_words over = Fixed symbol.Over ∷ listed path_words over.first over.more

unfoldable pub stamp_words : Stamp → Words
stamp_words stamp = Fixed symbol.Timestamp ∷ Fixed symbol.By ∷ expr_words stamp.expr ++ optional over_words stamp.over

unfoldable pub source_words : Source → Words
source_words source = Named source.name.text ∷ optional alias_words source.alias ++ optional stamp_words source.stamp

unfoldable pub side_words : Side → Words
side_words (side.Inner place) = fixed symbol.Inner
side_words (side.Left place outer) = Fixed symbol.Left ∷ flag symbol.Outer outer

unfoldable pub join_words : Join → Words
join_words join =
    optional side_words join.side
    ++ (Fixed symbol.Join ∷ source_words join.source ++ (Fixed symbol.On ∷ expr_words join.on))

-- ---- selects

unfoldable pub item_words : Item → Words
item_words item = expr_words item.expr ++ optional alias_words item.alias

unfoldable pub items_words : SelectItems → Words
items_words (items.Star place) = fixed symbol.Star
items_words (items.Listed place first others) = listed item_words first others

unfoldable pub partition_words : Partition → Words
partition_words partition =
    Fixed symbol.Over ∷ Fixed symbol.Open ∷ Fixed symbol.Partition ∷ Fixed symbol.By
    ∷ listed path_words partition.first partition.more ++ fixed symbol.Close

unfoldable pub group_words : Group → Words
group_words group = expr_words group.expr ++ optional partition_words group.partition

unfoldable pub group_by_words : GroupBy → Words
group_by_words groups = Fixed symbol.Group ∷ Fixed symbol.By ∷ listed group_words groups.first groups.more

unfoldable pub having_words : Having → Words
having_words having = Fixed symbol.Having ∷ expr_words having.condition

abbrev pub where_words : Expr → Words
where_words condition = Fixed symbol.Where ∷ expr_words condition

unfoldable pub tail_words : Tail → Words
tail_words tail =
    Fixed symbol.From ∷ source_words tail.source
    ++ (all_words (map join_words tail.joins)
    ++ (optional where_words tail.condition
    ++ (optional group_by_words tail.groups ++ optional having_words tail.having)))

unfoldable pub select_words : Select → Words
select_words select = Fixed symbol.Select ∷ items_words select.items ++ tail_words select.tail

-- ---- statements

-- further selects, each behind UNION
abbrev pub unions_words : List Select → Words
unions_words selects = each_behind symbol.Union (map select_words selects)

unfoldable pub union_words : Union → Words
union_words union = select_words union.first ++ unions_words union.more

unfoldable pub def_words : Def → Words
def_words def =
    Named def.name.text ∷ Fixed symbol.As ∷ Fixed symbol.Open ∷ union_words def.union ++ fixed symbol.Close

unfoldable pub defs_words : With → Words
defs_words with = Fixed symbol.With ∷ listed def_words with.first with.more

unfoldable pub stmt_words : Stmt → Words
stmt_words stmt =
    Fixed symbol.Select ∷ items_words stmt.items
    ++ (Fixed symbol.Into ∷ Named stmt.output.text ∷ tail_words stmt.tail ++ unions_words stmt.more)

unfoldable pub more_words : MoreStmt → Words
more_words next = flag symbol.Semicolon next.semicolon ++ stmt_words next.stmt

unfoldable pub script_words : Script → Words
script_words script =
    optional defs_words script.with
    ++ (stmt_words script.first ++ (all_words (map more_words script.more) ++ flag symbol.Semicolon script.semicolon))

-- the canonical text of a query
unfoldable pub canonical_text : Script → List ℕ
canonical_text script = text_of (script_words script)
