-- The names of all sources that a script names, in order of the text.
use Rattle.std.specs.Prelude.{map, Option, Some, None, List, [], ◌∷◌, ◌++◌}
use Rattle.query_tree.specs.declared.name.Name.{Name}
use Rattle.query_tree.specs.declared.script.Def.{Def}
use Rattle.query_tree.specs.declared.script.MoreStmt.{MoreStmt}
use Rattle.query_tree.specs.declared.script.Script.{Script}
use Rattle.query_tree.specs.declared.script.Stmt.{Stmt}
use Rattle.query_tree.specs.declared.script.Union.{Union}
use Rattle.query_tree.specs.declared.script.With.{With}
use Rattle.query_tree.specs.declared.select.Select.{Select}
use Rattle.query_tree.specs.declared.select.Tail.{Tail}
use Rattle.query_tree.specs.declared.source.Join.{Join}

abbrev pub name_of_join : Join → Name
name_of_join j = j.source.name

abbrev pub names_of_tail : Tail → List Name
names_of_tail t = t.source.name ∷ map name_of_join t.joins

abbrev pub names_of_selects : List Select → List Name
names_of_selects [] = []
names_of_selects (s ∷ ss) = names_of_tail s.tail ++ names_of_selects ss

abbrev pub names_of_union : Union → List Name
names_of_union u = names_of_tail u.first.tail ++ names_of_selects u.more

abbrev pub names_of_statement : Stmt → List Name
names_of_statement s = names_of_tail s.tail ++ names_of_selects s.more

abbrev pub names_of_defs : List Def → List Name
names_of_defs [] = []
names_of_defs (def ∷ more) = names_of_union def.union ++ names_of_defs more

abbrev pub names_of_with : With → List Name
names_of_with w = names_of_union w.first.union ++ names_of_defs w.more

abbrev pub names_of_perhaps : Option With → List Name
names_of_perhaps None = []
names_of_perhaps (Some w) = names_of_with w

abbrev pub names_of_statements : List MoreStmt → List Name
names_of_statements [] = []
names_of_statements (m ∷ more) = names_of_statement m.stmt ++ names_of_statements more

unfoldable pub names_of_script : Script → List Name
names_of_script s =
    names_of_perhaps s.with ++ (names_of_statement s.first ++ names_of_statements s.more)
