-- What the canonical text of a query is as a query.
use Rattle.std.specs.Prelude.{ℕ, List, length, ◌≤◌}
use Rattle.query_tokens.specs.Bytes.{max_text}
use Rattle.query_tree.specs.declared.script.Script.{Script}
use Rattle.query_grammar.specs.Queries.{IsScript}
use Rattle.query_print.specs.Scripts.{canonical_text}
use Rattle.query_print.specs.Unplaced.{IsSameButPlaces}

-- where the canonical text of a text's tree isn't too long for a query, it is a text of that tree again, but for the places
unfoldable pub IsReadAgain : List ℕ → Script → Type 0
IsReadAgain text script =
    IsScript text script → length (canonical_text script) ≤ max_text
    → (again : Script) × IsScript (canonical_text script) again × IsSameButPlaces again script
