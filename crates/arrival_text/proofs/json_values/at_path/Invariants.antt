use Rattle.std.proofs.Common.{◌≡◌, drop}
use Rattle.serde_json.specs.View.{view}
use Rattle.arrival_text.specs.JsonItems.{at_path}
use Rattle.arrival_text.proofs.json_values.at_path.Given as goal

-- the rest of the path leads on from what is found
abbrev pub invariant-loop-name : goal.invariant-loop-name
invariant-loop-name l = at_path (drop l.name-index l.path) (view l.found) ≡ at_path l.path (view l.json)
