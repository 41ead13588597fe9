use Rattle.std.proofs.Common.{◌++◌, ◌∙◌, ap, sym, rules}
use Rattle.std.proofs.lemmas.List.{append-nil}
use Rattle.std.specs.List.{flat_map}
use Rattle.arrival_text.specs.JsonItems.{line_items}
use Rattle.arrival_text.proofs.LinesLemmas.{lines-none}
use Rattle.arrival_text.proofs.json_lines.json_items.Goals as goal

pub returns-clause-items : goal.returns-clause-items
returns-clause-items c =
    sym (append-nil c.loop-rest.items) ∙ ap (λ rest. c.loop-rest.items ++ flat_map (line_items c.args.columns.now c.args.stamped) rest) (sym (lines-none c.loop-rest.rest.now (search rules))) ∙ c.loop-rest.invariant.items
