use Rattle.std.proofs.Common.{◌++◌, List, map, ap, ◌∙◌, arith}
use Rattle.std.proofs.lemmas.List.{take_all}
use Rattle.row_groups.proofs.TallyLemmas.{tally_values-tallies_of}
use Rattle.row_groups.specs.Tallies.{tally_value}
use Rattle.row_groups.specs.declared.tally.Tally.{Tally}
use Rattle.row_groups.proofs.tallies.Tallies.push_values.Goals as goal

pub returns-clause-meaning : goal.returns-clause-meaning
returns-clause-meaning c =
    let old = c.args.values.now in
    let items = c.deref-tally-items.result.now in
    λ aggregates rows same.
    c.loop-tally.invariant
    ∙ ap (λ (tallies : List Tally). old ++ map tally_value tallies) (take_all c.loop-tally.tally-index items (omega arith) ∙ c.deref-tally-items.ensures.value ∙ c.self.view_is ∙ same)
    ∙ ap (λ values. old ++ values) (tally_values-tallies_of aggregates rows)
