use Rattle.std.proofs.Common.{◌<◌, ℕ, List, ◌++◌, map, take, drop, set, get_or, length, sym, ap, ◌∙◌, add-one, arith}
use Rattle.row_groups.proofs.ReplaceLemmas.{replaced-next}
use Rattle.row_groups.specs.Tallies.{tally_with}
use Rattle.row_groups.specs.declared.tally.Tally.{Tally}
use Rattle.row_groups.proofs.tallies.Tallies.add.Goals as goal

pub loop-tally-preserved : goal.loop-tally-preserved
loop-tally-preserved c =
    let f = λ (t : Tally). tally_with c.args.row.now t in
    let xs = c.deref_mut-tally-items.result.now in
    let items = c.loop-tally.tally-items in
    let i = c.loop-tally.tally-index in
    let item = c.tally-item.result in
    let within : i < length xs = omega arith in
    ap (λ (t : Tally). set items i t) c.in_ok-add.ensures
    ∙ ap (λ (l : List Tally). set l i (f (get_or l i item))) c.loop-tally.invariant
    ∙ replaced-next f xs i item within
    ∙ ap (λ (n : ℕ). map f (take n xs) ++ drop n xs) (sym (add-one i))
