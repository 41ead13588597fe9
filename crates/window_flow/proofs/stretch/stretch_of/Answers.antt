use Rattle.std.proofs.Common.{◌≡◌, ◌-◌, length, take, drop, ap, ◌∙◌, arith}
use Rattle.window_flow.proofs.StretchLemmas.{stretch-none, stretch-places}
use Rattle.window_flow.proofs.stretch.stretch_of.Goals as goal

pub returns-then-first-end : goal.returns-then-first-end
returns-then-first-end c = λ o.
    stretch-places c.args.from c.args.upto c.count_below-first.result c.count_below-end.result c.args.rows.now o
    (c.count_below-first.ensures.count o) (c.count_below-end.ensures.count o) c.if-first-end.true

pub returns-else-first-end : goal.returns-else-first-end
returns-else-first-end c = λ o.
    let rows = c.args.rows.now in
    let none : length rows - length rows ≡ 0 = omega arith in
    ap (λ k. take k (drop (length rows) rows)) none
    ∙ stretch-none c.args.from c.args.upto c.count_below-first.result c.count_below-end.result rows o
    (c.count_below-first.ensures.count o) (c.count_below-end.ensures.count o) c.if-first-end.false
