use Rattle.std.proofs.Common.{ℕ, ◌+◌, ◌-◌, ap, ◌∙◌}
use Rattle.stream_op.specs.Rows.{between}
use Rattle.window_flow.proofs.StretchLemmas.{content-between}
use Rattle.window_flow.proofs.sliding.held_at.Goals as goal

pub returns : goal.returns
returns c = λ o.
    let rows = c.args.rows.now in
    let size = c.args.size in
    c.stretch_of.ensures o
    ∙ ap (λ (n : ℕ). between n (c.count-next.result + 1) rows) c.saturating_sub.ensures
    ∙ ap (λ (n : ℕ). between (n + 1 - size) (n + 1) rows) c.count-next.ensures.value
    ∙ content-between size c.args.moment rows
