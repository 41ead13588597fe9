use Rattle.std.proofs.Common.{ℕ, ◌-◌, filter, ap, sym, ◌∙◌, rules}
use Rattle.std.specs.Prelude.{nat_le, Option}
use Rattle.std.proofs.lemmas.Fn.{filter_same}
use Rattle.event_value.specs.declared.record.Stamped.{Stamped}
use Rattle.stream_op.specs.Rows.{from_on}
use Rattle.window_flow.specs.Groups.{within}
use Rattle.window_flow.proofs.parted.held_within.Goals as goal

pub returns : goal.returns
returns c =
    let first = c.saturating_sub-first.result in
    let kept = filter_same _ (λ (row : Stamped). nat_le first row.time) _ (λ x b f k. search rules) _ _ c.retain.ensures.filtered in
    c.from_vec.ensures
    ∙ kept
    ∙ ap (filter (λ (row : Stamped). nat_le first row.time)) c.into_vec-rows.ensures
    ∙ ap (λ (n : ℕ). from_on n c.args.rows) (c.saturating_sub-first.ensures ∙ ap (λ (t : ℕ). t - c.in-Some.ticks) c.count.ensures.value)
    ∙ sym (ap (λ (n : Option ℕ). within n c.args.upto c.args.rows) c.in-Some.is)
