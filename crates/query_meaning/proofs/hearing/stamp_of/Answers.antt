use Rattle.std.proofs.Common.{ap, sym, ◌∙◌}
use Rattle.expr_eval.specs.Values.{value_of}
use Rattle.query_meaning.specs.Streams as spec
use Rattle.query_meaning.proofs.hearing.stamp_of.Goals as goal

pub returns-in_ok-value-in-Some : goal.returns-in_ok-value-in-Some
returns-in_ok-value-in-Some c =
    let values = c.args.values.now in
    c.moment_in.ensures
    ∙ ap spec.moment_in c.in_ok-value-in-Some.ensures
    ∙ ap (λ time. spec.moment_in (value_of values time c.in-Some.expr)) c.zero.ensures
    ∙ sym (ap (λ stamp. spec.stamp_of stamp values) c.in-Some.is)
