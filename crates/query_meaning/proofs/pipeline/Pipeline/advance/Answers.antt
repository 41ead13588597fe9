use Rattle.std.proofs.Common.{◌≤◌, ap, length, map, sym, subst, ◌∙◌, arith}
use Rattle.query_meaning.specs.Lists.{all_between, behind_each}
use Rattle.query_meaning.specs.Meaning.{no_rows, outputs_over}
use Rattle.query_meaning.specs.Pipeline.{IsAt}
use Rattle.query_meaning.proofs.PlanLemmas.{plan-laws}
use Rattle.query_meaning.proofs.PipelineLemmas.{AreNew-piece, as_many-outputs, behind_each-between, no_rows-between}
use Rattle.query_meaning.proofs.pipeline.Pipeline.advance.Goals as goal

pub loop-piece-init : goal.loop-piece-init
loop-piece-init c = λ streams w at le new.
    let plan = c.args.plan.now in record {
      later = subst (λ v. w ≤ v) (sym at.upto_is) (omega arith);
      within = subst (λ v. v ≤ c.args.upto) (sym at.upto_is) le;
      at = subst (IsAt c.args.self plan streams) (sym at.upto_is) at;
      rows_are =
          c.in_ok-rows.ensures
          ∙ ap (map no_rows) c.items.ensures
          ∙ no_rows-between w plan streams
          ∙ ap (λ v. all_between w v (outputs_over plan streams)) (sym at.upto_is);
    }

pub loop-piece-preserved : goal.loop-piece-preserved
loop-piece-preserved c = λ streams w at le new.
    let plan = c.args.plan.now in
    let old = c.loop-piece.invariant streams w at le new in
    let v = c.loop-piece.pipeline.upto in
    let m = c.moment_within-moment.result in
    let moment = c.moment_within-moment.ensures old.within in
    let gone = c.in_ok-next.ensures streams old.at moment.0 (AreNew-piece v m w c.args.upto streams c.args.sources.now old.later moment.1 new)
    (ap length old.rows_are ∙ as_many-outputs w v plan streams) in
    record {
      later = subst (λ n. w ≤ n) (sym gone.1.upto_is) (omega (arith, old.later, moment.0));
      within = subst (λ n. n ≤ c.args.upto) (sym gone.1.upto_is) moment.1;
      at = subst (IsAt c.in_ok-next.next plan streams) (sym gone.1.upto_is) gone.1;
      rows_are =
          gone.0
          ∙ ap (λ l. behind_each l (all_between v m (outputs_over plan streams))) old.rows_are
          ∙ behind_each-between w v m (outputs_over plan streams) old.later moment.0 ((plan-laws plan).in_order streams at.in_order)
          ∙ ap (λ n. all_between w n (outputs_over plan streams)) (sym gone.1.upto_is);
    }

pub returns : goal.returns
returns c = λ streams w at le new.
    let plan = c.args.plan.now in
    let u = c.args.upto in
    let old = c.loop-piece.invariant streams w at le new in
    let v = c.loop-piece.pipeline.upto in
    let gone = c.in_ok-pipeline.ensures streams old.at old.within (AreNew-piece v u w u streams c.args.sources.now old.later (omega arith) new)
    (ap length old.rows_are ∙ as_many-outputs w v plan streams) in (
      gone.0
          ∙ ap (λ l. behind_each l (all_between v u (outputs_over plan streams))) old.rows_are
          ∙ behind_each-between w v u (outputs_over plan streams) old.later old.within ((plan-laws plan).in_order streams at.in_order),
      gone.1,
    )
