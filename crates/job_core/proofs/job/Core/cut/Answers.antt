use Rattle.std.proofs.Common.{◌≡◌, ◌≤◌, refl, ap, sym, subst, ◌∙◌, map, arith}
use Rattle.query_meaning.specs.Lists.{AreNew, all_between}
use Rattle.query_meaning.specs.Meaning.{outputs_over}
use Rattle.query_meaning.specs.Pipeline.{IsAt}
use Rattle.query_meaning.specs.Streams.{rows_of_streams}
use Rattle.job_core.specs.Batches.{printed_outputs}
use Rattle.job_core.specs.Core.{core_rows, core_watermark}
use Rattle.job_core.specs.Gathered.{gathered}
use Rattle.job_core.specs.Heard.{cut_lane, log_of}
use Rattle.job_core.specs.Lane.{own_watermark}
use Rattle.job_core.specs.Lanes.{AreOfStreams, LanesStand, kind_of, least, name_of}
use Rattle.job_core.specs.declared.lane.Lane.{Lane}
use Rattle.job_core.proofs.CoreLemmas.{drops-stand, each-released, kind-same, name-same, names-many, own-marks, places-stand, rows-new, settled-least, stand-released, watermark-own}
use Rattle.job_core.proofs.StreamLemmas.{drops-since, each_lane, log-cut, mark_of, watermark-within}
use Rattle.job_core.proofs.job.Core.cut.Goals as goal

pub returns-clause-cut : goal.returns-clause-cut
returns-clause-cut c = λ heard w stands.
    let core = c.args.self in
    let policy = core.policy in
    let uses = core.plan.streams in
    let counts = core.counts in
    let lanes = core.lanes in
    let upto = c.least_watermark-upto.result in
    let u = core_watermark core heard in
    let upto_is : upto ≡ u =
    c.least_watermark-upto.ensures
    ∙ ap (λ l. least (map own_watermark l)) c.items.ensures
    ∙ watermark-own policy uses counts lanes heard w stands.are_of_streams stands.lanes_stand in
    let marks_are : upto ≡ least (each_lane (mark_of policy) (map name_of lanes) heard) =
    c.least_watermark-upto.ensures
    ∙ ap (λ l. least (map own_watermark l)) c.items.ensures
    ∙ ap least (own-marks policy lanes heard w stands.lanes_stand) in
    let le : w ≤ upto = omega (arith, marks_are, settled-least policy lanes heard w stands.before_end stands.lanes_stand) in
    let within : upto ≤ least (each_lane (mark_of policy) (map name_of lanes) heard) = omega (arith, marks_are) in
    let released = c.in_ok-lanes.ensures.released in
    let streams = core_rows core heard in
    let new : AreNew w upto streams c.items-4.result.now =
    rows-new policy uses counts lanes c.in_ok-lanes.lanes heard w upto c.in_ok-lanes.rows c.items-4.result.now stands.are_of_streams stands.lanes_stand released
    (c.items-4.ensures ∙ c.in_ok-streams.ensures ∙ ap (λ n. gathered n c.in_ok-lanes.rows) c.items-3.ensures) in
    let gone = c.in_ok-pipeline.ensures streams w stands.pipeline_at le new in (
      record {
        outputs_are =
            c.in_ok-outputs.ensures
            ∙ ap (λ os. printed_outputs core.start os c.items-6.result.now) c.items-5.ensures
            ∙ ap (printed_outputs core.start core.plan.outputs) (c.items-6.ensures ∙ gone.0)
            ∙ ap (λ v. printed_outputs core.start core.plan.outputs (all_between w v (outputs_over core.plan streams))) upto_is;
        drops_are =
            c.in_ok-lanes.ensures.drops
            ∙ drops-stand policy lanes heard w stands.lanes_stand
            ∙ sym (drops-since policy uses counts (map name_of lanes) heard stands.are_of_streams (names-many policy lanes heard w stands.lanes_stand));
        positions_are =
            c.in_ok-positions.ensures
            ∙ ap (map (λ (lane : Lane). lane.place)) c.items-2.ensures
            ∙ places-stand policy lanes heard w stands.lanes_stand;
        upto_is = upto_is;
      },
      record {
        are_of_streams = subst (AreOfStreams uses counts) (sym (each-released name_of name-same upto lanes c.in_ok-lanes.lanes c.in_ok-lanes.rows released)) stands.are_of_streams;
        lanes_stand =
            subst (LanesStand policy c.in_ok-lanes.lanes (map cut_lane heard)) upto_is
            (stand-released policy lanes c.in_ok-lanes.lanes heard w upto c.in_ok-lanes.rows le within stands.lanes_stand released);
        pipeline_at =
            subst (λ log. IsAt c.in_ok-pipeline.pipeline core.plan (rows_of_streams policy uses log) u) (sym (log-cut counts heard))
            (subst (IsAt c.in_ok-pipeline.pipeline core.plan streams) upto_is gone.1);
        before_end = watermark-within policy uses (log_of counts heard);
      },
    )

pub returns-clause-same : goal.returns-clause-same
returns-clause-same c = record {
  plan_is = refl;
  policy_is = refl;
  start_is = refl;
  counts_are = refl;
  lanes_are = each-released kind_of kind-same c.least_watermark-upto.result c.args.self.lanes c.in_ok-lanes.lanes c.in_ok-lanes.rows c.in_ok-lanes.ensures.released;
}
