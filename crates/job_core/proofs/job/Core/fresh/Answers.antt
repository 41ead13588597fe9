use Rattle.std.proofs.Common.{ap, sym, subst, ◌∙◌, map, arith}
use Rattle.job_core.specs.Fresh.{fresh_heard_of, lane_counts, lane_kinds}
use Rattle.job_core.specs.Heard.{log_of}
use Rattle.job_core.specs.Lanes.{AreOfStreams, LanesStand, name_of}
use Rattle.query_meaning.specs.Streams.{rows_of_streams}
use Rattle.job_core.proofs.StreamLemmas.{rows-order}
use Rattle.job_core.proofs.job.Core.fresh.Goals as goal

pub returns-clause-stands : goal.returns-clause-stands
returns-clause-stands c =
    let plan = c.args.plan.now in
    let inputs = c.args.inputs.now in
    let ready = c.in_ok-ready.ready in
    let same = sym c.in_ok-ready.ensures in
    let counts = c.in_ok-counts.counts in
    let lanes = c.in_ok-counts.lanes in
    let streams = rows_of_streams inputs.policy ready.streams (log_of counts (fresh_heard_of inputs plan.streams)) in
    record {
      are_of_streams =
          subst (λ p. AreOfStreams p.streams counts (map name_of lanes)) same
          (subst (λ uses. AreOfStreams uses counts (map name_of lanes)) c.items-2.ensures c.in_ok-counts.ensures.of);
      lanes_stand = subst (λ uses. LanesStand inputs.policy lanes (fresh_heard_of inputs uses) 0) c.items-2.ensures c.in_ok-counts.ensures.stand;
      pipeline_at =
          c.in_ok-pipeline.ensures streams (rows-order inputs.policy ready.streams (log_of counts (fresh_heard_of inputs plan.streams)));
      before_end = omega arith;
    }

pub returns-clause-lanes : goal.returns-clause-lanes
returns-clause-lanes c = c.in_ok-counts.ensures.kinds ∙ ap (lane_kinds c.args.inputs.now) c.items-2.ensures

pub returns-clause-counts : goal.returns-clause-counts
returns-clause-counts c = c.in_ok-counts.ensures.counts ∙ ap (lane_counts c.args.inputs.now) c.items-2.ensures
