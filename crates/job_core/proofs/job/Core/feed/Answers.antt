use Rattle.std.proofs.Common.{◌<◌, refl, ap, sym, subst, ◌∙◌, map, length}
use Rattle.job_core.specs.Heard.{with_entries, with_lane}
use Rattle.job_core.specs.Lane.{fed_entries}
use Rattle.job_core.specs.Lanes.{AreOfStreams, LanesStand, kind_of, name_of}
use Rattle.job_core.proofs.CoreLemmas.{IsAt-agree, Some-is, each-replaced, fed-agree, kind-same, name-same, stand-replaced}
use Rattle.job_core.proofs.job.Core.feed.Goals as goal

pub returns-clause-fed : goal.returns-clause-fed
returns-clause-fed c = λ lane heard w at stands.
    let core = c.args.self in
    let place = c.args.lane in
    let items = c.args.items.now in
    let more = fed_entries lane items c.args.n in
    let change = with_entries lane.ended (length lane.throughs) more in
    let fed = c.in_ok-lanes.ensures lane at in
    let unread = c.requires in
    let in_segment = subst (λ l. l.place.segment < length l.throughs) (Some-is unread.0 lane (sym unread.1 ∙ at)) unread.2.in_segment in
    record {
      are_of_streams =
          subst (AreOfStreams core.plan.streams core.counts)
          (sym (ap (map name_of) fed.1 ∙ each-replaced name_of core.lanes place lane fed.0 at (name-same lane fed.0 fed.3))) stands.are_of_streams;
      lanes_stand =
          subst (λ l. LanesStand core.policy l (with_lane change place heard) w) (sym fed.1)
          (stand-replaced core.policy core.lanes heard w place lane fed.0 more at stands.before_end fed.2 stands.lanes_stand);
      pipeline_at = IsAt-agree core.pipeline core.plan _ _ w
          (fed-agree core.policy core.plan.streams core.counts core.lanes heard w place lane more at in_segment stands.before_end stands.are_of_streams stands.lanes_stand)
          stands.pipeline_at;
      before_end = stands.before_end;
    }

pub returns-clause-same : goal.returns-clause-same
returns-clause-same c =
    let core = c.args.self in
    let lane = c.requires.0 in
    let fed = c.in_ok-lanes.ensures lane c.requires.1 in
    record {
      plan_is = refl;
      policy_is = refl;
      start_is = refl;
      counts_are = refl;
      lanes_are = ap (map kind_of) fed.1 ∙ each-replaced kind_of core.lanes c.args.lane lane fed.0 c.requires.1 (kind-same lane fed.0 fed.3);
    }
