use Rattle.std.proofs.Common.{◌++◌, ◌∷◌, [], map, ap, sym, ◌∙◌, rules, map-id}
use Rattle.std.proofs.lemmas.List.{map-append}
use Rattle.std.proofs.lemmas.List.Elements.{filter-append}
use Rattle.std.proofs.lemmas.Iterator.Consumers.{YieldsList-end}
use Rattle.std.proofs.lemmas.Iterator.Adapters.{YieldsList-from_vec}
use Rattle.arrival_log.specs.Kept.{events_below}
use Rattle.query_meaning.specs.Streams.{row_of}
use Rattle.job_core.specs.Heard.{events_from}
use Rattle.job_core.proofs.lane.split.Goals as goal

pub loop-event-preserved : goal.loop-event-preserved
loop-event-preserved c =
    let old = c.loop-event.invariant in
    let upto = c.args.upto in
    let xs = c.loop-event.yielded in
    let event = c.in-Some.event in
    let put = c.in_ok-put_event.ensures in
    record {
      kept_are =
          put.kept
          ∙ ap (λ es. es ++ events_from upto (event ∷ [])) old.kept_are
          ∙ sym (filter-append _ xs (event ∷ []));
      rows_are =
          put.rows
          ∙ ap (λ rows. rows ++ map row_of (events_below upto (event ∷ []))) old.rows_are
          ∙ sym (map-append row_of (events_below upto xs) (events_below upto (event ∷ [])))
          ∙ ap (map row_of) (sym (filter-append _ xs (event ∷ [])));
    }

pub returns-clause-kept : goal.returns-clause-kept
returns-clause-kept c =
    let end = YieldsList-end (YieldsList-from_vec {s = c.into_iter-event-iterator.result} c.args.events (search rules) (search rules))
    c.loop-event.yielded c.loop-event.event-iterator c.loop-event.yielded_by c.next.result c.next.new.self c.in-None.is c.next.ensures.steps in
    c.loop-event.invariant.kept_are ∙ ap (events_from c.args.upto) (sym (map-id c.loop-event.yielded) ∙ end.0)

pub returns-clause-rows : goal.returns-clause-rows
returns-clause-rows c =
    let end = YieldsList-end (YieldsList-from_vec {s = c.into_iter-event-iterator.result} c.args.events (search rules) (search rules))
    c.loop-event.yielded c.loop-event.event-iterator c.loop-event.yielded_by c.next.result c.next.new.self c.in-None.is c.next.ensures.steps in
    c.loop-event.invariant.rows_are ∙ ap (λ es. map row_of (events_below c.args.upto es)) (sym (map-id c.loop-event.yielded) ∙ end.0)
