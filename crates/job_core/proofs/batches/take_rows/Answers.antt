use Rattle.std.proofs.Common.{◌++◌, take, drop, ap, sym, ◌∙◌}
use Rattle.job_core.specs.Gathered.{first_list, joined}
use Rattle.job_core.proofs.BatchLemmas.{drop-one, joined-more}
use Rattle.job_core.proofs.batches.take_rows.Goals as goal

pub loop-i-preserved : goal.loop-i-preserved
loop-i-preserved c =
    let lists = c.args.rest.now.items in
    let i = c.loop-i.i in
    let old = c.loop-i.invariant in
    let first = c.take_first-rows.ensures in
    record {
      all_are =
          c.in_ok-push_all.ensures
          ∙ ap (λ l. l ++ c.take_first-rows.result) old.all_are
          ∙ ap (λ l. joined (take i lists) ++ l) (first.rows ∙ ap first_list old.rest_are)
          ∙ sym (joined-more i lists);
      rest_are = first.rest ∙ ap (drop 1) old.rest_are ∙ drop-one i lists;
    }
