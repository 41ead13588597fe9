use Rattle.std.proofs.Common.{length, refl}
use Rattle.std.proofs.lemmas.Result.{err_from_is_err_and}
use Rattle.input_extension.proofs.WalkLemmas.{due-come, due-gone, due-here, walked-more}
use Rattle.input_extension.proofs.source.extend_all.Goals as goal

pub returns-in_err-extends-in-Some-clause-err : goal.returns-in_err-extends-in-Some-clause-err
returns-in_err-extends-in-Some-clause-err g c =
    let p = err_from_is_err_and c.from_residual.result c.from_residual.ensures.1 in
    rw (p.1, p.2)
    (due-here g.S.Source.called (g.S.Source.Extends c.args.w) (g.S.Source.Refused c.args.w) c.loop-index.index c.args.old.now c.args.new.now
    c.index-old-index.result c.in-Some.next.now c.in_err-extends-in-Some.field-0.0
    c.loop-index.invariant c.loop-index-test.true c.in-Some.ensures.lookup.3.0 c.index-old-index.is c.in-Some.ensures.lookup.1 c.in_err-extends-in-Some.ensures.err)

pub returns-in-None-clause-err : goal.returns-in-None-clause-err
returns-in-None-clause-err g c =
    due-gone g.S.Source.called (g.S.Source.Extends c.args.w) (g.S.Source.Refused c.args.w) c.loop-index.index c.args.old.now c.args.new.now
    c.index-old-index.result c.name.result.now c.changed.result
    c.loop-index.invariant c.loop-index-test.true c.in-None.ensures.lookup.3 c.index-old-index.is c.name.ensures c.changed.ensures

pub loop-index-preserved : goal.loop-index-preserved
loop-index-preserved g c =
    walked-more (g.S.Source.Extends c.args.w) c.args.old.now c.args.new.now c.loop-index.index c.index-old-index.result c.in-Some.next.now
    c.loop-index.invariant c.loop-index-test.true c.in-Some.ensures.lookup.3.0 c.index-old-index.is c.in-Some.ensures.lookup.1 c.in_ok-extends-in-Some.ensures.ok

pub returns-in-Some-get-clause-err : goal.returns-in-Some-get-clause-err
returns-in-Some-get-clause-err g c =
    due-come g.S.Source.called (g.S.Source.Extends c.args.w) (g.S.Source.Refused c.args.w) c.loop-index.index (length c.args.old.now) c.args.old.now c.args.new.now
    c.in-Some-get.added.now c.name-in-Some-get.result.now c.changed-in-Some-get.result
    c.loop-index.invariant c.loop-index-test.false c.loop-index.auto.index-end refl c.in-Some-get.ensures.lookup.3.0 c.in-Some-get.ensures.lookup.1
    c.name-in-Some-get.ensures c.changed-in-Some-get.ensures
