use Rattle.std.proofs.Common.{◌∙◌, sym, ap, ◌-◌, ◌+◌, arith}
use Rattle.field_forms.specs.Forms.{items_reading}
use Rattle.field_forms.proofs.ItemLemmas.{after, items-more}
use Rattle.field_forms.proofs.lists.take_items.Goals as goal

pub loop-place-preserved : goal.loop-place-preserved
loop-place-preserved g c =
    let read = g.F.FormOf.form.reading in
    items-more read _ _ _ (c.args.count - (c.loop-place.place + 1)) _ _ _ c.loop-place.invariant (omega arith) c.in_ok-take.ensures
    ∙ ap (λ is. after read is (items_reading read (c.args.count - (c.loop-place.place + 1)) c.take.new.unread)) (sym c.in_ok-push.ensures.ok)
