use Rattle.std.proofs.Common.{◌≡◌, ◌-◌}
use Rattle.field_forms.specs.Forms.{items_reading}
use Rattle.field_forms.proofs.ItemLemmas.{after}
use Rattle.field_forms.proofs.lists.take_items.Given as goal

abbrev pub invariant-loop-place : goal.invariant-loop-place
invariant-loop-place g l =
    items_reading g.F.FormOf.form.reading l.count l.fn.unread
    ≡ after g.F.FormOf.form.reading l.items (items_reading g.F.FormOf.form.reading (l.count - l.place) l.unread)
