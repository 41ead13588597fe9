use Rattle.std.proofs.Common.{sym, ap, subst, ◌∙◌}
use Rattle.field_forms.specs.Readings.{IsUnread}
use Rattle.field_forms.specs.declared.unreadable.Unreadable.{Unreadable}
use Rattle.field_forms.proofs.WholeLemmas.{nil-false, nil-true, whole-more, whole-none, whole-some}
use Rattle.field_forms.proofs.whole.decode_whole.Goals as goal

pub returns-then-is_empty : goal.returns-then-is_empty
returns-then-is_empty g c =
    whole-some g.met.F.FormOf.sound c.args.bytes.now c.take.new.unread c.in-Ok.value (ap g.F.FormOf.form.reading (sym c.of-unread.ensures) ∙ c.in-Ok.ensures)
    (nil-true c.take.new.unread (sym c.is_empty.ensures ∙ c.if-is_empty.true))

pub returns-else-is_empty : goal.returns-else-is_empty
returns-else-is_empty g c =
    whole-more g.met.F.FormOf.sound c.args.bytes.now c.take.new.unread c.in-Ok.value (ap g.F.FormOf.form.reading (sym c.of-unread.ensures) ∙ c.in-Ok.ensures)
    (nil-false c.take.new.unread (sym c.is_empty.ensures ∙ c.if-is_empty.false))

pub returns-in-Err-Malformed : goal.returns-in-Err-Malformed
returns-in-Err-Malformed g c =
    let none = subst (λ (e : Unreadable). IsUnread (g.F.FormOf.form.reading c.of-unread.result) e) c.in-Err-Malformed.field-0-is c.in-Err-Malformed.ensures in
    whole-none g.met.F.FormOf.sound c.args.bytes.now (ap g.F.FormOf.form.reading (sym c.of-unread.ensures) ∙ none)
