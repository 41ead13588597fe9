use Rattle.std.proofs.Common.{◌∙◌, sym}
use Rattle.field_forms.proofs.ItemLemmas.{list-few}
use Rattle.field_forms.proofs.lists.take_list.Goals as goal

pub returns-else-has : goal.returns-else-has
returns-else-has g c =
    list-few g.met.F.FormOf.sound g.met.F.FormOf.needs_bytes c.args.unread.now c.take.new.unread c.in_ok-count.count c.in_ok-count.ensures
    (sym c.has.ensures ∙ c.if-has.false)
