use Rattle.std.proofs.Common.{◌∙◌, ap}
use Rattle.event_value.specs.declared.value.Value.TheVariants.{Bit}
use Rattle.field_forms.specs.Forms.{image_reading}
use Rattle.field_forms.specs.Values.{value_body}
use Rattle.field_forms.proofs.TagLemmas.{tagged_reading-at}
use Rattle.field_forms.proofs.values.ValueField.take.Goals as goal

pub returns-in_ok-take-in-1 : goal.returns-in_ok-take-in-1
returns-in_ok-take-in-1 c =
    tagged_reading-at value_body c.args.unread.now c.take.new.unread _ 1 c.in_ok-take.ensures c.in-1.is
    ∙ ap (image_reading Bit) c.in_ok-take-in-1.ensures
