use Rattle.std.proofs.Common.{◌∙◌, ap, Some}
use Rattle.field_forms.specs.Fields.{option_body}
use Rattle.field_forms.specs.Forms.{image_reading}
use Rattle.field_forms.proofs.TagLemmas.{tagged_reading-at}
use Rattle.field_forms.proofs.options.take_option.Goals as goal

pub returns-in_ok-take-in-1 : goal.returns-in_ok-take-in-1
returns-in_ok-take-in-1 g c =
    tagged_reading-at (option_body g.F.FormOf.form) c.args.unread.now c.take.new.unread _ 1 c.in_ok-take.ensures c.in-1.is
    ∙ ap (image_reading Some) c.in_ok-take-in-1.ensures
