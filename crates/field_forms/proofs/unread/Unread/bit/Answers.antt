use Rattle.field_forms.specs.Fields.{bit_body}
use Rattle.field_forms.proofs.TagLemmas.{tagged_reading-at}
use Rattle.field_forms.proofs.unread.Unread.bit.Goals as goal

pub returns-in-1 : goal.returns-in-1
returns-in-1 c = tagged_reading-at bit_body c.args.self.now c.u8.new.self _ 1 c.in_ok-u8.ensures c.in-1.is
