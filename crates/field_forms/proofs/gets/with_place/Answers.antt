use Rattle.field_forms.proofs.PlaceLemmas.{taken-at}
use Rattle.field_forms.proofs.gets.with_place.Goals as goal

pub returns-in-Some : goal.returns-in-Some
returns-in-Some g c =
    taken-at g.met.T.Field.sound c.args.bytes.now c.args.unread.now c.args.at c.args.taken c.in-Some.value c.place_of.result
    c.in-Some.is c.requires.read c.place_of.ensures
