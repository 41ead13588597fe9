use Rattle.stop_images.proofs.WalkLemmas.{ListsNext-write, ListsNext-sync}
use Rattle.stop_images.proofs.walk.images_after_call.Goals as goal

pub returns-in_ok-push_torn_images-in-Write : goal.returns-in_ok-push_torn_images-in-Write
returns-in_ok-push_torn_images-in-Write c =
    rw c.in-Write.is
    (ListsNext-write c.args.images.now c.in-Write.at c.in-Write.count c.in-Write.part c.args.file.now c.in_ok-next-in-Write.next
    c.push_torn_images.new.next c.in_ok-next-in-Write.ensures c.in_ok-push_torn_images-in-Write.ensures)
