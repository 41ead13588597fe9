use Rattle.stop_images.proofs.ListLemmas.{put-min}
use Rattle.stop_images.proofs.walk.file_after_call.Goals as goal
