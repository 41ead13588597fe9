use Rattle.std.proofs.Common.{◌≤◌, length, ap, subst, sym, arith}
use Rattle.block_disk.specs.Stops.{TornWrite}
use Rattle.block_disk.proofs.StopLemmas.{TornWrite-put}
use Rattle.stop_images.proofs.ListLemmas.{AddsFiles-none, AddsFiles-push}
use Rattle.stop_images.proofs.tear.TornRange.push_torn_at.Goals as goal

pub tears-preserved : goal.tears-preserved
tears-preserved c =
    let at = c.args.self.now.at in
    let count = c.args.self.now.count in
    let old = c.args.old.now in
    let bytes = c.items.result.now in
    let within : length bytes ≤ count = omega (arith, ap length c.items.ensures, c.in_ok-bytes.ensures) in
    AddsFiles-push (TornWrite at count old) c.args.images.now c.tears.images c.push.new.self c.in_ok-with_bytes_at.field-0
    c.tears.invariant c.in_ok-push.ensures.ok
    (subst (TornWrite at count old) (sym c.in_ok-with_bytes_at.ensures) (TornWrite-put at bytes old c.requires count within))
