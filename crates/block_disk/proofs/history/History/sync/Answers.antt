use Rattle.std.proofs.Common.{◌≡◌, rules, sym, subst}
use Rattle.block_disk.specs.declared.call.Call.TheVariants.{Sync}
use Rattle.block_disk.specs.Stops.{NoFurtherImage}
use Rattle.block_disk.specs.Images.{FileHistory, history_after, IsImage}
use Rattle.block_disk.proofs.CallLemmas.{NoFurtherImage-sync}
use Rattle.block_disk.proofs.history.History.sync.Goals as goal

pub returns-clause-stop : goal.returns-clause-stop
returns-clause-stop c =
    let old = c.args.self.now in
    let new : FileHistory = record { first = c.self.inside.first; calls = c.push.new.self } in
    let is : new ≡ history_after Sync old = search rules in
    subst (λ (h : FileHistory). NoFurtherImage (IsImage old) (IsImage h)) (sym is) (NoFurtherImage-sync old)
