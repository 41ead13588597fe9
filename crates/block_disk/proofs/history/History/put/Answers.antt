use Rattle.std.proofs.Common.{◌≡◌, rules, sym, subst}
use Rattle.block_disk.specs.declared.call.Call.TheVariants.{Write}
use Rattle.block_disk.specs.Stops.{TornWrite, Follows, Elapses}
use Rattle.block_disk.specs.Images.{FileHistory, file_of, history_after, moment_of, IsImage, IsImageSince}
use Rattle.block_disk.proofs.CallLemmas.{TornWrite-call, Follows-write, Elapses-call}
use Rattle.block_disk.proofs.history.History.put.Goals as goal

pub returns-clause-torn : goal.returns-clause-torn
returns-clause-torn c =
    let old = c.args.self.now in
    let new : FileHistory = record { first = c.self.inside.first; calls = c.push.new.self } in
    let is : new ≡ history_after (Write c.args.at c.args.count c.args.part.now) old = search rules in
    subst (λ (h : FileHistory). TornWrite c.args.at c.args.count (file_of old) (file_of h)) (sym is)
    (TornWrite-call old c.args.at c.args.count c.args.part.now c.requires.below c.requires.within)

pub returns-clause-stop : goal.returns-clause-stop
returns-clause-stop c =
    let old = c.args.self.now in
    let new : FileHistory = record { first = c.self.inside.first; calls = c.push.new.self } in
    let is : new ≡ history_after (Write c.args.at c.args.count c.args.part.now) old = search rules in
    subst (λ (h : FileHistory). Follows (TornWrite c.args.at c.args.count) (IsImage old) (IsImage h)) (sym is)
    (Follows-write old c.args.at c.args.count c.args.part.now c.requires.below c.requires.within)

pub returns-clause-time : goal.returns-clause-time
returns-clause-time c =
    let old = c.args.self.now in
    let new : FileHistory = record { first = c.self.inside.first; calls = c.push.new.self } in
    let is : new ≡ history_after (Write c.args.at c.args.count c.args.part.now) old = search rules in
    subst (λ (h : FileHistory). Elapses (moment_of old) (moment_of h) (IsImageSince old) (IsImageSince h) (IsImage h)) (sym is)
    (Elapses-call old (Write c.args.at c.args.count c.args.part.now))
