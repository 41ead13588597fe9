use Rattle.std.proofs.Common.{◌≡◌, ◌≤◌, ◌+◌, ℕ, List, length, take, subst, arith}
use Rattle.std.specs.Prelude.{reverse}
use Rattle.stop_images.specs.Listed.{AddsSince, ListsNext}
use Rattle.stop_images.proofs.WalkLemmas.{AreListed, AreListed-none, AreListed-next, IsListed-next, IsListed-end}
use Rattle.stop_images.proofs.images.images_of_calls.Goals as goal

pub calls-preserved : goal.calls-preserved
calls-preserved c =
    let first = c.args.first.now in
    let calls = c.args.calls.now in
    let k = c.calls.call-index in
    let call = c.call-item.result in
    let new = c.in_ok-file-2.file in
    let next = c.in_ok-images-2.images in
    let listed = c.calls.listed in
    let after = c.append_since-in-calls.new.listed in
    let lists : ListsNext c.calls.images call new next =
    subst (λ (l : List (List ℕ)). ListsNext l call new next) c.items-in-calls.ensures c.in_ok-images-2.ensures in
    let here : AreListed first (reverse (take (k + 1) calls)) new next =
    AreListed-next first calls k call c.calls.file new c.calls.images next c.calls-test.true c.call-item.is c.calls.invariant.here
    c.in_ok-file-2.ensures lists in
    let added : AddsSince c.args.since (k + 1) next listed after =
    subst (λ (l : List (List ℕ)). AddsSince c.args.since (k + 1) l listed after) c.items-in-calls-2.ensures
    (subst (λ (m : ℕ). AddsSince c.args.since (m + 1) c.items-in-calls-2.result.now listed after) c.calls.invariant.moment
    c.in_ok-append_since-2.ensures) in
    let within : k + 1 ≤ length calls = omega (arith, c.calls-test.true) in
    record {
      moment = omega (arith, c.calls.invariant.moment);
      here = here;
      all = IsListed-next first calls c.args.since (k + 1) new next listed after within here c.calls.invariant.all.each added;
    }
