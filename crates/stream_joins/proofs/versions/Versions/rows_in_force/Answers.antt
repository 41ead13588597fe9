use Rattle.std.proofs.Common.{◌≡◌, ℕ, ◌<◌, List, [], length, get_or, ap, sym, ◌∙◌, arith, Some}
use Rattle.std.specs.Prelude.{nat_le}
use Rattle.event_value.specs.declared.record.Stamped.{Stamped}
use Rattle.std.proofs.lemmas.List.{get_or_default}
use Rattle.stream_joins.proofs.PartLemmas.{last_place-below}
use Rattle.stream_joins.specs.Snapshots.{Snapshots, at_place, in_force}
use Rattle.stream_joins.proofs.versions.Versions.rows_in_force.Goals as goal

pub bounds-items-place : goal.bounds-items-place
bounds-items-place c =
    let t = c.args.t in
    let effective = c.self.inside.effective in
    let place : in_force effective t ≡ Some c.in-Some.place = ap (λ (s : Snapshots). in_force s.effective t) c.self.view_is ∙ sym c.in_force.ensures ∙ c.in-Some.is in
    let lt : c.in-Some.place < length effective = last_place-below (λ (moment : ℕ). nat_le moment t) effective c.in-Some.place place in
    omega (arith, ap length c.items.ensures, c.self.invariant.paired)

pub returns-in-Some : goal.returns-in-Some
returns-in-Some c =
    let t = c.args.t in
    let snapshots = c.args.self.now in
    let items = c.items.result.now in
    let place : in_force snapshots.effective t ≡ Some c.in-Some.place = sym c.in_force.ensures ∙ c.in-Some.is in
    let below : c.in-Some.place < length c.args.self.now.effective = last_place-below (λ (moment : ℕ). nat_le moment t) snapshots.effective c.in-Some.place place in
    let few : length snapshots.effective ≡ length snapshots.rows = ap (λ (s : Snapshots). length s.effective) (sym c.self.view_is) ∙ c.self.invariant.paired ∙ ap (λ (s : Snapshots). length s.rows) c.self.view_is in
    let same : items ≡ snapshots.rows = c.items.ensures ∙ ap (λ (s : Snapshots). s.rows) c.self.view_is in
    let lt : c.in-Some.place < length items = omega (arith, ap length same) in
    c.items-in-Some.ensures ∙ c.index-items-place.is ∙ get_or_default items c.in-Some.place c.index-items-place.result [] lt
    ∙ ap (λ (rows : List (List Stamped)). get_or rows c.in-Some.place []) same
    ∙ ap (at_place snapshots.rows) (sym place)
