use Rattle.std.proofs.Common.{rules, of_calls, ◌≡◌, ℕ, suc, ◌-◌, ap, sym, subst, ◌∙◌, arith}
use Rattle.std.specs.Prelude.{nat_le}
use Rattle.std.proofs.lemmas.List.Sorted.{IsPartitionPoint-from_clause}
use Rattle.stream_joins.proofs.PartLemmas.{IsPartitionedBy-in_order, earlier-force, last_place-point, place_before}
use Rattle.stream_joins.specs.Snapshots.{Ascend, Snapshots, in_force}
use Rattle.stream_joins.proofs.versions.Versions.in_force.Goals as goal

pub returns : goal.returns
returns c =
    let effective = c.items.result.now in
    let same : effective ≡ c.args.self.now.effective = c.items.ensures ∙ ap (λ (s : Snapshots). s.effective) c.self.view_is in
    let ascend : Ascend effective = subst Ascend (sym c.items.ensures) c.self.invariant.ascending in
    let test = λ (moment : ℕ). nat_le moment c.args.t in
    let n = c.partition_point-count.result in
    let point = IsPartitionPoint-from_clause test effective n c.partition_point-count.ensures.partitioned
    (IsPartitionedBy-in_order (λ moment. moment) test effective ascend (earlier-force c.args.t)) (λ a r f h. search (rules, of_calls)) in
    let count : n ≡ suc (n - 1) = omega arith in
    sym (ap (λ moments. in_force moments c.args.t) (sym same) ∙ last_place-point test effective n c.partition_point-count.ensures.bound point ∙ ap (place_before test) count)

pub returns-then-count-eq0 : goal.returns-then-count-eq0
returns-then-count-eq0 c =
    let effective = c.items.result.now in
    let same : effective ≡ c.args.self.now.effective = c.items.ensures ∙ ap (λ (s : Snapshots). s.effective) c.self.view_is in
    let ascend : Ascend effective = subst Ascend (sym c.items.ensures) c.self.invariant.ascending in
    let test = λ (moment : ℕ). nat_le moment c.args.t in
    let n = c.partition_point-count.result in
    let point = IsPartitionPoint-from_clause test effective n c.partition_point-count.ensures.partitioned
    (IsPartitionedBy-in_order (λ moment. moment) test effective ascend (earlier-force c.args.t)) (λ a r f h. search (rules, of_calls)) in
    sym (ap (λ moments. in_force moments c.args.t) (sym same) ∙ last_place-point test effective n c.partition_point-count.ensures.bound point ∙ ap (place_before test) c.if-count-eq0.true)
