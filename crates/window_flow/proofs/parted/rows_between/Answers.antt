use Rattle.std.proofs.Common.{◌≡◌, ◌++◌, ℕ, List, ap, sym, subst, ◌∙◌}
use Rattle.std.specs.List.{flat_map}
use Rattle.event_value.specs.declared.record.Stamped.{Stamped}
use Rattle.row_order.specs.InOrder.{in_order}
use Rattle.stream_op.specs.Rows.{time_of}
use Rattle.window_flow.specs.Groups.{EachInOrder, given_by, groups_of}
use Rattle.window_flow.proofs.GroupLemmas.{EachInOrder-groups_of, given_by-parted}
use Rattle.window_flow.proofs.parted.rows_between.Goals as goal

pub returns : goal.returns
returns g c = λ o.
    let p = g.S.Parts.parting c.args.spec.now in
    let rows = c.args.rows.now in
    let v = c.args.from in
    let w = c.args.upto in
    let groups : c.in_ok-groups.groups ≡ groups_of 0 p.columns rows = c.in_ok-groups.ensures ∙ ap (λ (n : ℕ). groups_of 0 n rows) c.columns.ensures in
    let each : EachInOrder c.in_ok-groups.groups = subst EachInOrder (sym groups) (EachInOrder-groups_of 0 p.columns rows o) in
    c.in_ok-put_in_order.ensures
    ∙ ap (in_order time_of) (c.in_ok-push_given.ensures each
    ∙ ap (λ (l : List Stamped). l ++ flat_map (given_by p v w) c.in_ok-groups.groups) c.empty-given.ensures
    ∙ ap (flat_map (given_by p v w)) groups)
    ∙ given_by-parted p v w rows
