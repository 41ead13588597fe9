use Rattle.std.proofs.Common.{◌≡◌, ◌++◌, ap, ◌∙◌, refl}
use Rattle.stream_op.proofs.RowLemmas.{AreInOrder-next, AreTaken-next}
use Rattle.stream_op.specs.Rows.{AreInOrder}
use Rattle.stream_joins.proofs.bound_join.BoundJoinStreamOp.advance.Goals as goal

pub returns : goal.returns
returns g c =
    let u = c.args.upto in
    let new_left = c.args.left.now in
    let new_right = c.args.right.now in
    λ spec left right w stands le a b.
    let held_left : c.push_rows.new.rows ≡ left ++ new_left = c.in_ok-push_rows.ensures ∙ ap (λ rows. rows ++ new_left) stands.1 in
    let held_right : c.push_rows-2.new.rows ≡ right ++ new_right = c.in_ok-push_rows-2.ensures ∙ ap (λ rows. rows ++ new_right) stands.2 in
    let order_left : AreInOrder (left ++ new_left) = AreInOrder-next w u left new_left stands.4.left_before a in
    let order_right : AreInOrder (right ++ new_right) = AreInOrder-next w u right new_right stands.4.right_before b in
    let rows = rw (c.items-left.ensures, c.items-right.ensures, held_left, held_right, stands.0, stands.3) at c.in_ok-rows.ensures in (
      rows order_left order_right,
      (stands.0, held_left, held_right, refl, AreTaken-next w u left new_left right new_right le stands.4 a b),
    )
