use Rattle.std.proofs.Common.{◌≡◌, ◌++◌, ℕ, List, ap, sym, refl, subst, ◌∙◌, true}
use Rattle.event_value.specs.declared.record.Stamped.{Stamped}
use Rattle.std.specs.Prelude.{Option}
use Rattle.stream_op.proofs.RowLemmas.{AreInOrder-next, AreTaken-next}
use Rattle.stream_op.specs.Rows.{AreInOrder, between}
use Rattle.window_flow.specs.Groups.{within}
use Rattle.window_flow.specs.Parts.{parted}
use Rattle.window_flow.proofs.HeldLemmas.{AreInOrder-within, between-within, within-append, within-later}
use Rattle.window_flow.proofs.parted.PartedStreamOp.advance.Goals as goal

pub returns : goal.returns
returns g c =
    let u = c.args.upto in
    let new_left = c.args.left.now in
    let new_right = c.args.right.now in
    let s = g.S.Parts in
    λ spec left right w stands le a b.
    let r = s.reach spec in
    let p = s.parting spec in
    let all = left ++ new_left in
    let fits : s.fits spec ≡ true = subst (λ x. s.fits x ≡ true) stands.0 c.args.self.fitting in
    let sound = g.met.S.Parts.sound spec fits in
    let o : AreInOrder all = AreInOrder-next w u left new_left stands.3.left_before a in
    let now : c.push_rows.new.rows ≡ within r w all =
    c.in_ok-push_rows.ensures ∙ ap (λ (l : List Stamped). l ++ new_left) stands.1 ∙ within-append r w u left new_left a in
    let items : c.items.result.now ≡ within r w all = c.items.ensures ∙ now in
    let in_order : AreInOrder c.items.result.now = subst AreInOrder (sym items) (AreInOrder-within r w all o) in
    let given : c.in_ok-rows.rows ≡ between w u (parted p all) =
    c.in_ok-rows.ensures in_order
    ∙ ap (λ (l : List Stamped). between c.args.self.upto u (parted (s.parting c.args.self.spec) l)) items
    ∙ ap (λ (v : ℕ). between v u (parted (s.parting c.args.self.spec) (within r w all))) stands.2
    ∙ ap (λ x. between w u (parted (s.parting x) (within r w all))) stands.0
    ∙ between-within p r sound w u all o in
    let held : c.held_within-held.result ≡ within r u all =
    c.held_within-held.ensures
    ∙ ap (λ (l : List Stamped). within c.ticks_back.result u l) now
    ∙ ap (λ (n : Option ℕ). within n u (within r w all)) (c.ticks_back.ensures ∙ ap s.reach stands.0)
    ∙ within-later r w u all le in (
      given,
      (stands.0, held, refl, AreTaken-next w u left new_left right new_right le stands.3 a b),
    )
