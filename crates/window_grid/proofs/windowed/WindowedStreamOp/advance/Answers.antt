use Rattle.std.proofs.Common.{◌≡◌, ◌++◌, ap, ◌∙◌, subst, true, map}
use Rattle.stream_op.proofs.RowLemmas.{AreTaken-next}
use Rattle.window_grid.specs.State.{closed_at, kept_at, row_of, state}
use Rattle.window_grid.proofs.StateLemmas.{state-closed, state-kept, state-more}
use Rattle.window_grid.proofs.windowed.WindowedStreamOp.advance.Goals as goal

pub returns : goal.returns
returns g c =
    let u = c.args.upto in
    let new_left = c.args.left.now in
    let new_right = c.args.right.now in
    let s = g.S.Windows in
    λ spec left right w stands le a b.
    let fits : s.fits spec ≡ true = subst (λ x. s.fits x ≡ true) stands.0 c.args.self.fitting in
    let sound = g.met.S.Windows.sound spec fits in
    let range = rw (c.count-last.ensures.value) at c.count-last.ensures.in_range in
    let now : c.add_rows.new.panes ≡ state (s.windows spec) (left ++ new_left) w =
    c.in_ok-add_rows.ensures ∙ rw (stands.0, stands.1) (state-more (s.windows spec) sound w left new_left a.from_last) in (
      c.in_ok-rows.ensures
          ∙ ap (map row_of) (c.in_ok-kept.ensures.closed ∙ ap (closed_at u) now)
          ∙ state-closed (s.windows spec) (left ++ new_left) w u range,
      (
        stands.0,
        c.in_ok-kept.ensures.kept ∙ ap (kept_at u) now ∙ state-kept (s.windows spec) (left ++ new_left) w u le,
        AreTaken-next w u left new_left right new_right le stands.2 a b,
      ),
    )
