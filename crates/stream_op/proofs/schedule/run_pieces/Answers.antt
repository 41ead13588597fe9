use Rattle.std.proofs.Common.{◌≡◌, ◌++◌, ◌+◌, ◌∷◌, [], drop, refl, sym, ap, subst, ◌∙◌, append_assoc}
use Rattle.std.proofs.lemmas.List.{drop_more}
use Rattle.stream_op.specs.declared.schedule.Piece.{Piece}
use Rattle.stream_op.specs.Schedule.{AreInTurn, HaveNoRights, left_rows, right_rows, last_upto}
use Rattle.stream_op.proofs.ScheduleLemmas.{op-answered, below-zero}
use Rattle.stream_op.proofs.schedule.run_pieces.Goals as goal

pub loop-piece-init : goal.loop-piece-init
loop-piece-init g c = (
  [],
  [],
  0,
  record {
    stands = c.in_ok-operator.ensures;
    answered = c.empty-rows.ensures ∙ sym (below-zero (g.O.StreamOp.op c.args.spec.now [] []));
    in_turn = c.requires.in_turn;
    no_rights = c.requires.one_input;
    all_left = refl;
    all_right = refl;
    all_upto = refl;
  },
)

pub loop-piece-preserved : goal.loop-piece-preserved
loop-piece-preserved g c =
    let o = g.O.StreamOp in
    let met = g.met.O.StreamOp in
    let spec = c.args.spec.now in
    let pieces = c.args.pieces.now in
    let at = c.loop-piece.piece-index in
    let piece = c.piece-item.result in
    let old = c.loop-piece.invariant in
    let left = old.0 in
    let right = old.1 in
    let w = old.2 in
    let rest : drop at pieces ≡ piece ∷ drop (at + 1) pieces = drop_more pieces at piece c.loop-piece-test.true ∙ ap (λ (p : Piece). p ∷ drop (at + 1) pieces) (sym c.piece-item.is) in
    let turn = subst (AreInTurn w) rest old.3.in_turn in
    let items = c.items.ensures in
    let more = c.items-in-loop-piece.ensures in
    let advanced = rw (items, more) at c.in_ok-next.ensures in
    let given = advanced spec left right w old.3.stands turn.0 turn.1 turn.2 in
    let taken = met.stands_only.taken c.loop-piece.operator spec left right w old.3.stands in
    let fits = met.stands_only.fitting c.loop-piece.operator spec left right w old.3.stands in (
      left ++ piece.left,
      right ++ piece.right,
      piece.upto,
      record {
        stands = given.1;
        answered =
            c.in_ok-push_rows.ensures
            ∙ rw (c.items-in-loop-piece-2.ensures, given.0, old.3.answered) refl
            ∙ op-answered met.laws spec w piece.upto left piece.left right piece.right fits turn.0 taken turn.1 turn.2;
        in_turn = turn.3;
        no_rights = λ q. (subst HaveNoRights rest (old.3.no_rights q)).1;
        all_left = append_assoc left piece.left (left_rows (drop (at + 1) pieces)) ∙ ap (λ l. left ++ left_rows l) (sym rest) ∙ old.3.all_left;
        all_right = append_assoc right piece.right (right_rows (drop (at + 1) pieces)) ∙ ap (λ l. right ++ right_rows l) (sym rest) ∙ old.3.all_right;
        all_upto = ap (last_upto w) (sym rest) ∙ old.3.all_upto;
      },
    )
