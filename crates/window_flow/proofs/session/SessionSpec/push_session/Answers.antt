use Rattle.std.proofs.Common.{◌≡◌, ◌++◌, ◌≤◌, ◌<◌, ℕ, List, false, refl, sym, ap, ◌∙◌, append-nil, arith}
use Rattle.std.specs.Prelude.{◌&&◌, nat_le, nat_lt}
use Rattle.std.proofs.lemmas.Bool.Decides.{nat_tests}
use Rattle.event_value.specs.declared.record.Stamped.{Stamped}
use Rattle.window_flow.proofs.PlaceLemmas.{session-given, session-outside}
use Rattle.window_flow.proofs.session.SessionSpec.push_session.Goals as goal
use Rattle.window_flow.proofs.session.SessionSpec.push_session.Goals.{then-end-count-via-then-end-count, then-end-count-via-else-end-count+then-count-end}

early : (v w e : ℕ) → e < v → (nat_le v e && nat_lt e w) ≡ false
early v w e h = grind (arith, nat_tests)

late : (v w e : ℕ) → w ≤ e → (nat_le v e && nat_lt e w) ≡ false
late v w e h = grind (arith, nat_tests)

pub returns-then-end-count : goal.returns-then-end-count
returns-then-end-count c =
    let given = c.args.given.now in
    let e = c.end_of-end.result in
    let v = c.args.from in
    let w = c.args.upto in
    let outside : (nat_le v e && nat_lt e w) ≡ false =
    elim c.then-end-count.branch [
      | then-end-count-via-then-end-count x ↦ early v w e (omega (arith, x.if-end-count.true, c.count.ensures.value))
      | then-end-count-via-else-end-count+then-count-end x ↦ late v w e (omega (arith, x.if-count-end.true, x.count-else-end-count.ensures.value))
    ] in
    sym (ap (λ (l : List Stamped). given ++ l) (session-outside c.args.self.now c.args.start c.args.last c.args.rows.now v w e c.end_of-end.ensures outside)
    ∙ append-nil given)

pub returns : goal.returns
returns c =
    let given = c.args.given.now in
    let e = c.end_of-end.result in
    let v = c.args.from in
    let w = c.args.upto in
    c.in_ok-push_aggregated.ensures
    ∙ rw (c.of_count.ensures, c.items.ensures, c.in_ok-groups.ensures) refl
    ∙ ap (λ (l : List Stamped). given ++ l) (session-given c.args.self.now c.args.start c.args.last c.args.rows.now v w e c.end_of-end.ensures
    (omega (arith, c.if-end-count.false, c.count.ensures.value))
    (omega (arith, c.if-count-end.false, c.count-else-end-count.ensures.value)))
