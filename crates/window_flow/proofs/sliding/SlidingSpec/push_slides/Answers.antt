use Rattle.std.proofs.Common.{◌≡◌, ◌++◌, ◌∷◌, [], ℕ, ◌<◌, false, List, length, refl, ap, sym, subst, ◌∙◌, append_assoc, arith}
use Rattle.std.specs.Prelude.{◌==◌}
use Rattle.std.proofs.lemmas.Bool.Decides.{nat_tests}
use Rattle.event_value.specs.declared.record.Stamped.{Stamped}
use Rattle.window_flow.specs.Sliding.{content, size_of, slide_at, slides_at}
use Rattle.window_flow.proofs.MomentLemmas.{slides_at-some}
use Rattle.window_flow.proofs.sliding.SlidingSpec.push_slides.Goals as goal

some : (n : ℕ) → false ≡ (n == 0) → 0 < n
some n h = grind (arith, nat_tests)

pub loop-moment-preserved-in_ok-push : goal.loop-moment-preserved-in_ok-push
loop-moment-preserved-in_ok-push c = λ o.
    let spec = c.args.self.now in
    let key = c.args.key.now in
    let rows = c.args.rows.now in
    let x = c.in-Some.moment.now in
    let given = c.loop-moment.given in
    let rest = c.next.new.self in
    let held : c.held_at-held.result.now ≡ content (size_of spec) rows x =
    c.held_at-held.ensures o ∙ ap (λ (n : ℕ). content n rows x) c.ticks-size.ensures.value in
    let filled : 0 < length (content (size_of spec) rows x) = subst (λ (l : List Stamped). 0 < length l) held (some _ c.if-not-is_empty.ensures) in
    let row : c.in_ok-row_of.field-0 ≡ slide_at spec key rows x = rw (c.in_ok-row_of.ensures, c.items.ensures, held) refl in
    ap (λ (l : List Stamped). l ++ slides_at spec key rows rest) (c.in_ok-push.ensures.ok ∙ ap (λ (r : Stamped). given ++ r ∷ []) row)
    ∙ append_assoc given (slide_at spec key rows x ∷ []) (slides_at spec key rows rest)
    ∙ ap (λ (l : List Stamped). given ++ l) (sym (slides_at-some spec key rows x rest filled))
    ∙ ap (λ (xs : List ℕ). given ++ slides_at spec key rows xs) (sym c.in-Some.ensures.steps)
    ∙ c.loop-moment.invariant o
