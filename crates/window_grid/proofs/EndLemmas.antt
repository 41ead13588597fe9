-- The ends of windows, one more looked at.
use Rattle.std.proofs.Common.{◌≡◌, ℕ, ◌+◌, ◌*◌, ◌<◌, ◌≤◌, Bool, true, false, cond, [], ◌∷◌, ◌++◌, filter, refl, sym, ap, ◌∙◌, add-one}
use Rattle.std.specs.Prelude.{nat_lt}
use Rattle.std.proofs.lemmas.Bool.{le-leb, le-ltb, lt-leb, lt-ltb}
use Rattle.std.proofs.lemmas.List.Elements.{filter-append}
use Rattle.tick_time.specs.Moment.{end_ticks}
use Rattle.window_grid.specs.Grid.{multiples}
use Rattle.window_grid.specs.State.{end_within, is_moment}

pub end_within-here : (e limit : ℕ) → e < limit → e ≤ end_ticks → end_within e limit ≡ e ∷ []
end_within-here e limit h k =
    ap (λ (b : Bool). filter is_moment (cond b (e ∷ []) [])) (lt-ltb e limit h)
    ∙ ap (λ (b : Bool). cond b (e ∷ []) []) (le-leb e end_ticks k)

pub end_within-past : (e limit : ℕ) → limit ≤ e → end_within e limit ≡ []
end_within-past e limit h = ap (λ (b : Bool). filter is_moment (cond b (e ∷ []) [])) (le-ltb e limit h)

pub end_within-late : (e limit : ℕ) → end_ticks < e → end_within e limit ≡ []
end_within-late e limit h = by (nat_lt e limit)
  where
    by : (b : Bool) → filter is_moment (cond b (e ∷ []) []) ≡ []
    by true = ap (λ (b : Bool). cond b (e ∷ []) []) (lt-leb e end_ticks h)
    by false = refl

pub end_within-more : (hop first place limit : ℕ)
    → filter is_moment (filter (λ e. nat_lt e limit) (multiples hop first place)) ++ end_within ((first + place) * hop) limit
    ≡ filter is_moment (filter (λ e. nat_lt e limit) (multiples hop first (place + 1)))
end_within-more hop first place limit =
    sym (ap (λ (n : ℕ). filter is_moment (filter (λ e. nat_lt e limit) (multiples hop first n))) (add-one place)
    ∙ ap (filter is_moment) (filter-append (λ e. nat_lt e limit) (multiples hop first place) ((first + place) * hop ∷ []))
    ∙ filter-append is_moment (filter (λ e. nat_lt e limit) (multiples hop first place)) (filter (λ e. nat_lt e limit) ((first + place) * hop ∷ [])))
