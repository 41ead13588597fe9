-- Lists with further items behind them.
use Rattle.std.proofs.Common.{◌≡◌, ◌∙◌, ℕ, ◌<◌, ◌≤◌, List, [], ◌++◌, length, take, drop, get_or, Some, append-nil, append_assoc, arith, ap, refl, slice_get, subst, sym}
use Rattle.std.proofs.lemmas.List.{take-append-drop, take_all, take_at}
use Rattle.std.proofs.lemmas.List.Prefix.{front_fits, front_reads, front_rest}
use Rattle.std.proofs.lemmas.Option.{get_or_from_slice_get, slice_get-get_or, slice_get_within}
use Rattle.input_extension.specs.Extension.{IsGrown, further}

-- a list whose front is another one has grown from it
pub grown-from_front : {A : Type 0} (old new : List A) → old ≡ take (length old) new → IsGrown old new
grown-from_front {A} old new h =
    let whole : take (length old) new ++ drop (length old) new ≡ new = take-append-drop (length old) new in
    let P : List A → Type 0 = λ front. new ≡ front ++ drop (length old) new in
    (drop (length old) new, subst P (sym h) (sym whole))

-- the same, where a loop has come to the end of the old list
pub grown-at_end : {A : Type 0} (i : ℕ) (old new : List A) → length old ≤ i → i ≤ length old → take i old ≡ take i new → IsGrown old new
grown-at_end {A} i old new past within same =
    let end : i ≡ length old = omega arith in
    let P : ℕ → Type 0 = λ n. old ≡ take n new in
    grown-from_front old new (subst P end (sym (take_all i old past) ∙ same))

-- the same lists by other names
pub grown-along : {A : Type 0} (xs ys old new : List A) → xs ≡ old → ys ≡ new → IsGrown xs ys → IsGrown old new
grown-along {A} xs ys old new is also g = (g.0, sym also ∙ g.1 ∙ ap (λ l. l ++ g.0) is)

pub grown-fits : {A : Type 0} (old new : List A) → IsGrown old new → length old ≤ length new
grown-fits old new g = front_fits new old g.0 g.1

pub grown-at : {A : Type 0} (old new : List A) → IsGrown old new → (i : ℕ) (d : A) → i < length old → get_or new i d ≡ get_or old i d
grown-at old new g i d within = front_reads d new old g.0 g.1 i within

pub grown-get : {A : Type 0} (old new : List A) → IsGrown old new → (i : ℕ) (x : A) → slice_get old i ≡ Some x → slice_get new i ≡ Some x
grown-get old new g i x h =
    let within : i < length old = slice_get_within old i x h in
    let fits : length old ≤ length new = grown-fits old new g in
    let inside : i < length new = omega arith in
    let here : get_or old i x ≡ x = get_or_from_slice_get old i x x h in
    slice_get-get_or new i x inside ∙ ap (λ y. Some y) (grown-at old new g i x within ∙ here)

pub grown-same : {A : Type 0} (xs : List A) → IsGrown xs xs
grown-same xs = ([], sym (append-nil xs))

abbrev pub grown-trans : {A : Type 0} (xs ys zs : List A) → IsGrown xs ys → IsGrown ys zs → IsGrown xs zs
grown-trans xs ys zs g h = (g.0 ++ h.0, h.1 ∙ ap (λ l. l ++ h.0) g.1 ∙ append_assoc xs g.0 h.0)

pub further-grown : {A : Type 0} (old new : List A) (g : IsGrown old new) → further old new ≡ g.0
further-grown old new g = front_rest new old g.0 g.1

pub grown-front : {A : Type 0} (old new : List A) → IsGrown old new → take (length old) new ≡ old
grown-front {A} old new g =
    let P : List A → Type 0 = λ l. take (length old) l ≡ old in
    subst P (sym g.1) (take_at old g.0 (length old) refl)

-- a list that has grown by nothing is the same
pub grown-equal : {A : Type 0} (old new : List A) → IsGrown old new → length old ≡ length new → old ≡ new
grown-equal old new g same =
    let whole : take (length new) new ≡ new = take_all (length new) new (omega arith) in
    sym (grown-front old new g) ∙ ap (λ n. take n new) same ∙ whole
