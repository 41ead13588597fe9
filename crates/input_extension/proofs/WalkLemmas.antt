-- Lists that are walked side by side.
use Rattle.std.proofs.Common.{◌≡◌, ◌∙◌, ◌⊎◌, ℕ, zero, suc, ◌+◌, ◌<◌, ◌≤◌, List, [], ◌∷◌, ◌++◌, length, take, drop, get_or, ap, arith, inl, inr, subst, sym}
use Rattle.std.proofs.lemmas.List.{drop_all, drop_more, take_more}
use Rattle.std.proofs.lemmas.List.Elements.{AllZip-push}
use Rattle.std.specs.List.{AllZip}
use Rattle.input_extension.specs.Refusals.{IsDue, IsFirstRefused}
use Rattle.input_extension.specs.declared.extend_err.ExtendErr.{ExtendErr}
use Rattle.input_extension.specs.declared.extend_err.ExtendErr.TheVariants.{Changed, Memory}

-- a relation that holds of each item and itself
pub AllZip-same : {A : Type 0} (R : A → A → Type 0) → ((x : A) → R x x) → (xs : List A) → AllZip R xs xs
AllZip-same R same [] = tt
AllZip-same R same (x ∷ xs) = (same x, AllZip-same R same xs)

-- relations that follow each other
pub AllZip-trans : {A : Type 0} (R S T : A → A → Type 0) → ((x y z : A) → R x y → S y z → T x z)
    → (xs ys zs : List A) → AllZip R xs ys → AllZip S ys zs → AllZip T xs zs
AllZip-trans R S T step [] [] [] r s = tt
AllZip-trans R S T step [] [] (z ∷ zs) r s = absurd s
AllZip-trans R S T step [] (y ∷ ys) zs r s = absurd r
AllZip-trans R S T step (x ∷ xs) [] zs r s = absurd r
AllZip-trans R S T step (x ∷ xs) (y ∷ ys) [] r s = absurd s
AllZip-trans R S T step (x ∷ xs) (y ∷ ys) (z ∷ zs) r s =
    (step x y z r.0 s.0, AllZip-trans R S T step xs ys zs r.1 s.1)

-- one place more
pub walked-more : {A : Type 0} (R : A → A → Type 0) (xs ys : List A) (i : ℕ) (x y : A) → AllZip R (take i xs) (take i ys) → i < length xs → i < length ys
    → x ≡ get_or xs i x → y ≡ get_or ys i y → R x y → AllZip R (take (i + 1) xs) (take (i + 1) ys)
walked-more {A} R xs ys i x y all within inside is also r =
    let P : A → Type 0 = λ z. R z y in
    let Q : A → Type 0 = λ z. R (get_or xs i x) z in
    let here : R (get_or xs i x) (get_or ys i y) = subst Q also (subst P is r) in
    let next : AllZip R (take i xs ++ get_or xs i x ∷ []) (take i ys ++ get_or ys i y ∷ []) =
    AllZip-push R (take i xs) (take i ys) (get_or xs i x) (get_or ys i y) all here in
    rw (take_more xs i x within, take_more ys i y inside) next

-- what is refused behind places that go on
pub refused-behind : {A : Type 0} (called : A → List ℕ) (Extends : A → A → Type 0) (Refused : A → A → ExtendErr → Type 0)
    → (i : ℕ) (olds news : List A) (e : ExtendErr) → AllZip Extends (take i olds) (take i news)
    → IsFirstRefused called Extends Refused (drop i olds) (drop i news) e → IsFirstRefused called Extends Refused olds news e
refused-behind called Extends Refused zero olds news e all h = h
refused-behind called Extends Refused (suc i) [] [] e all h = h
refused-behind called Extends Refused (suc i) [] (n ∷ ns) e all h = absurd all
refused-behind called Extends Refused (suc i) (o ∷ os) [] e all h = absurd all
refused-behind called Extends Refused (suc i) (o ∷ os) (n ∷ ns) e all h =
    inr (all.0, refused-behind called Extends Refused i os ns e all.1 h)

-- the same, where the lists from there on are given
refused-rest : {A : Type 0} (called : A → List ℕ) (Extends : A → A → Type 0) (Refused : A → A → ExtendErr → Type 0)
    → (i : ℕ) (olds news os ns : List A) (e : ExtendErr) → AllZip Extends (take i olds) (take i news) → drop i olds ≡ os → drop i news ≡ ns
    → IsFirstRefused called Extends Refused os ns e → IsFirstRefused called Extends Refused olds news e
refused-rest {A} called Extends Refused i olds news os ns e all is also h =
    let P : List A → Type 0 = λ xs. IsFirstRefused called Extends Refused xs ns e in
    let Q : List A → Type 0 = λ ys. IsFirstRefused called Extends Refused (drop i olds) ys e in
    refused-behind called Extends Refused i olds news e all (subst Q (sym also) (subst P (sym is) h))

-- an old source is gone
pub refused-gone : {A : Type 0} (called : A → List ℕ) (Extends : A → A → Type 0) (Refused : A → A → ExtendErr → Type 0)
    → (i : ℕ) (olds news : List A) (x : A) (e : ExtendErr) → AllZip Extends (take i olds) (take i news) → i < length olds → length news ≤ i
    → x ≡ get_or olds i x → e ≡ Changed (called x) → IsFirstRefused called Extends Refused olds news e
refused-gone {A} called Extends Refused i olds news x e all within past is h =
    let P : A → Type 0 = λ y. e ≡ Changed (called y) in
    refused-rest called Extends Refused i olds news (get_or olds i x ∷ drop (i + 1) olds) [] e all
    (drop_more olds i x within) (drop_all i news past) (subst P is h)

-- a new source has come
pub refused-come : {A : Type 0} (called : A → List ℕ) (Extends : A → A → Type 0) (Refused : A → A → ExtendErr → Type 0)
    → (i : ℕ) (olds news : List A) (x : A) (e : ExtendErr) → AllZip Extends (take i olds) (take i news) → length olds ≤ i → i < length news
    → x ≡ get_or news i x → e ≡ Changed (called x) → IsFirstRefused called Extends Refused olds news e
refused-come {A} called Extends Refused i olds news x e all past within is h =
    let P : A → Type 0 = λ y. e ≡ Changed (called y) in
    refused-rest called Extends Refused i olds news [] (get_or news i x ∷ drop (i + 1) news) e all
    (drop_all i olds past) (drop_more news i x within) (subst P is h)

-- the two sources at a place are refused
pub refused-here : {A : Type 0} (called : A → List ℕ) (Extends : A → A → Type 0) (Refused : A → A → ExtendErr → Type 0)
    → (i : ℕ) (olds news : List A) (x y : A) (e : ExtendErr) → AllZip Extends (take i olds) (take i news) → i < length olds → i < length news
    → x ≡ get_or olds i x → y ≡ get_or news i y → Refused x y e → IsFirstRefused called Extends Refused olds news e
refused-here {A} called Extends Refused i olds news x y e all within inside is also h =
    let P : A → Type 0 = λ z. Refused z y e in
    let Q : A → Type 0 = λ z. Refused (get_or olds i x) z e in
    refused-rest called Extends Refused i olds news (get_or olds i x ∷ drop (i + 1) olds) (get_or news i y ∷ drop (i + 1) news) e all
    (drop_more olds i x within) (drop_more news i y inside) (inl (subst Q also (subst P is h)))

-- what is due follows from what is due
pub due-from : (P Q : ExtendErr → Type 0) (e : ExtendErr) → (P e → Q e) → IsDue P e → IsDue Q e
due-from P Q e step due = elim due [ inl memory ↦ inl memory | inr p ↦ inr (step p) ]

pub due-here : {A : Type 0} (called : A → List ℕ) (Extends : A → A → Type 0) (Refused : A → A → ExtendErr → Type 0)
    → (i : ℕ) (olds news : List A) (x y : A) (e : ExtendErr) → AllZip Extends (take i olds) (take i news) → i < length olds → i < length news
    → x ≡ get_or olds i x → y ≡ get_or news i y → IsDue (Refused x y) e → IsDue (IsFirstRefused called Extends Refused olds news) e
due-here called Extends Refused i olds news x y e all within inside is also due =
    due-from (Refused x y) (IsFirstRefused called Extends Refused olds news) e
    (refused-here called Extends Refused i olds news x y e all within inside is also) due

pub due-gone : {A : Type 0} (called : A → List ℕ) (Extends : A → A → Type 0) (Refused : A → A → ExtendErr → Type 0)
    → (i : ℕ) (olds news : List A) (x : A) (name : List ℕ) (e : ExtendErr) → AllZip Extends (take i olds) (take i news) → i < length olds → length news ≤ i
    → x ≡ get_or olds i x → name ≡ called x → (e ≡ Memory) ⊎ (e ≡ Changed name) → IsDue (IsFirstRefused called Extends Refused olds news) e
due-gone called Extends Refused i olds news x name e all within past is told due = elim due [
  | inl memory ↦ inl memory
  | inr changed ↦ inr (refused-gone called Extends Refused i olds news x e all within past is (changed ∙ ap (λ n. Changed n) told))
]

pub due-come : {A : Type 0} (called : A → List ℕ) (Extends : A → A → Type 0) (Refused : A → A → ExtendErr → Type 0)
    → (i n : ℕ) (olds news : List A) (x : A) (name : List ℕ) (e : ExtendErr) → AllZip Extends (take i olds) (take i news) → length olds ≤ i → i ≤ length olds → n ≡ length olds → n < length news
    → x ≡ get_or news n x → name ≡ called x → (e ≡ Memory) ⊎ (e ≡ Changed name) → IsDue (IsFirstRefused called Extends Refused olds news) e
due-come {A} called Extends Refused i n olds news x name e all past most end within is told due =
    let same : i ≡ n = omega arith in
    let P : ℕ → Type 0 = λ k. AllZip Extends (take k olds) (take k news) in
    let reached : length olds ≤ n = omega arith in
    elim due [
      | inl memory ↦ inl memory
      | inr changed ↦ inr (refused-come called Extends Refused n olds news x e (subst P same all) reached within is (changed ∙ ap (λ m. Changed m) told))
    ]

-- no pair of lists that goes on is refused
pub first-excludes : {A : Type 0} (called : A → List ℕ) (Extends : A → A → Type 0) (Refused : A → A → ExtendErr → Type 0) (e : ExtendErr)
    → ((x y : A) → Refused x y e → Extends x y → ⊥)
    → (olds news : List A) → IsFirstRefused called Extends Refused olds news e → AllZip Extends olds news → ⊥
first-excludes called Extends Refused e excluded [] [] h all = h
first-excludes called Extends Refused e excluded [] (n ∷ ns) h all = all
first-excludes called Extends Refused e excluded (o ∷ os) [] h all = all
first-excludes called Extends Refused e excluded (o ∷ os) (n ∷ ns) h all =
    elim h [
      | inl here ↦ excluded o n here all.0
      | inr behind ↦ first-excludes called Extends Refused e excluded os ns behind.1 all.1
    ]

-- no two refusals are first
pub first-unique : {A : Type 0} (called : A → List ℕ) (Extends : A → A → Type 0) (Refused : A → A → ExtendErr → Type 0) (e f : ExtendErr)
    → ((x y : A) → Refused x y e → Extends x y → ⊥) → ((x y : A) → Refused x y f → Extends x y → ⊥)
    → ((x y : A) → Refused x y e → Refused x y f → e ≡ f)
    → (olds news : List A) → IsFirstRefused called Extends Refused olds news e → IsFirstRefused called Extends Refused olds news f → e ≡ f
first-unique called Extends Refused e f not_e not_f unique [] [] h k = absurd h
first-unique called Extends Refused e f not_e not_f unique [] (n ∷ ns) h k = h ∙ sym k
first-unique called Extends Refused e f not_e not_f unique (o ∷ os) [] h k = h ∙ sym k
first-unique called Extends Refused e f not_e not_f unique (o ∷ os) (n ∷ ns) h k =
    elim h [
      | inl here ↦ elim k [
        | inl also ↦ unique o n here also
        | inr behind ↦ absurd (not_e o n here behind.0)
      ]
      | inr behind ↦ elim k [
        | inl here ↦ absurd (not_f o n here behind.0)
        | inr also ↦ first-unique called Extends Refused e f not_e not_f unique os ns behind.1 also.1
      ]
    ]
