-- What holds of a list holds of its front, and what holds of one list holds of another that is walked beside it.
use Rattle.std.proofs.Common.{◌≡◌, ◌∙◌, ℕ, ◌+◌, ◌<◌, ◌≤◌, ◌≢◌, suc, List, [], ◌∷◌, All, ap, arith, get_or, length, refl, subst, sum_by, sym}
use Rattle.std.proofs.lemmas.List.Elements.{AllZip-get_or}
use Rattle.std.proofs.lemmas.List.Prefix.{front_fits, front_reads}
use Rattle.std.proofs.lemmas.List.Sums.{sum_by-cons}
use Rattle.std.specs.List.{AllZip}
use Rattle.std.specs.Prelude.{AllPairs}
use Rattle.input_extension.specs.Extension.{IsGrown}

pub front-all : {A : Type 0} (P : A → Type 0) (old new : List A) → IsGrown old new → All P new → All P old
front-all P old new g all k d within =
    let fits : length old ≤ length new = front_fits new old g.0 g.1 in
    subst P (front_reads d new old g.0 g.1 k within) (all k d (omega arith))

pub front-pairs : {A : Type 0} (R : A → A → Type 0) (old new : List A) → IsGrown old new → AllPairs R new → AllPairs R old
front-pairs {A} R old new g all i j d below within =
    let fits : length old ≤ length new = front_fits new old g.0 g.1 in
    let one : get_or new i d ≡ get_or old i d = front_reads d new old g.0 g.1 i (omega arith) in
    let other : get_or new j d ≡ get_or old j d = front_reads d new old g.0 g.1 j within in
    let P : A → Type 0 = λ x. R x (get_or new j d) in
    let Q : A → Type 0 = λ y. R (get_or old i d) y in
    subst Q other (subst P one (all i j d below (omega arith)))

pub front-order : {A : Type 0} (n : A → ℕ) (old new : List A) → IsGrown old new
    → ((i j : ℕ) (d : A) → i ≤ j → j < length new → n (get_or new i d) ≤ n (get_or new j d))
    → (i j : ℕ) (d : A) → i ≤ j → j < length old → n (get_or old i d) ≤ n (get_or old j d)
front-order {A} n old new g all i j d below within =
    let fits : length old ≤ length new = front_fits new old g.0 g.1 in
    let one : get_or new i d ≡ get_or old i d = front_reads d new old g.0 g.1 i (omega arith) in
    let other : get_or new j d ≡ get_or old j d = front_reads d new old g.0 g.1 j within in
    let P : A → Type 0 = λ x. n x ≤ n (get_or new j d) in
    let Q : A → Type 0 = λ y. n (get_or old i d) ≤ n y in
    subst Q other (subst P one (all i j d below (omega arith)))

pub as-long : {A : Type 0} (R : A → A → Type 0) (xs ys : List A) → AllZip R xs ys → length xs ≡ length ys
as-long R [] [] all = refl
as-long R [] (y ∷ ys) all = absurd all
as-long R (x ∷ xs) [] all = absurd all
as-long R (x ∷ xs) (y ∷ ys) all = ap (λ n. suc n) (as-long R xs ys all.1)

-- what holds of each item of a list and of what follows from it holds of each of the other
pub beside-all : {A : Type 0} (R : A → A → Type 0) (P Q : A → Type 0) → ((x y : A) → R x y → P x → Q y)
    → (xs ys : List A) → AllZip R xs ys → All P xs → All Q ys
beside-all R P Q step xs ys zip all k d within =
    let long : length xs ≡ length ys = as-long R xs ys zip in
    let inside : k < length xs = omega arith in
    step (get_or xs k d) (get_or ys k d) (AllZip-get_or R xs ys k d d zip inside) (all k d inside)

-- the same the other way
pub aside-all : {A : Type 0} (R : A → A → Type 0) (P Q : A → Type 0) → ((x y : A) → R x y → Q y → P x)
    → (xs ys : List A) → AllZip R xs ys → All Q ys → All P xs
aside-all R P Q step xs ys zip all k d within =
    let long : length xs ≡ length ys = as-long R xs ys zip in
    step (get_or xs k d) (get_or ys k d) (AllZip-get_or R xs ys k d d zip within) (all k d (omega arith))

-- names that differ, where those of the two at each place are the same
pub beside-apart : {A : Type 0} (R : A → A → Type 0) (name : A → List ℕ) → ((x y : A) → R x y → name x ≡ name y)
    → (xs ys : List A) → AllZip R xs ys → AllPairs (λ a b. name a ≢ name b) xs → AllPairs (λ a b. name a ≢ name b) ys
beside-apart R name same xs ys zip apart i j d below within equal =
    let long : length xs ≡ length ys = as-long R xs ys zip in
    let inside : j < length xs = omega arith in
    let before : i < length xs = omega arith in
    let one : name (get_or xs i d) ≡ name (get_or ys i d) = same (get_or xs i d) (get_or ys i d) (AllZip-get_or R xs ys i d d zip before) in
    let other : name (get_or xs j d) ≡ name (get_or ys j d) = same (get_or xs j d) (get_or ys j d) (AllZip-get_or R xs ys j d d zip inside) in
    apart i j d below inside (one ∙ equal ∙ sym other)

-- two lists the other way about
pub turned : {A : Type 0} (R : A → A → Type 0) (xs ys : List A) → AllZip R xs ys → AllZip (λ y x. R x y) ys xs
turned R [] [] all = tt
turned R [] (y ∷ ys) all = absurd all
turned R (x ∷ xs) [] all = absurd all
turned R (x ∷ xs) (y ∷ ys) all = (all.0, turned R xs ys all.1)

-- sums over two lists, where one has no more at each place
pub sums-grow : {A : Type 0} (R : A → A → Type 0) (n : A → ℕ) → ((x y : A) → R x y → n x ≤ n y)
    → (xs ys : List A) → AllZip R xs ys → sum_by n xs ≤ sum_by n ys
sums-grow R n less [] [] all = omega arith
sums-grow R n less [] (y ∷ ys) all = absurd all
sums-grow R n less (x ∷ xs) [] all = absurd all
sums-grow R n less (x ∷ xs) (y ∷ ys) all =
    let first : n x ≤ n y = less x y all.0 in
    let rest : sum_by n xs ≤ sum_by n ys = sums-grow R n less xs ys all.1 in
    let one : sum_by n (x ∷ xs) ≡ n x + sum_by n xs = sum_by-cons n x xs in
    let other : sum_by n (y ∷ ys) ≡ n y + sum_by n ys = sum_by-cons n y ys in
    omega arith
