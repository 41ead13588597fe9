-- Sets of symbols, and how two ways to cut a list of tokens lie to each other.
use Rattle.std.proofs.Common.{◌≡◌, ◌⊎◌, inl, inr, ℕ, List, [], ◌∷◌, ◌++◌, Bool, true, false, refl, sym, ap, arith}
use Rattle.std.proofs.lemmas.Bool.Decides.{nat_tests}
use Rattle.std.specs.Prelude.{◌==◌, ◌||◌, ◌&&◌, not, if◌then◌else◌}
use Rattle.grammar_rules.specs.Lexemes.{Lexeme, among, disjoint}
use Rattle.grammar_rules.specs.Laws.{Apart}

-- ---- sets of symbols

pub among-left : (xs ys : List ℕ) (n : ℕ) → among xs n ≡ true → among (xs ++ ys) n ≡ true
among-left [] ys n h = cc
among-left (x ∷ xs) ys n h = by_cases (x == n) h (among-left xs ys n)
  where
    by_cases : (b : Bool) → (b || among xs n) ≡ true → (among xs n ≡ true → among (xs ++ ys) n ≡ true) → (b || among (xs ++ ys) n) ≡ true
    by_cases true h r = refl
    by_cases false h r = r h

pub among-right : (xs ys : List ℕ) (n : ℕ) → among ys n ≡ true → among (xs ++ ys) n ≡ true
among-right [] ys n h = h
among-right (x ∷ xs) ys n h = by_cases (x == n) (among-right xs ys n h)
  where
    by_cases : (b : Bool) → among (xs ++ ys) n ≡ true → (b || among (xs ++ ys) n) ≡ true
    by_cases true r = refl
    by_cases false r = r

pub among-split : (xs ys : List ℕ) (n : ℕ) → among (xs ++ ys) n ≡ true → (among xs n ≡ true) ⊎ (among ys n ≡ true)
among-split [] ys n h = inr h
among-split (x ∷ xs) ys n h = by_cases (x == n) h (among-split xs ys n)
  where
    by_cases : (b : Bool) → (b || among (xs ++ ys) n) ≡ true → (among (xs ++ ys) n ≡ true → (among xs n ≡ true) ⊎ (among ys n ≡ true))
        → ((b || among xs n) ≡ true) ⊎ (among ys n ≡ true)
    by_cases true h r = inl refl
    by_cases false h r = r h

pub among-nil : (xs : List ℕ) (n : ℕ) → among (xs ++ []) n ≡ true → among xs n ≡ true
among-nil xs n h = by_cases (among-split xs [] n h)
  where
    by_cases : (among xs n ≡ true) ⊎ (among [] n ≡ true) → among xs n ≡ true
    by_cases (inl a) = a
    by_cases (inr a) = cc

pub if_among : (b : Bool) (set : List ℕ) (n : ℕ) → b ≡ true → among set n ≡ true → among (if b then set else []) n ≡ true
if_among true set n e h = h
if_among false set n e h = absurd cc

equal_numbers : (m n : ℕ) → (m == n) ≡ true → m ≡ n
equal_numbers m n e = grind (arith, nat_tests)

none_shared : (xs ys : List ℕ) (n : ℕ) → disjoint xs ys ≡ true → among xs n ≡ true → among ys n ≡ true → ⊥
none_shared [] ys n d h k = cc
none_shared (x ∷ xs) ys n d h k = by_cases (x == n) (among ys x) refl refl d h (λ rest. none_shared xs ys n rest)
  where
    by_cases : (b a : Bool) → (x == n) ≡ b → among ys x ≡ a → (not a && disjoint xs ys) ≡ true → (b || among xs n) ≡ true
        → (disjoint xs ys ≡ true → among xs n ≡ true → among ys n ≡ true → ⊥) → ⊥
    by_cases b true e f d h later = cc
    by_cases true false e f d h later = let same = equal_numbers x n e in cc (f, k, same)
    by_cases false false e f d h later = later d h k

-- sets that share no symbol, by a test
pub apart_by : (xs ys : List ℕ) → disjoint xs ys ≡ true → Apart xs ys
apart_by xs ys d = record { none = λ t h k. none_shared xs ys t.symbol d h k }

pub either : (b : Bool) → (b ≡ true) ⊎ (b ≡ false)
either true = inl refl
either false = inr refl

pub if_true : {T : Type 0} (t : Bool) (x y : T) → t ≡ true → (if t then x else y) ≡ x
if_true true x y e = refl
if_true false x y e = cc

pub if_false : {T : Type 0} (t : Bool) (x y : T) → t ≡ false → (if t then x else y) ≡ y
if_false true x y e = cc
if_false false x y e = refl

pub and_true : (a b : Bool) → a ≡ true → b ≡ true → (a && b) ≡ true
and_true true true h k = refl
and_true true false h k = k
and_true false b h k = h

-- ---- cuts of one list

-- the first cut is at or behind the second
pub record Behind (left right xs ys : List Lexeme) : Type 0 where
  pub more : List Lexeme
  pub left_is : left ≡ xs ++ more
  pub ys_is : ys ≡ more ++ right

-- the first cut is before the second
pub record Before (left right xs ys : List Lexeme) : Type 0 where
  pub next : Lexeme
  pub more : List Lexeme
  pub xs_is : xs ≡ left ++ next ∷ more
  pub right_is : right ≡ next ∷ more ++ ys

pub cuts : (left right xs ys : List Lexeme) → left ++ right ≡ xs ++ ys → Behind left right xs ys ⊎ Before left right xs ys
cuts left right [] ys e = inl (record { more = left; left_is = refl; ys_is = sym e })
cuts [] right (x ∷ xs) ys e = inr (record { next = x; more = xs; xs_is = refl; right_is = e })
cuts (l ∷ left) right (x ∷ xs) ys e =
    let head : l ≡ x = cc in
    let rest : left ++ right ≡ xs ++ ys = cc in
    by_cases head (cuts left right xs ys rest)
  where
    by_cases : l ≡ x → Behind left right xs ys ⊎ Before left right xs ys → Behind (l ∷ left) right (x ∷ xs) ys ⊎ Before (l ∷ left) right (x ∷ xs) ys
    by_cases head (inl b) = inl (record { more = b.more; left_is = cc (head, b.left_is); ys_is = b.ys_is })
    by_cases head (inr b) = inr (record { next = b.next; more = b.more; xs_is = cc (head, b.xs_is); right_is = b.right_is })

pub nothing_left : (left right : List Lexeme) → left ++ right ≡ [] → left ≡ []
nothing_left [] right e = refl
nothing_left (x ∷ left) right e = cc

pub nothing_right : (left right : List Lexeme) → left ++ right ≡ [] → right ≡ []
nothing_right [] right e = e
nothing_right (x ∷ left) right e = cc

pub nil_or_one : (xs ys : List Lexeme) (t : Lexeme) → xs ++ ys ≡ t ∷ [] → (xs ≡ []) ⊎ (xs ≡ t ∷ [])
nil_or_one [] ys t e = inl refl
nil_or_one (x ∷ []) ys t e = inr cc
nil_or_one (x ∷ z ∷ xs) ys t e = cc

-- a list with one more item has a first item
pub some_end : (right : List Lexeme) (t : Lexeme) → (z : Lexeme) × (zs : List Lexeme) × (right ++ t ∷ [] ≡ z ∷ zs)
some_end [] t = (t, [], refl)
some_end (r ∷ right) t = (r, right ++ t ∷ [], refl)

pub first_same : (right more : List Lexeme) (t z : Lexeme) (zs : List Lexeme) → right ++ t ∷ [] ≡ z ∷ zs → (ws : List Lexeme) × (right ++ t ∷ more ≡ z ∷ ws)
first_same [] more t z zs e = (more, ap (λ (x : Lexeme). x ∷ more) cc)
first_same (r ∷ right) more t z zs e = (right ++ t ∷ more, ap (λ (x : Lexeme). x ∷ (right ++ t ∷ more)) cc)
