-- Laws of grammars whose parts are told apart by one token.
use Rattle.std.proofs.Common.{◌≡◌, ◌⊎◌, inl, inr, ℕ, zero, suc, List, [], ◌∷◌, ◌++◌, length-append, Bool, true, false, refl, ap, sym, ◌∙◌, subst, append_assoc, arith}
use Rattle.std.specs.Prelude.{◌&&◌, if◌then◌else◌}
use Rattle.grammar_rules.specs.Lexemes.{Lexeme}
use Rattle.grammar_rules.specs.Rules.{Grammar, token, nothing, never, both, tree, choice, or_nothing, times, repeated, within, cons_of}
use Rattle.grammar_rules.specs.Laws.{Among, Apart, Lawful}
use Rattle.grammar_rules.proofs.Cuts.{among-left, among-right, among-split, among-nil, if_among, and_true, Behind, Before, cuts, nothing_left, nothing_right, nil_or_one, some_end}

pub closed_at : (A : Type 0) (grammar : Grammar A) (b c : List ℕ) (n : Bool) → Lawful A grammar b c n → (xs : List Lexeme) (t : Lexeme) (ys : List Lexeme)
    → grammar.beginning (xs ++ t ∷ ys) → grammar.beginning (xs ++ t ∷ [])
closed_at A grammar b c n l xs t ys f = l.closed (xs ++ t ∷ []) ys (subst (λ (ts : List Lexeme). grammar.beginning ts) (sym (append_assoc xs (t ∷ []) ys)) f)

pub closed_first : (A : Type 0) (grammar : Grammar A) (b c : List ℕ) (n : Bool) → Lawful A grammar b c n → (t : Lexeme) (ys : List Lexeme) → grammar.beginning (t ∷ ys) → Among b t
closed_first A grammar b c n l t ys f = l.first t (l.closed (t ∷ []) ys f)

-- ---- one grammar and then another

module _ (A B : Type 0) (R : Grammar A) (S : Grammar B) (b₁ c₁ b₂ c₂ : List ℕ) (n₁ n₂ : Bool) (first_laws : Lawful A R b₁ c₁ n₁) (second_laws : Lawful B S b₂ c₂ n₂) (apart : Apart c₁ b₂) where
  both_closed : (xs ys : List Lexeme) → (both R S).beginning (xs ++ ys) → (both R S).beginning xs
  both_closed xs ys (inl f) = inl (first_laws.closed xs ys f)
  both_closed xs ys (inr s) = by_cases (cuts s.0 s.1 xs ys s.3)
    where
      by_cases : Behind s.0 s.1 xs ys ⊎ Before s.0 s.1 xs ys → (both R S).beginning xs
      by_cases (inl b) = inl (first_laws.closed xs b.more (subst (λ (ts : List Lexeme). R.beginning ts) b.left_is (first_laws.begun s.0 s.2 s.4)))
      by_cases (inr b) = inr (s.0, b.next ∷ b.more, s.2, sym b.xs_is, s.4, second_laws.closed (b.next ∷ b.more) ys (subst (λ (ts : List Lexeme). S.beginning ts) b.right_is s.5))

  both_begun : (xs : List Lexeme) (pair : A × B) → (both R S).whole xs pair → (both R S).beginning xs
  both_begun xs pair w = inr (w.0, w.1, pair.0, w.2, w.3, second_laws.begun w.1 pair.1 w.4)

  first_at : (t : Lexeme) (left right : List Lexeme) (a : A) → left ++ right ≡ t ∷ [] → R.whole left a → S.beginning right → Among (b₁ ++ (if n₁ then b₂ else [])) t
  first_at t [] right a e w s =
      among-right b₁ (if n₁ then b₂ else []) (t.symbol) (if_among n₁ b₂ (t.symbol) (first_laws.none a w) (second_laws.first t (subst (λ (ts : List Lexeme). S.beginning ts) e s)))
  first_at t (x ∷ left) right a e w s =
      let same : x ≡ t = cc in
      among-left b₁ (if n₁ then b₂ else []) (t.symbol)
      (subst (λ (y : Lexeme). Among b₁ y) same (closed_first A R b₁ c₁ n₁ first_laws x left (first_laws.begun (x ∷ left) a w)))

  both_first : (t : Lexeme) → (both R S).beginning (t ∷ []) → Among (b₁ ++ (if n₁ then b₂ else [])) t
  both_first t (inl f) = among-left b₁ (if n₁ then b₂ else []) (t.symbol) (first_laws.first t f)
  both_first t (inr s) = first_at t s.0 s.1 s.2 s.3 s.4 s.5

  -- what follows a whole of the first grammar in a beginning of it
  follow : (left right : List Lexeme) (a : A) (b : B) (t z : Lexeme) (zs : List Lexeme) → R.whole left a → S.whole right b → right ++ t ∷ [] ≡ z ∷ zs → R.beginning (left ++ z ∷ []) → Among (c₂ ++ (if n₂ then c₁ else [])) t
  follow left [] a b t z zs w v e f =
      let same : z ≡ t = cc in
      among-right c₂ (if n₂ then c₁ else []) (t.symbol) (if_among n₂ c₁ (t.symbol) (second_laws.none b v) (subst (λ (y : Lexeme). Among c₁ y) same (first_laws.next left a z w f)))
  follow left (r ∷ right) a b t z zs w v e f =
      let same : z ≡ r = cc in
      absurd (apart.none r (subst (λ (y : Lexeme). Among c₁ y) same (first_laws.next left a z w f)) (closed_first B S b₂ c₂ n₂ second_laws r right (second_laws.begun (r ∷ right) b v)))

  -- a cut before the end of the first whole is none
  pub no_cut_before : (left right xs ys : List Lexeme) (a a' : A) → R.whole left a → S.beginning right → R.whole xs a' → Before left right xs ys → ⊥
  no_cut_before left right xs ys a a' w s v b =
      apart.none b.next
      (first_laws.next left a b.next w (closed_at A R b₁ c₁ n₁ first_laws left b.next b.more (subst (λ (ts : List Lexeme). R.beginning ts) b.xs_is (first_laws.begun xs a' v))))
      (closed_first B S b₂ c₂ n₂ second_laws b.next (b.more ++ ys) (subst (λ (ts : List Lexeme). S.beginning ts) b.right_is s))

  next_behind : (left right more right' : List Lexeme) (a a' : A) (b : B) (t : Lexeme) → R.whole left a → S.whole right b → R.whole (left ++ more) a' → S.beginning right' → right ++ t ∷ [] ≡ more ++ right' → Among (c₂ ++ (if n₂ then c₁ else [])) t
  next_behind left right [] right' a a' b t w v w' s e =
      among-left c₂ (if n₂ then c₁ else []) (t.symbol) (second_laws.next right b t v (subst (λ (ts : List Lexeme). S.beginning ts) (sym e) s))
  next_behind left right (m ∷ more) right' a a' b t w v w' s e =
      follow left right a b t m (more ++ right') w v e (closed_at A R b₁ c₁ n₁ first_laws left m more (first_laws.begun (left ++ m ∷ more) a' w'))

  both_next : (xs : List Lexeme) (pair : A × B) (t : Lexeme) → (both R S).whole xs pair → (both R S).beginning (xs ++ t ∷ []) → Among (c₂ ++ (if n₂ then c₁ else [])) t
  both_next xs pair t w (inl f) =
      let end = some_end w.1 t in
      let e : xs ++ t ∷ [] ≡ w.0 ++ end.0 ∷ end.1 = ap (λ (ts : List Lexeme). ts ++ t ∷ []) (sym w.2) ∙ append_assoc w.0 w.1 (t ∷ []) ∙ ap (λ (ts : List Lexeme). w.0 ++ ts) end.2 in
      follow w.0 w.1 pair.0 pair.1 t end.0 end.1 w.3 w.4 end.2 (closed_at A R b₁ c₁ n₁ first_laws w.0 end.0 end.1 (subst (λ (ts : List Lexeme). R.beginning ts) e f))
  both_next xs pair t w (inr s) =
      let e : s.0 ++ s.1 ≡ w.0 ++ (w.1 ++ t ∷ []) = s.3 ∙ ap (λ (ts : List Lexeme). ts ++ t ∷ []) (sym w.2) ∙ append_assoc w.0 w.1 (t ∷ []) in
      by_cases (cuts s.0 s.1 w.0 (w.1 ++ t ∷ []) e)
    where
      by_cases : Behind s.0 s.1 w.0 (w.1 ++ t ∷ []) ⊎ Before s.0 s.1 w.0 (w.1 ++ t ∷ []) → Among (c₂ ++ (if n₂ then c₁ else [])) t
      by_cases (inl b) = next_behind w.0 w.1 b.more s.1 pair.0 s.2 pair.1 t w.3 w.4 (subst (λ (ts : List Lexeme). R.whole ts s.2) b.left_is s.4) s.5 b.ys_is
      by_cases (inr b) = absurd (no_cut_before s.0 s.1 w.0 (w.1 ++ t ∷ []) s.2 pair.0 s.4 s.5 w.3 b)

  both_none : (pair : A × B) → (both R S).whole [] pair → (n₁ && n₂) ≡ true
  both_none pair w = and_true n₁ n₂
      (first_laws.none pair.0 (subst (λ (ts : List Lexeme). R.whole ts pair.0) (nothing_left w.0 w.1 w.2) w.3))
      (second_laws.none pair.1 (subst (λ (ts : List Lexeme). S.whole ts pair.1) (nothing_right w.0 w.1 w.2) w.4))

  pub Lawful-both : Lawful (A × B) (both R S) (b₁ ++ (if n₁ then b₂ else [])) (c₂ ++ (if n₂ then c₁ else [])) (n₁ && n₂)
  Lawful-both = record {
    empty = inl first_laws.empty;
    closed = both_closed;
    begun = both_begun;
    first = both_first;
    next = both_next;
    none = both_none;
  }

-- ---- a token

module _ (set : List ℕ) where
  token_closed : (xs ys : List Lexeme) → (token set).beginning (xs ++ ys) → (token set).beginning xs
  token_closed xs ys (inl e) = inl (nothing_left xs ys e)
  token_closed xs ys (inr s) = by_cases (nil_or_one xs ys s.0 s.1)
    where
      by_cases : (xs ≡ []) ⊎ (xs ≡ s.0 ∷ []) → (token set).beginning xs
      by_cases (inl e) = inl e
      by_cases (inr e) = inr (s.0, e, s.2)

  token_first : (t : Lexeme) → (token set).beginning (t ∷ []) → Among set t
  token_first t (inl e) = cc
  token_first t (inr s) =
      let same : t ≡ s.0 = cc (s.1) in
      subst (λ (u : Lexeme). Among set u) (sym same) s.2

  token_next : (xs : List Lexeme) (a t : Lexeme) → (token set).whole xs a → (token set).beginning (xs ++ t ∷ []) → Among [] t
  token_next [] a t w f = cc (w.0)
  token_next (x ∷ xs) a t w (inl e) = cc
  token_next (x ∷ []) a t w (inr s) = cc (s.1)
  token_next (x ∷ y ∷ xs) a t w (inr s) = cc (s.1)

  pub Lawful-token : Lawful Lexeme (token set) set [] false
  Lawful-token = record {
    empty = inl refl;
    closed = token_closed;
    begun = λ xs a w. inr (a, w.0, w.1);
    first = token_first;
    next = token_next;
    none = λ a w. cc (w.0);
  }

-- ---- nothing, and a grammar that is refused

pub Lawful-nothing : Lawful (Unit {0}) nothing [] [] true
Lawful-nothing = record {
  empty = refl;
  closed = nothing_left;
  begun = λ xs a w. w;
  first = λ t f. absurd (cc (f));
  next = λ xs a t w f. absurd (cc (nothing_right xs (t ∷ []) f));
  none = λ a w. refl;
}

pub Lawful-never : (A : Type 0) (b c : List ℕ) → Lawful A never b c false
Lawful-never A b c = record {
  empty = refl;
  closed = nothing_left;
  begun = λ xs a w. absurd w;
  first = λ t f. absurd (cc (f));
  next = λ xs a t w f. absurd w;
  none = λ a w. absurd w;
}

-- ---- within a number of tokens

pub Lawful-within : (A : Type 0) (R : Grammar A) (b c : List ℕ) (n : Bool) (most : ℕ) → Lawful A R b c n → Lawful A (within most R) b c n
Lawful-within A R b c n most laws = record {
  empty = (omega arith, laws.empty);
  closed = λ xs ys f. (let l = f.0 in omega (arith, length-append xs ys), laws.closed xs ys f.1);
  begun = λ xs a w. (w.0, laws.begun xs a w.1);
  first = λ t f. laws.first t f.1;
  next = λ xs a t w f. laws.next xs a t w.1 f.1;
  none = λ a w. laws.none a w.1;
}

-- ---- other trees

pub Lawful-tree : (A B : Type 0) (f : A → B) (R : Grammar A) (b c : List ℕ) (n : Bool) → Lawful A R b c n → Lawful B (tree f R) b c n
Lawful-tree A B f R b c n laws = record {
  empty = laws.empty;
  closed = laws.closed;
  begun = λ xs tree_of w. laws.begun xs w.0 w.1;
  first = laws.first;
  next = λ xs tree_of t w g. laws.next xs w.0 t w.1 g;
  none = λ tree_of w. laws.none w.0 w.1;
}

-- ---- wider sets

pub Lawful-wider : (A : Type 0) (R : Grammar A) (b c b' c' : List ℕ) (n n' : Bool) → Lawful A R b c n → ((t : Lexeme) → Among b t → Among b' t) → ((t : Lexeme) → Among c t → Among c' t) → (n ≡ true → n' ≡ true) → Lawful A R b' c' n'
Lawful-wider A R b c b' c' n n' laws more_begin more_continue more_none = record {
  empty = laws.empty;
  closed = laws.closed;
  begun = laws.begun;
  first = λ t f. more_begin t (laws.first t f);
  next = λ xs a t w f. more_continue t (laws.next xs a t w f);
  none = λ a w. more_none (laws.none a w);
}

-- ---- one grammar or another

module _ (A B : Type 0) (R : Grammar A) (S : Grammar B) (b₁ c₁ b₂ c₂ : List ℕ) (n₂ : Bool) (first_laws : Lawful A R b₁ c₁ false) (second_laws : Lawful B S b₂ c₂ n₂) (apart : Apart b₁ b₂) where
  abbrev pub choice_continues : List ℕ
  choice_continues = (c₁ ++ c₂) ++ (if n₂ then b₁ else [])

  choice_closed : (xs ys : List Lexeme) → (choice R S).beginning (xs ++ ys) → (choice R S).beginning xs
  choice_closed xs ys (inl f) = inl (first_laws.closed xs ys f)
  choice_closed xs ys (inr f) = inr (second_laws.closed xs ys f)

  choice_begun : (xs : List Lexeme) (a : A ⊎ B) → (choice R S).whole xs a → (choice R S).beginning xs
  choice_begun xs (inl a) w = inl (first_laws.begun xs a w)
  choice_begun xs (inr a) w = inr (second_laws.begun xs a w)

  choice_first : (t : Lexeme) → (choice R S).beginning (t ∷ []) → Among (b₁ ++ b₂) t
  choice_first t (inl f) = among-left b₁ b₂ (t.symbol) (first_laws.first t f)
  choice_first t (inr f) = among-right b₁ b₂ (t.symbol) (second_laws.first t f)

  -- no list but nothing is a beginning of both
  pub not_both : (t : Lexeme) (xs ys : List Lexeme) → R.beginning (t ∷ xs) → S.beginning (t ∷ ys) → ⊥
  not_both t xs ys f g = apart.none t (closed_first A R b₁ c₁ false first_laws t xs f) (closed_first B S b₂ c₂ n₂ second_laws t ys g)

  first_continues : (t : Lexeme) → Among c₁ t → Among choice_continues t
  first_continues t h = among-left (c₁ ++ c₂) (if n₂ then b₁ else []) (t.symbol) (among-left c₁ c₂ (t.symbol) h)

  second_continues : (t : Lexeme) → Among c₂ t → Among choice_continues t
  second_continues t h = among-left (c₁ ++ c₂) (if n₂ then b₁ else []) (t.symbol) (among-right c₁ c₂ (t.symbol) h)

  nothing_continues : (t : Lexeme) → n₂ ≡ true → Among b₁ t → Among choice_continues t
  nothing_continues t e h = among-right (c₁ ++ c₂) (if n₂ then b₁ else []) (t.symbol) (if_among n₂ b₁ (t.symbol) e h)

  choice_next : (xs : List Lexeme) (a : A ⊎ B) (t : Lexeme) → (choice R S).whole xs a → (choice R S).beginning (xs ++ t ∷ []) → Among choice_continues t
  choice_next xs (inl a) t w (inl f) = first_continues t (first_laws.next xs a t w f)
  choice_next [] (inl a) t w (inr f) = absurd (cc (first_laws.none a w))
  choice_next (x ∷ xs) (inl a) t w (inr f) = absurd (not_both x xs (xs ++ t ∷ []) (first_laws.begun (x ∷ xs) a w) f)
  choice_next [] (inr a) t w (inl f) = nothing_continues t (second_laws.none a w) (first_laws.first t f)
  choice_next (x ∷ xs) (inr a) t w (inl f) = absurd (not_both x (xs ++ t ∷ []) xs f (second_laws.begun (x ∷ xs) a w))
  choice_next xs (inr a) t w (inr f) = second_continues t (second_laws.next xs a t w f)

  choice_none : (a : A ⊎ B) → (choice R S).whole [] a → n₂ ≡ true
  choice_none (inl a) w = absurd (cc (first_laws.none a w))
  choice_none (inr a) w = second_laws.none a w

  pub Lawful-choice : Lawful (A ⊎ B) (choice R S) (b₁ ++ b₂) choice_continues n₂
  Lawful-choice = record { empty = inl first_laws.empty; closed = choice_closed; begun = choice_begun; first = choice_first; next = choice_next; none = choice_none }

-- ---- what may be absent

module _ (A : Type 0) (absent : A) (R : Grammar A) (b c : List ℕ) (n : Bool) (laws : Lawful A R b c n) where
  or_nothing_closed : (xs ys : List Lexeme) → (or_nothing absent R).beginning (xs ++ ys) → (or_nothing absent R).beginning xs
  or_nothing_closed xs ys (inl e) = inl (nothing_left xs ys e)
  or_nothing_closed xs ys (inr f) = inr (laws.closed xs ys f)

  or_nothing_begun : (xs : List Lexeme) (a : A) → (or_nothing absent R).whole xs a → (or_nothing absent R).beginning xs
  or_nothing_begun xs a (inl e) = inl e.0
  or_nothing_begun xs a (inr w) = inr (laws.begun xs a w)

  or_nothing_first : (t : Lexeme) → (or_nothing absent R).beginning (t ∷ []) → Among b t
  or_nothing_first t (inl e) = cc
  or_nothing_first t (inr f) = laws.first t f

  or_nothing_next : (xs : List Lexeme) (a : A) (t : Lexeme) → (or_nothing absent R).whole xs a → (or_nothing absent R).beginning (xs ++ t ∷ []) → Among (c ++ b) t
  or_nothing_next xs a t w (inl e) = cc (nothing_right xs (t ∷ []) e)
  or_nothing_next xs a t (inl e) (inr f) =
      among-right c b (t.symbol) (laws.first t (subst (λ (ts : List Lexeme). R.beginning (ts ++ t ∷ [])) e.0 f))
  or_nothing_next xs a t (inr w) (inr f) = among-left c b (t.symbol) (laws.next xs a t w f)

  pub Lawful-or_nothing : Lawful A (or_nothing absent R) b (c ++ b) true
  Lawful-or_nothing = record {
    empty = inl refl;
    closed = or_nothing_closed;
    begun = or_nothing_begun;
    first = or_nothing_first;
    next = or_nothing_next;
    none = λ a w. refl;
  }

-- ---- a grammar any number of times

-- a number that is so much greater
pub after : ℕ → ℕ → ℕ
after zero n = n
after (suc m) n = suc (after m n)

module _ (A : Type 0) (R : Grammar A) (b c : List ℕ) (laws : Lawful A R b c false) (apart : Apart c b) where
  times_continues : (t : Lexeme) → Among (((c ++ b) ++ c) ++ (b ++ [])) t → Among (c ++ b) t
  times_continues t h = outer (among-split ((c ++ b) ++ c) (b ++ []) (t.symbol) h)
    where
      inner : (Among (c ++ b) t) ⊎ (Among c t) → Among (c ++ b) t
      inner (inl a) = a
      inner (inr a) = among-left c b (t.symbol) a

      outer : (Among ((c ++ b) ++ c) t) ⊎ (Among (b ++ []) t) → Among (c ++ b) t
      outer (inl a) = inner (among-split (c ++ b) c (t.symbol) a)
      outer (inr a) = among-right c b (t.symbol) (among-nil b (t.symbol) a)

  zero_next : (xs : List Lexeme) (trees : List A) (t : Lexeme) → (times zero R).whole xs trees → (times zero R).beginning (xs ++ t ∷ []) → Among (c ++ b) t
  zero_next xs trees t w f = cc (nothing_right xs (t ∷ []) f)

  pub Lawful-times : (n : ℕ) → Lawful (List A) (times n R) b (c ++ b) true
  Lawful-times zero = record {
    empty = refl;
    closed = nothing_left;
    begun = λ xs trees w. w.0;
    first = λ t f. absurd (cc (f));
    next = zero_next;
    none = λ trees w. refl;
  }
  Lawful-times (suc n) =
      Lawful-wider (List A) (times (suc n) R) (b ++ []) (((c ++ b) ++ c) ++ (b ++ [])) b (c ++ b) true true
      (Lawful-or_nothing (List A) [] (tree cons_of (both R (times n R))) (b ++ []) ((c ++ b) ++ c) (false && true)
      (Lawful-tree (A × List A) (List A) cons_of (both R (times n R)) (b ++ []) ((c ++ b) ++ c) (false && true)
      (Lawful-both A (List A) R (times n R) b c b (c ++ b) false true laws (Lawful-times n) apart)))
      (λ t h. among-nil b (t.symbol) h) times_continues (λ e. e)

  whole_up : (n : ℕ) (ts : List Lexeme) (trees : List A) → (times n R).whole ts trees → (times (suc n) R).whole ts trees
  whole_up zero ts trees w = inl w
  whole_up (suc n) ts trees (inl w) = inl w
  whole_up (suc n) ts trees (inr w) = inr (w.0, (w.1.0, w.1.1, w.1.2, w.1.3, whole_up n w.1.1 w.0.1 w.1.4), w.2)

  pub whole_after : (m n : ℕ) (ts : List Lexeme) (trees : List A) → (times n R).whole ts trees → (times (after m n) R).whole ts trees
  unfolding after
  whole_after zero n ts trees w = w
  whole_after (suc m) n ts trees w = whole_up (after m n) ts trees (whole_after m n ts trees w)

  pub beginning_after : (m n : ℕ) (ts : List Lexeme) → (times m R).beginning ts → (times (after m n) R).beginning ts
  unfolding after
  beginning_after zero n ts f = subst (λ (xs : List Lexeme). (times n R).beginning xs) (sym f) (Lawful-times n).empty
  beginning_after (suc m) n ts (inl e) = inl e
  beginning_after (suc m) n ts (inr (inl f)) = inr (inl f)
  beginning_after (suc m) n ts (inr (inr s)) = inr (inr (s.0, s.1, s.2, s.3, s.4, beginning_after m n s.1 s.5))

  pub Lawful-repeated : Lawful (List A) (repeated R) b (c ++ b) true
  Lawful-repeated = record {
    empty = (zero, refl);
    closed = λ xs ys f. (f.0, (Lawful-times f.0).closed xs ys f.1);
    begun = λ xs trees w. (w.0, (Lawful-times w.0).begun xs trees w.1);
    first = λ t f. (Lawful-times f.0).first t f.1;
    next = λ xs trees t w f. (Lawful-times (after f.0 w.0)).next xs trees t (whole_after f.0 w.0 xs trees w.1) (beginning_after f.0 w.0 (xs ++ t ∷ []) f.1);
    none = λ trees w. refl;
  }
