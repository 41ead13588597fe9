-- A grammar within limits beside the same grammar without them: each way to join grammars keeps what holds between the two.
use Rattle.std.proofs.Common.{◌≡◌, ◌⊎◌, inl, inr, ◌≤◌, ℕ, zero, suc, List, [], ◌∷◌, ◌++◌, Bool, true, false, sym, ◌∙◌, subst, arith}
use Rattle.std.proofs.lemmas.List.{append-nil}
use Rattle.grammar_rules.specs.Lexemes.{Lexeme}
use Rattle.grammar_rules.specs.Rules.{Grammar, both, tree, choice, or_nothing, times, repeated, within, cons_of}
use Rattle.grammar_rules.specs.Laws.{Apart, Lawful, Under}
use Rattle.grammar_rules.proofs.Cuts.{Behind, Before, cuts}
use Rattle.grammar_rules.proofs.RuleLaws.{closed_at, closed_first, Lawful-times, whole_after, beginning_after, after}

pub Under-same : (A : Type 0) (R : Grammar A) → Under A R R
Under-same A R = record { whole = λ ts a w. w; beginning = λ ts f. f; solid = λ ts a w f. w }

pub Under-tree : (A B : Type 0) (f : A → B) (R U : Grammar A) → Under A R U → Under B (tree f R) (tree f U)
Under-tree A B f R U under = record {
  whole = λ ts b w. (w.0, under.whole ts w.0 w.1, w.2);
  beginning = under.beginning;
  solid = λ ts b w g. (w.0, under.solid ts w.0 w.1 g, w.2);
}

pub Under-within : (A : Type 0) (R U : Grammar A) (most more : ℕ) → most ≤ more → Under A R U → Under A (within most R) (within more U)
Under-within A R U most more le under = record {
  whole = λ ts a w. (let l = w.0 in omega arith, under.whole ts a w.1);
  beginning = λ ts f. (let l = f.0 in omega arith, under.beginning ts f.1);
  solid = λ ts a w f. (f.0, under.solid ts a w.1 f.1);
}

-- ---- one grammar and then another

module _ (A B : Type 0) (R U : Grammar A) (S V : Grammar B) (b₁ c₁ b₂ c₂ : List ℕ) (n₁ n₂ : Bool) (first_laws : Lawful A R b₁ c₁ n₁) (first_free : Lawful A U b₁ c₁ n₁)
    (second_laws : Lawful B S b₂ c₂ n₂) (second_free : Lawful B V b₂ c₂ n₂) (apart : Apart c₁ b₂) (first : Under A R U) (second : Under B S V) where
  both_whole : (ts : List Lexeme) (pair : A × B) → (both R S).whole ts pair → (both U V).whole ts pair
  both_whole ts pair w = (w.0, w.1, w.2, first.whole w.0 pair.0 w.3, second.whole w.1 pair.1 w.4)

  both_beginning : (ts : List Lexeme) → (both R S).beginning ts → (both U V).beginning ts
  both_beginning ts (inl f) = inl (first.beginning ts f)
  both_beginning ts (inr s) = inr (s.0, s.1, s.2, s.3, first.whole s.0 s.2 s.4, second.beginning s.1 s.5)

  -- a whole of the first that could go on with what begins the second
  goes_on : (left : List Lexeme) (a : A) (z : Lexeme) (zs : List Lexeme) → U.whole left a → U.beginning (left ++ z ∷ []) → V.beginning (z ∷ zs) → ⊥
  goes_on left a z zs w f g = apart.none z (first_free.next left a z w f) (closed_first B V b₂ c₂ n₂ second_free z zs g)

  in_first : (left right : List Lexeme) (a : A) (b : B) → U.whole left a → V.whole right b → R.beginning (left ++ right) → R.whole left a × S.whole right b
  in_first left [] a b w v f =
      (first.solid left a w (subst (λ (ts : List Lexeme). R.beginning ts) (append-nil left) f), second.solid [] b v second_laws.empty)
  in_first left (z ∷ right) a b w v f =
      absurd (goes_on left a z right w (first.beginning (left ++ z ∷ []) (closed_at A R b₁ c₁ n₁ first_laws left z right f)) (second_free.begun (z ∷ right) b v))

  behind : (left right left' right' more : List Lexeme) (a a' : A) (b : B) → U.whole left a → V.whole right b → R.whole left' a' → S.beginning right' → left' ≡ left ++ more → right ≡ more ++ right'
      → R.whole left a × S.whole right b
  behind left right left' right' [] a a' b w v w' s l r = (
    first.solid left a w (subst (λ (ts : List Lexeme). R.beginning ts) (l ∙ append-nil left) (first_laws.begun left' a' w')),
    second.solid right b v (subst (λ (ts : List Lexeme). S.beginning ts) (sym r) s),
  )
  behind left right left' right' (m ∷ more) a a' b w v w' s l r =
      absurd (goes_on left a m (more ++ right') w
      (closed_at A U b₁ c₁ n₁ first_free left m more (subst (λ (ts : List Lexeme). U.beginning ts) l (first_free.begun left' a' (first.whole left' a' w'))))
      (subst (λ (ts : List Lexeme). V.beginning ts) r (second_free.begun right b v)))

  before : (left right left' right' : List Lexeme) (a a' : A) → U.whole left a → R.whole left' a' → S.beginning right' → Before left' right' left right → ⊥
  before left right left' right' a a' w w' s c =
      goes_on left' a' c.next (c.more ++ right) (first.whole left' a' w')
      (closed_at A U b₁ c₁ n₁ first_free left' c.next c.more (subst (λ (ts : List Lexeme). U.beginning ts) c.xs_is (first_free.begun left a w)))
      (subst (λ (ts : List Lexeme). V.beginning ts) c.right_is (second.beginning right' s))

  in_second : (left right left' right' : List Lexeme) (a a' : A) (b : B) → U.whole left a → V.whole right b → R.whole left' a' → S.beginning right'
      → Behind left' right' left right ⊎ Before left' right' left right → R.whole left a × S.whole right b
  in_second left right left' right' a a' b w v w' s (inl c) = behind left right left' right' c.more a a' b w v w' s c.left_is c.ys_is
  in_second left right left' right' a a' b w v w' s (inr c) = absurd (before left right left' right' a a' w w' s c)

  both_solid : (ts : List Lexeme) (pair : A × B) → (both U V).whole ts pair → (both R S).beginning ts → (both R S).whole ts pair
  both_solid ts pair w (inl f) =
      let parts = in_first w.0 w.1 pair.0 pair.1 w.3 w.4 (subst (λ (xs : List Lexeme). R.beginning xs) (sym w.2) f) in
      (w.0, w.1, w.2, parts.0, parts.1)
  both_solid ts pair w (inr s) =
      let parts = in_second w.0 w.1 s.0 s.1 pair.0 s.2 pair.1 w.3 w.4 s.4 s.5 (cuts s.0 s.1 w.0 w.1 (s.3 ∙ sym w.2)) in
      (w.0, w.1, w.2, parts.0, parts.1)

  pub Under-both : Under (A × B) (both R S) (both U V)
  Under-both = record { whole = both_whole; beginning = both_beginning; solid = both_solid }

-- ---- one grammar or another

module _ (A B : Type 0) (R U : Grammar A) (S V : Grammar B) (b₁ c₁ b₂ c₂ : List ℕ) (n₂ : Bool) (first_laws : Lawful A R b₁ c₁ false) (first_free : Lawful A U b₁ c₁ false)
    (second_laws : Lawful B S b₂ c₂ n₂) (second_free : Lawful B V b₂ c₂ n₂) (apart : Apart b₁ b₂) (first : Under A R U) (second : Under B S V) where
  choice_whole : (ts : List Lexeme) (a : A ⊎ B) → (choice R S).whole ts a → (choice U V).whole ts a
  choice_whole ts (inl a) w = first.whole ts a w
  choice_whole ts (inr b) w = second.whole ts b w

  choice_beginning : (ts : List Lexeme) → (choice R S).beginning ts → (choice U V).beginning ts
  choice_beginning ts (inl f) = inl (first.beginning ts f)
  choice_beginning ts (inr f) = inr (second.beginning ts f)

  -- no token begins both
  not_both : (t : Lexeme) (xs ys : List Lexeme) → U.beginning (t ∷ xs) → V.beginning (t ∷ ys) → ⊥
  not_both t xs ys f g = apart.none t (closed_first A U b₁ c₁ false first_free t xs f) (closed_first B V b₂ c₂ n₂ second_free t ys g)

  choice_solid : (ts : List Lexeme) (a : A ⊎ B) → (choice U V).whole ts a → (choice R S).beginning ts → (choice R S).whole ts a
  choice_solid ts (inl a) w (inl f) = first.solid ts a w f
  choice_solid [] (inl a) w (inr f) = absurd (cc (first_free.none a w))
  choice_solid (t ∷ ts) (inl a) w (inr f) = absurd (not_both t ts ts (first_free.begun (t ∷ ts) a w) (second.beginning (t ∷ ts) f))
  choice_solid ts (inr b) w (inr f) = second.solid ts b w f
  choice_solid [] (inr b) w (inl f) = second.solid [] b w second_laws.empty
  choice_solid (t ∷ ts) (inr b) w (inl f) = absurd (not_both t ts ts (first.beginning (t ∷ ts) f) (second_free.begun (t ∷ ts) b w))

  pub Under-choice : Under (A ⊎ B) (choice R S) (choice U V)
  Under-choice = record { whole = choice_whole; beginning = choice_beginning; solid = choice_solid }

-- ---- a grammar any number of times

module _ (A : Type 0) (absent : A) (R U : Grammar A) (under : Under A R U) (empty : R.beginning []) where
  or_nothing_whole : (ts : List Lexeme) (a : A) → (or_nothing absent R).whole ts a → (or_nothing absent U).whole ts a
  or_nothing_whole ts a (inl e) = inl e
  or_nothing_whole ts a (inr w) = inr (under.whole ts a w)

  or_nothing_beginning : (ts : List Lexeme) → (or_nothing absent R).beginning ts → (or_nothing absent U).beginning ts
  or_nothing_beginning ts (inl e) = inl e
  or_nothing_beginning ts (inr f) = inr (under.beginning ts f)

  or_nothing_solid : (ts : List Lexeme) (a : A) → (or_nothing absent U).whole ts a → (or_nothing absent R).beginning ts → (or_nothing absent R).whole ts a
  or_nothing_solid ts a (inl e) f = inl e
  or_nothing_solid ts a (inr w) (inl e) = inr (under.solid ts a w (subst (λ (xs : List Lexeme). R.beginning xs) (sym e) empty))
  or_nothing_solid ts a (inr w) (inr f) = inr (under.solid ts a w f)

  pub Under-or_nothing : Under A (or_nothing absent R) (or_nothing absent U)
  Under-or_nothing = record { whole = or_nothing_whole; beginning = or_nothing_beginning; solid = or_nothing_solid }

module _ (A : Type 0) (R U : Grammar A) (b c : List ℕ) (laws : Lawful A R b c false) (unlimited : Lawful A U b c false) (apart : Apart c b) (under : Under A R U) where
  pub Under-times : (n : ℕ) → Under (List A) (times n R) (times n U)
  Under-times zero = Under-same (List A) (times zero R)
  Under-times (suc n) =
      Under-or_nothing (List A) [] (tree cons_of (both R (times n R))) (tree cons_of (both U (times n U)))
      (Under-tree (A × List A) (List A) cons_of (both R (times n R)) (both U (times n U))
      (Under-both A (List A) R U (times n R) (times n U) b c b (c ++ b) false true laws unlimited (Lawful-times A R b c laws apart n) (Lawful-times A U b c unlimited apart n) apart under (Under-times n)))
      (inl laws.empty)

  pub Under-repeated : Under (List A) (repeated R) (repeated U)
  Under-repeated = record {
    whole = λ ts trees w. (w.0, (Under-times w.0).whole ts trees w.1);
    beginning = λ ts f. (f.0, (Under-times f.0).beginning ts f.1);
    solid = λ ts trees w f.
        (after f.0 w.0, (Under-times (after f.0 w.0)).solid ts trees (whole_after A U b c unlimited apart f.0 w.0 ts trees w.1) (beginning_after A R b c laws apart f.0 w.0 ts f.1));
  }
