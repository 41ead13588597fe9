-- What is known of a grammar and of how its trees are written: the words of its tokens, and that tokens which are alike
-- to those of a tree are those of a tree that is equal but for its places. Each way to join grammars keeps it.
use Rattle.std.proofs.Common.{◌≡◌, ◌⊎◌, ◌≤◌, inl, inr, ℕ, zero, suc, List, [], ◌∷◌, ◌++◌, Bool, true, false, refl, ap, sym, ◌∙◌, subst, map}
use Rattle.std.specs.Prelude.{Option, Some, None, is_some, ◌==◌, ◌||◌}
use Rattle.std.specs.Option.{option_map}
use Rattle.grammar_rules.specs.Lexemes.{Lexeme, among, first_place}
use Rattle.grammar_rules.specs.Rules.{Grammar, token, nothing, never, both, tree, placed, choice, option_of, perhaps, either_of, or_else, times, repeated, opened, within}
use Rattle.query_tokens.specs.declared.symbol.Symbol.{Symbol}
use Rattle.query_tokens.specs.declared.symbol.Symbol.TheVariants as symbol
use Rattle.query_tokens.specs.Symbols.{symbol_number, is_symbol}
use Rattle.query_tokens.proofs.SymbolLemmas.{equal_numbers}
use Rattle.query_grammar.specs.Lists.{one, fixed, flagged, listed, second_of}
use Rattle.query_print.specs.Words.{Word, Fixed}
use Rattle.query_print.specs.Expressions.{flag, each_behind, all_words}
use Rattle.query_print.specs.Scripts.{optional, listed as listed_words}
use Rattle.query_round_trip.proofs.Alike.{word_by, word_of, words_of, words_of-append, Alike, AllAlike, split, alike_length, alike_nil, is_closed, kept_among, is_point, Tidy, done, single, tidy-append}

-- a tree of tokens that is equal to another but for its places
pub record Again (A V : Type 0) (grammar : Grammar A) (bare : A → V) (a : A) (us : List Lexeme) : Type 0 where
  pub found : A
  pub whole : grammar.whole us found
  pub same : bare found ≡ bare a

pub record Printed (A V : Type 0) (grammar : Grammar A) (spell : A → List Word) (bare : A → V) : Type 0 where
  pub words : (ts : List Lexeme) (a : A) → grammar.whole ts a → words_of ts ≡ spell a
  pub tidy : (ts : List Lexeme) (a : A) → grammar.whole ts a → Tidy (words_of ts)
  pub again : (ts us : List Lexeme) (a : A) → grammar.whole ts a → AllAlike ts us → Again A V grammar bare a us

-- ---- the words of parts

abbrev pub no_words : {A : Type 0} → A → List Word
no_words a = []

abbrev pub both_words : {A B : Type 0} → (A → List Word) → (B → List Word) → A × B → List Word
both_words s r p = s p.0 ++ r p.1

abbrev pub both_bare : {A B V W : Type 0} → (A → V) → (B → W) → A × B → V × W
both_bare f g p = (f p.0, g p.1)

abbrev pub either_words : {A B : Type 0} → (A → List Word) → (B → List Word) → A ⊎ B → List Word
either_words s r (inl a) = s a
either_words s r (inr b) = r b

abbrev pub either_bare : {A B V W : Type 0} → (A → V) → (B → W) → A ⊎ B → V ⊎ W
either_bare f g (inl a) = inl (f a)
either_bare f g (inr b) = inr (g b)

abbrev pub placed_words : {A : Type 0} → (A → List Word) → ℕ × A → List Word
placed_words s p = s p.1

abbrev pub placed_bare : {A V : Type 0} → (A → V) → ℕ × A → V
placed_bare f p = f p.1

abbrev pub list_words : {A : Type 0} → (A → List Word) → List A → List Word
list_words s as' = all_words (map s as')

abbrev pub word_alone : Symbol → Lexeme → List Word
word_alone s t = Fixed s ∷ []

abbrev pub no_bare : {A : Type 0} → A → Unit {0}
no_bare a = tt

-- ---- one token

-- what is known of the tokens of a set
pub record OneToken (V : Type 0) (set : List ℕ) (spell : Lexeme → List Word) (bare : Lexeme → V) : Type 0 where
  pub closed : is_closed set ≡ true
  pub word : (t : Lexeme) → among set t.symbol ≡ true → word_of t ∷ [] ≡ spell t
  pub no_point : (t : Lexeme) → among set t.symbol ≡ true → is_point (word_of t) ≡ false
  pub same : (t u : Lexeme) → among set t.symbol ≡ true → Alike t u → bare u ≡ bare t

module _ (V : Type 0) (set : List ℕ) (spell : Lexeme → List Word) (bare : Lexeme → V) (h : OneToken V set spell bare) where
  token_again : (t : Lexeme) (us : List Lexeme) → among set t.symbol ≡ true → AllAlike (t ∷ []) us → Again Lexeme V (token set) bare t us
  token_again t [] a l = absurd l
  token_again t (u ∷ []) a l = record { found = u; whole = (refl, kept_among set t.symbol u.symbol h.closed l.0.symbol_kept a); same = h.same t u a l.0 }
  token_again t (u ∷ v ∷ us) a l = absurd l.1

  pub printed_token : Printed Lexeme V (token set) spell bare
  printed_token = record {
    words = λ ts t w. ap words_of w.0 ∙ h.word t w.1;
    tidy = λ ts t w. subst (λ (xs : List Lexeme). Tidy (words_of xs)) (sym w.0) (single (h.no_point t w.1) done);
    again = λ ts us t w l. token_again t us w.1 (subst (λ (xs : List Lexeme). AllAlike xs us) w.0 l);
  }

-- ---- other trees

pub printed_tree : {A B V W : Type 0} {R : Grammar A} {s : A → List Word} {r : B → List Word} {b : A → V} {c : B → W} (f : A → B)
    → ((a : A) → s a ≡ r (f a)) → ((a a' : A) → b a' ≡ b a → c (f a') ≡ c (f a)) → Printed A V R s b → Printed B W (tree f R) r c
printed_tree {A} {B} {V} {W} {R} {s} {r} {b} {c} f spelt kept p = record {
  words = λ ts x w. p.words ts w.0 w.1 ∙ spelt w.0 ∙ ap r (sym w.2);
  tidy = λ ts x w. p.tidy ts w.0 w.1;
  again = λ ts us x w l.
      let n = p.again ts us w.0 w.1 l in
      record { found = f n.found; whole = (n.found, n.whole, refl); same = kept w.0 n.found n.same ∙ ap c (sym w.2) };
}

-- a line of the grammar, by the words of its trees, and by its trees without their places
pub printed_line : {A B V W : Type 0} {R : Grammar A} {s : A → List Word} {r : B → List Word} {b : A → V} {c : B → W} → Printed A V R s b → (f : A → B) (g : V → W)
    → ((a : A) → r (f a) ≡ s a) → ((a : A) → c (f a) ≡ g (b a)) → Printed B W (tree f R) r c
printed_line {A} {B} {V} {W} {R} {s} {r} {b} {c} p f g spelt bared =
    printed_tree f (λ a. sym (spelt a)) (λ a a' e. bared a' ∙ ap g e ∙ sym (bared a)) p

pub printed_placed : {A V : Type 0} {R : Grammar A} {s : A → List Word} {b : A → V} → Printed A V R s b → Printed (ℕ × A) V (placed R) (placed_words s) (placed_bare b)
printed_placed {A} {V} {R} {s} {b} p = record {
  words = λ ts x w. p.words ts x.1 w.1;
  tidy = λ ts x w. p.tidy ts x.1 w.1;
  again = λ ts us x w l.
      let n = p.again ts us x.1 w.1 l in
      record { found = (first_place us, n.found); whole = (refl, n.whole); same = n.same };
}

-- a fixed word or sign
pub fixed_symbol : (s : Symbol) (n : ℕ) → among (one s) n ≡ true → n ≡ symbol_number s
fixed_symbol s n a = by_cases (symbol_number s == n) refl a
  where
    by_cases : (t : Bool) → (symbol_number s == n) ≡ t → (t || false) ≡ true → n ≡ symbol_number s
    by_cases true e x = sym (equal_numbers (symbol_number s) n e)
    by_cases false e x = cc

module _ (s : Symbol) (fix : (bytes : List ℕ) → word_by (symbol_number s) bytes ≡ Fixed s) (closed : is_closed (one s) ≡ true) (point : is_symbol s symbol.Point ≡ false) where
  fixed_word : (t : Lexeme) → among (one s) t.symbol ≡ true → word_of t ≡ Fixed s
  fixed_word t a = ap (λ (n : ℕ). word_by n t.bytes) (fixed_symbol s t.symbol a) ∙ fix t.bytes

  pub printed_fixed : Printed Lexeme (Unit {0}) (fixed s) (word_alone s) no_bare
  printed_fixed = printed_token (Unit {0}) (one s) (word_alone s) no_bare (record {
    closed = closed;
    word = λ t a. ap (λ (x : Word). x ∷ []) (fixed_word t a);
    no_point = λ t a. ap is_point (fixed_word t a) ∙ point;
    same = λ t u a l. refl;
  })

-- ---- one grammar and then another

pub printed_both : {A B V W : Type 0} {R : Grammar A} {S : Grammar B} {s : A → List Word} {r : B → List Word} {b : A → V} {c : B → W}
    → Printed A V R s b → Printed B W S r c → Printed (A × B) (V × W) (both R S) (both_words s r) (both_bare b c)
printed_both {A} {B} {V} {W} {R} {S} {s} {r} {b} {c} p q = record {
  words = λ ts x w.
      ap words_of (sym w.2) ∙ words_of-append w.0 w.1 ∙ ap (λ (ws : List Word). ws ++ words_of w.1) (p.words w.0 x.0 w.3)
      ∙ ap (λ (ws : List Word). s x.0 ++ ws) (q.words w.1 x.1 w.4);
  tidy = λ ts x w.
      subst (λ (xs : List Lexeme). Tidy (words_of xs)) w.2
      (subst Tidy (sym (words_of-append w.0 w.1)) (tidy-append (p.tidy w.0 x.0 w.3) (q.tidy w.1 x.1 w.4)));
  again = λ ts us x w l.
      let parts = split w.0 w.1 us (subst (λ (xs : List Lexeme). AllAlike xs us) (sym w.2) l) in
      let m = p.again w.0 parts.left x.0 w.3 parts.left_alike in
      let n = q.again w.1 parts.right x.1 w.4 parts.right_alike in
      record {
        found = (m.found, n.found);
        whole = (parts.left, parts.right, parts.all, m.whole, n.whole);
        same = ap (λ (v : V). (v, c n.found)) m.same ∙ ap (λ (v : W). (b x.0, v)) n.same;
      };
}

-- ---- one grammar or another

pub printed_choice : {A B V W : Type 0} {R : Grammar A} {S : Grammar B} {s : A → List Word} {r : B → List Word} {b : A → V} {c : B → W}
    → Printed A V R s b → Printed B W S r c → Printed (A ⊎ B) (V ⊎ W) (choice R S) (either_words s r) (either_bare b c)
printed_choice {A} {B} {V} {W} {R} {S} {s} {r} {b} {c} p q = record { words = choice_words; tidy = choice_tidy; again = choice_again }
  where
    choice_words : (ts : List Lexeme) (a : A ⊎ B) → (choice R S).whole ts a → words_of ts ≡ either_words s r a
    choice_words ts (inl a) w = p.words ts a w
    choice_words ts (inr a) w = q.words ts a w

    choice_tidy : (ts : List Lexeme) (a : A ⊎ B) → (choice R S).whole ts a → Tidy (words_of ts)
    choice_tidy ts (inl a) w = p.tidy ts a w
    choice_tidy ts (inr a) w = q.tidy ts a w

    choice_again : (ts us : List Lexeme) (a : A ⊎ B) → (choice R S).whole ts a → AllAlike ts us → Again (A ⊎ B) (V ⊎ W) (choice R S) (either_bare b c) a us
    choice_again ts us (inl a) w l =
        let n = p.again ts us a w l in
        record { found = inl n.found; whole = n.whole; same = ap inl n.same }
    choice_again ts us (inr a) w l =
        let n = q.again ts us a w l in
        record { found = inr n.found; whole = n.whole; same = ap inr n.same }

pub printed_nothing : Printed (Unit {0}) (Unit {0}) nothing no_words no_bare
printed_nothing = record {
  words = λ ts a w. ap words_of w;
  tidy = λ ts a w. subst (λ (xs : List Lexeme). Tidy (words_of xs)) (sym w) done;
  again = λ ts us a w l. record { found = tt; whole = alike_nil us (subst (λ (xs : List Lexeme). AllAlike xs us) w l); same = refl };
}

pub printed_never : {A V : Type 0} {s : A → List Word} {b : A → V} → Printed A V never s b
printed_never = record { words = λ ts a w. absurd w; tidy = λ ts a w. absurd w; again = λ ts us a w l. absurd w }

option_words : {A : Type 0} (s : A → List Word) (a : A ⊎ Unit {0}) → either_words s no_words a ≡ optional s (option_of a)
option_words s (inl a) = refl
option_words s (inr a) = refl

option_bare : {A V : Type 0} (b : A → V) (a a' : A ⊎ Unit {0}) → either_bare b no_bare a' ≡ either_bare b no_bare a → option_map b (option_of a') ≡ option_map b (option_of a)
option_bare b (inl a) (inl a') e = cc
option_bare b (inl a) (inr a') e = cc
option_bare b (inr a) (inl a') e = cc
option_bare b (inr a) (inr a') e = refl

pub printed_perhaps : {A V : Type 0} {R : Grammar A} {s : A → List Word} {b : A → V} → Printed A V R s b → Printed (Option A) (Option V) (perhaps R) (optional s) (option_map b)
printed_perhaps {A} {V} {R} {s} {b} p = printed_tree option_of (option_words s) (option_bare b) (printed_choice p printed_nothing)

abbrev pub own : {A : Type 0} → A → A
own a = a

flag_words : (s : Symbol) (o : Option Lexeme) → optional (word_alone s) o ≡ flag s (is_some o)
flag_words s None = refl
flag_words s (Some t) = refl

flag_bare : (o o' : Option Lexeme) → option_map (no_bare {A = Lexeme}) o' ≡ option_map no_bare o → is_some o' ≡ is_some o
flag_bare None None e = refl
flag_bare None (Some t) e = cc
flag_bare (Some t) None e = cc
flag_bare (Some t) (Some u) e = refl

pub printed_flagged : (s : Symbol) → Printed Lexeme (Unit {0}) (fixed s) (word_alone s) no_bare → Printed Bool Bool (flagged s) (flag s) own
printed_flagged s p = printed_tree is_some (flag_words s) flag_bare (printed_perhaps p)

either_of_words : {A : Type 0} (s : A → List Word) (a : A ⊎ A) → either_words s s a ≡ s (either_of a)
either_of_words s (inl a) = refl
either_of_words s (inr a) = refl

either_of_bare : {A V : Type 0} (b : A → V) (a a' : A ⊎ A) → either_bare b b a' ≡ either_bare b b a → b (either_of a') ≡ b (either_of a)
either_of_bare b (inl a) (inl a') e = cc
either_of_bare b (inl a) (inr a') e = cc
either_of_bare b (inr a) (inl a') e = cc
either_of_bare b (inr a) (inr a') e = cc

pub printed_or_else : {A V : Type 0} {R S : Grammar A} {s : A → List Word} {b : A → V} → Printed A V R s b → Printed A V S s b → Printed A V (or_else R S) s b
printed_or_else {A} {V} {R} {S} {s} {b} p q = printed_tree either_of (either_of_words s) (either_of_bare b) (printed_choice p q)

-- ---- a grammar any number of times

module _ {A V : Type 0} {R : Grammar A} {s : A → List Word} {b : A → V} (p : Printed A V R s b) where
  times_words : (n : ℕ) (ts : List Lexeme) (xs : List A) → (times n R).whole ts xs → words_of ts ≡ list_words s xs
  times_words zero ts xs w = ap words_of w.0 ∙ ap (list_words s) (sym w.1)
  times_words (suc n) ts xs (inl w) = ap words_of w.0 ∙ ap (list_words s) (sym w.1)
  times_words (suc n) ts xs (inr (x, w, e)) =
      ap words_of (sym w.2) ∙ words_of-append w.0 w.1 ∙ ap (λ (ws : List Word). ws ++ words_of w.1) (p.words w.0 x.0 w.3)
      ∙ ap (λ (ws : List Word). s x.0 ++ ws) (times_words n w.1 x.1 w.4) ∙ ap (list_words s) (sym e)

  times_tidy : (n : ℕ) (ts : List Lexeme) (xs : List A) → (times n R).whole ts xs → Tidy (words_of ts)
  times_tidy zero ts xs w = subst (λ (ys : List Lexeme). Tidy (words_of ys)) (sym w.0) done
  times_tidy (suc n) ts xs (inl w) = subst (λ (ys : List Lexeme). Tidy (words_of ys)) (sym w.0) done
  times_tidy (suc n) ts xs (inr (x, w, e)) =
      subst (λ (ys : List Lexeme). Tidy (words_of ys)) w.2
      (subst Tidy (sym (words_of-append w.0 w.1)) (tidy-append (p.tidy w.0 x.0 w.3) (times_tidy n w.1 x.1 w.4)))

  times_nil : (us : List Lexeme) (ts : List Lexeme) → ts ≡ [] → AllAlike ts us → us ≡ []
  times_nil us ts e l = alike_nil us (subst (λ (ys : List Lexeme). AllAlike ys us) e l)

  times_again : (n : ℕ) (ts us : List Lexeme) (xs : List A) → (times n R).whole ts xs → AllAlike ts us → Again (List A) (List V) (times n R) (map b) xs us
  times_again zero ts us xs w l = record { found = []; whole = (times_nil us ts w.0 l, refl); same = ap (map b) (sym w.1) }
  times_again (suc n) ts us xs (inl w) l = record { found = []; whole = inl (times_nil us ts w.0 l, refl); same = ap (map b) (sym w.1) }
  times_again (suc n) ts us xs (inr (x, w, e)) l =
      let parts = split w.0 w.1 us (subst (λ (ys : List Lexeme). AllAlike ys us) (sym w.2) l) in
      let first = p.again w.0 parts.left x.0 w.3 parts.left_alike in
      let others = times_again n w.1 parts.right x.1 w.4 parts.right_alike in
      record {
        found = first.found ∷ others.found;
        whole = inr ((first.found, others.found), (parts.left, parts.right, parts.all, first.whole, others.whole), refl);
        same = ap (λ (v : V). v ∷ map b others.found) first.same ∙ ap (λ (vs : List V). b x.0 ∷ vs) others.same ∙ ap (map b) (sym e);
      }

  repeated_again : (ts us : List Lexeme) (xs : List A) → (repeated R).whole ts xs → AllAlike ts us → Again (List A) (List V) (repeated R) (map b) xs us
  repeated_again ts us xs w l =
      let n = times_again w.0 ts us xs w.1 l in
      record { found = n.found; whole = (w.0, n.whole); same = n.same }

  pub printed_repeated : Printed (List A) (List V) (repeated R) (list_words s) (map b)
  printed_repeated = record { words = λ ts xs w. times_words w.0 ts xs w.1; tidy = λ ts xs w. times_tidy w.0 ts xs w.1; again = repeated_again }

-- parts behind a word
abbrev pub behind_words : {A : Type 0} → Symbol → (A → List Word) → A → List Word
behind_words sign s a = Fixed sign ∷ s a

pub all_behind : {A : Type 0} (sign : Symbol) (s : A → List Word) (xs : List A) → list_words (behind_words sign s) xs ≡ each_behind sign (map s xs)
all_behind sign s [] = refl
all_behind sign s (x ∷ xs) = ap (λ (ws : List Word). (Fixed sign ∷ s x) ++ ws) (all_behind sign s xs)

-- a part behind a word
pub printed_behind : {A V : Type 0} {R : Grammar A} {s : A → List Word} {b : A → V} (sign : Symbol) → Printed Lexeme (Unit {0}) (fixed sign) (word_alone sign) no_bare → Printed A V R s b
    → Printed A V (tree second_of (both (fixed sign) R)) (behind_words sign s) b
printed_behind {A} {V} {R} {s} {b} sign w p =
    printed_tree second_of (λ a. refl) (λ a a' e. ap (λ (v : Unit {0} × V). v.1) e) (printed_both w p)

pub printed_each_behind : {A V : Type 0} {R : Grammar A} {s : A → List Word} {b : A → V} (sign : Symbol) → Printed Lexeme (Unit {0}) (fixed sign) (word_alone sign) no_bare → Printed A V R s b
    → Printed (List A) (List V) (repeated (tree second_of (both (fixed sign) R))) (λ xs. each_behind sign (map s xs)) (map b)
printed_each_behind {A} {V} {R} {s} {b} sign w p =
    let q = printed_repeated (printed_behind sign w p) in
    record { words = λ ts xs x. q.words ts xs x ∙ all_behind sign s xs; tidy = q.tidy; again = q.again }

abbrev pub listed_by : {A : Type 0} → (A → List Word) → A × List A → List Word
listed_by s p = listed_words s p.0 p.1

pub printed_listed : {A V : Type 0} {R : Grammar A} {s : A → List Word} {b : A → V} → Printed A V R s b
    → Printed (A × List A) (V × List V) (listed R) (listed_by s) (both_bare b (map b))
printed_listed {A} {V} {R} {s} {b} p =
    printed_both p (printed_each_behind symbol.Comma (printed_fixed symbol.Comma (λ bytes. refl) refl refl) p)

-- ---- limits

pub printed_opened : {A V : Type 0} {R : Grammar A} {s : A → List Word} {b : A → V} (left : ℕ) (sign : Symbol) → Printed Lexeme (Unit {0}) (fixed sign) (word_alone sign) no_bare → Printed A V R s b
    → Printed (Lexeme × A) (Unit {0} × V) (opened left (one sign) R) (both_words (word_alone sign) s) (both_bare no_bare b)
printed_opened zero sign w p = printed_never
printed_opened (suc left) sign w p = printed_both w p

pub printed_within : {A V : Type 0} {R : Grammar A} {s : A → List Word} {b : A → V} (most : ℕ) → Printed A V R s b → Printed A V (within most R) s b
printed_within {A} {V} {R} {s} {b} most p = record {
  words = λ ts a w. p.words ts a w.1;
  tidy = λ ts a w. p.tidy ts a w.1;
  again = λ ts us a w l.
      let n = p.again ts us a w.1 l in
      record { found = n.found; whole = (subst (λ (k : ℕ). k ≤ most) (sym (alike_length ts us l)) w.0, n.whole); same = n.same };
}
