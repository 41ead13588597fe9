-- Tokens that stand for the same word, and words in an order that a text can keep.
use Rattle.std.proofs.Common.{◌≡◌, ◌⊎◌, inl, inr, ℕ, suc, List, [], ◌∷◌, ◌++◌, Bool, true, false, refl, ap, sym, subst, length, map}
use Rattle.std.specs.Prelude.{◌==◌, if◌then◌else◌}
use Rattle.grammar_rules.specs.Lexemes.{Lexeme, among}
use Rattle.query_tokens.specs.declared.symbol.Symbol.{Symbol}
use Rattle.query_tokens.specs.declared.symbol.Symbol.TheVariants as symbol
use Rattle.query_tokens.specs.Symbols.{symbol_number, keywords, signs, is_symbol}
use Rattle.query_grammar.specs.Leaves.{name_text, number_of, text_content}
use Rattle.query_grammar.specs.Lists.{part_symbols}
use Rattle.query_print.specs.Words.{Word, Fixed, Named, Numbered, Quoted}

-- ---- the word of a token

abbrev pub symbol_among : List Symbol → ℕ → Symbol
symbol_among [] n = symbol.EndOfText
symbol_among (s ∷ ss) n = if symbol_number s == n then s else symbol_among ss n

-- the keywords and signs
abbrev pub fixed_symbols : List Symbol
fixed_symbols = keywords ++ (signs ++ symbol.Unequal ∷ [])

-- the word of a token that is no name
abbrev pub word_other : ℕ → List ℕ → Word
word_other n bytes =
    if symbol_number symbol.Number == n then Numbered (number_of bytes)
    else (if symbol_number symbol.Text == n then Quoted (text_content bytes) else Fixed (symbol_among fixed_symbols n))

abbrev pub word_by : ℕ → List ℕ → Word
word_by n bytes = if among part_symbols n then Named (name_text bytes) else word_other n bytes

abbrev pub word_of : Lexeme → Word
word_of t = word_by t.symbol t.bytes

abbrev pub words_of : List Lexeme → List Word
words_of ts = map word_of ts

pub words_of-append : (xs ys : List Lexeme) → words_of (xs ++ ys) ≡ words_of xs ++ words_of ys
words_of-append [] ys = refl
words_of-append (x ∷ xs) ys = ap (λ (ws : List Word). word_of x ∷ ws) (words_of-append xs ys)

-- ---- tokens that are alike

-- the symbol stays, or a name in brackets becomes one without
abbrev pub Kept : ℕ → ℕ → Type 0
Kept m n = (n ≡ m) ⊎ ((m ≡ symbol_number symbol.Bracketed) × (n ≡ symbol_number symbol.Word))

pub record Alike (t u : Lexeme) : Type 0 where
  pub symbol_kept : Kept t.symbol u.symbol
  pub word_kept : word_of u ≡ word_of t

abbrev pub AllAlike : List Lexeme → List Lexeme → Type 0
AllAlike [] [] = Unit {0}
AllAlike [] (u ∷ us) = ⊥
AllAlike (t ∷ ts) [] = ⊥
AllAlike (t ∷ ts) (u ∷ us) = Alike t u × AllAlike ts us

pub record Split (xs ys us : List Lexeme) : Type 0 where
  pub left : List Lexeme
  pub right : List Lexeme
  pub all : left ++ right ≡ us
  pub left_alike : AllAlike xs left
  pub right_alike : AllAlike ys right

split-cons : (x : Lexeme) (xs ys us : List Lexeme) (u : Lexeme) → Alike x u → Split xs ys us → Split (x ∷ xs) ys (u ∷ us)
split-cons x xs ys us u a s = record {
  left = u ∷ s.left;
  right = s.right;
  all = ap (λ (l : List Lexeme). u ∷ l) s.all;
  left_alike = (a, s.left_alike);
  right_alike = s.right_alike;
}

-- tokens that are alike to two lists together
pub split : (xs ys us : List Lexeme) → AllAlike (xs ++ ys) us → Split xs ys us
split [] ys us a = record { left = []; right = us; all = refl; left_alike = tt; right_alike = a }
split (x ∷ xs) ys [] a = absurd a
split (x ∷ xs) ys (u ∷ us) a = split-cons x xs ys us u a.0 (split xs ys us a.1)

pub alike-append : (xs ys us vs : List Lexeme) → AllAlike xs us → AllAlike ys vs → AllAlike (xs ++ ys) (us ++ vs)
alike-append [] ys [] vs a b = b
alike-append [] ys (u ∷ us) vs a b = absurd a
alike-append (x ∷ xs) ys [] vs a b = absurd a
alike-append (x ∷ xs) ys (u ∷ us) vs a b = (a.0, alike-append xs ys us vs a.1 b)

pub alike_length : (xs us : List Lexeme) → AllAlike xs us → length us ≡ length xs
alike_length [] [] a = refl
alike_length [] (u ∷ us) a = absurd a
alike_length (x ∷ xs) [] a = absurd a
alike_length (x ∷ xs) (u ∷ us) a = ap suc (alike_length xs us a.1)

pub alike_nil : (us : List Lexeme) → AllAlike [] us → us ≡ []
alike_nil [] a = refl
alike_nil (u ∷ us) a = absurd a

-- ---- sets that keep tokens which are alike

abbrev pub is_closed : List ℕ → Bool
is_closed set = if among set (symbol_number symbol.Bracketed) then among set (symbol_number symbol.Word) else true

kept_by : (set : List ℕ) (b : Bool) → among set (symbol_number symbol.Bracketed) ≡ b → b ≡ true → (if b then among set (symbol_number symbol.Word) else true) ≡ true
    → among set (symbol_number symbol.Word) ≡ true
kept_by set true e t c = c
kept_by set false e t c = cc (t)

pub kept_among : (set : List ℕ) (m n : ℕ) → is_closed set ≡ true → Kept m n → among set m ≡ true → among set n ≡ true
kept_among set m n closed (inl e) a = subst (λ (x : ℕ). among set x ≡ true) (sym e) a
kept_among set m n closed (inr e) a =
    subst (λ (x : ℕ). among set x ≡ true) (sym e.1)
    (kept_by set (among set (symbol_number symbol.Bracketed)) refl (subst (λ (x : ℕ). among set x ≡ true) e.0 a) closed)

-- a set without names in brackets keeps the symbol
pub same_symbol : (set : List ℕ) (m n : ℕ) → among set (symbol_number symbol.Bracketed) ≡ false → Kept m n → among set m ≡ true → n ≡ m
same_symbol set m n none (inl e) a = e
same_symbol set m n none (inr e) a =
    let b : among set (symbol_number symbol.Bracketed) ≡ true = subst (λ (x : ℕ). among set x ≡ true) e.0 a in
    absurd (cc (b, none))

-- ---- words in order

abbrev pub is_point : Word → Bool
is_point (Fixed s) = is_symbol s symbol.Point
is_point (Named name) = false
is_point (Numbered number) = false
is_point (Quoted text) = false

-- a point stands between two names
pub data Tidy : List Word → Type 0 where
  done : Tidy []
  single : {w : Word} {ws : List Word} → is_point w ≡ false → Tidy ws → Tidy (w ∷ ws)
  path : {n m : List ℕ} {ws : List Word} → Tidy ws → Tidy (Named n ∷ Fixed symbol.Point ∷ Named m ∷ ws)

pub tidy-append : {us vs : List Word} → Tidy us → Tidy vs → Tidy (us ++ vs)
tidy-append done t = t
tidy-append (single p s) t = single p (tidy-append s t)
tidy-append (path s) t = path (tidy-append s t)
