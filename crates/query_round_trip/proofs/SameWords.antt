-- Words that are equal without case: which bytes they have, and which symbol.
use Rattle.std.proofs.Common.{◌≡◌, ℕ, suc, List, [], ◌∷◌, ◌++◌, length, map, Bool, true, refl, ap, sym, ◌∙◌, arith}
use Rattle.std.proofs.lemmas.Bool.Decides.{nat_tests, same_from_decides}
use Rattle.std.proofs.lemmas.Slice.Eq.{bytes_eq-Decides}
use Rattle.std.specs.Char.{to_ascii_lowercase}
use Rattle.std.specs.List.{list_all}
use Rattle.std.specs.Str.{bytes_eq}
use Rattle.std.specs.Prelude.{◌&&◌, if◌then◌else◌, nat_le, codes}
use Rattle.query_tokens.specs.declared.symbol.Symbol.{Symbol}
use Rattle.query_tokens.specs.declared.symbol.Symbol.TheVariants as symbol
use Rattle.query_tokens.specs.declared.token.TokenKind.TheVariants as kind
use Rattle.query_tokens.specs.Bytes.{is_word_start, is_word_byte}
use Rattle.query_tokens.specs.Symbols.{fixed_text, fixed_among, keywords, symbol_of, is_same_word, is_symbol}
use Rattle.query_print.specs.Words.{is_word, is_plain, bracketed}
use Rattle.query_round_trip.proofs.WordSteps.{and_parts}
use Rattle.query_round_trip.proofs.Digits.{and_both}

abbrev pub lower : List ℕ → List ℕ
lower bytes = map to_ascii_lowercase bytes

pub same_lower : (a b : List ℕ) → is_same_word a b ≡ true → lower a ≡ lower b
unfolding is_same_word
same_lower a b e = (bytes_eq-Decides (lower a) (lower b)).0 e

pub lower_same : (a b c : List ℕ) → lower a ≡ lower b → is_same_word a c ≡ is_same_word b c
unfolding is_same_word
lower_same a b c e = ap (λ (x : List ℕ). bytes_eq x (lower c)) e

same_lower_right : (a b c : List ℕ) → lower a ≡ lower b → is_same_word c a ≡ is_same_word c b
unfolding is_same_word
same_lower_right a b c e = ap (λ (x : List ℕ). bytes_eq (lower c) x) e

among_lower : (symbols : List Symbol) (a b : List ℕ) (other : Symbol) → lower a ≡ lower b → fixed_among symbols a other ≡ fixed_among symbols b other
unfolding fixed_among
among_lower [] a b other e = refl
among_lower (s ∷ symbols) a b other e =
    ap (λ (t : Bool). if t then s else fixed_among symbols a other) (same_lower_right a b (fixed_text s) e)
    ∙ ap (λ (x : Symbol). if is_same_word (fixed_text s) b then s else x) (among_lower symbols a b other e)

-- words that are equal without case have one symbol
pub symbol_lower : (a b : List ℕ) → lower a ≡ lower b → symbol_of kind.Word a ≡ symbol_of kind.Word b
symbol_lower a b e = among_lower keywords a b symbol.Word e

-- ---- letters

abbrev is_small : ℕ → Bool
is_small b = nat_le 97 b && nat_le b 122

small_byte : (b : ℕ) → is_small (to_ascii_lowercase b) ≡ true → is_word_start b ≡ true
small_byte b e = grind (arith, nat_tests)

start_byte : (b : ℕ) → is_word_start b ≡ true → is_word_byte b ≡ true
start_byte b e = grind (arith, nat_tests)

letters : (bytes : List ℕ) → list_all is_small (lower bytes) ≡ true → list_all is_word_byte bytes ≡ true
letters [] e = refl
letters (b ∷ bytes) e =
    let parts = and_parts (is_small (to_ascii_lowercase b)) (list_all is_small (lower bytes)) e in
    and_both (is_word_byte b) (list_all is_word_byte bytes) (start_byte b (small_byte b parts.0)) (letters bytes parts.1)

word_of_letters : (bytes : List ℕ) → list_all is_small (lower bytes) ≡ true → nat_le 1 (length bytes) ≡ true → is_word bytes ≡ true
word_of_letters [] e some = some
word_of_letters (b ∷ bytes) e some =
    let parts = and_parts (is_small (to_ascii_lowercase b)) (list_all is_small (lower bytes)) e in
    and_both (is_word_start b) (list_all is_word_byte bytes) (small_byte b parts.0) (letters bytes parts.1)

length_lower : (bytes : List ℕ) → length (lower bytes) ≡ length bytes
length_lower [] = refl
length_lower (b ∷ bytes) = ap suc (length_lower bytes)

same_length : (a b : List ℕ) → lower a ≡ lower b → length a ≡ length b
same_length a b e = sym (length_lower a) ∙ ap length e ∙ length_lower b

-- ---- the names System and Timestamp

pub system_plain : (name : List ℕ) → is_same_word name (codes "System") ≡ true → is_plain name ≡ true
unfolding is_plain fixed_among is_same_word
system_plain name e =
    let same = same_lower name (codes "System") e in
    and_both (is_word name) (is_symbol (symbol_of kind.Word name) symbol.Word)
    (word_of_letters name (ap (list_all is_small) same) (ap (λ (n : ℕ). nat_le 1 n) (same_length name (codes "System") same)))
    (ap (λ (s : Symbol). is_symbol s symbol.Word) (symbol_lower name (codes "System") same))

pub stamp_word : (name : List ℕ) → is_same_word name (codes "Timestamp") ≡ true → is_word name ≡ true
stamp_word name e =
    let same = same_lower name (codes "Timestamp") e in
    word_of_letters name (ap (list_all is_small) same) (ap (λ (n : ℕ). nat_le 1 n) (same_length name (codes "Timestamp") same))

pub stamp_short : (name : List ℕ) → is_same_word name (codes "Timestamp") ≡ true → nat_le (length name) 64 ≡ true
stamp_short name e = ap (λ (n : ℕ). nat_le n 64) (same_length name (codes "Timestamp") (same_lower name (codes "Timestamp") e))

pub stamp_symbol : (name : List ℕ) → is_same_word name (codes "Timestamp") ≡ true → symbol_of kind.Word name ≡ symbol.Timestamp
unfolding fixed_among is_same_word
stamp_symbol name e = symbol_lower name (codes "Timestamp") (same_lower name (codes "Timestamp") e)

-- ---- brackets

snoc_same : (a : ℕ) (xs ys : List ℕ) → xs ++ a ∷ [] ≡ ys ++ a ∷ [] → xs ≡ ys
snoc_same a [] [] e = refl
snoc_same a [] (y ∷ []) e = cc
snoc_same a [] (y ∷ z ∷ ys) e = cc
snoc_same a (x ∷ []) [] e = cc
snoc_same a (x ∷ z ∷ xs) [] e = cc
snoc_same a (x ∷ xs) (y ∷ ys) e =
    let head : x ≡ y = cc in
    let tail : xs ++ a ∷ [] ≡ ys ++ a ∷ [] = cc in
    ap (λ (b : ℕ). b ∷ xs) head ∙ ap (λ (l : List ℕ). y ∷ l) (snoc_same a xs ys tail)

lower-append : (xs ys : List ℕ) → lower (xs ++ ys) ≡ lower xs ++ lower ys
lower-append [] ys = refl
lower-append (x ∷ xs) ys = ap (λ (l : List ℕ). to_ascii_lowercase x ∷ l) (lower-append xs ys)

lower_bracketed : (name : List ℕ) → lower (bracketed name) ≡ bracketed (lower name)
lower_bracketed name = ap (λ (l : List ℕ). 91 ∷ l) (lower-append name (93 ∷ []))

behind_first : (a : ℕ) (xs ys : List ℕ) → a ∷ xs ≡ a ∷ ys → xs ≡ ys
behind_first a xs ys e = cc

-- names in brackets are equal without case where the names are
pub bracketed_same : (name other : List ℕ) → is_same_word (bracketed name) (bracketed other) ≡ is_same_word name other
unfolding is_same_word
bracketed_same name other =
    let whole = bytes_eq-Decides (lower (bracketed name)) (lower (bracketed other)) in
    let inner = bytes_eq-Decides (lower name) (lower other) in
    same_from_decides (bytes_eq (lower (bracketed name)) (lower (bracketed other))) (bytes_eq (lower name) (lower other)) (
      (λ e. snoc_same 93 (lower name) (lower other) (behind_first 91 (lower name ++ 93 ∷ []) (lower other ++ 93 ∷ [])
          (sym (lower_bracketed name) ∙ whole.0 e ∙ lower_bracketed other))),
      (λ e. whole.1 (lower_bracketed name ∙ ap bracketed e ∙ sym (lower_bracketed other))),
    ) inner
