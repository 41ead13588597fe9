-- The text of words as one part behind the other, and what stands behind a word in it.
use Rattle.std.proofs.Common.{◌≡◌, ◌⊎◌, inl, inr, ℕ, List, [], ◌∷◌, ◌++◌, Bool, true, false, refl, sym, ◌∙◌, subst, append_assoc}
use Rattle.std.proofs.lemmas.List.{append-nil}
use Rattle.std.specs.Prelude.{◌==◌, ◌&&◌, ◌||◌, slice_index}
use Rattle.query_tokens.specs.declared.symbol.Symbol.{Symbol}
use Rattle.query_tokens.specs.declared.symbol.Symbol.TheVariants as symbol
use Rattle.query_tokens.specs.Symbols.{fixed_text, is_symbol}
use Rattle.query_tokens.proofs.SymbolLemmas.{is_symbol-same}
use Rattle.query_print.specs.declared.behind.Behind.{Behind}
use Rattle.query_print.specs.declared.behind.Behind.TheVariants as behind
use Rattle.query_print.specs.Words.{Word, Fixed, Named, Numbered, Quoted, Written, with_word, with_words, nothing_written, text_of, space_unless, is_tight, is_tight_behind, is_tight_fixed, is_tight_sign, is_called, word_text, behind_word}
use Rattle.query_tokens.specs.Bytes.{point}
use Rattle.query_round_trip.proofs.Alike.{is_point}
use Rattle.query_round_trip.proofs.WordSteps.{Separated, and_parts}

-- the text of words behind others
abbrev pub joined : Behind → List Word → List ℕ
joined c [] = []
joined c (w ∷ ws) = space_unless (is_tight c w) ++ (word_text c w ++ joined (behind_word c w) ws)

with_words-bytes : (s : Written) (ws : List Word) → (with_words s ws).bytes ≡ s.bytes ++ joined s.last ws
unfolding with_word
with_words-bytes s [] = sym (append-nil s.bytes)
with_words-bytes s (w ∷ ws) =
    with_words-bytes (with_word s w) ws
    ∙ append_assoc (s.bytes ++ space_unless (is_tight s.last w)) (word_text s.last w) (joined (behind_word s.last w) ws)
    ∙ append_assoc s.bytes (space_unless (is_tight s.last w)) (word_text s.last w ++ joined (behind_word s.last w) ws)

pub text_of-joined : (ws : List Word) → text_of ws ≡ joined behind.Start ws
unfolding text_of
text_of-joined ws = with_words-bytes nothing_written ws

-- ---- what separates words

spaced : (t : Bool) (text : List ℕ) → t ≡ false → Separated (space_unless t ++ text)
spaced true text e = cc (e)
spaced false text e = refl

or_cases : (a b : Bool) → (a || b) ≡ true → (a ≡ true) ⊎ (b ≡ true)
or_cases true b e = inl refl
or_cases false b e = inr e

-- a word that no space stands before begins with what separates it
sign_separates : (s : Symbol) (more : List ℕ) → is_tight_sign s ≡ true → Separated (fixed_text s ++ more)
sign_separates s more e = by_cases (or_cases _ _ e)
  where
    at_sign : (x : Symbol) → is_symbol s x ≡ true → Separated (fixed_text x ++ more) → Separated (fixed_text s ++ more)
    at_sign x same h = subst (λ (y : Symbol). Separated (fixed_text y ++ more)) (sym (is_symbol-same s x same)) h

    first : (is_symbol s symbol.Comma ≡ true) ⊎ (is_symbol s symbol.Close ≡ true) → Separated (fixed_text s ++ more)
    first (inl h) = at_sign symbol.Comma h refl
    first (inr h) = at_sign symbol.Close h refl

    second : ((is_symbol s symbol.Comma || is_symbol s symbol.Close) ≡ true) ⊎ (is_symbol s symbol.Point ≡ true) → Separated (fixed_text s ++ more)
    second (inl h) = first (or_cases (is_symbol s symbol.Comma) (is_symbol s symbol.Close) h)
    second (inr h) = at_sign symbol.Point h refl

    by_cases : ((is_symbol s symbol.Comma || is_symbol s symbol.Close || is_symbol s symbol.Point) ≡ true) ⊎ (is_symbol s symbol.Semicolon ≡ true) → Separated (fixed_text s ++ more)
    by_cases (inl h) = second (or_cases (is_symbol s symbol.Comma || is_symbol s symbol.Close) (is_symbol s symbol.Point) h)
    by_cases (inr h) = at_sign symbol.Semicolon h refl

-- a word that doesn't stand right behind a parenthesis or a point
pub joined_separates : (c : Behind) (ws : List Word) → is_tight_behind c ≡ false → Separated (joined c ws)
joined_separates c [] e = refl
joined_separates c (Named name ∷ ws) e = spaced (is_tight_behind c) (word_text c (Named name) ++ joined (behind_word c (Named name)) ws) e
joined_separates c (Numbered number ∷ ws) e = spaced (is_tight_behind c) (word_text c (Numbered number) ++ joined (behind_word c (Numbered number)) ws) e
joined_separates c (Quoted text ∷ ws) e = spaced (is_tight_behind c) (word_text c (Quoted text) ++ joined (behind_word c (Quoted text)) ws) e
joined_separates c (Fixed s ∷ ws) e = by_cases (is_tight_fixed c s) refl
  where
    more : List ℕ
    more = joined (behind_word c (Fixed s)) ws

    tight : ((is_tight_behind c || is_tight_sign s) ≡ true) ⊎ ((is_symbol s symbol.Open && is_called c) ≡ true) → Separated (fixed_text s ++ more)
    tight (inl h) = first (or_cases (is_tight_behind c) (is_tight_sign s) h)
      where
        first : (is_tight_behind c ≡ true) ⊎ (is_tight_sign s ≡ true) → Separated (fixed_text s ++ more)
        first (inl t) = let never : true ≡ false = sym t ∙ e in absurd (cc)
        first (inr t) = sign_separates s more t
    tight (inr h) =
        let open_is = is_symbol-same s symbol.Open (and_parts (is_symbol s symbol.Open) (is_called c) h).0 in
        subst (λ (y : Symbol). Separated (fixed_text y ++ more)) (sym open_is) refl

    by_cases : (t : Bool) → is_tight_fixed c s ≡ t → Separated (space_unless t ++ (fixed_text s ++ more))
    by_cases true h = tight (or_cases (is_tight_behind c || is_tight_sign s) (is_symbol s symbol.Open && is_called c) h)
    by_cases false h = refl

-- ---- what stands behind a number

-- the first word is no point
abbrev pub NoPointFirst : List Word → Type 0
NoPointFirst [] = Unit {0}
NoPointFirst (w ∷ ws) = is_point w ≡ false

no_point_text : (s : Symbol) (more : List ℕ) → is_tight_sign s ≡ true → is_symbol s symbol.Point ≡ false → (slice_index (fixed_text s ++ more) 0 == point) ≡ false
no_point_text s more e other = by_cases (or_cases _ _ e)
  where
    at_sign : (x : Symbol) → is_symbol s x ≡ true → (slice_index (fixed_text x ++ more) 0 == point) ≡ false → (slice_index (fixed_text s ++ more) 0 == point) ≡ false
    at_sign x same h = subst (λ (y : Symbol). (slice_index (fixed_text y ++ more) 0 == point) ≡ false) (sym (is_symbol-same s x same)) h

    first : (is_symbol s symbol.Comma ≡ true) ⊎ (is_symbol s symbol.Close ≡ true) → (slice_index (fixed_text s ++ more) 0 == point) ≡ false
    first (inl h) = at_sign symbol.Comma h refl
    first (inr h) = at_sign symbol.Close h refl

    second : ((is_symbol s symbol.Comma || is_symbol s symbol.Close) ≡ true) ⊎ (is_symbol s symbol.Point ≡ true) → (slice_index (fixed_text s ++ more) 0 == point) ≡ false
    second (inl h) = first (or_cases (is_symbol s symbol.Comma) (is_symbol s symbol.Close) h)
    second (inr h) = let never : true ≡ false = sym h ∙ other in absurd (cc)

    by_cases : ((is_symbol s symbol.Comma || is_symbol s symbol.Close || is_symbol s symbol.Point) ≡ true) ⊎ (is_symbol s symbol.Semicolon ≡ true) → (slice_index (fixed_text s ++ more) 0 == point) ≡ false
    by_cases (inl h) = second (or_cases (is_symbol s symbol.Comma || is_symbol s symbol.Close) (is_symbol s symbol.Point) h)
    by_cases (inr h) = at_sign symbol.Semicolon h refl

pub joined_no_point : (ws : List Word) → NoPointFirst ws → (slice_index (joined behind.Other ws) 0 == point) ≡ false
joined_no_point [] e = refl
joined_no_point (Named name ∷ ws) e = refl
joined_no_point (Numbered number ∷ ws) e = refl
joined_no_point (Quoted text ∷ ws) e = refl
joined_no_point (Fixed s ∷ ws) e = by_cases (is_tight_fixed behind.Other s) refl
  where
    more : List ℕ
    more = joined (behind_word behind.Other (Fixed s)) ws

    tight : (is_tight_sign s ≡ true) ⊎ ((is_symbol s symbol.Open && false) ≡ true) → (slice_index (fixed_text s ++ more) 0 == point) ≡ false
    tight (inl h) = no_point_text s more h e
    tight (inr h) = let parts = and_parts (is_symbol s symbol.Open) false h in absurd (cc (parts.1))

    by_cases : (t : Bool) → is_tight_fixed behind.Other s ≡ t → (slice_index (space_unless t ++ (fixed_text s ++ more)) 0 == point) ≡ false
    by_cases true h = tight (or_cases (is_tight_sign s) (is_symbol s symbol.Open && false) h)
    by_cases false h = refl
