-- Tokens as a grammar sees them, and sets of symbols.
use Rattle.std.specs.Prelude.{◌≡◌, ℕ, List, [], ◌∷◌, ◌==◌, ◌||◌, ◌&&◌, Bool, true, false, not}

-- a token: the number of its symbol, its bytes and its place
pub record Lexeme : Type 0 where
  pub symbol : ℕ
  pub bytes : List ℕ
  pub place : ℕ

-- the end of the text counts as a token with this symbol
abbrev pub end_symbol : ℕ
end_symbol = 0

-- no token has this symbol
abbrev pub no_symbol : ℕ
no_symbol = 255

-- a set of symbols has this one
abbrev pub among : List ℕ → ℕ → Bool
among [] n = false
among (x ∷ xs) n = (x == n) || among xs n

-- two sets share no symbol
abbrev pub disjoint : List ℕ → List ℕ → Bool
disjoint [] ys = true
disjoint (x ∷ xs) ys = not (among ys x) && disjoint xs ys

abbrev pub first_symbol : List Lexeme → ℕ
first_symbol [] = no_symbol
first_symbol (t ∷ ts) = t.symbol

abbrev pub first_bytes : List Lexeme → List ℕ
first_bytes [] = []
first_bytes (t ∷ ts) = t.bytes

abbrev pub first_place : List Lexeme → ℕ
first_place [] = 0
first_place (t ∷ ts) = t.place

-- the first token
abbrev pub first_of : List Lexeme → Lexeme
first_of ts = record { symbol = first_symbol ts; bytes = first_bytes ts; place = first_place ts }

-- the first token has a symbol of the set
abbrev pub begins_with : List ℕ → List Lexeme → Bool
begins_with set ts = among set (first_symbol ts)

-- the last token is the end of the text, and no other
abbrev pub Ended : List Lexeme → Type 0
Ended [] = ⊥
Ended (t ∷ []) = t.symbol ≡ end_symbol
Ended (t ∷ u ∷ ts) = (t.symbol ≡ end_symbol → ⊥) × Ended (u ∷ ts)

-- each symbol of one set is in another
abbrev pub subset : List ℕ → List ℕ → Bool
subset [] ys = true
subset (x ∷ xs) ys = among ys x && subset xs ys
