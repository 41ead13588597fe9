-- What is known of a grammar and of a reader that reads it: the symbols that tell its parts apart, the grammar without
-- limits beside it, and where reading stops.
use Rattle.std.specs.Prelude.{◌≡◌, ℕ, List, [], ◌∷◌, ◌++◌, Bool, true, Ok, Err}
use Rattle.grammar_rules.specs.declared.stop.Stop.{Stop}
use Rattle.grammar_rules.specs.declared.stop.Stop.TheVariants.{Expected, Deep, Memory}
use Rattle.grammar_rules.specs.Lexemes.{Lexeme, among, Ended}
use Rattle.grammar_rules.specs.Rules.{Grammar}
use Rattle.grammar_rules.specs.Readers.{Reader}

-- a token's symbol is in the set
abbrev pub Among : List ℕ → Lexeme → Type 0
Among set t = among set t.symbol ≡ true

-- no symbol is in both sets
pub record Apart (xs ys : List ℕ) : Type 0 where
  pub none : (t : Lexeme) → Among xs t → Among ys t → ⊥

-- the first token, if there is one, is none of these
pub record Free (set : List ℕ) (rest : List Lexeme) : Type 0 where
  pub free : (t : Lexeme) (more : List Lexeme) → rest ≡ t ∷ more → Among set t → ⊥

-- one token tells how a grammar goes on
pub record Lawful (A : Type 0) (grammar : Grammar A) (begins continues : List ℕ) (nullable : Bool) : Type 0 where
  -- nothing is a beginning
  pub empty : grammar.beginning []
  -- a first part of a beginning is one
  pub closed : (xs ys : List Lexeme) → grammar.beginning (xs ++ ys) → grammar.beginning xs
  -- a whole is a beginning
  pub begun : (xs : List Lexeme) (a : A) → grammar.whole xs a → grammar.beginning xs
  -- which tokens begin a beginning, and which may follow a whole in one
  pub first : (t : Lexeme) → grammar.beginning (t ∷ []) → Among begins t
  pub next : (xs : List Lexeme) (a : A) (t : Lexeme) → grammar.whole xs a → grammar.beginning (xs ++ t ∷ []) → Among continues t
  -- whether nothing can be a whole
  pub none : (a : A) → grammar.whole [] a → nullable ≡ true

-- a grammar within limits, and the same without them
pub record Under (A : Type 0) (grammar unlimited : Grammar A) : Type 0 where
  pub whole : (ts : List Lexeme) (a : A) → grammar.whole ts a → unlimited.whole ts a
  pub beginning : (ts : List Lexeme) → grammar.beginning ts → unlimited.beginning ts
  -- what is whole and within the limits as a beginning is within them as a whole
  pub solid : (ts : List Lexeme) (a : A) → unlimited.whole ts a → grammar.beginning ts → grammar.whole ts a

-- what was read is whole, and can't go on with the next token, not even without limits
pub record Got (A : Type 0) (grammar unlimited : Grammar A) (ts : List Lexeme) (a : A) (rest : List Lexeme) : Type 0 where
  pub used : List Lexeme
  pub all : used ++ rest ≡ ts
  pub whole : grammar.whole used a
  pub over : (t : Lexeme) (more : List Lexeme) → rest ≡ t ∷ more → unlimited.beginning (used ++ t ∷ []) → ⊥

-- reading stops at a token for the limits alone, or it doesn't fit without them either
abbrev pub IsVerdict : Stop → Type 0 → Type 0
IsVerdict Expected fits = fits → ⊥
IsVerdict Deep fits = fits
IsVerdict Memory fits = ⊥

-- reading stops at the first token with which the tokens so far are no beginning
pub record StopsAt (beginning unlimited : List Lexeme → Type 0) (ts : List Lexeme) (stop : Stop) (rest : List Lexeme) : Type 0 where
  pub used : List Lexeme
  pub token : Lexeme
  pub more : List Lexeme
  pub at : rest ≡ token ∷ more
  pub all : used ++ rest ≡ ts
  pub fits : beginning used
  pub unfit : beginning (used ++ token ∷ []) → ⊥
  pub verdict : IsVerdict stop (unlimited (used ++ token ∷ []))

-- a reader reads a grammar within limits
pub record Reads (A : Type 0) (grammar unlimited : Grammar A) (continues : List ℕ) (read : Reader A) : Type 0 where
  pub got : (ts rest : List Lexeme) (a : A) → read ts ≡ Ok (a, rest) → Got A grammar unlimited ts a rest
  pub stopped : (ts rest : List Lexeme) (stop : Stop) → Ended ts → read ts ≡ Err (stop, rest)
      → StopsAt grammar.beginning unlimited.beginning ts stop rest
  -- a whole is read, whatever follows that can't continue it
  pub complete : (used rest : List Lexeme) (a : A) → grammar.whole used a → Free continues rest → read (used ++ rest) ≡ Ok (a, rest)

-- the end of the text is never read
pub record Keeps (A : Type 0) (read : Reader A) : Type 0 where
  pub ended : (ts rest : List Lexeme) (a : A) → Ended ts → read ts ≡ Ok (a, rest) → Ended rest

-- a grammar within limits and within wider ones, with the reader of the first, where the limits differ
pub record Fits (A : Type 0) (differ : Type 0) (grammar wider : Grammar A) (begins continues : List ℕ) (nullable : Bool) (read : Reader A) : Type 0 where
  pub laws : Lawful A grammar begins continues nullable
  pub wider_laws : Lawful A wider begins continues nullable
  pub under : Under A grammar wider
  pub reads : differ → Reads A grammar wider continues read
  pub keeps : Keeps A read
