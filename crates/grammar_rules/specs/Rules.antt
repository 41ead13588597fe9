-- Grammars as values, and the ways to join them; each rule of a grammar is one. It says which lists of tokens are
-- whole, with their tree, and which are beginnings: nothing, or some first parts of one choice, each whole, and then a beginning
-- of the next part.
use Rattle.std.proofs.Common.{inl, inr}
use Rattle.std.specs.Prelude.{◌≡◌, ◌⊎◌, ◌≤◌, ℕ, zero, suc, List, [], ◌∷◌, ◌++◌, length, Bool, true, is_some, Option, Some, None}
use Rattle.grammar_rules.specs.Lexemes.{Lexeme, among, end_symbol, first_place}

pub record Grammar (A : Type 0) : Type 1 where
  pub whole : List Lexeme → A → Type 0
  pub beginning : List Lexeme → Type 0

-- one token with a symbol of the set
abbrev pub token : List ℕ → Grammar Lexeme
token set = record {
  whole = λ ts t. (ts ≡ t ∷ []) × (among set t.symbol ≡ true);
  beginning = λ ts. (ts ≡ []) ⊎ ((t : Lexeme) × (ts ≡ t ∷ []) × (among set t.symbol ≡ true));
}

-- nothing
abbrev pub nothing : Grammar (Unit {0})
nothing = record { whole = λ ts a. ts ≡ []; beginning = λ ts. ts ≡ [] }

-- a grammar that is refused
abbrev pub never : {A : Type 0} → Grammar A
never = record { whole = λ ts a. ⊥; beginning = λ ts. ts ≡ [] }

-- a whole of the first grammar and then a whole of the second
abbrev pub both : {A B : Type 0} → Grammar A → Grammar B → Grammar (A × B)
both {A} {B} first second = record {
  whole = λ ts pair. (left : List Lexeme) × (right : List Lexeme) × (left ++ right ≡ ts)
      × first.whole left pair.0 × second.whole right pair.1;
  beginning = λ ts. first.beginning ts ⊎ ((left : List Lexeme) × (right : List Lexeme) × (a : A) × (left ++ right ≡ ts)
      × first.whole left a × second.beginning right);
}

-- the same with other trees
abbrev pub tree : {A B : Type 0} → (A → B) → Grammar A → Grammar B
tree {A} f grammar = record { whole = λ ts b. (a : A) × grammar.whole ts a × (b ≡ f a); beginning = grammar.beginning }

-- the same with the place of the first token
abbrev pub placed : {A : Type 0} → Grammar A → Grammar (ℕ × A)
placed grammar = record { whole = λ ts pair. (pair.0 ≡ first_place ts) × grammar.whole ts pair.1; beginning = grammar.beginning }

-- one grammar or another
abbrev pub WholeOfEither : {A B : Type 0} → Grammar A → Grammar B → List Lexeme → A ⊎ B → Type 0
WholeOfEither first second ts (inl a) = first.whole ts a
WholeOfEither first second ts (inr b) = second.whole ts b

abbrev pub choice : {A B : Type 0} → Grammar A → Grammar B → Grammar (A ⊎ B)
choice first second = record { whole = WholeOfEither first second; beginning = λ ts. first.beginning ts ⊎ second.beginning ts }

-- the grammar or nothing
abbrev pub option_of : {A : Type 0} → A ⊎ Unit {0} → Option A
option_of (inl a) = Some a
option_of (inr b) = None

abbrev pub perhaps : {A : Type 0} → Grammar A → Grammar (Option A)
perhaps grammar = tree option_of (choice grammar nothing)

-- whether a token with a symbol of the set is there
abbrev pub flag : List ℕ → Grammar Bool
flag set = tree is_some (perhaps (token set))

-- one grammar or another, of one type of tree
abbrev pub either_of : {A : Type 0} → A ⊎ A → A
either_of (inl a) = a
either_of (inr a) = a

abbrev pub or_else : {A : Type 0} → Grammar A → Grammar A → Grammar A
or_else first second = tree either_of (choice first second)

-- the grammar, or nothing with a tree of its own
abbrev pub or_nothing : {A : Type 0} → A → Grammar A → Grammar A
or_nothing absent grammar = record {
  whole = λ ts a. ((ts ≡ []) × (a ≡ absent)) ⊎ grammar.whole ts a;
  beginning = λ ts. (ts ≡ []) ⊎ grammar.beginning ts;
}

-- an item and then others
abbrev pub cons_of : {A : Type 0} → A × List A → List A
cons_of pair = pair.0 ∷ pair.1

-- the grammar at most so many times
abbrev pub times : {A : Type 0} → ℕ → Grammar A → Grammar (List A)
times zero grammar = record { whole = λ ts trees. (ts ≡ []) × (trees ≡ []); beginning = λ ts. ts ≡ [] }
times (suc n) grammar = or_nothing [] (tree cons_of (both grammar (times n grammar)))

-- the grammar any number of times
abbrev pub repeated : {A : Type 0} → Grammar A → Grammar (List A)
repeated {A} grammar = record {
  whole = λ ts trees. (n : ℕ) × (times n grammar).whole ts trees;
  beginning = λ ts. (n : ℕ) × (times n grammar).beginning ts;
}

-- a token that opens what the grammar gives, where something may still be opened
abbrev pub opened : {A : Type 0} → ℕ → List ℕ → Grammar A → Grammar (Lexeme × A)
opened zero set inner = never
opened (suc left) set inner = both (token set) inner

-- the grammar within a number of tokens
abbrev pub within : {A : Type 0} → ℕ → Grammar A → Grammar A
within most grammar = record {
  whole = λ ts a. (length ts ≤ most) × grammar.whole ts a;
  beginning = λ ts. (length ts ≤ most) × grammar.beginning ts;
}

-- the grammar and then the end of the text
abbrev pub first_part : {A B : Type 0} → A × B → A
first_part pair = pair.0

abbrev pub ended : {A : Type 0} → Grammar A → Grammar A
ended grammar = tree first_part (both grammar (token (end_symbol ∷ [])))
