-- How keywords, signs and sets of signs are written.
use Rattle.std.proofs.Common.{◌≡◌, ◌⊎◌, inl, inr, ℕ, List, [], ◌∷◌, true, false, refl, ap, sym, ◌∙◌, subst}
use Rattle.grammar_rules.specs.Lexemes.{Lexeme, among}
use Rattle.grammar_rules.specs.Rules.{token}
use Rattle.query_tokens.specs.declared.symbol.Symbol.{Symbol}
use Rattle.query_tokens.specs.declared.symbol.Symbol.TheVariants as symbol
use Rattle.query_tokens.specs.Symbols.{symbol_number}
use Rattle.query_grammar.specs.Lists.{fixed}
use Rattle.query_print.specs.Words.{Word, Fixed}
use Rattle.query_round_trip.proofs.Alike.{word_by, word_of, is_closed, same_symbol, is_point}
use Rattle.query_round_trip.proofs.Printings.{Printed, printed_token, printed_fixed, word_alone, no_bare}
use Rattle.query_round_trip.proofs.NamePrints.{among_cons}

pub word_With : Printed Lexeme (Unit {0}) (fixed symbol.With) (word_alone symbol.With) no_bare
word_With = printed_fixed symbol.With (λ bytes. refl) refl refl

pub word_As : Printed Lexeme (Unit {0}) (fixed symbol.As) (word_alone symbol.As) no_bare
word_As = printed_fixed symbol.As (λ bytes. refl) refl refl

pub word_Union : Printed Lexeme (Unit {0}) (fixed symbol.Union) (word_alone symbol.Union) no_bare
word_Union = printed_fixed symbol.Union (λ bytes. refl) refl refl

pub word_Select : Printed Lexeme (Unit {0}) (fixed symbol.Select) (word_alone symbol.Select) no_bare
word_Select = printed_fixed symbol.Select (λ bytes. refl) refl refl

pub word_Into : Printed Lexeme (Unit {0}) (fixed symbol.Into) (word_alone symbol.Into) no_bare
word_Into = printed_fixed symbol.Into (λ bytes. refl) refl refl

pub word_From : Printed Lexeme (Unit {0}) (fixed symbol.From) (word_alone symbol.From) no_bare
word_From = printed_fixed symbol.From (λ bytes. refl) refl refl

pub word_Where : Printed Lexeme (Unit {0}) (fixed symbol.Where) (word_alone symbol.Where) no_bare
word_Where = printed_fixed symbol.Where (λ bytes. refl) refl refl

pub word_Group : Printed Lexeme (Unit {0}) (fixed symbol.Group) (word_alone symbol.Group) no_bare
word_Group = printed_fixed symbol.Group (λ bytes. refl) refl refl

pub word_By : Printed Lexeme (Unit {0}) (fixed symbol.By) (word_alone symbol.By) no_bare
word_By = printed_fixed symbol.By (λ bytes. refl) refl refl

pub word_Having : Printed Lexeme (Unit {0}) (fixed symbol.Having) (word_alone symbol.Having) no_bare
word_Having = printed_fixed symbol.Having (λ bytes. refl) refl refl

pub word_Timestamp : Printed Lexeme (Unit {0}) (fixed symbol.Timestamp) (word_alone symbol.Timestamp) no_bare
word_Timestamp = printed_fixed symbol.Timestamp (λ bytes. refl) refl refl

pub word_Over : Printed Lexeme (Unit {0}) (fixed symbol.Over) (word_alone symbol.Over) no_bare
word_Over = printed_fixed symbol.Over (λ bytes. refl) refl refl

pub word_Inner : Printed Lexeme (Unit {0}) (fixed symbol.Inner) (word_alone symbol.Inner) no_bare
word_Inner = printed_fixed symbol.Inner (λ bytes. refl) refl refl

pub word_Left : Printed Lexeme (Unit {0}) (fixed symbol.Left) (word_alone symbol.Left) no_bare
word_Left = printed_fixed symbol.Left (λ bytes. refl) refl refl

pub word_Outer : Printed Lexeme (Unit {0}) (fixed symbol.Outer) (word_alone symbol.Outer) no_bare
word_Outer = printed_fixed symbol.Outer (λ bytes. refl) refl refl

pub word_Join : Printed Lexeme (Unit {0}) (fixed symbol.Join) (word_alone symbol.Join) no_bare
word_Join = printed_fixed symbol.Join (λ bytes. refl) refl refl

pub word_On : Printed Lexeme (Unit {0}) (fixed symbol.On) (word_alone symbol.On) no_bare
word_On = printed_fixed symbol.On (λ bytes. refl) refl refl

pub word_Partition : Printed Lexeme (Unit {0}) (fixed symbol.Partition) (word_alone symbol.Partition) no_bare
word_Partition = printed_fixed symbol.Partition (λ bytes. refl) refl refl

pub word_Or : Printed Lexeme (Unit {0}) (fixed symbol.Or) (word_alone symbol.Or) no_bare
word_Or = printed_fixed symbol.Or (λ bytes. refl) refl refl

pub word_And : Printed Lexeme (Unit {0}) (fixed symbol.And) (word_alone symbol.And) no_bare
word_And = printed_fixed symbol.And (λ bytes. refl) refl refl

pub word_Not : Printed Lexeme (Unit {0}) (fixed symbol.Not) (word_alone symbol.Not) no_bare
word_Not = printed_fixed symbol.Not (λ bytes. refl) refl refl

pub word_Between : Printed Lexeme (Unit {0}) (fixed symbol.Between) (word_alone symbol.Between) no_bare
word_Between = printed_fixed symbol.Between (λ bytes. refl) refl refl

pub word_In : Printed Lexeme (Unit {0}) (fixed symbol.In) (word_alone symbol.In) no_bare
word_In = printed_fixed symbol.In (λ bytes. refl) refl refl

pub word_Like : Printed Lexeme (Unit {0}) (fixed symbol.Like) (word_alone symbol.Like) no_bare
word_Like = printed_fixed symbol.Like (λ bytes. refl) refl refl

pub word_Is : Printed Lexeme (Unit {0}) (fixed symbol.Is) (word_alone symbol.Is) no_bare
word_Is = printed_fixed symbol.Is (λ bytes. refl) refl refl

pub word_Null : Printed Lexeme (Unit {0}) (fixed symbol.Null) (word_alone symbol.Null) no_bare
word_Null = printed_fixed symbol.Null (λ bytes. refl) refl refl

pub word_Case : Printed Lexeme (Unit {0}) (fixed symbol.Case) (word_alone symbol.Case) no_bare
word_Case = printed_fixed symbol.Case (λ bytes. refl) refl refl

pub word_When : Printed Lexeme (Unit {0}) (fixed symbol.When) (word_alone symbol.When) no_bare
word_When = printed_fixed symbol.When (λ bytes. refl) refl refl

pub word_Then : Printed Lexeme (Unit {0}) (fixed symbol.Then) (word_alone symbol.Then) no_bare
word_Then = printed_fixed symbol.Then (λ bytes. refl) refl refl

pub word_Else : Printed Lexeme (Unit {0}) (fixed symbol.Else) (word_alone symbol.Else) no_bare
word_Else = printed_fixed symbol.Else (λ bytes. refl) refl refl

pub word_End : Printed Lexeme (Unit {0}) (fixed symbol.End) (word_alone symbol.End) no_bare
word_End = printed_fixed symbol.End (λ bytes. refl) refl refl

pub word_Distinct : Printed Lexeme (Unit {0}) (fixed symbol.Distinct) (word_alone symbol.Distinct) no_bare
word_Distinct = printed_fixed symbol.Distinct (λ bytes. refl) refl refl

pub word_Open : Printed Lexeme (Unit {0}) (fixed symbol.Open) (word_alone symbol.Open) no_bare
word_Open = printed_fixed symbol.Open (λ bytes. refl) refl refl

pub word_Close : Printed Lexeme (Unit {0}) (fixed symbol.Close) (word_alone symbol.Close) no_bare
word_Close = printed_fixed symbol.Close (λ bytes. refl) refl refl

pub word_Comma : Printed Lexeme (Unit {0}) (fixed symbol.Comma) (word_alone symbol.Comma) no_bare
word_Comma = printed_fixed symbol.Comma (λ bytes. refl) refl refl

pub word_Semicolon : Printed Lexeme (Unit {0}) (fixed symbol.Semicolon) (word_alone symbol.Semicolon) no_bare
word_Semicolon = printed_fixed symbol.Semicolon (λ bytes. refl) refl refl

pub word_Star : Printed Lexeme (Unit {0}) (fixed symbol.Star) (word_alone symbol.Star) no_bare
word_Star = printed_fixed symbol.Star (λ bytes. refl) refl refl

pub word_Minus : Printed Lexeme (Unit {0}) (fixed symbol.Minus) (word_alone symbol.Minus) no_bare
word_Minus = printed_fixed symbol.Minus (λ bytes. refl) refl refl

-- ---- sets of signs

-- each symbol of a set
abbrev pub Each : List ℕ → (ℕ → Type 0) → Type 0
Each [] P = Unit {0}
Each (x ∷ xs) P = P x × Each xs P

pub at_symbol : (set : List ℕ) (P : ℕ → Type 0) (n : ℕ) → Each set P → among set n ≡ true → P n
at_symbol [] P n h a = cc (a)
at_symbol (x ∷ xs) P n h a = by_cases (among_cons x xs n a) (λ rest. at_symbol xs P n h.1 rest)
  where
    by_cases : (n ≡ x) ⊎ (among xs n ≡ true) → (among xs n ≡ true → P n) → P n
    by_cases (inl e) more = subst P (sym e) h.0
    by_cases (inr e) more = more e

module _ (S : Type 0) (set : List ℕ) (symbol_of : S → Symbol) (sign : ℕ → S) (closed : is_closed set ≡ true) (none : among set (symbol_number symbol.Bracketed) ≡ false)
    (words : (bytes : List ℕ) → Each set (λ n. word_by n bytes ≡ Fixed (symbol_of (sign n)))) (points : Each set (λ n. is_point (Fixed (symbol_of (sign n))) ≡ false)) where
  sign_word : (t : Lexeme) → among set t.symbol ≡ true → word_of t ≡ Fixed (symbol_of (sign t.symbol))
  sign_word t a = at_symbol set (λ n. word_by n t.bytes ≡ Fixed (symbol_of (sign n))) t.symbol (words t.bytes) a

  pub printed_signs : Printed Lexeme S (token set) (λ t. Fixed (symbol_of (sign t.symbol)) ∷ []) (λ t. sign t.symbol)
  printed_signs = printed_token S set (λ t. Fixed (symbol_of (sign t.symbol)) ∷ []) (λ t. sign t.symbol) (record {
    closed = closed;
    word = λ t a. ap (λ (x : Word). x ∷ []) (sign_word t a);
    no_point = λ t a. ap is_point (sign_word t a) ∙ at_symbol set (λ n. is_point (Fixed (symbol_of (sign n))) ≡ false) t.symbol points a;
    same = λ t u a l. ap sign (same_symbol set t.symbol u.symbol none l.symbol_kept a);
  })
