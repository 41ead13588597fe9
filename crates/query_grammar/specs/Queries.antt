-- What a text is as a query: its tree, or the refusal that is due.
use Rattle.std.specs.Prelude.{◌≡◌, ℕ, List, [], ◌∷◌, ◌++◌, Result, Ok, Err}
use Rattle.grammar_rules.specs.Lexemes.{Lexeme}
use Rattle.query_tokens.specs.declared.parse_err.ParseErr.{ParseErr}
use Rattle.query_tokens.specs.declared.parse_err.ParseErr.TheVariants.{Utf8, Token as stuck_at, Expected, Deep, TooLong, Memory}
use Rattle.query_tokens.specs.declared.token.Token.{Token}
use Rattle.query_tokens.specs.Tokens.{tokens_of}
use Rattle.query_tokens.specs.Lexemes.{lexemes_of}
use Rattle.query_tree.specs.declared.script.Script.{Script}
use Rattle.query_grammar.specs.StatementGrammar.{Limits, script}

-- how many tokens an expression that stands in no other may have
abbrev pub max_tokens : ℕ
max_tokens = 1024

-- how many openings may be open at once
abbrev pub max_nesting : ℕ
max_nesting = 64

-- the limits of a query where so many more openings may be open
abbrev pub limits_of : ℕ → Limits
limits_of nesting = record { tokens = max_tokens; nesting = nesting }

abbrev pub query_limits : Limits
query_limits = limits_of max_nesting

-- the text is a query with this tree
abbrev pub IsScript : List ℕ → Script → Type 0
IsScript text found = (tokens : List Token) × (tokens_of text ≡ Ok tokens) × (script query_limits).whole (lexemes_of text tokens) found

-- the tokens begin a query within the limits, or within some limits
abbrev pub BeginsQuery : List Lexeme → Type 0
BeginsQuery ts = (script query_limits).beginning ts

abbrev pub BeginsUnlimited : List Lexeme → Type 0
BeginsUnlimited ts = (l : Limits) × (script l).beginning ts

-- the first token of the text with which the tokens so far no longer begin a query within the limits
pub record IsFirstUnfit (text : List ℕ) (front : List Lexeme) (token : Lexeme) : Type 0 where
  pub tokens : List Token
  pub text_tokens : tokens_of text ≡ Ok tokens
  pub more : List Lexeme
  pub all : front ++ token ∷ more ≡ lexemes_of text tokens
  pub fits : BeginsQuery front
  pub unfit : BeginsQuery (front ++ token ∷ []) → ⊥

-- the refusal that is due for the text
abbrev pub IsRefusedBy : List ℕ → ParseErr → Type 0
IsRefusedBy text (Utf8 place) = tokens_of text ≡ Err (Utf8 place)
IsRefusedBy text (stuck_at place) = tokens_of text ≡ Err (stuck_at place)
IsRefusedBy text (Expected place) =
    (front : List Lexeme) × (token : Lexeme) × (place ≡ token.place) × IsFirstUnfit text front token
    × (BeginsUnlimited (front ++ token ∷ []) → ⊥)
IsRefusedBy text (Deep place) =
    (front : List Lexeme) × (token : Lexeme) × (place ≡ token.place) × IsFirstUnfit text front token
    × BeginsUnlimited (front ++ token ∷ [])
IsRefusedBy text TooLong = tokens_of text ≡ Err TooLong
IsRefusedBy text Memory = ⊥

-- the answer that is due for the text: its tree, or its refusal
abbrev pub IsDue : List ℕ → Result Script ParseErr → Type 0
IsDue text (Ok found) = IsScript text found
IsDue text (Err error) = IsRefusedBy text error
