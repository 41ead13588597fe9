-- One more token of a text as its grammar sees it.
use Rattle.std.proofs.Common.{◌≡◌, ℕ, List, [], ◌∷◌, ◌++◌, Bool, true, false, not, refl, ap, sym, ◌∙◌, subst, append_assoc, arith}
use Rattle.std.specs.Prelude.{◌==◌, ◌&&◌, if◌then◌else◌}
use Rattle.grammar_rules.specs.Lexemes.{Lexeme, end_symbol, Ended}
use Rattle.query_tokens.specs.declared.lexeme.Before.{Before}
use Rattle.query_tokens.specs.declared.lexeme.Before.TheVariants as before
use Rattle.query_tokens.specs.declared.symbol.Symbol.{Symbol}
use Rattle.query_tokens.specs.declared.symbol.Symbol.TheVariants.{Word, Stamp, Unequal}
use Rattle.query_tokens.specs.declared.token.Token.{Token}
use Rattle.query_tokens.specs.declared.token.TokenKind.{TokenKind}
use Rattle.query_tokens.specs.declared.token.TokenKind.TheVariants as kind
use Rattle.query_tokens.specs.Symbols.{symbol_of, symbol_number, fixed_text, fixed_among, keywords, signs, is_same_word}
use Rattle.query_tokens.specs.Lexemes.{bytes_of, symbol_behind, before_next, lexeme_by, symbol_at, lexemes_behind, lexemes_of}

pub lexemes_turn : (before next : Before) (text bytes : List ℕ) (token : Token) (plain symbol : Symbol) (left after : List Token) (front list whole : List Lexeme)
    → left ≡ token ∷ after → bytes ≡ bytes_of text token → plain ≡ symbol_of token.kind bytes → symbol ≡ symbol_behind before plain bytes → next ≡ before_next before symbol bytes
    → list ≡ front ++ record { symbol = symbol_number symbol; bytes = bytes; place = token.start } ∷ []
    → front ++ lexemes_behind before text left ≡ whole → list ++ lexemes_behind next text after ≡ whole
unfolding lexemes_behind
lexemes_turn before next text bytes token plain symbol left after front list whole l b p s n added w =
    let lexeme : Lexeme = record { symbol = symbol_number symbol; bytes = bytes; place = token.start } in
    let is_symbol_at : symbol ≡ symbol_at before text token = s ∙ ap (λ (q : Symbol). symbol_behind before q bytes) p ∙ ap (λ (x : List ℕ). symbol_behind before (symbol_of token.kind x) x) b in
    let same : lexeme ≡ lexeme_by (symbol_at before text token) text token =
    ap (λ (q : Symbol). record { symbol = symbol_number q; bytes = bytes; place = token.start }) is_symbol_at
    ∙ ap (λ (x : List ℕ). record { symbol = symbol_number (symbol_at before text token); bytes = x; place = token.start }) b in
    let next_is : next ≡ before_next before (symbol_at before text token) (bytes_of text token) =
    n ∙ ap (λ (q : Symbol). before_next before q bytes) is_symbol_at ∙ ap (λ (x : List ℕ). before_next before (symbol_at before text token) x) b in
    ap (λ (xs : List Lexeme). xs ++ lexemes_behind next text after) added
    ∙ append_assoc front (lexeme ∷ []) (lexemes_behind next text after)
    ∙ ap (λ (x : Lexeme). front ++ x ∷ lexemes_behind next text after) same
    ∙ ap (λ (x : Before). front ++ lexeme_by (symbol_at before text token) text token ∷ lexemes_behind x text after) next_is
    ∙ ap (λ (ts : List Token). front ++ lexemes_behind before text ts) (sym l)
    ∙ w

-- ---- the end of the text stands last

-- no keyword and no sign is the end
none_end : List Symbol → Bool
none_end [] = true
none_end (symbol ∷ symbols) = not (symbol_number symbol == end_symbol) && none_end symbols

not_end : (n : ℕ) (b : Bool) → (not (n == end_symbol) && b) ≡ true → (n ≡ end_symbol → ⊥) × (b ≡ true)
not_end n b h = ((λ e. let same : (not (end_symbol == end_symbol) && b) ≡ true = subst (λ (m : ℕ). (not (m == end_symbol) && b) ≡ true) e h in cc (same)), by_cases (not (n == end_symbol)) h)
  where
    by_cases : (x : Bool) → (x && b) ≡ true → b ≡ true
    by_cases true h = h
    by_cases false h = cc

among-end : (symbols : List Symbol) (text : List ℕ) (other : Symbol) → none_end symbols ≡ true → (symbol_number other ≡ end_symbol → ⊥) → symbol_number (fixed_among symbols text other) ≡ end_symbol → ⊥
unfolding fixed_among none_end
among-end [] text other h k e = k e
among-end (symbol ∷ symbols) text other h k e =
    let parts = not_end (symbol_number symbol) (none_end symbols) h in
    by_cases (is_same_word (fixed_text symbol) text) parts.0 e (λ rest. among-end symbols text other parts.1 k rest)
  where
    by_cases : (b : Bool) → (symbol_number symbol ≡ end_symbol → ⊥) → symbol_number (if b then symbol else fixed_among symbols text other) ≡ end_symbol → (symbol_number (fixed_among symbols text other) ≡ end_symbol → ⊥) → ⊥
    by_cases true h e later = h e
    by_cases false h e later = later e

symbol_of-end : (kind : TokenKind) (text : List ℕ) → symbol_number (symbol_of kind text) ≡ end_symbol → ⊥
unfolding none_end
symbol_of-end kind.Word text e = among-end keywords text Word refl (λ h. absurd (omega arith)) e
symbol_of-end kind.Bracketed text e = absurd (omega arith)
symbol_of-end kind.Number text e = absurd (omega arith)
symbol_of-end kind.Text text e = absurd (omega arith)
symbol_of-end kind.Sign text e = among-end signs text Unequal refl (λ h. absurd (omega arith)) e

behind-end : (a b : Bool) (symbol : Symbol) → (symbol_number symbol ≡ end_symbol → ⊥) → symbol_number (if a then Stamp else (if b then Stamp else symbol)) ≡ end_symbol → ⊥
behind-end true b symbol h e = absurd (omega arith)
behind-end false true symbol h e = absurd (omega arith)
behind-end false false symbol h e = h e

-- the last token of a text is its end, and no other
pub lexemes_ended : (text : List ℕ) (tokens : List Token) → Ended (lexemes_of text tokens)
unfolding lexemes_behind
lexemes_ended text tokens = ended tokens before.Other
  where
    ended : (ts : List Token) (b : Before) → Ended (lexemes_behind b text ts)
    ended [] b = refl
    ended (t ∷ []) b = (behind-end _ _ _ (symbol_of-end t.kind (bytes_of text t)), refl)
    ended (t ∷ u ∷ ts) b = (behind-end _ _ _ (symbol_of-end t.kind (bytes_of text t)), ended (u ∷ ts) _)
