-- The text that the words of a query's tokens are written as has tokens that are alike to those.
use Rattle.std.proofs.Common.{◌≡◌, ◌⊎◌, ◌+◌, ◌-◌, ◌≤◌, inl, inr, ℕ, List, [], ◌∷◌, ◌++◌, length, drop, take, Bool, true, false, refl, ap, sym, ◌∙◌, subst, arith, append_assoc, length-append}
use Rattle.std.proofs.lemmas.List.{take_at, drop_at, append-nil}
use Rattle.std.proofs.lemmas.Str.{IsUtf8-append}
use Rattle.std.specs.Str.{IsUtf8}
use Rattle.std.specs.Prelude.{◌&&◌, ◌||◌, if◌then◌else◌, slice_range, codes, Ok}
use Rattle.grammar_rules.specs.Lexemes.{Lexeme}
use Rattle.query_tokens.specs.declared.lexeme.Before.{Before}
use Rattle.query_tokens.specs.declared.lexeme.Before.TheVariants as before
use Rattle.query_tokens.specs.declared.symbol.Symbol.{Symbol}
use Rattle.query_tokens.specs.declared.symbol.Symbol.TheVariants as symbol
use Rattle.query_tokens.specs.declared.token.Token.{Token}
use Rattle.query_tokens.specs.Symbols.{symbol_number, is_symbol, is_same_word}
use Rattle.query_tokens.specs.Tokens.{tokens_from, prepended}
use Rattle.query_tokens.specs.Lexemes.{bytes_of, end_of, is_word_point, is_name_point, before_next, behind_point, lexeme_by, symbol_at, lexemes_behind}
use Rattle.query_tokens.proofs.SymbolLemmas.{is_symbol-same, same_number}
use Rattle.query_tokens.proofs.TokensLemmas.{tokens_from-skip, tokens_from-token, tokens_from-end}
use Rattle.query_print.specs.declared.behind.Behind.{Behind}
use Rattle.query_print.specs.declared.behind.Behind.TheVariants as behind
use Rattle.query_print.specs.Words.{Word, Fixed, Named, Numbered, Quoted, space_unless, is_tight, is_tight_behind, is_behind_stamp_point, behind_point as point_behind, behind_fixed, behind_name, behind_word, word_text}
use Rattle.query_round_trip.proofs.Alike.{word_by, word_of, words_of, Kept, AllAlike, is_point}
use Rattle.query_round_trip.proofs.FixedFacts.{needs_none, utf8_from_ascii}
use Rattle.query_round_trip.proofs.Pieces.{Piece, Follow, is_system, is_word_system, seen_symbol}
use Rattle.query_round_trip.proofs.Joined.{joined, joined_separates, joined_no_point, NoPointFirst}

-- ---- tokens without the end of the text

abbrev pub lexeme_list : Before → List ℕ → List Token → List Lexeme
lexeme_list b text [] = []
lexeme_list b text (t ∷ ts) = lexeme_by (symbol_at b text t) text t ∷ lexeme_list (before_next b (symbol_at b text t) (bytes_of text t)) text ts

pub lexemes_behind-end : (b : Before) (text : List ℕ) (ts : List Token) → lexemes_behind b text ts ≡ lexeme_list b text ts ++ end_of text ∷ []
unfolding lexemes_behind
lexemes_behind-end b text [] = refl
lexemes_behind-end b text (t ∷ ts) = ap (λ (l : List Lexeme). lexeme_by (symbol_at b text t) text t ∷ l) (lexemes_behind-end (before_next b (symbol_at b text t) (bytes_of text t)) text ts)

-- ---- words that were written

-- the tokens of the text of words are alike to those that the words are of
pub record Relexed (c : Behind) (d : Before) (ts : List Lexeme) : Type 0 where
  pub utf8 : IsUtf8 (joined c (words_of ts))
  pub again : (full pre : List ℕ) → full ≡ pre ++ joined c (words_of ts)
      → (tokens : List Token) × (tokens_from 0 (length pre) (joined c (words_of ts)) ≡ Ok tokens) × AllAlike ts (lexeme_list d full tokens)

pub relexed_nil : (c : Behind) (d : Before) → Relexed c d []
relexed_nil c d = record { utf8 = utf8_from_ascii [] refl; again = λ full pre e. ([], tokens_from-end (length pre), tt) }

space_utf8 : (t : Bool) → IsUtf8 (space_unless t)
space_utf8 true = utf8_from_ascii [] refl
space_utf8 false = utf8_from_ascii (codes " ") refl

-- a space is passed over
space_passed : (t : Bool) (pre text : List ℕ) → tokens_from 0 (length pre) (space_unless t ++ text) ≡ tokens_from 0 (length (pre ++ space_unless t)) text
space_passed true pre text = ap (λ (l : List ℕ). tokens_from 0 (length l) text) (sym (append-nil pre))
space_passed false pre text =
    let next : length pre + 1 ≡ length (pre ++ codes " ") = omega (arith, length-append pre (codes " ")) in
    tokens_from-skip (length pre) 1 (32 ∷ text) (omega arith) (omega arith) refl ∙ ap (λ (n : ℕ). tokens_from 0 n text) next

slice_of : (front text rest full : List ℕ) → full ≡ front ++ (text ++ rest) → slice_range full (length front) (length front + length text) ≡ text
slice_of front text rest full e =
    let size : length front + length text - length front ≡ length text = omega arith in
    ap (λ (l : List ℕ). slice_range l (length front) (length front + length text)) e
    ∙ ap (λ (n : ℕ). take n (drop (length front) (front ++ (text ++ rest)))) size
    ∙ ap (take (length text)) (drop_at front (text ++ rest) (length front) refl) ∙ take_at text rest (length text) refl

module _ (c : Behind) (d : Before) (t : Lexeme) (ts : List Lexeme) (p : Piece t.symbol (word_of t) d (word_text c (word_of t))) where
  abbrev text_is : List ℕ
  text_is = word_text c (word_of t)

  abbrev after : Before
  after = before_next d (seen_symbol d p.kind_is (word_text c (word_of t))) (word_text c (word_of t))

  abbrev rest_is : List ℕ
  rest_is = joined (behind_word c (word_of t)) (words_of ts)

  piece_read : (place : ℕ) → Follow (word_of t) rest_is
      → tokens_from 0 place (text_is ++ rest_is) ≡ prepended (record { kind = p.kind_is; start = place; end = place + length text_is } ∷ []) (tokens_from 0 (place + length text_is) rest_is)
  piece_read place f =
      let fits : length text_is ≤ length (text_is ++ rest_is) = omega (arith, length-append text_is rest_is) in
      tokens_from-token place (length text_is) p.kind_is (text_is ++ rest_is) p.some fits (p.token rest_is f)
      ∙ ap (λ (l : List ℕ). prepended (record { kind = p.kind_is; start = place; end = place + length text_is } ∷ []) (tokens_from 0 (place + length text_is) l)) (drop_at text_is rest_is (length text_is) refl)

  piece_alike : (full front : List ℕ) (more : List Token) → full ≡ front ++ (text_is ++ rest_is) → AllAlike ts (lexeme_list after full more)
      → AllAlike (t ∷ ts) (lexeme_list d full (record { kind = p.kind_is; start = length front; end = length front + length text_is } ∷ more))
  piece_alike full front more e alike =
      subst (λ (x : List ℕ). AllAlike (t ∷ ts) (record { symbol = symbol_number (seen_symbol d p.kind_is x); bytes = x; place = length front } ∷ lexeme_list (before_next d (seen_symbol d p.kind_is x) x) full more))
      (sym (slice_of front text_is rest_is full e))
      (record { symbol_kept = p.kept; word_kept = p.word }, alike)

  -- one more word
  pub relexed_cons : Follow (word_of t) rest_is → Relexed (behind_word c (word_of t)) after ts → Relexed c d (t ∷ ts)
  relexed_cons f r = record {
    utf8 = IsUtf8-append (space_unless (is_tight c (word_of t))) (text_is ++ rest_is) (space_utf8 (is_tight c (word_of t))) (IsUtf8-append text_is rest_is p.utf8 r.utf8);
    again = λ full pre e.
        let gap : List ℕ = space_unless (is_tight c (word_of t)) in
        let front : List ℕ = pre ++ space_unless (is_tight c (word_of t)) in
        let at : full ≡ front ++ (text_is ++ rest_is) = e ∙ sym (append_assoc pre (space_unless (is_tight c (word_of t))) (text_is ++ rest_is)) in
        let behind : full ≡ (front ++ text_is) ++ rest_is = at ∙ sym (append_assoc front text_is rest_is) in
        let m = r.again full (front ++ text_is) behind in
        let place : length (front ++ text_is) ≡ length front + length text_is = length-append front text_is in (
          record { kind = p.kind_is; start = length front; end = length front + length text_is } ∷ m.0,
          space_passed (is_tight c (word_of t)) pre (text_is ++ rest_is) ∙ piece_read (length front) f
              ∙ ap (prepended (record { kind = p.kind_is; start = length front; end = length front + length text_is } ∷ []))
              (ap (λ (n : ℕ). tokens_from 0 n rest_is) (sym place) ∙ m.1),
          piece_alike full front m.0 at m.2,
        );
  }

-- ---- what stands behind a word in its text

or_false : (a b : Bool) → (a || b) ≡ false → (a ≡ false) × (b ≡ false)
or_false true b e = (e, cc)
or_false false b e = (refl, e)

tight_other : (t : Bool) → is_tight_behind (if t then behind.Called else behind.Other) ≡ false
tight_other true = refl
tight_other false = refl

loose_fixed : (c : Behind) (s : Symbol) → needs_none s ≡ false → is_tight_behind (behind_fixed c s) ≡ false
loose_fixed c s e =
    let parts = or_false (is_symbol s symbol.Open) (is_symbol s symbol.Point) e in
    ap (λ (t : Bool). is_tight_behind (if t then behind.Open else (if is_symbol s symbol.Point then point_behind c else (if is_symbol s symbol.Cast || is_symbol s symbol.TryCast then behind.Called else behind.Other)))) parts.0
    ∙ ap (λ (t : Bool). is_tight_behind (if t then point_behind c else (if is_symbol s symbol.Cast || is_symbol s symbol.TryCast then behind.Called else behind.Other))) parts.1
    ∙ tight_other (is_symbol s symbol.Cast || is_symbol s symbol.TryCast)

loose_name : (t : Bool) → is_tight_behind (if t then behind.System else behind.Called) ≡ false
loose_name true = refl
loose_name false = refl

pub follows : (c : Behind) (w : Word) (ws : List Word) → NoPointFirst ws ⊎ ((name : List ℕ) × (w ≡ Named name)) → Follow w (joined (behind_word c w) ws)
follows c (Fixed s) ws h = λ e. joined_separates (behind_fixed c s) ws (loose_fixed c s e)
follows c (Named name) ws h = joined_separates (behind_name name) ws (loose_name (is_same_word name (codes "System")))
follows c (Numbered number) ws (inl h) = (joined_separates behind.Other ws refl, joined_no_point ws h)
follows c (Numbered number) ws (inr h) = let never = h.1 in absurd (cc)
follows c (Quoted text) ws h = joined_separates behind.Other ws refl

-- ---- which tokens leave no point behind them

pub no_point_symbol : (s : Symbol) (bytes : List ℕ) → is_point (word_by (symbol_number s) bytes) ≡ false → is_symbol s symbol.Point ≡ false
no_point_symbol s bytes e = by_cases (is_symbol s symbol.Point) refl
  where
    by_cases : (t : Bool) → is_symbol s symbol.Point ≡ t → t ≡ false
    by_cases true h = let yes' : true ≡ false = sym (ap (λ (x : Symbol). is_point (word_by (symbol_number x) bytes)) (is_symbol-same s symbol.Point h)) ∙ e in cc
    by_cases false h = refl

quiet_else : (a b : Bool) → is_name_point (if a then before.System else (if b then before.SystemName else before.Other)) ≡ false
quiet_else true b = refl
quiet_else false true = refl
quiet_else false false = refl

pub quiet_next : (b : Before) (s : Symbol) (bytes : List ℕ) → is_symbol s symbol.Point ≡ false → is_name_point (before_next b s bytes) ≡ false
quiet_next b s bytes e =
    ap (λ (t : Bool). is_name_point (if is_symbol s symbol.Word && is_same_word bytes (codes "System") then before.System
    else (if is_symbol s symbol.Bracketed && is_same_word bytes (codes "[System]") then before.SystemName else (if t then behind_point b else before.Other)))) e
    ∙ quiet_else (is_symbol s symbol.Word && is_same_word bytes (codes "System")) (is_symbol s symbol.Bracketed && is_same_word bytes (codes "[System]"))

no_stamp_else : (a : Bool) → is_behind_stamp_point (if a then behind.Called else behind.Other) ≡ false
no_stamp_else true = refl
no_stamp_else false = refl

no_stamp_fixed : (a : Bool) (c : Behind) (s : Symbol) → is_symbol s symbol.Point ≡ false
    → is_behind_stamp_point (if a then behind.Open else (if is_symbol s symbol.Point then point_behind c else (if is_symbol s symbol.Cast || is_symbol s symbol.TryCast then behind.Called else behind.Other))) ≡ false
no_stamp_fixed true c s e = refl
no_stamp_fixed false c s e =
    ap (λ (t : Bool). is_behind_stamp_point (if t then point_behind c else (if is_symbol s symbol.Cast || is_symbol s symbol.TryCast then behind.Called else behind.Other))) e
    ∙ no_stamp_else (is_symbol s symbol.Cast || is_symbol s symbol.TryCast)

no_stamp_name : (t : Bool) → is_behind_stamp_point (if t then behind.System else behind.Called) ≡ false
no_stamp_name true = refl
no_stamp_name false = refl

pub no_stamp_next : (c : Behind) (w : Word) → is_point w ≡ false → is_behind_stamp_point (behind_word c w) ≡ false
no_stamp_next c (Fixed s) e = no_stamp_fixed (is_symbol s symbol.Open) c s e
no_stamp_next c (Named name) e = no_stamp_name (is_same_word name (codes "System"))
no_stamp_next c (Numbered number) e = refl
no_stamp_next c (Quoted text) e = refl

-- ---- the words of a path

abbrev pub is_system_behind : Behind → Bool
is_system_behind behind.System = true
is_system_behind _ = false

pub system_name : (t : Bool) → is_system_behind (if t then behind.System else behind.Called) ≡ t
system_name true = refl
system_name false = refl

pub stamp_point : (c : Behind) → is_behind_stamp_point (point_behind c) ≡ is_system_behind c
stamp_point behind.Start = refl
stamp_point behind.Open = refl
stamp_point behind.Point = refl
stamp_point behind.StampPoint = refl
stamp_point behind.System = refl
stamp_point behind.Called = refl
stamp_point behind.Other = refl

pub name_point_of : (b : Before) → is_name_point (behind_point b) ≡ is_system b
name_point_of before.Other = refl
name_point_of before.System = refl
name_point_of before.SystemName = refl
name_point_of before.Point = refl
name_point_of before.NamePoint = refl

pub word_point_of : (b : Before) → is_word_point (behind_point b) ≡ is_word_system b
word_point_of before.Other = refl
word_point_of before.System = refl
word_point_of before.SystemName = refl
word_point_of before.Point = refl
word_point_of before.NamePoint = refl

pub point_next : (b : Before) (s : Symbol) (bytes : List ℕ) → symbol_number s ≡ symbol_number symbol.Point → before_next b s bytes ≡ behind_point b
point_next b s bytes e = ap (λ (x : Symbol). before_next b x bytes) (is_symbol-same s symbol.Point (same_number (symbol_number s) (symbol_number symbol.Point) e))

pub kept_point : (m n : ℕ) → m ≡ symbol_number symbol.Point → Kept m n → n ≡ symbol_number symbol.Point
kept_point m n e (inl h) = h ∙ e
kept_point m n e (inr h) = let never : symbol_number symbol.Point ≡ symbol_number symbol.Bracketed = sym e ∙ h.0 in absurd (omega arith)
