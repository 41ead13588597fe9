-- What is written for any token of a text is a token again.
use Rattle.std.proofs.Common.{◌≡◌, ◌⊎◌, inl, inr, ℕ, List, [], ◌∷◌, ◌++◌, length, Bool, true, false, refl, ap, sym, ◌∙◌, subst}
use Rattle.std.specs.Str.{IsUtf8}
use Rattle.std.specs.Prelude.{◌==◌, ◌&&◌, ◌||◌, if◌then◌else◌, nat_le, codes}
use Rattle.grammar_rules.specs.Lexemes.{among}
use Rattle.query_tokens.specs.declared.lexeme.Before.{Before}
use Rattle.query_tokens.specs.declared.lexeme.Before.TheVariants as before
use Rattle.query_tokens.specs.declared.symbol.Symbol.{Symbol}
use Rattle.query_tokens.specs.declared.symbol.Symbol.TheVariants as symbol
use Rattle.query_tokens.specs.declared.token.TokenKind.{TokenKind}
use Rattle.query_tokens.specs.declared.token.TokenKind.TheVariants as kind
use Rattle.query_tokens.specs.Bytes.{max_name, quote}
use Rattle.query_tokens.specs.Symbols.{symbol_number, symbol_of, is_symbol, is_same_word, fixed_text, keywords}
use Rattle.query_tokens.specs.Lexemes.{is_word_point, is_name_point, symbol_behind, before_next}
use Rattle.query_tokens.proofs.SymbolLemmas.{is_symbol-same}
use Rattle.query_grammar.specs.Leaves.{name_text}
use Rattle.query_print.specs.declared.behind.Behind.{Behind}
use Rattle.query_print.specs.Words.{Word, Fixed, Named, Quoted, is_word, is_plain, is_bare, is_behind_stamp_point, name_text as written_name, bracketed, word_text}
use Rattle.query_round_trip.proofs.Alike.{word_by, Kept, symbol_among, fixed_symbols}
use Rattle.query_round_trip.proofs.FixedPrints.{at_symbol}
use Rattle.query_round_trip.proofs.Digits.{and_both}
use Rattle.query_round_trip.proofs.BracketedNames.{Bracketable}
use Rattle.query_round_trip.proofs.FixedFacts.{fixed_number, fixed_numbers, found_among, found_text, keyword_numbers, keyword_fixed, sign_fixed, sign_number, sign_numbers}
use Rattle.query_round_trip.proofs.SameWords.{same_lower, lower_same, bracketed_same}
use Rattle.query_round_trip.proofs.Forms.{Form, QuotedBytes}
use Rattle.query_round_trip.proofs.Pieces.{Piece, is_system, seen_symbol, named_same, word_name, bracketed_name, bare_text, bracket_text, plain_piece, bracket_piece, stamp_piece, fixed_not_named, fixed_word, fixed_piece, number_piece, text_again, text_piece, system_if}

-- the same is known of the tokens before a token and of the words before what is written for it
pub record Linked (b : Before) (c : Behind) (d : Before) : Type 0 where
  pub stamp : is_behind_stamp_point c ≡ is_name_point b
  pub name_point : is_name_point d ≡ is_name_point b
  pub word_point : is_word_point d ≡ is_name_point b

-- names in brackets and texts are UTF-8
abbrev pub Utf8Form : TokenKind → List ℕ → Type 0
Utf8Form kind.Word bytes = Unit {0}
Utf8Form kind.Bracketed bytes = IsUtf8 bytes
Utf8Form kind.Number bytes = Unit {0}
Utf8Form kind.Text bytes = IsUtf8 bytes
Utf8Form kind.Sign bytes = Unit {0}

-- what is written for a token with a symbol
abbrev pub PieceFor : ℕ → List ℕ → Behind → Before → Type 0
PieceFor m bytes c d = Piece m (word_by m bytes) d (word_text c (word_by m bytes))

-- behind a point stands a name
abbrev pub NamedBehind : Before → ℕ → List ℕ → Type 0
NamedBehind b m bytes = is_name_point b ≡ true → (name : List ℕ) × (word_by m bytes ≡ Named name)

at_word_point : (d : Before) → is_word_point d ≡ true → d ≡ before.Point
at_word_point before.Other e = cc
at_word_point before.System e = cc
at_word_point before.SystemName e = cc
at_word_point before.Point e = refl
at_word_point before.NamePoint e = cc

-- ---- names

bare_plain : (c : Behind) (name : List ℕ) → is_plain name ≡ true → is_bare c name ≡ true
bare_plain c name e = ap (λ (t : Bool). t || (is_behind_stamp_point c && is_same_word name (codes "Timestamp"))) e

or_right : (a b : Bool) → b ≡ true → (a || b) ≡ true
or_right true b e = refl
or_right false b e = e

bare_stamp : (c : Behind) (name : List ℕ) → is_behind_stamp_point c ≡ true → is_same_word name (codes "Timestamp") ≡ true → is_bare c name ≡ true
bare_stamp c name s e = or_right (is_plain name) (is_behind_stamp_point c && is_same_word name (codes "Timestamp")) (and_both (is_behind_stamp_point c) (is_same_word name (codes "Timestamp")) s e)

bare_none : (c : Behind) (name : List ℕ) → is_plain name ≡ false → (is_behind_stamp_point c && is_same_word name (codes "Timestamp")) ≡ false → is_bare c name ≡ false
bare_none c name p s = ap (λ (t : Bool). t || (is_behind_stamp_point c && is_same_word name (codes "Timestamp"))) p ∙ s

named_for : (m : ℕ) (bytes name text : List ℕ) (c : Behind) (d : Before) → word_by m bytes ≡ Named name → written_name c name ≡ text → Piece m (Named name) d text → PieceFor m bytes c d
named_for m bytes name text c d w t p =
    subst (λ (x : Word). Piece m x d (word_text c x)) (sym w) (subst (λ (x : List ℕ). Piece m (Named name) d x) (sym t) p)

plain_for : (m : ℕ) (bytes name : List ℕ) (c : Behind) (d : Before) → word_by m bytes ≡ Named name → is_plain name ≡ true → nat_le (length name) max_name ≡ true → Kept m (symbol_number symbol.Word) → PieceFor m bytes c d
plain_for m bytes name c d w p short k = named_for m bytes name name c d w (bare_text c name (bare_plain c name p)) (plain_piece m d name p short k)

stamp_for : (m : ℕ) (bytes name : List ℕ) (b : Before) (c : Behind) (d : Before) → word_by m bytes ≡ Named name → Linked b c d → is_name_point b ≡ true → is_same_word name (codes "Timestamp") ≡ true → Kept m (symbol_number symbol.Stamp) → PieceFor m bytes c d
stamp_for m bytes name b c d w l point same k =
    named_for m bytes name name c d w (bare_text c name (bare_stamp c name (l.stamp ∙ point) same))
    (subst (λ (x : Before). Piece m (Named name) x name) (sym (at_word_point d (l.word_point ∙ point))) (stamp_piece m name same k))

bracket_for : (m : ℕ) (bytes name : List ℕ) (b : Before) (c : Behind) (d : Before) → word_by m bytes ≡ Named name → Linked b c d → is_plain name ≡ false → Bracketable name → IsUtf8 (bracketed name)
    → (is_name_point b && is_same_word name (codes "Timestamp")) ≡ false → Kept m (symbol_number symbol.Bracketed) → PieceFor m bytes c d
bracket_for m bytes name b c d w l p br u none k =
    named_for m bytes name (bracketed name) c d w
    (bracket_text c name (bare_none c name p (ap (λ (t : Bool). t && is_same_word name (codes "Timestamp")) l.stamp ∙ none)))
    (bracket_piece m d name p br u (ap (λ (t : Bool). t && is_same_word name (codes "Timestamp")) l.name_point ∙ none) k)

-- ---- keywords and signs

fixed_for : (m : ℕ) (bytes : List ℕ) (b : Before) (c : Behind) (d : Before) → among fixed_numbers m ≡ true → Linked b c d → NamedBehind b m bytes → PieceFor m bytes c d
fixed_for m bytes b c d a l named = by_cases (is_name_point b) refl
  where
    by_cases : (t : Bool) → is_name_point b ≡ t → PieceFor m bytes c d
    by_cases true e =
        let n = named e in
        absurd (fixed_not_named (symbol_among fixed_symbols m) n.0 (sym (fixed_word m bytes a) ∙ n.1))
    by_cases false e = subst (λ (w : Word). Piece m w d (word_text c w)) (sym (fixed_word m bytes a)) (fixed_piece m d a (l.name_point ∙ e))

-- a keyword or sign other than Timestamp keeps its symbol
other_symbol : (b : Before) (s : Symbol) (bytes : List ℕ) → (is_symbol s symbol.Timestamp && is_word_point b) ≡ false → is_symbol s symbol.Bracketed ≡ false → symbol_behind b s bytes ≡ s
other_symbol b s bytes t e =
    ap (λ (x : Bool). if x then symbol.Stamp else (if is_symbol s symbol.Bracketed && is_name_point b && is_same_word bytes (codes "[Timestamp]") then symbol.Stamp else s)) t
    ∙ ap (λ (x : Bool). if x && is_name_point b && is_same_word bytes (codes "[Timestamp]") then symbol.Stamp else s) e

stamp_symbol_of : (b : Before) (s : Symbol) (bytes : List ℕ) → (is_symbol s symbol.Timestamp && is_word_point b) ≡ true → symbol_behind b s bytes ≡ symbol.Stamp
stamp_symbol_of b s bytes t =
    ap (λ (x : Bool). if x then symbol.Stamp else (if is_symbol s symbol.Bracketed && is_name_point b && is_same_word bytes (codes "[Timestamp]") then symbol.Stamp else s)) t

keyword_no_bracket : (s : Symbol) → among keyword_numbers (symbol_number s) ≡ true → is_symbol s symbol.Bracketed ≡ false
keyword_no_bracket s a = at_symbol keyword_numbers (λ n. (n == symbol_number symbol.Bracketed) ≡ false) (symbol_number s)
    ((refl, (refl, (refl, (refl, (refl, (refl, (refl, (refl, (refl, (refl, (refl, (refl, (refl, (refl, (refl, (refl, (refl, (refl, (refl, (refl, (refl, (refl, (refl, (refl, (refl, (refl, (refl, (refl, (refl, (refl, (refl, (refl, (refl, (refl, tt))))))))))))))))))))))))))))))))))) a

sign_no_name : (s : Symbol) → among sign_numbers (symbol_number s) ≡ true → (is_symbol s symbol.Timestamp ≡ false) × (is_symbol s symbol.Bracketed ≡ false)
sign_no_name s a = (
  at_symbol sign_numbers (λ n. (n == symbol_number symbol.Timestamp) ≡ false) (symbol_number s) ((refl, (refl, (refl, (refl, (refl, (refl, (refl, (refl, (refl, (refl, (refl, (refl, (refl, (refl, (refl, (refl, tt))))))))))))))))) a,
  at_symbol sign_numbers (λ n. (n == symbol_number symbol.Bracketed) ≡ false) (symbol_number s) ((refl, (refl, (refl, (refl, (refl, (refl, (refl, (refl, (refl, (refl, (refl, (refl, (refl, (refl, (refl, (refl, tt))))))))))))))))) a,
)

-- ---- tokens by their kind

word_point_named : (b : Before) → is_word_point b ≡ true → is_name_point b ≡ true
word_point_named before.Other e = cc
word_point_named before.System e = cc
word_point_named before.SystemName e = cc
word_point_named before.Point e = refl
word_point_named before.NamePoint e = cc

and_split : (a b : Bool) → (a && b) ≡ true → (a ≡ true) × (b ≡ true)
and_split true b e = (refl, e)
and_split false b e = (cc, cc)

-- a word whose symbol is Timestamp is that word, without case
is_timestamp : (bytes : List ℕ) → symbol_of kind.Word bytes ≡ symbol.Timestamp → is_same_word bytes (codes "Timestamp") ≡ true
unfolding is_same_word
is_timestamp bytes e =
    let found = found_text keywords bytes symbol.Word symbol.Timestamp e (λ h. cc) in
    lower_same bytes (fixed_text symbol.Timestamp) (codes "Timestamp") (sym (same_lower (fixed_text symbol.Timestamp) bytes found))

plain_by : (bytes : List ℕ) → is_word bytes ≡ true → symbol_of kind.Word bytes ≡ symbol.Word → is_plain bytes ≡ true
unfolding is_plain
plain_by bytes w e = and_both (is_word bytes) (is_symbol (symbol_of kind.Word bytes) symbol.Word) w (ap (λ (s : Symbol). is_symbol s symbol.Word) e)

module _ (b : Before) (c : Behind) (d : Before) (l : Linked b c d) (bytes : List ℕ) where
  plain_token : is_word bytes ≡ true → nat_le (length bytes) max_name ≡ true → symbol_of kind.Word bytes ≡ symbol.Word → PieceFor (symbol_number (seen_symbol b kind.Word bytes)) bytes c d
  plain_token w short e =
      let s : seen_symbol b kind.Word bytes ≡ symbol.Word = ap (λ (x : Symbol). symbol_behind b x bytes) e in
      subst (λ (x : Symbol). PieceFor (symbol_number x) bytes c d) (sym s)
      (plain_for (symbol_number symbol.Word) bytes bytes c d (ap Named (word_name bytes w)) (plain_by bytes w e) short (inl refl))

  keyword_token : (t : Bool) → (is_symbol (symbol_of kind.Word bytes) symbol.Timestamp && is_word_point b) ≡ t → is_word bytes ≡ true → among keyword_numbers (symbol_number (symbol_of kind.Word bytes)) ≡ true
      → NamedBehind b (symbol_number (seen_symbol b kind.Word bytes)) bytes → PieceFor (symbol_number (seen_symbol b kind.Word bytes)) bytes c d
  keyword_token true e w a named =
      let parts = and_split (is_symbol (symbol_of kind.Word bytes) symbol.Timestamp) (is_word_point b) e in
      let s = stamp_symbol_of b (symbol_of kind.Word bytes) bytes e in
      let same = is_timestamp bytes (is_symbol-same (symbol_of kind.Word bytes) symbol.Timestamp parts.0) in
      subst (λ (x : Symbol). PieceFor (symbol_number x) bytes c d) (sym s)
      (stamp_for (symbol_number symbol.Stamp) bytes bytes b c d (ap Named (word_name bytes w)) l (word_point_named b parts.1) same (inl refl))
  keyword_token false e w a named =
      let s = other_symbol b (symbol_of kind.Word bytes) bytes e (keyword_no_bracket (symbol_of kind.Word bytes) a) in
      fixed_for (symbol_number (seen_symbol b kind.Word bytes)) bytes b c d
      (subst (λ (x : Symbol). among fixed_numbers (symbol_number x) ≡ true) (sym s) (keyword_fixed (symbol_number (symbol_of kind.Word bytes)) a)) l named

  word_token : is_word bytes ≡ true → nat_le (length bytes) max_name ≡ true → NamedBehind b (symbol_number (seen_symbol b kind.Word bytes)) bytes → PieceFor (symbol_number (seen_symbol b kind.Word bytes)) bytes c d
  word_token w short named = by_cases (found_among keywords bytes symbol.Word)
    where
      by_cases : (symbol_of kind.Word bytes ≡ symbol.Word) ⊎ (among keyword_numbers (symbol_number (symbol_of kind.Word bytes)) ≡ true) → PieceFor (symbol_number (seen_symbol b kind.Word bytes)) bytes c d
      by_cases (inl e) = plain_token w short e
      by_cases (inr a) = keyword_token (is_symbol (symbol_of kind.Word bytes) symbol.Timestamp && is_word_point b) refl w a named

  sign_token : NamedBehind b (symbol_number (seen_symbol b kind.Sign bytes)) bytes → PieceFor (symbol_number (seen_symbol b kind.Sign bytes)) bytes c d
  sign_token named =
      let a = sign_number bytes in
      let other = sign_no_name (symbol_of kind.Sign bytes) a in
      let s = other_symbol b (symbol_of kind.Sign bytes) bytes (ap (λ (t : Bool). t && is_word_point b) other.0) other.1 in
      fixed_for (symbol_number (seen_symbol b kind.Sign bytes)) bytes b c d
      (subst (λ (x : Symbol). among fixed_numbers (symbol_number x) ≡ true) (sym s) (sign_fixed (symbol_number (symbol_of kind.Sign bytes)) a)) l named

  bracket_stamp : (name : List ℕ) (t : Bool) → (is_name_point b && is_same_word (bracketed name) (codes "[Timestamp]")) ≡ t → Bracketable name → IsUtf8 (bracketed name)
      → PieceFor (symbol_number (if t then symbol.Stamp else symbol.Bracketed)) (bracketed name) c d
  bracket_stamp name true e br u =
      let parts = and_split (is_name_point b) (is_same_word (bracketed name) (codes "[Timestamp]")) e in
      stamp_for (symbol_number symbol.Stamp) (bracketed name) name b c d (ap Named (bracketed_name name)) l parts.0 (sym (bracketed_same name (codes "Timestamp")) ∙ parts.1) (inl refl)
  bracket_stamp name false e br u = by_cases (is_plain name) refl
    where
      none : (is_name_point b && is_same_word name (codes "Timestamp")) ≡ false
      none = ap (λ (t : Bool). is_name_point b && t) (sym (bracketed_same name (codes "Timestamp"))) ∙ e

      by_cases : (t : Bool) → is_plain name ≡ t → PieceFor (symbol_number symbol.Bracketed) (bracketed name) c d
      by_cases true p = plain_for (symbol_number symbol.Bracketed) (bracketed name) name c d (ap Named (bracketed_name name)) p br.short (inr (refl, refl))
      by_cases false p = bracket_for (symbol_number symbol.Bracketed) (bracketed name) name b c d (ap Named (bracketed_name name)) l p br u none (inl refl)

  bracket_token : (name : List ℕ) → bytes ≡ bracketed name → Bracketable name → IsUtf8 bytes → PieceFor (symbol_number (seen_symbol b kind.Bracketed bytes)) bytes c d
  bracket_token name e br u =
      subst (λ (x : List ℕ). PieceFor (symbol_number (seen_symbol b kind.Bracketed x)) x c d) (sym e)
      (bracket_stamp name (is_name_point b && is_same_word (bracketed name) (codes "[Timestamp]")) refl br (subst IsUtf8 e u))

  text_token : (inner : List ℕ) → bytes ≡ quote ∷ inner ++ quote ∷ [] → QuotedBytes inner → IsUtf8 bytes → PieceFor (symbol_number symbol.Text) bytes c d
  text_token inner e q u =
      subst (λ (x : List ℕ). PieceFor (symbol_number symbol.Text) x c d) (sym e)
      (subst (λ (x : List ℕ). Piece (symbol_number symbol.Text) (Quoted x) d (word_text c (Quoted x))) (sym (text_again inner q)) (text_piece d inner q (subst IsUtf8 e u)))

-- what is written for a token
pub token_piece : (k : TokenKind) (b : Before) (c : Behind) (d : Before) (bytes : List ℕ) → Linked b c d → Form k bytes → Utf8Form k bytes → NamedBehind b (symbol_number (seen_symbol b k bytes)) bytes
    → PieceFor (symbol_number (seen_symbol b k bytes)) bytes c d
token_piece kind.Word b c d bytes l f u named = word_token b c d l bytes f.0 f.1 named
token_piece kind.Bracketed b c d bytes l f u named = bracket_token b c d l bytes f.0 f.1 f.2 u
token_piece kind.Number b c d bytes l f u named = number_piece d bytes
token_piece kind.Text b c d bytes l f u named = text_token b c d l bytes f.0 f.1 f.2 u
token_piece kind.Sign b c d bytes l f u named = sign_token b c d l bytes named

-- ---- what a token says about the next one

fixed_numbered : (m : ℕ) (bytes : List ℕ) → among fixed_numbers m ≡ true → word_by m bytes ≡ Fixed symbol.Point → m ≡ symbol_number symbol.Point
fixed_numbered m bytes a e =
    let same : symbol_among fixed_symbols m ≡ symbol.Point = let w = fixed_word m bytes a in let f : Fixed (symbol_among fixed_symbols m) ≡ Fixed symbol.Point = sym w ∙ e in cc (f) in
    sym (fixed_number m a) ∙ ap symbol_number same

-- a point where no point of a name stands before it
pub point_number : (k : TokenKind) (bytes : List ℕ) → Form k bytes → word_by (symbol_number (symbol_of k bytes)) bytes ≡ Fixed symbol.Point → symbol_number (symbol_of k bytes) ≡ symbol_number symbol.Point
point_number kind.Word bytes f e = by_cases (found_among keywords bytes symbol.Word)
  where
    by_cases : (symbol_of kind.Word bytes ≡ symbol.Word) ⊎ (among keyword_numbers (symbol_number (symbol_of kind.Word bytes)) ≡ true) → symbol_number (symbol_of kind.Word bytes) ≡ symbol_number symbol.Point
    by_cases (inl h) = absurd (fixed_not_named symbol.Point (name_text bytes) (sym e ∙ ap (λ (s : Symbol). word_by (symbol_number s) bytes) h))
    by_cases (inr a) = fixed_numbered (symbol_number (symbol_of kind.Word bytes)) bytes (keyword_fixed (symbol_number (symbol_of kind.Word bytes)) a) e
point_number kind.Bracketed bytes f e = absurd (fixed_not_named symbol.Point (name_text bytes) (sym e))
point_number kind.Number bytes f e = cc
point_number kind.Text bytes f e = cc
point_number kind.Sign bytes f e = fixed_numbered (symbol_number (symbol_of kind.Sign bytes)) bytes (sign_fixed (symbol_number (symbol_of kind.Sign bytes)) (sign_number bytes)) e

system_name_if : (t : Bool) → is_system (if t then before.SystemName else before.Other) ≡ t
system_name_if true = refl
system_name_if false = refl

-- a name says whether it is System
pub name_system : (k : TokenKind) (b : Before) (bytes name : List ℕ) → Form k bytes → word_by (symbol_number (symbol_of k bytes)) bytes ≡ Named name
    → is_system (before_next b (symbol_of k bytes) bytes) ≡ is_same_word name (codes "System")
name_system kind.Word b bytes name f e = by_cases (found_among keywords bytes symbol.Word)
  where
    by_cases : (symbol_of kind.Word bytes ≡ symbol.Word) ⊎ (among keyword_numbers (symbol_number (symbol_of kind.Word bytes)) ≡ true) → is_system (before_next b (symbol_of kind.Word bytes) bytes) ≡ is_same_word name (codes "System")
    by_cases (inl h) =
        let named : name_text bytes ≡ name = named_same (name_text bytes) name (sym (ap (λ (s : Symbol). word_by (symbol_number s) bytes) h) ∙ e) in
        ap (λ (s : Symbol). is_system (before_next b s bytes)) h ∙ (system_if (is_same_word bytes (codes "System"))).0
        ∙ ap (λ (x : List ℕ). is_same_word x (codes "System")) (sym (word_name bytes f.0) ∙ named)
    by_cases (inr a) =
        absurd (fixed_not_named (symbol_among fixed_symbols (symbol_number (symbol_of kind.Word bytes))) name
        (sym (fixed_word (symbol_number (symbol_of kind.Word bytes)) bytes (keyword_fixed (symbol_number (symbol_of kind.Word bytes)) a)) ∙ e))
name_system kind.Bracketed b bytes name f e =
    let named : f.0 ≡ name = sym (bracketed_name f.0) ∙ ap name_text (sym f.1) ∙ named_same (name_text bytes) name e in
    system_name_if (is_same_word bytes (codes "[System]")) ∙ ap (λ (x : List ℕ). is_same_word x (codes "[System]")) f.1
    ∙ bracketed_same f.0 (codes "System") ∙ ap (λ (x : List ℕ). is_same_word x (codes "System")) named
name_system kind.Number b bytes name f e = cc
name_system kind.Text b bytes name f e = cc
name_system kind.Sign b bytes name f e =
    absurd (fixed_not_named (symbol_among fixed_symbols (symbol_number (symbol_of kind.Sign bytes))) name
    (sym (fixed_word (symbol_number (symbol_of kind.Sign bytes)) bytes (sign_fixed (symbol_number (symbol_of kind.Sign bytes)) (sign_number bytes))) ∙ e))
