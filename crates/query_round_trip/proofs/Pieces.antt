-- A token of a text and the word that is written for it: the word is a token again, which is alike to the first.
use Rattle.std.proofs.Common.{◌≡◌, ◌-◌, ◌<◌, inl, ℕ, List, [], ◌∷◌, ◌++◌, length, take, Bool, true, false, refl, ap, sym, ◌∙◌, subst, arith, length-append}
use Rattle.std.proofs.lemmas.Bool.Decides.{nat_tests}
use Rattle.std.proofs.lemmas.List.{take_at}
use Rattle.std.specs.List.{list_all}
use Rattle.std.specs.Str.{IsUtf8}
use Rattle.std.specs.Prelude.{◌==◌, ◌&&◌, if◌then◌else◌, nat_le, slice_index, codes}
use Rattle.grammar_rules.specs.Lexemes.{among}
use Rattle.query_tokens.specs.declared.lexeme.Before.{Before}
use Rattle.query_tokens.specs.declared.lexeme.Before.TheVariants as before
use Rattle.query_tokens.specs.declared.step.Step.TheVariants.{Token as token_step}
use Rattle.query_tokens.specs.declared.symbol.Symbol.{Symbol}
use Rattle.query_tokens.specs.declared.symbol.Symbol.TheVariants as symbol
use Rattle.query_tokens.specs.declared.token.TokenKind.{TokenKind}
use Rattle.query_tokens.specs.declared.token.TokenKind.TheVariants as kind
use Rattle.query_tokens.specs.Bytes.{max_name, quote, open_bracket, close_bracket, point, is_word_start, is_word_byte, is_digit}
use Rattle.query_tokens.specs.Steps.{step_of}
use Rattle.query_tokens.specs.Symbols.{symbol_number, symbol_of, is_symbol, is_same_word, fixed_text}
use Rattle.query_tokens.specs.Lexemes.{is_word_point, is_name_point, symbol_behind, before_next}
use Rattle.query_tokens.proofs.SymbolLemmas.{is_symbol-same}
use Rattle.query_grammar.specs.Leaves.{name_text, inner_bytes, number_of, text_content, undoubled}
use Rattle.query_print.specs.declared.behind.Behind.{Behind}
use Rattle.query_print.specs.Words.{Word, Fixed, Named, Numbered, Quoted, is_word, is_plain, is_bare, name_text as written_name, number_text, quoted, bracketed}
use Rattle.query_round_trip.proofs.Alike.{word_by, Kept, symbol_among, fixed_symbols}
use Rattle.query_round_trip.proofs.FixedPrints.{at_symbol}
use Rattle.query_round_trip.proofs.WordSteps.{separators, Separated, and_parts, step_of-word}
use Rattle.query_round_trip.proofs.Digits.{and_both}
use Rattle.query_round_trip.proofs.BracketedNames.{Bracketable, step_of-bracketed}
use Rattle.query_round_trip.proofs.QuotedTexts.{step_of-quoted}
use Rattle.query_round_trip.proofs.Numbers.{number_in_range, number_text-token}
use Rattle.query_round_trip.proofs.FixedFacts.{is_ascii, utf8_from_ascii, needs_none, fixed_facts, fixed_number, fixed_numbers}
use Rattle.query_round_trip.proofs.SameWords.{lower, same_lower, lower_same, system_plain, stamp_word, stamp_short, stamp_symbol, bracketed_same}
use Rattle.query_round_trip.proofs.Forms.{QuotedBytes}

-- ---- what must stand behind a word

abbrev pub Follow : Word → List ℕ → Type 0
Follow (Fixed s) rest = needs_none s ≡ false → Separated rest
Follow (Named name) rest = Separated rest
Follow (Numbered number) rest = Separated rest × ((slice_index rest 0 == point) ≡ false)
Follow (Quoted text) rest = Separated rest

-- the last token is the name System
abbrev pub is_system : Before → Bool
is_system before.Other = false
is_system before.System = true
is_system before.SystemName = true
is_system before.Point = false
is_system before.NamePoint = false

-- the symbol of a text that is a token of a kind
abbrev pub seen_symbol : Before → TokenKind → List ℕ → Symbol
seen_symbol d k text = symbol_behind d (symbol_of k text) text

abbrev pub is_word_system : Before → Bool
is_word_system before.Other = false
is_word_system before.System = true
is_word_system before.SystemName = false
is_word_system before.Point = false
is_word_system before.NamePoint = false

-- the last token is the name System, as a word, or it isn't
abbrev pub TellsSystem : Before → Bool → Type 0
TellsSystem d t = (is_system d ≡ t) × (is_word_system d ≡ t)

-- the text is a token that stands for the word, behind tokens
pub record Piece (m : ℕ) (w : Word) (d : Before) (text : List ℕ) : Type 0 where
  pub kind_is : TokenKind
  pub token : (rest : List ℕ) → Follow w rest → step_of (text ++ rest) ≡ token_step kind_is (length text)
  pub some : 0 < length text
  pub kept : Kept m (symbol_number (seen_symbol d kind_is text))
  pub word : word_by (symbol_number (seen_symbol d kind_is text)) text ≡ w
  pub utf8 : IsUtf8 text
  pub system : (name : List ℕ) → w ≡ Named name → TellsSystem (before_next d (seen_symbol d kind_is text) text) (is_same_word name (codes "System"))

pub named_same : (a b : List ℕ) → Named a ≡ Named b → a ≡ b
named_same a b e = cc

-- ---- names

word_utf8 : (name : List ℕ) → is_word name ≡ true → IsUtf8 name
word_utf8 name e = utf8_from_ascii name (word_ascii name e)
  where
    byte_ascii : (b : ℕ) → is_word_byte b ≡ true → is_ascii b ≡ true
    byte_ascii b h = grind (arith, nat_tests)

    bytes_ascii : (bs : List ℕ) → list_all is_word_byte bs ≡ true → list_all is_ascii bs ≡ true
    bytes_ascii [] h = refl
    bytes_ascii (b ∷ bs) h =
        let parts = and_parts (is_word_byte b) (list_all is_word_byte bs) h in
        and_both (is_ascii b) (list_all is_ascii bs) (byte_ascii b parts.0) (bytes_ascii bs parts.1)

    start_ascii : (b : ℕ) → is_word_start b ≡ true → is_ascii b ≡ true
    start_ascii b h = grind (arith, nat_tests)

    word_ascii : (bs : List ℕ) → is_word bs ≡ true → list_all is_ascii bs ≡ true
    word_ascii [] h = refl
    word_ascii (b ∷ bs) h =
        let parts = and_parts (is_word_start b) (list_all is_word_byte bs) h in
        and_both (is_ascii b) (list_all is_ascii bs) (start_ascii b parts.0) (bytes_ascii bs parts.1)

word_some : (name : List ℕ) → is_word name ≡ true → 0 < length name
word_some [] e = absurd (cc (e))
word_some (b ∷ bs) e = omega arith

-- a word is a name without brackets
pub word_name : (name : List ℕ) → is_word name ≡ true → name_text name ≡ name
unfolding name_text
word_name [] e = refl
word_name (b ∷ bs) e =
    let start = (and_parts (is_word_start b) (list_all is_word_byte bs) e).0 in
    let other : (b == open_bracket) ≡ false = grind (arith, nat_tests) in
    ap (λ (t : Bool). if t then inner_bytes (b ∷ bs) else b ∷ bs) other

inner_of : (first : ℕ) (inner : List ℕ) (last : ℕ) → inner_bytes (first ∷ inner ++ last ∷ []) ≡ inner
inner_of first inner last =
    let size : length (first ∷ inner ++ last ∷ []) - 1 - 1 ≡ length inner = omega (arith, length-append inner (last ∷ [])) in
    ap (λ (n : ℕ). take n (inner ++ last ∷ [])) size ∙ take_at inner (last ∷ []) (length inner) refl

pub bracketed_name : (name : List ℕ) → name_text (bracketed name) ≡ name
unfolding name_text
bracketed_name name = inner_of open_bracket name close_bracket

pub plain_parts : (name : List ℕ) → is_plain name ≡ true → (is_word name ≡ true) × (symbol_of kind.Word name ≡ symbol.Word)
unfolding is_plain
plain_parts name e =
    let parts = and_parts (is_word name) (is_symbol (symbol_of kind.Word name) symbol.Word) e in
    (parts.0, is_symbol-same (symbol_of kind.Word name) symbol.Word parts.1)

pub bare_text : (c : Behind) (name : List ℕ) → is_bare c name ≡ true → written_name c name ≡ name
unfolding written_name
bare_text c name e = ap (λ (t : Bool). if t then name else bracketed name) e

pub bracket_text : (c : Behind) (name : List ℕ) → is_bare c name ≡ false → written_name c name ≡ bracketed name
unfolding written_name
bracket_text c name e = ap (λ (t : Bool). if t then name else bracketed name) e

pub system_if : (t : Bool) → TellsSystem (if t then before.System else before.Other) t
system_if true = (refl, refl)
system_if false = (refl, refl)

-- a plain word
pub plain_piece : (m : ℕ) (d : Before) (name : List ℕ) → is_plain name ≡ true → nat_le (length name) max_name ≡ true → Kept m (symbol_number symbol.Word) → Piece m (Named name) d name
plain_piece m d name p short kept =
    let parts = plain_parts name p in
    let s : seen_symbol d kind.Word name ≡ symbol.Word = ap (λ (x : Symbol). symbol_behind d x name) parts.1 in
    record {
      kind_is = kind.Word;
      token = λ rest f. step_of-word name rest parts.0 short f;
      some = word_some name parts.0;
      kept = subst (λ (x : Symbol). Kept m (symbol_number x)) (sym s) kept;
      word = ap (λ (x : Symbol). word_by (symbol_number x) name) s ∙ ap Named (word_name name parts.0);
      utf8 = word_utf8 name parts.0;
      system = λ n e.
          subst (λ (x : Symbol). TellsSystem (before_next d x name) (is_same_word n (codes "System"))) (sym s)
          (subst (λ (x : List ℕ). TellsSystem (if is_same_word name (codes "System") then before.System else before.Other) (is_same_word x (codes "System"))) (named_same name n e)
          (system_if (is_same_word name (codes "System"))));
    }

pub and_false : (a b : Bool) → b ≡ false → (a && b) ≡ false
and_false true b e = e
and_false false b e = refl

system_name_if : (t : Bool) → t ≡ false → TellsSystem (if t then before.SystemName else before.Other) false
system_name_if true e = cc
system_name_if false e = (refl, refl)

not_system : (name : List ℕ) → is_plain name ≡ false → is_same_word name (codes "System") ≡ false
not_system name e = by_cases (is_same_word name (codes "System")) refl
  where
    by_cases : (t : Bool) → is_same_word name (codes "System") ≡ t → t ≡ false
    by_cases true h = let plain = system_plain name h in cc
    by_cases false h = refl

-- a name in brackets
pub bracket_piece : (m : ℕ) (d : Before) (name : List ℕ) → is_plain name ≡ false → Bracketable name → IsUtf8 (bracketed name) → (is_name_point d && is_same_word name (codes "Timestamp")) ≡ false → Kept m (symbol_number symbol.Bracketed)
    → Piece m (Named name) d (bracketed name)
bracket_piece m d name p b u none kept =
    let test : (is_name_point d && is_same_word (bracketed name) (codes "[Timestamp]")) ≡ false =
    ap (λ (t : Bool). is_name_point d && t) (bracketed_same name (codes "Timestamp")) ∙ none in
    let s : seen_symbol d kind.Bracketed (bracketed name) ≡ symbol.Bracketed = ap (λ (t : Bool). if t then symbol.Stamp else symbol.Bracketed) test in
    record {
      kind_is = kind.Bracketed;
      token = λ rest f. step_of-bracketed name rest b;
      some = omega (arith, length-append name (close_bracket ∷ []));
      kept = subst (λ (x : Symbol). Kept m (symbol_number x)) (sym s) kept;
      word = ap (λ (x : Symbol). word_by (symbol_number x) (bracketed name)) s ∙ ap Named (bracketed_name name);
      utf8 = u;
      system = λ n e.
          let no = not_system name p in
          subst (λ (x : Symbol). TellsSystem (before_next d x (bracketed name)) (is_same_word n (codes "System"))) (sym s)
          (subst (λ (t : Bool). TellsSystem (if is_same_word (bracketed name) (codes "[System]") then before.SystemName else before.Other) t)
          (sym no ∙ ap (λ (x : List ℕ). is_same_word x (codes "System")) (named_same name n e))
          (system_name_if (is_same_word (bracketed name) (codes "[System]")) (bracketed_same name (codes "System") ∙ no)));
    }

-- the name Timestamp behind System and a point
pub stamp_piece : (m : ℕ) (name : List ℕ) → is_same_word name (codes "Timestamp") ≡ true → Kept m (symbol_number symbol.Stamp) → Piece m (Named name) before.Point name
unfolding is_same_word
stamp_piece m name e kept =
    let s : seen_symbol before.Point kind.Word name ≡ symbol.Stamp = ap (λ (x : Symbol). symbol_behind before.Point x name) (stamp_symbol name e) in
    record {
      kind_is = kind.Word;
      token = λ rest f. step_of-word name rest (stamp_word name e) (stamp_short name e) f;
      some = word_some name (stamp_word name e);
      kept = subst (λ (x : Symbol). Kept m (symbol_number x)) (sym s) kept;
      word = ap (λ (x : Symbol). word_by (symbol_number x) name) s ∙ ap Named (word_name name (stamp_word name e));
      utf8 = word_utf8 name (stamp_word name e);
      system = λ n f.
          subst (λ (x : Symbol). TellsSystem (before_next before.Point x name) (is_same_word n (codes "System"))) (sym s)
          (subst (λ (t : Bool). TellsSystem before.Other t)
          (sym (lower_same n (codes "Timestamp") (codes "System") (ap lower (sym (named_same name n f)) ∙ same_lower name (codes "Timestamp") e))) (refl, refl));
    }

-- ---- keywords and signs

pub quiet_word : (d : Before) → is_name_point d ≡ false → is_word_point d ≡ false
quiet_word before.Other e = refl
quiet_word before.System e = refl
quiet_word before.SystemName e = refl
quiet_word before.Point e = cc
quiet_word before.NamePoint e = refl

pub quiet_symbol : (d : Before) (s : Symbol) (text : List ℕ) → is_name_point d ≡ false → symbol_behind d s text ≡ s
quiet_symbol d s text q =
    ap (λ (t : Bool). if t then symbol.Stamp else (if is_symbol s symbol.Bracketed && is_name_point d && is_same_word text (codes "[Timestamp]") then symbol.Stamp else s))
    (and_false (is_symbol s symbol.Timestamp) (is_word_point d) (quiet_word d q))
    ∙ ap (λ (t : Bool). if t && is_same_word text (codes "[Timestamp]") then symbol.Stamp else s) (and_false (is_symbol s symbol.Bracketed) (is_name_point d) q)

pub fixed_not_named : (s : Symbol) (name : List ℕ) → Fixed s ≡ Named name → ⊥
fixed_not_named s name e = cc

-- the word of a keyword or a sign
pub fixed_word : (m : ℕ) (bytes : List ℕ) → among fixed_numbers m ≡ true → word_by m bytes ≡ Fixed (symbol_among fixed_symbols m)
fixed_word m bytes a = ap (λ (x : ℕ). word_by x bytes) (sym (fixed_number m a)) ∙ (fixed_facts m a).word bytes

pub fixed_piece : (m : ℕ) (d : Before) → among fixed_numbers m ≡ true → is_name_point d ≡ false → Piece m (Fixed (symbol_among fixed_symbols m)) d (fixed_text (symbol_among fixed_symbols m))
fixed_piece m d a q =
    let f = fixed_facts m a in
    let text : List ℕ = fixed_text (symbol_among fixed_symbols m) in
    let s : seen_symbol d f.kind_is text ≡ symbol_among fixed_symbols m = quiet_symbol d (symbol_of f.kind_is text) text q ∙ f.symbol_is in
    record {
      kind_is = f.kind_is;
      token = λ rest h. f.token rest h;
      some = f.some;
      kept = inl (ap symbol_number s ∙ fixed_number m a);
      word = ap (λ (x : Symbol). word_by (symbol_number x) text) s ∙ f.word text;
      utf8 = f.utf8;
      system = λ n e. absurd (fixed_not_named (symbol_among fixed_symbols m) n e);
    }

-- ---- numbers and texts

no_digit : (rest : List ℕ) → Separated rest → is_digit (slice_index rest 0) ≡ false
no_digit rest h = at_symbol separators (λ r. is_digit r ≡ false) (slice_index rest 0) (refl, (refl, (refl, (refl, (refl, (refl, (refl, tt))))))) h

no_quote : (rest : List ℕ) → Separated rest → (slice_index rest 0 == quote) ≡ false
no_quote rest h = at_symbol separators (λ r. (r == quote) ≡ false) (slice_index rest 0) (refl, (refl, (refl, (refl, (refl, (refl, (refl, tt))))))) h

pub number_piece : (d : Before) (bytes : List ℕ) → Piece (symbol_number symbol.Number) (Numbered (number_of bytes)) d (number_text (number_of bytes))
number_piece d bytes =
    let t = number_text-token (number_of bytes) (number_in_range bytes) in
    record {
      kind_is = kind.Number;
      token = λ rest f. t.token rest (no_digit rest f.0) f.1;
      some = t.some;
      kept = inl refl;
      word = ap Numbered t.value;
      utf8 = utf8_from_ascii (number_text (number_of bytes)) t.ascii;
      system = λ n e. cc;
    }

pub text_again : (inner : List ℕ) → QuotedBytes inner → text_content (quote ∷ inner ++ quote ∷ []) ≡ undoubled false inner
unfolding text_content
text_again inner q = ap (undoubled false) (inner_of quote inner quote)

pub text_piece : (d : Before) (inner : List ℕ) → QuotedBytes inner → IsUtf8 (quote ∷ inner ++ quote ∷ []) → Piece (symbol_number symbol.Text) (Quoted (undoubled false inner)) d (quoted (undoubled false inner))
text_piece d inner q u =
    let same : quoted (undoubled false inner) ≡ quote ∷ inner ++ quote ∷ [] = ap (λ (l : List ℕ). quote ∷ l ++ quote ∷ []) q.requoted in
    subst (λ (text : List ℕ). Piece (symbol_number symbol.Text) (Quoted (undoubled false inner)) d text) (sym same) (record {
      kind_is = kind.Text;
      token = λ rest f. step_of-quoted inner rest q.ends (no_quote rest f);
      some = omega arith;
      kept = inl refl;
      word = ap Quoted (text_again inner q);
      utf8 = u;
      system = λ n e. cc;
    })
