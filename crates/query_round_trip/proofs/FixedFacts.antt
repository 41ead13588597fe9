-- Keywords and signs: the text of each is a token, and that token is the keyword or the sign.
use Rattle.std.proofs.Common.{◌≡◌, ◌⊎◌, inl, inr, ◌<◌, ℕ, zero, suc, List, [], ◌∷◌, ◌++◌, length, drop, map, Bool, true, false, refl, ap, sym, ◌∙◌, subst, arith}
use Rattle.std.proofs.lemmas.Bool.Decides.{nat_tests}
use Rattle.std.proofs.lemmas.Str.{IsUtf8-from_ascii}
use Rattle.std.specs.Str.{IsUtf8}
use Rattle.std.specs.List.{list_all}
use Rattle.std.specs.Prelude.{◌==◌, ◌||◌, if◌then◌else◌, nat_le, slice_index}
use Rattle.query_tokens.specs.declared.step.Step.TheVariants.{Token}
use Rattle.query_tokens.specs.declared.token.TokenKind.{TokenKind}
use Rattle.query_tokens.specs.declared.token.TokenKind.TheVariants as kind
use Rattle.query_tokens.specs.declared.symbol.Symbol.{Symbol}
use Rattle.query_tokens.specs.declared.symbol.Symbol.TheVariants as symbol
use Rattle.query_tokens.specs.Bytes.{max_name, dash, star, is_long_sign}
use Rattle.query_tokens.specs.Steps.{step_of, plain_step, sign_step, line_comment_step, block_comment_step, token_if}
use Rattle.query_tokens.specs.Bytes.{is_short_sign}
use Rattle.query_tokens.specs.Symbols.{symbol_number, symbol_of, fixed_text, fixed_among, is_same_word, is_symbol, keywords, signs}
use Rattle.query_tokens.proofs.SymbolLemmas.{same_number}
use Rattle.query_print.specs.Words.{Fixed, is_word}
use Rattle.grammar_rules.specs.Lexemes.{among}
use Rattle.query_round_trip.proofs.Alike.{word_by, symbol_among, fixed_symbols}
use Rattle.query_round_trip.proofs.FixedPrints.{Each, at_symbol}
use Rattle.query_round_trip.proofs.WordSteps.{separators, Separated, and_parts, step_of-word}

abbrev pub is_ascii : ℕ → Bool
is_ascii b = nat_le b 127

ascii_at : (bs : List ℕ) → list_all is_ascii bs ≡ true → (i : ℕ) → slice_index bs i < 128
ascii_at [] h i = omega arith
ascii_at (b ∷ bs) h zero = let first = (and_parts (is_ascii b) (list_all is_ascii bs) h).0 in grind (arith, nat_tests)
ascii_at (b ∷ bs) h (suc i) = ascii_at bs (and_parts (is_ascii b) (list_all is_ascii bs) h).1 i

pub utf8_from_ascii : (bs : List ℕ) → list_all is_ascii bs ≡ true → IsUtf8 bs
utf8_from_ascii bs h = IsUtf8-from_ascii bs (ascii_at bs h)

-- a parenthesis or a point needs nothing behind it
abbrev pub needs_none : Symbol → Bool
needs_none s = is_symbol s symbol.Open || is_symbol s symbol.Point

pub record FixedFacts (s : Symbol) : Type 0 where
  pub kind_is : TokenKind
  pub token : (rest : List ℕ) → (needs_none s ≡ false → Separated rest) → step_of (fixed_text s ++ rest) ≡ Token kind_is (length (fixed_text s))
  pub symbol_is : symbol_of kind_is (fixed_text s) ≡ s
  pub word : (bytes : List ℕ) → word_by (symbol_number s) bytes ≡ Fixed s
  pub some : 0 < length (fixed_text s)
  pub utf8 : IsUtf8 (fixed_text s)

some_by : (text : List ℕ) → nat_le 1 (length text) ≡ true → 0 < length text
some_by text e = grind (arith, nat_tests)

keyword : (s : Symbol) → is_word (fixed_text s) ≡ true → nat_le (length (fixed_text s)) max_name ≡ true → needs_none s ≡ false → symbol_of kind.Word (fixed_text s) ≡ s
    → ((bytes : List ℕ) → word_by (symbol_number s) bytes ≡ Fixed s) → nat_le 1 (length (fixed_text s)) ≡ true → list_all is_ascii (fixed_text s) ≡ true → FixedFacts s
keyword s w short loose e word some ascii = record {
  kind_is = kind.Word;
  token = λ rest h. step_of-word (fixed_text s) rest w short (h loose);
  symbol_is = e;
  word = word;
  some = some_by (fixed_text s) some;
  utf8 = utf8_from_ascii (fixed_text s) ascii;
}

sign : (s : Symbol) → ((rest : List ℕ) → (needs_none s ≡ false → Separated rest) → step_of (fixed_text s ++ rest) ≡ Token kind.Sign (length (fixed_text s))) → symbol_of kind.Sign (fixed_text s) ≡ s
    → ((bytes : List ℕ) → word_by (symbol_number s) bytes ≡ Fixed s) → nat_le 1 (length (fixed_text s)) ≡ true → list_all is_ascii (fixed_text s) ≡ true → FixedFacts s
sign s token e word some ascii = record {
  kind_is = kind.Sign;
  token = token;
  symbol_is = e;
  word = word;
  some = some_by (fixed_text s) some;
  utf8 = utf8_from_ascii (fixed_text s) ascii;
}

-- ---- signs that could go on

minus_token : (rest : List ℕ) → Separated rest → step_of (45 ∷ rest) ≡ Token kind.Sign 1
unfolding sign_step
minus_token rest h =
    ap (λ (t : Bool). if t then line_comment_step (drop 1 rest) else plain_step 45 rest)
    (at_symbol separators (λ r. (r == dash) ≡ false) (slice_index rest 0) (refl, (refl, (refl, (refl, (refl, (refl, (refl, tt))))))) h)

slash_token : (rest : List ℕ) → Separated rest → step_of (47 ∷ rest) ≡ Token kind.Sign 1
unfolding sign_step
slash_token rest h =
    ap (λ (t : Bool). if t then block_comment_step (drop 1 rest) else plain_step 47 rest)
    (at_symbol separators (λ r. (r == star) ≡ false) (slice_index rest 0) (refl, (refl, (refl, (refl, (refl, (refl, (refl, tt))))))) h)

less_token : (rest : List ℕ) → Separated rest → step_of (60 ∷ rest) ≡ Token kind.Sign 1
unfolding sign_step
less_token rest h =
    ap (λ (t : Bool). if t then Token kind.Sign 2 else token_if (is_short_sign 60) kind.Sign 1)
    (at_symbol separators (λ r. is_long_sign 60 r ≡ false) (slice_index rest 0) (refl, (refl, (refl, (refl, (refl, (refl, (refl, tt))))))) h)

greater_token : (rest : List ℕ) → Separated rest → step_of (62 ∷ rest) ≡ Token kind.Sign 1
unfolding sign_step
greater_token rest h =
    ap (λ (t : Bool). if t then Token kind.Sign 2 else token_if (is_short_sign 62) kind.Sign 1)
    (at_symbol separators (λ r. is_long_sign 62 r ≡ false) (slice_index rest 0) (refl, (refl, (refl, (refl, (refl, (refl, (refl, tt))))))) h)

-- ---- all of them

fact_With : FixedFacts symbol.With
unfolding fixed_among is_same_word
fact_With = keyword symbol.With refl refl refl refl (λ bytes. refl) refl refl

fact_As : FixedFacts symbol.As
unfolding fixed_among is_same_word
fact_As = keyword symbol.As refl refl refl refl (λ bytes. refl) refl refl

fact_Union : FixedFacts symbol.Union
unfolding fixed_among is_same_word
fact_Union = keyword symbol.Union refl refl refl refl (λ bytes. refl) refl refl

fact_Select : FixedFacts symbol.Select
unfolding fixed_among is_same_word
fact_Select = keyword symbol.Select refl refl refl refl (λ bytes. refl) refl refl

fact_Into : FixedFacts symbol.Into
unfolding fixed_among is_same_word
fact_Into = keyword symbol.Into refl refl refl refl (λ bytes. refl) refl refl

fact_From : FixedFacts symbol.From
unfolding fixed_among is_same_word
fact_From = keyword symbol.From refl refl refl refl (λ bytes. refl) refl refl

fact_Where : FixedFacts symbol.Where
unfolding fixed_among is_same_word
fact_Where = keyword symbol.Where refl refl refl refl (λ bytes. refl) refl refl

fact_Group : FixedFacts symbol.Group
unfolding fixed_among is_same_word
fact_Group = keyword symbol.Group refl refl refl refl (λ bytes. refl) refl refl

fact_By : FixedFacts symbol.By
unfolding fixed_among is_same_word
fact_By = keyword symbol.By refl refl refl refl (λ bytes. refl) refl refl

fact_Having : FixedFacts symbol.Having
unfolding fixed_among is_same_word
fact_Having = keyword symbol.Having refl refl refl refl (λ bytes. refl) refl refl

fact_Timestamp : FixedFacts symbol.Timestamp
unfolding fixed_among is_same_word
fact_Timestamp = keyword symbol.Timestamp refl refl refl refl (λ bytes. refl) refl refl

fact_Over : FixedFacts symbol.Over
unfolding fixed_among is_same_word
fact_Over = keyword symbol.Over refl refl refl refl (λ bytes. refl) refl refl

fact_Inner : FixedFacts symbol.Inner
unfolding fixed_among is_same_word
fact_Inner = keyword symbol.Inner refl refl refl refl (λ bytes. refl) refl refl

fact_Left : FixedFacts symbol.Left
unfolding fixed_among is_same_word
fact_Left = keyword symbol.Left refl refl refl refl (λ bytes. refl) refl refl

fact_Outer : FixedFacts symbol.Outer
unfolding fixed_among is_same_word
fact_Outer = keyword symbol.Outer refl refl refl refl (λ bytes. refl) refl refl

fact_Join : FixedFacts symbol.Join
unfolding fixed_among is_same_word
fact_Join = keyword symbol.Join refl refl refl refl (λ bytes. refl) refl refl

fact_On : FixedFacts symbol.On
unfolding fixed_among is_same_word
fact_On = keyword symbol.On refl refl refl refl (λ bytes. refl) refl refl

fact_Partition : FixedFacts symbol.Partition
unfolding fixed_among is_same_word
fact_Partition = keyword symbol.Partition refl refl refl refl (λ bytes. refl) refl refl

fact_Or : FixedFacts symbol.Or
unfolding fixed_among is_same_word
fact_Or = keyword symbol.Or refl refl refl refl (λ bytes. refl) refl refl

fact_And : FixedFacts symbol.And
unfolding fixed_among is_same_word
fact_And = keyword symbol.And refl refl refl refl (λ bytes. refl) refl refl

fact_Not : FixedFacts symbol.Not
unfolding fixed_among is_same_word
fact_Not = keyword symbol.Not refl refl refl refl (λ bytes. refl) refl refl

fact_Between : FixedFacts symbol.Between
unfolding fixed_among is_same_word
fact_Between = keyword symbol.Between refl refl refl refl (λ bytes. refl) refl refl

fact_In : FixedFacts symbol.In
unfolding fixed_among is_same_word
fact_In = keyword symbol.In refl refl refl refl (λ bytes. refl) refl refl

fact_Like : FixedFacts symbol.Like
unfolding fixed_among is_same_word
fact_Like = keyword symbol.Like refl refl refl refl (λ bytes. refl) refl refl

fact_Is : FixedFacts symbol.Is
unfolding fixed_among is_same_word
fact_Is = keyword symbol.Is refl refl refl refl (λ bytes. refl) refl refl

fact_Null : FixedFacts symbol.Null
unfolding fixed_among is_same_word
fact_Null = keyword symbol.Null refl refl refl refl (λ bytes. refl) refl refl

fact_Case : FixedFacts symbol.Case
unfolding fixed_among is_same_word
fact_Case = keyword symbol.Case refl refl refl refl (λ bytes. refl) refl refl

fact_When : FixedFacts symbol.When
unfolding fixed_among is_same_word
fact_When = keyword symbol.When refl refl refl refl (λ bytes. refl) refl refl

fact_Then : FixedFacts symbol.Then
unfolding fixed_among is_same_word
fact_Then = keyword symbol.Then refl refl refl refl (λ bytes. refl) refl refl

fact_Else : FixedFacts symbol.Else
unfolding fixed_among is_same_word
fact_Else = keyword symbol.Else refl refl refl refl (λ bytes. refl) refl refl

fact_End : FixedFacts symbol.End
unfolding fixed_among is_same_word
fact_End = keyword symbol.End refl refl refl refl (λ bytes. refl) refl refl

fact_Cast : FixedFacts symbol.Cast
unfolding fixed_among is_same_word
fact_Cast = keyword symbol.Cast refl refl refl refl (λ bytes. refl) refl refl

fact_TryCast : FixedFacts symbol.TryCast
unfolding fixed_among is_same_word
fact_TryCast = keyword symbol.TryCast refl refl refl refl (λ bytes. refl) refl refl

fact_Distinct : FixedFacts symbol.Distinct
unfolding fixed_among is_same_word
fact_Distinct = keyword symbol.Distinct refl refl refl refl (λ bytes. refl) refl refl

fact_Open : FixedFacts symbol.Open
unfolding fixed_among is_same_word sign_step
fact_Open = sign symbol.Open (λ rest h. refl) refl (λ bytes. refl) refl refl

fact_Close : FixedFacts symbol.Close
unfolding fixed_among is_same_word sign_step
fact_Close = sign symbol.Close (λ rest h. refl) refl (λ bytes. refl) refl refl

fact_Comma : FixedFacts symbol.Comma
unfolding fixed_among is_same_word sign_step
fact_Comma = sign symbol.Comma (λ rest h. refl) refl (λ bytes. refl) refl refl

pub fact_Point : FixedFacts symbol.Point
unfolding fixed_among is_same_word sign_step
fact_Point = sign symbol.Point (λ rest h. refl) refl (λ bytes. refl) refl refl

fact_Semicolon : FixedFacts symbol.Semicolon
unfolding fixed_among is_same_word sign_step
fact_Semicolon = sign symbol.Semicolon (λ rest h. refl) refl (λ bytes. refl) refl refl

fact_Star : FixedFacts symbol.Star
unfolding fixed_among is_same_word sign_step
fact_Star = sign symbol.Star (λ rest h. refl) refl (λ bytes. refl) refl refl

fact_Plus : FixedFacts symbol.Plus
unfolding fixed_among is_same_word sign_step
fact_Plus = sign symbol.Plus (λ rest h. refl) refl (λ bytes. refl) refl refl

fact_Minus : FixedFacts symbol.Minus
unfolding fixed_among is_same_word sign_step
fact_Minus = sign symbol.Minus (λ rest h. minus_token rest (h refl)) refl (λ bytes. refl) refl refl

fact_Slash : FixedFacts symbol.Slash
unfolding fixed_among is_same_word sign_step
fact_Slash = sign symbol.Slash (λ rest h. slash_token rest (h refl)) refl (λ bytes. refl) refl refl

fact_Percent : FixedFacts symbol.Percent
unfolding fixed_among is_same_word sign_step
fact_Percent = sign symbol.Percent (λ rest h. refl) refl (λ bytes. refl) refl refl

fact_Equal : FixedFacts symbol.Equal
unfolding fixed_among is_same_word sign_step
fact_Equal = sign symbol.Equal (λ rest h. refl) refl (λ bytes. refl) refl refl

fact_Less : FixedFacts symbol.Less
unfolding fixed_among is_same_word sign_step
fact_Less = sign symbol.Less (λ rest h. less_token rest (h refl)) refl (λ bytes. refl) refl refl

fact_LessEqual : FixedFacts symbol.LessEqual
unfolding fixed_among is_same_word sign_step
fact_LessEqual = sign symbol.LessEqual (λ rest h. refl) refl (λ bytes. refl) refl refl

fact_Greater : FixedFacts symbol.Greater
unfolding fixed_among is_same_word sign_step
fact_Greater = sign symbol.Greater (λ rest h. greater_token rest (h refl)) refl (λ bytes. refl) refl refl

fact_GreaterEqual : FixedFacts symbol.GreaterEqual
unfolding fixed_among is_same_word sign_step
fact_GreaterEqual = sign symbol.GreaterEqual (λ rest h. refl) refl (λ bytes. refl) refl refl

fact_Unequal : FixedFacts symbol.Unequal
unfolding fixed_among is_same_word sign_step
fact_Unequal = sign symbol.Unequal (λ rest h. refl) refl (λ bytes. refl) refl refl

abbrev pub fixed_numbers : List ℕ
fixed_numbers = map symbol_number fixed_symbols

all_facts : Each fixed_numbers (λ n. FixedFacts (symbol_among fixed_symbols n))
all_facts = (fact_With, (fact_As, (fact_Union, (fact_Select, (fact_Into, (fact_From, (fact_Where, (fact_Group, (fact_By, (fact_Having, (fact_Timestamp, (fact_Over, (fact_Inner, (fact_Left, (fact_Outer, (fact_Join, (fact_On, (fact_Partition, (fact_Or, (fact_And, (fact_Not, (fact_Between, (fact_In, (fact_Like, (fact_Is, (fact_Null, (fact_Case, (fact_When, (fact_Then, (fact_Else, (fact_End, (fact_Cast, (fact_TryCast, (fact_Distinct, (fact_Open, (fact_Close, (fact_Comma, (fact_Point, (fact_Semicolon, (fact_Star, (fact_Plus, (fact_Minus, (fact_Slash, (fact_Percent, (fact_Equal, (fact_Less, (fact_LessEqual, (fact_Greater, (fact_GreaterEqual, (fact_Unequal, tt))))))))))))))))))))))))))))))))))))))))))))))))))

-- what is known of a keyword or a sign
pub fixed_facts : (n : ℕ) → among fixed_numbers n ≡ true → FixedFacts (symbol_among fixed_symbols n)
fixed_facts n a = at_symbol fixed_numbers (λ m. FixedFacts (symbol_among fixed_symbols m)) n all_facts a

all_numbers : Each fixed_numbers (λ n. symbol_number (symbol_among fixed_symbols n) ≡ n)
all_numbers = (refl, (refl, (refl, (refl, (refl, (refl, (refl, (refl, (refl, (refl, (refl, (refl, (refl, (refl, (refl, (refl, (refl, (refl, (refl, (refl, (refl, (refl, (refl, (refl, (refl, (refl, (refl, (refl, (refl, (refl, (refl, (refl, (refl, (refl, (refl, (refl, (refl, (refl, (refl, (refl, (refl, (refl, (refl, (refl, (refl, (refl, (refl, (refl, (refl, (refl, tt))))))))))))))))))))))))))))))))))))))))))))))))))

pub fixed_number : (n : ℕ) → among fixed_numbers n ≡ true → symbol_number (symbol_among fixed_symbols n) ≡ n
fixed_number n a = at_symbol fixed_numbers (λ m. symbol_number (symbol_among fixed_symbols m) ≡ m) n all_numbers a

-- ---- the symbols of words and signs

or_true : (a b : Bool) → b ≡ true → (a || b) ≡ true
or_true true b e = refl
or_true false b e = e

-- a keyword or sign that was found is among those that were looked for
pub found_among : (symbols : List Symbol) (text : List ℕ) (other : Symbol)
    → (fixed_among symbols text other ≡ other) ⊎ (among (map symbol_number symbols) (symbol_number (fixed_among symbols text other)) ≡ true)
unfolding fixed_among
found_among [] text other = inl refl
found_among (s ∷ symbols) text other = by_cases (is_same_word (fixed_text s) text) (found_among symbols text other)
  where
    by_cases : (t : Bool) → (fixed_among symbols text other ≡ other) ⊎ (among (map symbol_number symbols) (symbol_number (fixed_among symbols text other)) ≡ true)
        → ((if t then s else fixed_among symbols text other) ≡ other) ⊎ (among (symbol_number s ∷ map symbol_number symbols) (symbol_number (if t then s else fixed_among symbols text other)) ≡ true)
    by_cases true h = inr (ap (λ (x : Bool). x || among (map symbol_number symbols) (symbol_number s)) (same_number (symbol_number s) (symbol_number s) refl))
    by_cases false (inl e) = inl e
    by_cases false (inr a) = inr (or_true (symbol_number s == symbol_number (fixed_among symbols text other)) (among (map symbol_number symbols) (symbol_number (fixed_among symbols text other))) a)

-- its text is equal to the text without case
pub found_text : (symbols : List Symbol) (text : List ℕ) (other s : Symbol) → fixed_among symbols text other ≡ s → (other ≡ s → ⊥) → is_same_word (fixed_text s) text ≡ true
unfolding fixed_among
found_text [] text other s e k = absurd (k e)
found_text (x ∷ symbols) text other s e k = by_cases (is_same_word (fixed_text x) text) refl e (λ h. found_text symbols text other s h k)
  where
    by_cases : (t : Bool) → is_same_word (fixed_text x) text ≡ t → (if t then x else fixed_among symbols text other) ≡ s → (fixed_among symbols text other ≡ s → is_same_word (fixed_text s) text ≡ true)
        → is_same_word (fixed_text s) text ≡ true
    by_cases true t e more = ap (λ (y : Symbol). is_same_word (fixed_text y) text) (sym e) ∙ t
    by_cases false t e more = more e

abbrev pub keyword_numbers : List ℕ
keyword_numbers = map symbol_number keywords

abbrev pub sign_numbers : List ℕ
sign_numbers = map symbol_number (signs ++ symbol.Unequal ∷ [])

among_front : (xs ys : List ℕ) (n : ℕ) → among xs n ≡ true → among (xs ++ ys) n ≡ true
among_front [] ys n a = absurd (cc (a))
among_front (x ∷ xs) ys n a = by_cases (x == n) a (λ h. among_front xs ys n h)
  where
    by_cases : (t : Bool) → (t || among xs n) ≡ true → (among xs n ≡ true → among (xs ++ ys) n ≡ true) → (t || among (xs ++ ys) n) ≡ true
    by_cases true e h = refl
    by_cases false e h = h e

among_behind : (xs ys : List ℕ) (n : ℕ) → among ys n ≡ true → among (xs ++ ys) n ≡ true
among_behind [] ys n a = a
among_behind (x ∷ xs) ys n a = or_true (x == n) (among (xs ++ ys) n) (among_behind xs ys n a)

pub keyword_fixed : (n : ℕ) → among keyword_numbers n ≡ true → among fixed_numbers n ≡ true
keyword_fixed n a = among_front keyword_numbers sign_numbers n a

pub sign_fixed : (n : ℕ) → among sign_numbers n ≡ true → among fixed_numbers n ≡ true
sign_fixed n a = among_behind keyword_numbers sign_numbers n a

-- the number of a sign
pub sign_number : (text : List ℕ) → among sign_numbers (symbol_number (symbol_of kind.Sign text)) ≡ true
sign_number text = by_cases (found_among signs text symbol.Unequal)
  where
    by_cases : (fixed_among signs text symbol.Unequal ≡ symbol.Unequal) ⊎ (among (map symbol_number signs) (symbol_number (fixed_among signs text symbol.Unequal)) ≡ true)
        → among sign_numbers (symbol_number (fixed_among signs text symbol.Unequal)) ≡ true
    by_cases (inl e) = subst (λ (s : Symbol). among sign_numbers (symbol_number s) ≡ true) (sym e) refl
    by_cases (inr a) = among_front (map symbol_number signs) (symbol_number symbol.Unequal ∷ []) (symbol_number (fixed_among signs text symbol.Unequal)) a
