-- What a text begins with where it begins with a word.
use Rattle.std.proofs.Common.{◌≡◌, ◌+◌, ℕ, List, [], ◌∷◌, ◌++◌, length, drop, Bool, true, false, refl, ap, ◌∙◌, arith}
use Rattle.std.proofs.lemmas.Bool.Decides.{nat_tests}
use Rattle.std.specs.Prelude.{◌==◌, ◌&&◌, ◌||◌, if◌then◌else◌, nat_le, slice_index}
use Rattle.std.specs.List.{prefix_len, list_all}
use Rattle.query_tokens.specs.declared.step.Step.TheVariants.{Skip, Token}
use Rattle.query_tokens.specs.declared.token.TokenKind.TheVariants as kind
use Rattle.query_tokens.specs.Bytes.{max_name, dash, slash, star, quote, open_bracket, is_blank, is_digit, is_word_start, is_word_byte}
use Rattle.query_tokens.specs.Steps.{step_of, plain_step, word_step, token_if, line_comment_step, block_comment_step, number_step, text_step, bracketed_step, sign_step}
use Rattle.grammar_rules.specs.Lexemes.{among}
use Rattle.query_print.specs.Words.{is_word}
use Rattle.query_round_trip.proofs.FixedPrints.{at_symbol}

-- ---- what stands behind a word

-- nothing, a space or one of `( ) , . ;`
abbrev pub separators : List ℕ
separators = 0 ∷ 32 ∷ 40 ∷ 41 ∷ 44 ∷ 46 ∷ 59 ∷ []

abbrev pub Separated : List ℕ → Type 0
Separated rest = among separators (slice_index rest 0) ≡ true

pub and_parts : (a b : Bool) → (a && b) ≡ true → (a ≡ true) × (b ≡ true)
and_parts true b e = (refl, e)
and_parts false b e = (cc, cc)

-- ---- words

stops_there : (rest : List ℕ) → is_word_byte (slice_index rest 0) ≡ false → prefix_len is_word_byte rest ≡ 0
stops_there [] e = refl
stops_there (r ∷ rest) e = ap (λ (b : Bool). if b then 1 + prefix_len is_word_byte rest else 0) e

no_word_byte : (rest : List ℕ) → Separated rest → is_word_byte (slice_index rest 0) ≡ false
no_word_byte rest h = at_symbol separators (λ r. is_word_byte r ≡ false) (slice_index rest 0) (refl, (refl, (refl, (refl, (refl, (refl, (refl, tt))))))) h

word_goes : (word rest : List ℕ) → list_all is_word_byte word ≡ true → Separated rest → prefix_len is_word_byte (word ++ rest) ≡ length word
word_goes [] rest all h = stops_there rest (no_word_byte rest h)
word_goes (b ∷ word) rest all h =
    let parts = and_parts (is_word_byte b) (list_all is_word_byte word) all in
    ap (λ (t : Bool). if t then 1 + prefix_len is_word_byte (word ++ rest) else 0) parts.0
    ∙ ap (λ (n : ℕ). 1 + n) (word_goes word rest parts.1 h) ∙ omega arith

start_is_byte : (b : ℕ) → is_word_start b ≡ true → is_word_byte b ≡ true
start_is_byte b e = ap (λ (t : Bool). t || is_digit b) e

-- a byte that begins a word is no blank and begins no comment
start_is_plain : (b : ℕ) → is_word_start b ≡ true → ((b == dash) ≡ false) × ((b == slash) ≡ false) × (is_blank b ≡ false)
start_is_plain b e = (grind (arith, nat_tests), grind (arith, nat_tests), grind (arith, nat_tests))

-- a first byte that begins no comment
pub plain_of : (b : ℕ) (rest : List ℕ) → (b == dash) ≡ false → (b == slash) ≡ false → step_of (b ∷ rest) ≡ plain_step b rest
plain_of b rest d s =
    ap (λ (t : Bool). if t && slice_index rest 0 == dash then line_comment_step (drop 1 rest)
    else (if b == slash && slice_index rest 0 == star then block_comment_step (drop 1 rest) else plain_step b rest)) d
    ∙ ap (λ (t : Bool). if t && slice_index rest 0 == star then block_comment_step (drop 1 rest) else plain_step b rest) s

begins_word : (b : ℕ) (rest : List ℕ) → is_blank b ≡ false → is_word_start b ≡ true → plain_step b rest ≡ word_step (b ∷ rest)
begins_word b rest blank start =
    ap (λ (t : Bool). if t then Skip 1 else (if is_word_start b then word_step (b ∷ rest) else (if is_digit b then number_step (b ∷ rest)
    else (if b == quote then text_step rest else (if b == open_bracket then bracketed_step rest else sign_step b rest))))) blank
    ∙ ap (λ (t : Bool). if t then word_step (b ∷ rest) else (if is_digit b then number_step (b ∷ rest)
    else (if b == quote then text_step rest else (if b == open_bracket then bracketed_step rest else sign_step b rest)))) start

word_steps : (word rest : List ℕ) → list_all is_word_byte word ≡ true → Separated rest → nat_le (length word) max_name ≡ true → word_step (word ++ rest) ≡ Token kind.Word (length word)
unfolding word_step
word_steps word rest all h short =
    ap (λ (size : ℕ). token_if (nat_le size max_name) kind.Word size) (word_goes word rest all h)
    ∙ ap (λ (t : Bool). token_if t kind.Word (length word)) short

-- a word with what ends words behind it
pub step_of-word : (word rest : List ℕ) → is_word word ≡ true → nat_le (length word) max_name ≡ true → Separated rest → step_of (word ++ rest) ≡ Token kind.Word (length word)
step_of-word [] rest w short h = cc (w)
step_of-word (b ∷ word) rest w short h =
    let parts = and_parts (is_word_start b) (list_all is_word_byte word) w in
    let plain = start_is_plain b parts.0 in
    let all : list_all is_word_byte (b ∷ word) ≡ true =
    ap (λ (t : Bool). t && list_all is_word_byte word) (start_is_byte b parts.0) ∙ parts.1 in
    plain_of b (word ++ rest) plain.0 plain.1 ∙ begins_word b (word ++ rest) plain.2 parts.0 ∙ word_steps (b ∷ word) rest all h short
