-- The tokens of a text: what the bytes of each are by its form.
use Rattle.std.proofs.Common.{◌≡◌, ◌⊎◌, ◌+◌, ◌-◌, inl, inr, ℕ, zero, suc, List, [], ◌∷◌, ◌++◌, length, drop, take, Bool, true, false, refl, ap, sym, ◌∙◌, subst, arith, append_assoc, length-append}
use Rattle.std.proofs.lemmas.Bool.Decides.{nat_tests}
use Rattle.std.proofs.lemmas.List.{take_at, drop_at}
use Rattle.std.proofs.lemmas.List.Folds.{length-prefix_len}
use Rattle.std.specs.List.{prefix_len, list_all, take_while, flat_map}
use Rattle.std.specs.Prelude.{◌==◌, ◌&&◌, if◌then◌else◌, nat_le, slice_index, slice_range, Option, Some, None, Result, Ok, Err}
use Rattle.query_tokens.specs.declared.step.Step.{Step}
use Rattle.query_tokens.specs.declared.step.Step.TheVariants.{Skip, Token as token_step, Stuck}
use Rattle.query_tokens.specs.declared.parse_err.ParseErr.{ParseErr}
use Rattle.query_tokens.specs.declared.token.Token.{Token}
use Rattle.query_tokens.specs.declared.token.TokenKind.{TokenKind}
use Rattle.query_tokens.specs.declared.token.TokenKind.TheVariants as kind
use Rattle.query_tokens.specs.Bytes.{max_name, max_number, dash, slash, star, quote, open_bracket, close_bracket, is_blank, is_digit, is_word_start, is_word_byte, is_long_sign, is_short_sign}
use Rattle.query_tokens.specs.Steps.{step_of, plain_step, word_step, number_step, number_by, text_step, text_by, bracketed_step, bracketed_by, sign_step, token_if, line_comment_step, block_comment_step, comment_by, comment_end_from, name_end_from, end_quote_from, value_from, is_decimal, decimals_of}
use Rattle.query_tokens.specs.Tokens.{tokens_from, tokens_by, prepended}
use Rattle.query_tokens.specs.Lexemes.{bytes_of}
use Rattle.query_tokens.proofs.SymbolLemmas.{equal_numbers}
use Rattle.query_grammar.specs.Leaves.{undoubled}
use Rattle.query_print.specs.Words.{is_word, bracketed, doubled}
use Rattle.query_round_trip.proofs.WordSteps.{and_parts}
use Rattle.query_round_trip.proofs.Digits.{and_both}
use Rattle.query_round_trip.proofs.BracketedNames.{Bracketable, name_part, at_length}
use Rattle.query_round_trip.proofs.QuotedTexts.{EndsAtQuote, quote_part}

-- bytes between quotes, in which each quote stands twice
pub record QuotedBytes (inner : List ℕ) : Type 0 where
  pub ends : EndsAtQuote false inner
  pub requoted : flat_map doubled (undoubled false inner) ≡ inner

-- what the bytes of a token are
abbrev pub Form : TokenKind → List ℕ → Type 0
Form kind.Word bytes = (is_word bytes ≡ true) × (nat_le (length bytes) max_name ≡ true)
Form kind.Bracketed bytes = (name : List ℕ) × (bytes ≡ bracketed name) × Bracketable name
Form kind.Number bytes = Unit {0}
Form kind.Text bytes = (inner : List ℕ) × (bytes ≡ quote ∷ inner ++ quote ∷ []) × QuotedBytes inner
Form kind.Sign bytes = Unit {0}

-- ---- tests

if_cases : {A : Type 0} (t : Bool) (x y z : A) → (if t then x else y) ≡ z → ((t ≡ true) × (x ≡ z)) ⊎ ((t ≡ false) × (y ≡ z))
if_cases true x y z e = inl (refl, e)
if_cases false x y z e = inr (refl, e)

pub record TokenIf (t : Bool) (a k : TokenKind) (size n : ℕ) : Type 0 where
  pub allowed : t ≡ true
  pub kind_is : a ≡ k
  pub size_is : size ≡ n

token_cases : (t : Bool) (a k : TokenKind) (size n : ℕ) → token_if t a size ≡ token_step k n → TokenIf t a k size n
token_cases true a k size n e = record { allowed = refl; kind_is = cc; size_is = cc }
token_cases false a k size n e = absurd (cc)

form_at : (a k : TokenKind) (size n : ℕ) (text : List ℕ) → a ≡ k → size ≡ n → Form a (take size text) → Form k (take n text)
form_at a k size n text e f h = subst (λ (x : TokenKind). Form x (take n text)) e (subst (λ (m : ℕ). Form a (take m text)) f h)

-- ---- words

prefix_taken : (p : ℕ → Bool) (xs : List ℕ) → list_all p (take (prefix_len p xs) xs) ≡ true
prefix_taken p [] = refl
prefix_taken p (x ∷ xs) = by_cases (p x) refl (prefix_taken p xs)
  where
    by_cases : (t : Bool) → p x ≡ t → list_all p (take (prefix_len p xs) xs) ≡ true → list_all p (take (if t then 1 + prefix_len p xs else 0) (x ∷ xs)) ≡ true
    by_cases true e h =
        let next : 1 + prefix_len p xs ≡ suc (prefix_len p xs) = omega arith in
        ap (λ (n : ℕ). list_all p (take n (x ∷ xs))) next ∙ and_both (p x) (list_all p (take (prefix_len p xs) xs)) e h
    by_cases false e h = refl

word_taken : (b : ℕ) (bs : List ℕ) → is_word_start b ≡ true → is_word (take (prefix_len is_word_byte (b ∷ bs)) (b ∷ bs)) ≡ true
word_taken b bs e =
    let byte : is_word_byte b ≡ true = grind (arith, nat_tests) in
    let size : prefix_len is_word_byte (b ∷ bs) ≡ suc (prefix_len is_word_byte bs) =
    ap (λ (t : Bool). if t then 1 + prefix_len is_word_byte bs else 0) byte ∙ omega arith in
    ap (λ (n : ℕ). is_word (take n (b ∷ bs))) size ∙ and_both (is_word_start b) (list_all is_word_byte (take (prefix_len is_word_byte bs) bs)) e (prefix_taken is_word_byte bs)

word_form : (b : ℕ) (bs : List ℕ) (k : TokenKind) (n : ℕ) → is_word_start b ≡ true → word_step (b ∷ bs) ≡ token_step k n → Form k (take n (b ∷ bs))
unfolding word_step
word_form b bs k n start e =
    let size : ℕ = prefix_len is_word_byte (b ∷ bs) in
    let c = token_cases (nat_le size max_name) kind.Word k size n e in
    form_at kind.Word k size n (b ∷ bs) c.kind_is c.size_is
    (word_taken b bs start, ap (λ (m : ℕ). nat_le m max_name) (length-prefix_len is_word_byte (b ∷ bs)) ∙ c.allowed)

-- ---- numbers and signs

number_by-form : (whole decimals text : List ℕ) (k : TokenKind) (n : ℕ) → number_by whole decimals ≡ token_step k n → Form k (take n text)
number_by-form whole [] text k n e =
    let c = token_cases (nat_le (value_from 0 whole) max_number) kind.Number k (length whole) n e in
    form_at kind.Number k (length whole) n text c.kind_is c.size_is tt
number_by-form whole (d ∷ ds) text k n e =
    let c = token_cases (is_decimal whole (d ∷ ds)) kind.Number k (length whole + 1 + length (d ∷ ds)) n e in
    form_at kind.Number k (length whole + 1 + length (d ∷ ds)) n text c.kind_is c.size_is tt

number_form : (text : List ℕ) (k : TokenKind) (n : ℕ) → number_step text ≡ token_step k n → Form k (take n text)
unfolding number_step
number_form text k n e = number_by-form (take_while is_digit text) (decimals_of (drop (length (take_while is_digit text)) text)) text k n e

sign_form : (b : ℕ) (rest : List ℕ) (k : TokenKind) (n : ℕ) → sign_step b rest ≡ token_step k n → Form k (take n (b ∷ rest))
unfolding sign_step
sign_form b rest k n e = by_cases (if_cases (is_long_sign b (slice_index rest 0)) (token_step kind.Sign 2) (token_if (is_short_sign b) kind.Sign 1) (token_step k n) e)
  where
    by_cases : ((is_long_sign b (slice_index rest 0) ≡ true) × (token_step kind.Sign 2 ≡ token_step k n)) ⊎ ((is_long_sign b (slice_index rest 0) ≡ false) × (token_if (is_short_sign b) kind.Sign 1 ≡ token_step k n))
        → Form k (take n (b ∷ rest))
    by_cases (inl (t, h)) = let c = token_cases true kind.Sign k 2 n h in form_at kind.Sign k 2 n (b ∷ rest) c.kind_is c.size_is tt
    by_cases (inr (t, h)) = let c = token_cases (is_short_sign b) kind.Sign k 1 n h in form_at kind.Sign k 1 n (b ∷ rest) c.kind_is c.size_is tt

-- ---- names in brackets

begins_so : (a : ℕ) (rest : List ℕ) → (slice_index rest 0 == a) ≡ true → (a == 0) ≡ false → (more : List ℕ) × (rest ≡ a ∷ more)
begins_so a [] e z = let zero_is : 0 ≡ a = equal_numbers 0 a e in absurd (grind (arith, nat_tests))
begins_so a (r ∷ rest) e z = (rest, ap (λ (x : ℕ). x ∷ rest) (equal_numbers r a e))

bracketed_taken : (name rest more : List ℕ) → rest ≡ name ++ close_bracket ∷ more → take (length name + 2) (open_bracket ∷ rest) ≡ bracketed name
bracketed_taken name rest more e =
    let size : length (bracketed name) ≡ length name + 2 = omega (arith, length-append name (close_bracket ∷ [])) in
    ap (λ (l : List ℕ). take (length name + 2) (open_bracket ∷ l)) (e ∙ sym (append_assoc name (close_bracket ∷ []) more))
    ∙ take_at (bracketed name) more (length name + 2) size

bracketed_form : (rest : List ℕ) (k : TokenKind) (n : ℕ) → bracketed_step rest ≡ token_step k n → Form k (take n (open_bracket ∷ rest))
unfolding bracketed_step
bracketed_form rest k n e =
    let p = name_part 0 rest in
    let name : List ℕ = p.name in
    let size : name_end_from 0 rest ≡ length name = p.size ∙ omega arith in
    let by : bracketed_by (length name) rest ≡ token_step k n = ap (λ (m : ℕ). bracketed_by m rest) (sym size) ∙ e in
    let c = token_cases (nat_le 1 (length name) && nat_le (length name) max_name && slice_index rest (length name) == close_bracket) kind.Bracketed k (length name + 2) n by in
    let tests = and_parts (nat_le 1 (length name) && nat_le (length name) max_name) (slice_index rest (length name) == close_bracket) c.allowed in
    let lengths = and_parts (nat_le 1 (length name)) (nat_le (length name) max_name) tests.0 in
    let close : (slice_index p.rest 0 == close_bracket) ≡ true =
    ap (λ (x : ℕ). x == close_bracket) (sym (at_length name p.rest) ∙ ap (λ (l : List ℕ). slice_index l (length name)) (sym p.all)) ∙ tests.1 in
    let more = begins_so close_bracket p.rest close refl in
    form_at kind.Bracketed k (length name + 2) n (open_bracket ∷ rest) c.kind_is c.size_is (
      name,
      bracketed_taken name rest more.0 (p.all ∙ ap (λ (l : List ℕ). name ++ l) more.1),
      record { ends = p.ends (equal_numbers (slice_index p.rest 0) close_bracket close); some = lengths.0; short = lengths.1 },
    )

-- ---- texts

quoted_taken : (inner rest more : List ℕ) → rest ≡ inner ++ quote ∷ more → take (length inner + 2) (quote ∷ rest) ≡ quote ∷ inner ++ quote ∷ []
quoted_taken inner rest more e =
    let size : length (quote ∷ inner ++ quote ∷ []) ≡ length inner + 2 = omega (arith, length-append inner (quote ∷ [])) in
    ap (λ (l : List ℕ). take (length inner + 2) (quote ∷ l)) (e ∙ sym (append_assoc inner (quote ∷ []) more))
    ∙ take_at (quote ∷ inner ++ quote ∷ []) more (length inner + 2) size

text_by-form : (rest : List ℕ) (k : TokenKind) (n : ℕ) (end : Option ℕ) → end_quote_from false 0 rest ≡ end → text_by end ≡ token_step k n → Form k (take n (quote ∷ rest))
text_by-form rest k n None e h = absurd (cc)
text_by-form rest k n (Some size) e h =
    let p = quote_part false 0 rest size e in
    let kind_is : kind.Text ≡ k = cc in
    let size_is : length p.inner + 2 ≡ n = let s : size + 2 ≡ n = cc in let i = p.size_is in omega arith in
    form_at kind.Text k (length p.inner + 2) n (quote ∷ rest) kind_is size_is
    (p.inner, quoted_taken p.inner rest p.rest p.all, record { ends = p.ends; requoted = p.requoted })

text_form : (rest : List ℕ) (k : TokenKind) (n : ℕ) → text_step rest ≡ token_step k n → Form k (take n (quote ∷ rest))
unfolding text_step
text_form rest k n e = text_by-form rest k n (end_quote_from false 0 rest) refl e

-- ---- any token

line_no_token : (rest : List ℕ) (k : TokenKind) (n : ℕ) → line_comment_step rest ≡ token_step k n → ⊥
unfolding line_comment_step
line_no_token rest k n e = cc

block_by-no_token : (end : Option ℕ) (k : TokenKind) (n : ℕ) → comment_by end ≡ token_step k n → ⊥
block_by-no_token None k n e = cc
block_by-no_token (Some size) k n e = cc

block_no_token : (rest : List ℕ) (k : TokenKind) (n : ℕ) → block_comment_step rest ≡ token_step k n → ⊥
unfolding block_comment_step
block_no_token rest k n e = block_by-no_token (comment_end_from 0 rest) k n e

module _ (b : ℕ) (rest : List ℕ) (k : TokenKind) (n : ℕ) where
  bracket_case : (t : Bool) → (b == open_bracket) ≡ t → (if t then bracketed_step rest else sign_step b rest) ≡ token_step k n → Form k (take n (b ∷ rest))
  bracket_case true e h = subst (λ (x : ℕ). Form k (take n (x ∷ rest))) (sym (equal_numbers b open_bracket e)) (bracketed_form rest k n h)
  bracket_case false e h = sign_form b rest k n h

  quote_case : (t : Bool) → (b == quote) ≡ t → (if t then text_step rest else (if b == open_bracket then bracketed_step rest else sign_step b rest)) ≡ token_step k n → Form k (take n (b ∷ rest))
  quote_case true e h = subst (λ (x : ℕ). Form k (take n (x ∷ rest))) (sym (equal_numbers b quote e)) (text_form rest k n h)
  quote_case false e h = bracket_case (b == open_bracket) refl h

  digit_case : (t : Bool) → is_digit b ≡ t
      → (if t then number_step (b ∷ rest) else (if b == quote then text_step rest else (if b == open_bracket then bracketed_step rest else sign_step b rest))) ≡ token_step k n → Form k (take n (b ∷ rest))
  digit_case true e h = number_form (b ∷ rest) k n h
  digit_case false e h = quote_case (b == quote) refl h

  start_case : (t : Bool) → is_word_start b ≡ t
      → (if t then word_step (b ∷ rest) else (if is_digit b then number_step (b ∷ rest) else (if b == quote then text_step rest else (if b == open_bracket then bracketed_step rest else sign_step b rest)))) ≡ token_step k n
      → Form k (take n (b ∷ rest))
  start_case true e h = word_form b rest k n e h
  start_case false e h = digit_case (is_digit b) refl h

  blank_case : (t : Bool) → is_blank b ≡ t
      → (if t then Skip 1 else (if is_word_start b then word_step (b ∷ rest) else (if is_digit b then number_step (b ∷ rest) else (if b == quote then text_step rest else (if b == open_bracket then bracketed_step rest else sign_step b rest)))))
      ≡ token_step k n
      → Form k (take n (b ∷ rest))
  blank_case true e h = absurd (cc)
  blank_case false e h = start_case (is_word_start b) refl h

  slash_case : (t : Bool) → (if t then block_comment_step (drop 1 rest) else plain_step b rest) ≡ token_step k n → Form k (take n (b ∷ rest))
  slash_case true h = absurd (block_no_token (drop 1 rest) k n h)
  slash_case false h = blank_case (is_blank b) refl h

  dash_case : (t : Bool) → (if t then line_comment_step (drop 1 rest) else (if b == slash && slice_index rest 0 == star then block_comment_step (drop 1 rest) else plain_step b rest)) ≡ token_step k n
      → Form k (take n (b ∷ rest))
  dash_case true h = absurd (line_no_token (drop 1 rest) k n h)
  dash_case false h = slash_case (b == slash && slice_index rest 0 == star) h

  -- a token that a text begins with
  pub step_form : step_of (b ∷ rest) ≡ token_step k n → Form k (take n (b ∷ rest))
  step_form h = dash_case (b == dash && slice_index rest 0 == dash) h

-- ---- the tokens of a text

abbrev pub AllFormed : List ℕ → List Token → Type 0
AllFormed text [] = Unit {0}
AllFormed text (t ∷ ts) = Form t.kind (bytes_of text t) × AllFormed text ts

ok_tokens : (front tokens : List Token) (read : Result (List Token) ParseErr) → prepended front read ≡ Ok tokens → (more : List Token) × (read ≡ Ok more) × (tokens ≡ front ++ more)
ok_tokens front tokens (Ok more) e = (more, refl, cc)
ok_tokens front tokens (Err error) e = absurd (cc)

taken_at : (pre text : List ℕ) (place size : ℕ) → length pre ≡ place → slice_range (pre ++ text) place (place + size) ≡ take size text
taken_at pre text place size e =
    let same : place + size - place ≡ size = omega arith in
    ap (λ (n : ℕ). take n (drop place (pre ++ text))) same ∙ ap (take size) (drop_at pre text place e)

next_place : (pre : List ℕ) (b place : ℕ) → length pre ≡ place → length (pre ++ b ∷ []) ≡ place + 1
next_place pre b place e = omega (arith, length-append pre (b ∷ []))

by_step : (s : Step) (pre bs : List ℕ) (b place : ℕ) (tokens : List Token) → step_of (b ∷ bs) ≡ s → length pre ≡ place
    → ((passed : ℕ) (more : List Token) → tokens_from passed (place + 1) bs ≡ Ok more → AllFormed (pre ++ b ∷ bs) more)
    → tokens_by s place (λ more. tokens_from more (place + 1) bs) ≡ Ok tokens → AllFormed (pre ++ b ∷ bs) tokens
by_step (Skip size) pre bs b place tokens s l rest e = rest (size - 1) tokens e
by_step (token_step k size) pre bs b place tokens s l rest e =
    let o = ok_tokens (record { kind = k; start = place; end = place + size } ∷ []) tokens (tokens_from (size - 1) (place + 1) bs) e in
    subst (λ (ts : List Token). AllFormed (pre ++ b ∷ bs) ts) (sym o.2)
    (subst (λ (x : List ℕ). Form k x) (sym (taken_at pre (b ∷ bs) place size l)) (step_form b bs k size s), rest (size - 1) o.0 o.1)
by_step Stuck pre bs b place tokens s l rest e = absurd (cc)

formed_from : (passed : ℕ) (pre text : List ℕ) (place : ℕ) (tokens : List Token) → length pre ≡ place → tokens_from passed place text ≡ Ok tokens → AllFormed (pre ++ text) tokens
unfolding tokens_from
formed_from passed pre [] place tokens l e = let none : tokens ≡ [] = cc in subst (λ (ts : List Token). AllFormed (pre ++ []) ts) (sym none) tt
formed_from (suc passed) pre (b ∷ bs) place tokens l e =
    subst (λ (text : List ℕ). AllFormed text tokens) (append_assoc pre (b ∷ []) bs) (formed_from passed (pre ++ b ∷ []) bs (place + 1) tokens (next_place pre b place l) e)
formed_from zero pre (b ∷ bs) place tokens l e =
    by_step (step_of (b ∷ bs)) pre bs b place tokens refl l
    (λ passed more h. subst (λ (text : List ℕ). AllFormed text more) (append_assoc pre (b ∷ []) bs) (formed_from passed (pre ++ b ∷ []) bs (place + 1) more (next_place pre b place l) h)) e

-- each token of a text has its form
pub tokens_formed : (text : List ℕ) (tokens : List Token) → tokens_from 0 0 text ≡ Ok tokens → AllFormed text tokens
tokens_formed text tokens e = formed_from 0 [] text 0 tokens refl e
