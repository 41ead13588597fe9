-- Numbers: the text that a number of a query is written with is a token, and stands for that number.
use Rattle.std.proofs.Common.{◌≡◌, ◌⊎◌, ◌+◌, ◌/◌, ◌%◌, ◌≤◌, ◌<◌, inl, inr, ℕ, List, [], ◌∷◌, ◌++◌, length, drop, take, Bool, true, false, refl, ap, sym, ◌∙◌, subst, arith, append_assoc, length-append}
use Rattle.std.proofs.lemmas.Bool.Decides.{nat_tests, Decides-int_eq}
use Rattle.std.proofs.lemmas.List.{take_at, drop_at, append-nil}
use Rattle.std.specs.Fmt.{decimal}
use Rattle.std.specs.List.{prefix_len, list_all, take_while}
use Rattle.std.specs.Ordering.{int_eq}
use Rattle.std.specs.Prelude.{◌==◌, ◌&&◌, if◌then◌else◌, nat_le, slice_index, codes, Option, Some, None, unwrap_or, pos}
use Rattle.value_text.specs.Printed.{million, fraction_digits, fraction_text, places_behind_point}
use Rattle.query_tokens.specs.declared.step.Step.TheVariants.{Skip, Token}
use Rattle.query_tokens.specs.declared.token.TokenKind.TheVariants as kind
use Rattle.query_tokens.specs.Bytes.{max_number, max_decimals, point, dash, slash, quote, open_bracket, is_blank, is_word_start, is_digit}
use Rattle.query_tokens.specs.Steps.{step_of, word_step, number_step, text_step, bracketed_step, sign_step, token_if, number_by, value_from, missing_zeros, millionths, bounded, decimals_of}
use Rattle.query_tokens.proofs.SymbolLemmas.{equal_numbers}
use Rattle.query_tree.specs.declared.name.Number.{Number}
use Rattle.query_tree.specs.declared.name.Number.TheVariants.{Whole, Decimal}
use Rattle.query_grammar.specs.Leaves.{number_of, number_by as leaf_by, value_or_zero, decimal_value}
use Rattle.query_print.specs.Words.{number_text, zero_behind_point}
use Rattle.std.proofs.lemmas.List.Folds.{list_all-append}
use Rattle.query_round_trip.proofs.FixedFacts.{is_ascii}
use Rattle.query_round_trip.proofs.WordSteps.{and_parts, plain_of}
use Rattle.query_round_trip.proofs.Digits.{DigitsOf, decimal_digits, fraction_6, and_both}

-- ---- the numbers of a query

-- a whole number or one of millionths that 64 bits hold
abbrev pub InRange : Number → Type 0
InRange number = (value : ℕ) × (value ≤ max_number) × ((number ≡ Whole (pos value)) ⊎ (number ≡ Decimal (pos value)))

in_bounds : (n : ℕ) → unwrap_or (bounded n) 0 ≤ max_number
in_bounds n = by_cases (nat_le n max_number) refl
  where
    by_cases : (t : Bool) → nat_le n max_number ≡ t → unwrap_or (if t then Some n else None) 0 ≤ max_number
    by_cases true e = grind (arith, nat_tests)
    by_cases false e = omega arith

decimal_in_bounds : (whole decimals : List ℕ) → unwrap_or (decimal_value whole decimals) 0 ≤ max_number
decimal_in_bounds whole decimals = by_cases (nat_le (length decimals) max_decimals)
  where
    by_cases : (t : Bool) → unwrap_or (if t then bounded (millionths whole decimals) else None) 0 ≤ max_number
    by_cases true = in_bounds (millionths whole decimals)
    by_cases false = omega arith

leaf_in_range : (whole decimals : List ℕ) → InRange (leaf_by whole decimals)
leaf_in_range whole [] = (unwrap_or (bounded (value_from 0 whole)) 0, in_bounds (value_from 0 whole), inl refl)
leaf_in_range whole (d ∷ ds) = (unwrap_or (decimal_value whole (d ∷ ds)) 0, decimal_in_bounds whole (d ∷ ds), inr refl)

pub number_in_range : (bytes : List ℕ) → InRange (number_of bytes)
unfolding number_of
number_in_range bytes = leaf_in_range (take_while is_digit bytes) (decimals_of (drop (length (take_while is_digit bytes)) bytes))

-- ---- digits with something else behind them

pub prefix_stops : (p : ℕ → Bool) (rest : List ℕ) → p (slice_index rest 0) ≡ false → prefix_len p rest ≡ 0
prefix_stops p [] e = refl
prefix_stops p (r ∷ rest) e = ap (λ (b : Bool). if b then 1 + prefix_len p rest else 0) e

pub prefix_goes : (p : ℕ → Bool) (xs rest : List ℕ) → list_all p xs ≡ true → p (slice_index rest 0) ≡ false → prefix_len p (xs ++ rest) ≡ length xs
prefix_goes p [] rest all h = prefix_stops p rest h
prefix_goes p (x ∷ xs) rest all h =
    let parts = and_parts (p x) (list_all p xs) all in
    ap (λ (t : Bool). if t then 1 + prefix_len p (xs ++ rest) else 0) parts.0
    ∙ ap (λ (n : ℕ). 1 + n) (prefix_goes p xs rest parts.1 h) ∙ omega arith

digits_taken : (ds rest : List ℕ) → list_all is_digit ds ≡ true → is_digit (slice_index rest 0) ≡ false → take_while is_digit (ds ++ rest) ≡ ds
digits_taken ds rest all h =
    ap (λ (n : ℕ). take n (ds ++ rest)) (prefix_goes is_digit ds rest all h) ∙ take_at ds rest (length ds) refl

-- what a number is by its digits before the point, and what stands behind them
by_parts : {X : Type 0} (f : List ℕ → List ℕ → X) (ds rest : List ℕ) → list_all is_digit ds ≡ true → is_digit (slice_index rest 0) ≡ false
    → f (take_while is_digit (ds ++ rest)) (decimals_of (drop (length (take_while is_digit (ds ++ rest))) (ds ++ rest))) ≡ f ds (decimals_of rest)
by_parts f ds rest all h =
    ap (λ (w : List ℕ). f w (decimals_of (drop (length w) (ds ++ rest)))) (digits_taken ds rest all h)
    ∙ ap (λ (r : List ℕ). f ds (decimals_of r)) (drop_at ds rest (length ds) refl)

no_decimals : (rest : List ℕ) → (slice_index rest 0 == point) ≡ false → decimals_of rest ≡ []
no_decimals [] e = refl
no_decimals (r ∷ rest) e = ap (λ (t : Bool). if t then take_while is_digit rest else []) e

-- ---- a digit begins a number

digit_starts : (b : ℕ) → is_digit b ≡ true → ((b == dash) ≡ false) × ((b == slash) ≡ false) × (is_blank b ≡ false) × (is_word_start b ≡ false)
digit_starts b e = (grind (arith, nat_tests), grind (arith, nat_tests), grind (arith, nat_tests), grind (arith, nat_tests))

begins_number : (b : ℕ) (rest : List ℕ) → is_digit b ≡ true → step_of (b ∷ rest) ≡ number_step (b ∷ rest)
begins_number b rest e =
    let s = digit_starts b e in
    plain_of b rest s.0 s.1
    ∙ ap (λ (t : Bool). if t then Skip 1 else (if is_word_start b then word_step (b ∷ rest) else (if is_digit b then number_step (b ∷ rest)
    else (if b == quote then text_step rest else (if b == open_bracket then bracketed_step rest else sign_step b rest))))) s.2
    ∙ ap (λ (t : Bool). if t then word_step (b ∷ rest) else (if is_digit b then number_step (b ∷ rest)
    else (if b == quote then text_step rest else (if b == open_bracket then bracketed_step rest else sign_step b rest)))) s.3
    ∙ ap (λ (t : Bool). if t then number_step (b ∷ rest) else (if b == quote then text_step rest else (if b == open_bracket then bracketed_step rest else sign_step b rest))) e

begins_number_at : (ds rest : List ℕ) → list_all is_digit ds ≡ true → 0 < length ds → step_of (ds ++ rest) ≡ number_step (ds ++ rest)
begins_number_at [] rest all some = absurd (omega arith)
begins_number_at (d ∷ ds) rest all some = begins_number d (ds ++ rest) (and_parts (is_digit d) (list_all is_digit ds) all).0

-- ---- a number's text is a token and stands for the number

pub record NumberText (number : Number) (text : List ℕ) : Type 0 where
  pub token : (rest : List ℕ) → is_digit (slice_index rest 0) ≡ false → (slice_index rest 0 == point) ≡ false → step_of (text ++ rest) ≡ Token kind.Number (length text)
  pub value : number_of text ≡ number
  pub some : 0 < length text
  pub ascii : list_all is_ascii text ≡ true

digit_ascii : (b : ℕ) → is_digit b ≡ true → is_ascii b ≡ true
digit_ascii b e = grind (arith, nat_tests)

digits_ascii : (ds : List ℕ) → list_all is_digit ds ≡ true → list_all is_ascii ds ≡ true
digits_ascii [] e = refl
digits_ascii (d ∷ ds) e =
    let parts = and_parts (is_digit d) (list_all is_digit ds) e in
    and_both (is_ascii d) (list_all is_ascii ds) (digit_ascii d parts.0) (digits_ascii ds parts.1)

le_test : (n m : ℕ) → n ≤ m → nat_le n m ≡ true
le_test n m h = grind (arith, nat_tests)

bounded_at : (n v : ℕ) → n ≡ v → v ≤ max_number → bounded n ≡ Some v
bounded_at n v e h = ap bounded e ∙ ap (λ (t : Bool). if t then Some v else None) (le_test v max_number h)

whole_text : (v : ℕ) (ds : List ℕ) → v ≤ max_number → DigitsOf v ds → NumberText (Whole (pos v)) ds
unfolding number_step number_of
whole_text v ds h d = record {
  token = λ rest n p.
      begins_number_at ds rest d.digits d.some
      ∙ by_parts number_by ds rest d.digits n ∙ ap (number_by ds) (no_decimals rest p)
      ∙ ap (λ (t : Bool). token_if t kind.Number (length ds)) (ap (λ (x : ℕ). nat_le x max_number) d.value ∙ le_test v max_number h);
  value =
      ap (λ (l : List ℕ). leaf_by (take_while is_digit l) (decimals_of (drop (length (take_while is_digit l)) l))) (sym (append-nil ds))
      ∙ by_parts leaf_by ds [] d.digits refl ∙ ap (λ (o : Option ℕ). Whole (value_or_zero o)) (bounded_at (value_from 0 ds) v d.value h);
  some = d.some;
  ascii = digits_ascii ds d.digits;
}

-- the digits before and behind a point
pub record DecimalDigits (m : ℕ) (ds : List ℕ) (f : ℕ) (fs : List ℕ) : Type 0 where
  pub digits : list_all is_digit (f ∷ fs) ≡ true
  pub short : length (f ∷ fs) ≤ max_decimals
  pub value : millionths ds (f ∷ fs) ≡ m

decimal_text : (m f : ℕ) (ds fs : List ℕ) → m ≤ max_number → list_all is_digit ds ≡ true → 0 < length ds → DecimalDigits m ds f fs → NumberText (Decimal (pos m)) (ds ++ point ∷ f ∷ fs)
unfolding number_step number_of
decimal_text m f ds fs h all some d = record {
  token = λ rest n p.
      let text : (ds ++ point ∷ f ∷ fs) ++ rest ≡ ds ++ point ∷ ((f ∷ fs) ++ rest) = append_assoc ds (point ∷ f ∷ fs) rest in
      ap step_of text ∙ begins_number_at ds (point ∷ ((f ∷ fs) ++ rest)) all some
      ∙ by_parts number_by ds (point ∷ ((f ∷ fs) ++ rest)) all refl
      ∙ ap (number_by ds) (digits_taken (f ∷ fs) rest d.digits n)
      ∙ ap (λ (t : Bool). token_if (t && nat_le (millionths ds (f ∷ fs)) max_number) kind.Number (length ds + 1 + length (f ∷ fs))) (le_test (length (f ∷ fs)) max_decimals d.short)
      ∙ ap (λ (t : Bool). token_if t kind.Number (length ds + 1 + length (f ∷ fs))) (ap (λ (x : ℕ). nat_le x max_number) d.value ∙ le_test m max_number h)
      ∙ ap (λ (k : ℕ). Token kind.Number k) (omega (arith, length-append ds (point ∷ f ∷ fs)));
  value =
      by_parts leaf_by ds (point ∷ f ∷ fs) all refl
      ∙ ap (leaf_by ds) (ap (λ (l : List ℕ). take_while is_digit l) (sym (append-nil (f ∷ fs))) ∙ digits_taken (f ∷ fs) [] d.digits refl)
      ∙ ap (λ (t : Bool). Decimal (value_or_zero (if t then bounded (millionths ds (f ∷ fs)) else None))) (le_test (length (f ∷ fs)) max_decimals d.short)
      ∙ ap (λ (o : Option ℕ). Decimal (value_or_zero o)) (bounded_at (millionths ds (f ∷ fs)) m d.value h);
  some = omega (arith, length-append ds (point ∷ f ∷ fs));
  ascii = list_all-append is_ascii ds (point ∷ f ∷ fs) ∙ and_both (list_all is_ascii ds) (list_all is_ascii (f ∷ fs)) (digits_ascii ds all) (digits_ascii (f ∷ fs) d.digits);
}

-- ---- the text of each number

not_zero : (n : ℕ) → (n == 0) ≡ false → int_eq (pos n) (pos 0) ≡ false
not_zero n e = by_cases (int_eq (pos n) (pos 0)) refl
  where
    by_cases : (t : Bool) → int_eq (pos n) (pos 0) ≡ t → t ≡ false
    by_cases true h = let same : pos n ≡ pos 0 = (Decides-int_eq (pos n) (pos 0)).0 h in absurd (let z : n ≡ 0 = cc (same) in grind (arith, nat_tests))
    by_cases false h = refl

-- what stands behind the digits before the point
behind_digits : (m : ℕ) (ds : List ℕ) → value_from 0 ds ≡ m / million
    → (f : ℕ) × (fs : List ℕ) × ((fraction_text (m % million) ++ zero_behind_point (pos m)) ≡ point ∷ f ∷ fs) × DecimalDigits m ds f fs
behind_digits m ds v = by_cases (m % million == 0) refl
  where
    by_cases : (t : Bool) → (m % million == 0) ≡ t
        → (f : ℕ) × (fs : List ℕ) × ((fraction_text (m % million) ++ zero_behind_point (pos m)) ≡ point ∷ f ∷ fs) × DecimalDigits m ds f fs
    by_cases true e =
        let none : m % million ≡ 0 = equal_numbers (m % million) 0 e in (
          48,
          [],
          ap (λ (r : ℕ). fraction_text r ++ (if int_eq (pos r) (pos 0) then codes ".0" else [])) none,
          record { digits = refl; short = omega arith; value = ap (λ (x : ℕ). value_from (value_from x (48 ∷ [])) (missing_zeros (48 ∷ []))) v ∙ omega arith },
        )
    by_cases false e =
        let r : ℕ = m % million in
        let f = fraction_6 (m / million) (m % million) (omega arith) in
        let d : ℕ = 48 + (m % million) / 100000 % 10 in
        let ds' : List ℕ = fraction_digits (10000 ∷ 1000 ∷ 100 ∷ 10 ∷ 1 ∷ []) ((m % million) % 100000) in
        let same : fraction_digits places_behind_point (m % million) ≡ d ∷ ds' = ap (λ (t : Bool). if t then [] else d ∷ ds') e in (
          d,
          ds',
          ap (λ (t : Bool). (if t then [] else point ∷ fraction_digits places_behind_point (m % million)) ++ zero_behind_point (pos m)) e
              ∙ ap (λ (t : Bool). (point ∷ fraction_digits places_behind_point (m % million)) ++ (if t then codes ".0" else [])) (not_zero (m % million) e)
              ∙ append-nil (point ∷ fraction_digits places_behind_point (m % million)) ∙ ap (λ (l : List ℕ). point ∷ l) same,
          record {
            digits = ap (list_all is_digit) (sym same) ∙ f.digits;
            short = let s = f.short in omega (arith, ap length same);
            value = ap (λ (x : ℕ). value_from (value_from x (d ∷ ds')) (missing_zeros (d ∷ ds'))) v
                ∙ ap (λ (l : List ℕ). value_from (value_from (m / million) l) (drop (length l) (codes "000000"))) (sym same) ∙ f.value ∙ omega arith;
          },
        )

pub number_text-token : (number : Number) → InRange number → NumberText number (number_text number)
unfolding number_text
number_text-token number (v, h, inl e) =
    subst (λ (n : Number). NumberText n (number_text n)) (sym e) (whole_text v (decimal v) h (decimal_digits v (omega arith)))
number_text-token number (v, h, inr e) =
    let d = decimal_digits (v / million) (omega arith) in
    let b = behind_digits v (decimal (v / million)) d.value in
    let text : (decimal (v / million) ++ fraction_text (v % million)) ++ zero_behind_point (pos v) ≡ decimal (v / million) ++ point ∷ b.0 ∷ b.1 =
    append_assoc (decimal (v / million)) (fraction_text (v % million)) (zero_behind_point (pos v)) ∙ ap (λ (l : List ℕ). decimal (v / million) ++ l) b.2 in
    subst (λ (n : Number). NumberText n (number_text n)) (sym e)
    (subst (λ (l : List ℕ). NumberText (Decimal (pos v)) l) (sym text) (decimal_text v b.0 (decimal (v / million)) b.1 h d.digits d.some b.3))
