-- Texts in quotes: what is between the quotes of a token, and that it is a token again.
use Rattle.std.proofs.Common.{◌≡◌, ◌+◌, ℕ, List, [], ◌∷◌, ◌++◌, length, drop, Bool, true, false, refl, ap, sym, ◌∙◌, arith, append_assoc, length-append, add-zero}
use Rattle.std.specs.Prelude.{◌==◌, if◌then◌else◌, slice_index, Some}
use Rattle.std.specs.List.{flat_map}
use Rattle.query_tokens.specs.declared.step.Step.TheVariants.{Token}
use Rattle.query_tokens.specs.declared.token.TokenKind.TheVariants as kind
use Rattle.query_tokens.specs.Bytes.{quote}
use Rattle.query_tokens.specs.Steps.{step_of, text_step, text_by, end_quote_from}
use Rattle.query_tokens.proofs.SymbolLemmas.{equal_numbers}
use Rattle.query_grammar.specs.Leaves.{undoubled}
use Rattle.query_print.specs.Words.{doubled}

-- bytes that end at a quote which no other follows, where the first byte may be the second of two quotes
abbrev pub EndsAtQuote : Bool → List ℕ → Type 0
EndsAtQuote second inner =
    (place : ℕ) (more : List ℕ) → (slice_index more 0 == quote) ≡ false → end_quote_from second place (inner ++ quote ∷ more) ≡ Some (place + length inner)

abbrev pub behind_second : Bool → List ℕ → List ℕ
behind_second true inner = drop 1 inner
behind_second false inner = inner

-- the part of a text before the quote that ends it
pub record QuotePart (second : Bool) (place : ℕ) (text : List ℕ) (size : ℕ) : Type 0 where
  pub inner : List ℕ
  pub rest : List ℕ
  pub all : text ≡ inner ++ quote ∷ rest
  pub size_is : size ≡ place + length inner
  pub ends : EndsAtQuote second inner
  pub requoted : flat_map doubled (undoubled second inner) ≡ behind_second second inner
  pub first : second ≡ true → inner ≡ slice_index text 0 ∷ drop 1 inner

first_alike : (inner a c : List ℕ) → slice_index (inner ++ quote ∷ a) 0 ≡ slice_index (inner ++ quote ∷ c) 0
first_alike [] a c = refl
first_alike (b ∷ inner) a c = refl

second_part : (place b size : ℕ) (bs : List ℕ) → QuotePart false (place + 1) bs size → QuotePart true place (b ∷ bs) size
second_part place b size bs n = record {
  inner = b ∷ n.inner;
  rest = n.rest;
  all = ap (λ (l : List ℕ). b ∷ l) n.all;
  size_is = n.size_is ∙ omega arith;
  ends = λ p more h. n.ends (p + 1) more h ∙ ap Some (omega arith);
  requoted = n.requoted;
  first = λ e. refl;
}

other_part : (place b size : ℕ) (bs : List ℕ) → (b == quote) ≡ false → QuotePart false (place + 1) bs size → QuotePart false place (b ∷ bs) size
other_part place b size bs e n = record {
  inner = b ∷ n.inner;
  rest = n.rest;
  all = ap (λ (l : List ℕ). b ∷ l) n.all;
  size_is = n.size_is ∙ omega arith;
  ends = λ p more h.
      ap (λ (t : Bool). if t then (if slice_index (n.inner ++ quote ∷ more) 0 == quote then end_quote_from true (p + 1) (n.inner ++ quote ∷ more) else Some p)
      else end_quote_from false (p + 1) (n.inner ++ quote ∷ more)) e
      ∙ n.ends (p + 1) more h ∙ ap Some (omega arith);
  requoted =
      ap (λ (t : Bool). doubled b ++ flat_map doubled (undoubled t n.inner)) e
      ∙ ap (λ (t : Bool). (if t then quote ∷ quote ∷ [] else b ∷ []) ++ flat_map doubled (undoubled false n.inner)) e
      ∙ ap (λ (l : List ℕ). b ∷ l) n.requoted;
  first = λ t. cc;
}

last_part : (place b size : ℕ) (bs : List ℕ) → (b == quote) ≡ true → Some place ≡ Some size → QuotePart false place (b ∷ bs) size
last_part place b size bs e s = record {
  inner = [];
  rest = bs;
  all = ap (λ (x : ℕ). x ∷ bs) (equal_numbers b quote e);
  size_is = let same : place ≡ size = cc (s) in omega arith;
  ends = λ p more h. ap (λ (t : Bool). if t then end_quote_from true (p + 1) more else Some p) h ∙ ap Some (sym (add-zero p));
  requoted = refl;
  first = λ t. cc;
}

pair_part : (place b size : ℕ) (bs : List ℕ) → (b == quote) ≡ true → (slice_index bs 0 == quote) ≡ true → QuotePart true (place + 1) bs size → QuotePart false place (b ∷ bs) size
pair_part place b size bs e f n =
    let b_is : b ≡ quote = equal_numbers b quote e in
    let inner_is : n.inner ≡ quote ∷ drop 1 n.inner = n.first refl ∙ ap (λ (x : ℕ). x ∷ drop 1 n.inner) (equal_numbers (slice_index bs 0) quote f) in
    record {
      inner = b ∷ n.inner;
      rest = n.rest;
      all = ap (λ (l : List ℕ). b ∷ l) n.all;
      size_is = n.size_is ∙ omega arith;
      ends = λ p more h.
          ap (λ (t : Bool). if t then (if slice_index (n.inner ++ quote ∷ more) 0 == quote then end_quote_from true (p + 1) (n.inner ++ quote ∷ more) else Some p)
          else end_quote_from false (p + 1) (n.inner ++ quote ∷ more)) e
          ∙ ap (λ (t : Bool). if t then end_quote_from true (p + 1) (n.inner ++ quote ∷ more) else Some p)
          (ap (λ (x : ℕ). x == quote) (first_alike n.inner more n.rest ∙ ap (λ (l : List ℕ). slice_index l 0) (sym n.all)) ∙ f)
          ∙ n.ends (p + 1) more h ∙ ap Some (omega arith);
      requoted =
          ap (λ (t : Bool). doubled b ++ flat_map doubled (undoubled t n.inner)) e
          ∙ ap (λ (t : Bool). (if t then quote ∷ quote ∷ [] else b ∷ []) ++ flat_map doubled (undoubled true n.inner)) e
          ∙ ap (λ (l : List ℕ). quote ∷ quote ∷ l) n.requoted
          ∙ ap (λ (x : ℕ). x ∷ quote ∷ drop 1 n.inner) (sym b_is) ∙ ap (λ (l : List ℕ). b ∷ l) (sym inner_is);
      first = λ t. cc;
    }

pub quote_part : (second : Bool) (place : ℕ) (text : List ℕ) (size : ℕ) → end_quote_from second place text ≡ Some size → QuotePart second place text size
quote_part second place [] size e = absurd (cc (e))
quote_part true place (b ∷ bs) size e = second_part place b size bs (quote_part false (place + 1) bs size e)
quote_part false place (b ∷ bs) size e =
    by_cases (b == quote) (slice_index bs 0 == quote) refl refl e (λ h. quote_part true (place + 1) bs size h) (λ h. quote_part false (place + 1) bs size h)
  where
    by_cases : (t u : Bool) → (b == quote) ≡ t → (slice_index bs 0 == quote) ≡ u
        → (if t then (if u then end_quote_from true (place + 1) bs else Some place) else end_quote_from false (place + 1) bs) ≡ Some size
        → (end_quote_from true (place + 1) bs ≡ Some size → QuotePart true (place + 1) bs size) → (end_quote_from false (place + 1) bs ≡ Some size → QuotePart false (place + 1) bs size)
        → QuotePart false place (b ∷ bs) size
    by_cases true true e f h pair other = pair_part place b size bs e f (pair h)
    by_cases true false e f h pair other = last_part place b size bs e h
    by_cases false u e f h pair other = other_part place b size bs e (other h)

-- such bytes between quotes are a token
pub step_of-quoted : (inner rest : List ℕ) → EndsAtQuote false inner → (slice_index rest 0 == quote) ≡ false
    → step_of ((quote ∷ inner ++ quote ∷ []) ++ rest) ≡ Token kind.Text (length (quote ∷ inner ++ quote ∷ []))
unfolding text_step
step_of-quoted inner rest ends h =
    ap (λ (l : List ℕ). text_by (end_quote_from false 0 l)) (append_assoc inner (quote ∷ []) rest)
    ∙ ap text_by (ends 0 rest h)
    ∙ ap (λ (n : ℕ). Token kind.Text n) (omega (arith, length-append inner (quote ∷ [])))
