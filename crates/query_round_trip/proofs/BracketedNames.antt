-- Names in brackets: what is between the brackets of a token, and that it is a token again.
use Rattle.std.proofs.Common.{◌≡◌, ◌+◌, ℕ, List, [], ◌∷◌, ◌++◌, length, Bool, true, false, refl, ap, sym, ◌∙◌, arith, append_assoc, length-append, add-zero}
use Rattle.std.specs.Prelude.{◌==◌, ◌&&◌, if◌then◌else◌, nat_le, slice_index}
use Rattle.query_tokens.specs.declared.step.Step.TheVariants.{Token}
use Rattle.query_tokens.specs.declared.token.TokenKind.TheVariants as kind
use Rattle.query_tokens.specs.Bytes.{max_name, close_bracket, ends_name}
use Rattle.query_tokens.specs.Steps.{step_of, token_if, bracketed_step, bracketed_by, name_end_from}
use Rattle.query_print.specs.Words.{bracketed}

-- a name that ends at its bracket, whatever stands behind it
abbrev pub EndsAtBracket : List ℕ → Type 0
EndsAtBracket name = (place : ℕ) (rest : List ℕ) → name_end_from place (name ++ close_bracket ∷ rest) ≡ place + length name

-- the part of a text before what ends a name
pub record NamePart (place : ℕ) (text : List ℕ) : Type 0 where
  pub name : List ℕ
  pub rest : List ℕ
  pub all : text ≡ name ++ rest
  pub size : name_end_from place text ≡ place + length name
  pub ends : slice_index rest 0 ≡ close_bracket → EndsAtBracket name

first_same : (name rest more : List ℕ) → slice_index rest 0 ≡ close_bracket → slice_index (name ++ rest) 0 ≡ slice_index (name ++ close_bracket ∷ more) 0
first_same [] rest more e = e
first_same (b ∷ name) rest more e = refl

ends_behind : (b : ℕ) (name rest : List ℕ) → ends_name b (slice_index (name ++ rest) 0) ≡ false → slice_index rest 0 ≡ close_bracket → EndsAtBracket name → EndsAtBracket (b ∷ name)
ends_behind b name rest goes_on e ends place more =
    ap (λ (t : Bool). if t then place else name_end_from (place + 1) (name ++ close_bracket ∷ more))
    (ap (ends_name b) (sym (first_same name rest more e)) ∙ goes_on)
    ∙ ends (place + 1) more ∙ omega arith

name_part-here : (place b : ℕ) (bs : List ℕ) → ends_name b (slice_index bs 0) ≡ true → NamePart place (b ∷ bs)
name_part-here place b bs e = record {
  name = [];
  rest = b ∷ bs;
  all = refl;
  size = ap (λ (t : Bool). if t then place else name_end_from (place + 1) bs) e ∙ sym (add-zero place);
  ends = λ _ p more. sym (add-zero p);
}

name_part-on : (place b : ℕ) (bs : List ℕ) → ends_name b (slice_index bs 0) ≡ false → NamePart (place + 1) bs → NamePart place (b ∷ bs)
name_part-on place b bs e n = record {
  name = b ∷ n.name;
  rest = n.rest;
  all = ap (λ (l : List ℕ). b ∷ l) n.all;
  size = ap (λ (t : Bool). if t then place else name_end_from (place + 1) bs) e ∙ n.size ∙ omega arith;
  ends = λ close. ends_behind b n.name n.rest (ap (λ (l : List ℕ). ends_name b (slice_index l 0)) (sym n.all) ∙ e) close (n.ends close);
}

pub name_part : (place : ℕ) (text : List ℕ) → NamePart place text
name_part place [] = record { name = []; rest = []; all = refl; size = sym (add-zero place); ends = λ e. cc (e) }
name_part place (b ∷ bs) = by_cases (ends_name b (slice_index bs 0)) refl (name_part (place + 1) bs)
  where
    by_cases : (t : Bool) → ends_name b (slice_index bs 0) ≡ t → NamePart (place + 1) bs → NamePart place (b ∷ bs)
    by_cases true e n = name_part-here place b bs e
    by_cases false e n = name_part-on place b bs e n

-- a name that may stand in brackets
pub record Bracketable (name : List ℕ) : Type 0 where
  pub ends : EndsAtBracket name
  pub some : nat_le 1 (length name) ≡ true
  pub short : nat_le (length name) max_name ≡ true

pub at_length : (name rest : List ℕ) → slice_index (name ++ rest) (length name) ≡ slice_index rest 0
at_length [] rest = refl
at_length (b ∷ name) rest = at_length name rest

-- brackets round such a name are a token
pub step_of-bracketed : (name rest : List ℕ) → Bracketable name → step_of (bracketed name ++ rest) ≡ Token kind.Bracketed (length (bracketed name))
unfolding bracketed_step
step_of-bracketed name rest b =
    let text : List ℕ = name ++ close_bracket ∷ rest in
    let same : (name ++ close_bracket ∷ []) ++ rest ≡ text = append_assoc name (close_bracket ∷ []) rest in
    let ends : name_end_from 0 text ≡ length name = b.ends 0 rest ∙ omega arith in
    let size : length name + 2 ≡ length (bracketed name) = omega (arith, length-append name (close_bracket ∷ [])) in
    ap (λ (l : List ℕ). bracketed_by (name_end_from 0 l) l) same
    ∙ ap (λ (n : ℕ). bracketed_by n text) ends
    ∙ ap (λ (t : Bool). token_if (t && nat_le (length name) max_name && slice_index text (length name) == close_bracket) kind.Bracketed (length name + 2)) b.some
    ∙ ap (λ (t : Bool). token_if (t && slice_index text (length name) == close_bracket) kind.Bracketed (length name + 2)) b.short
    ∙ ap (λ (x : ℕ). token_if (x == close_bracket) kind.Bracketed (length name + 2)) (at_length name (close_bracket ∷ rest))
    ∙ ap (λ (n : ℕ). Token kind.Bracketed n) size
