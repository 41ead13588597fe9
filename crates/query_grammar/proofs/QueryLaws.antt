-- What is read of a text is the answer that is due for it, and no other is due.
use Rattle.std.proofs.Common.{◌≡◌, ◌⊎◌, inl, inr, ◌+◌, ℕ, List, [], ◌∷◌, ◌++◌, length, Bool, true, false, refl, ap, sym, ◌∙◌, subst, arith}
use Rattle.std.specs.Prelude.{◌==◌, if◌then◌else◌, nat_le, Result, Ok, Err}
use Rattle.std.specs.Result.{IfOk, IfErr}
use Rattle.std.specs.Str.Lossy.{utf8_valid_len}
use Rattle.grammar_rules.specs.declared.stop.Stop.{Stop}
use Rattle.grammar_rules.specs.declared.stop.Stop.TheVariants.{Expected, Deep, Memory}
use Rattle.grammar_rules.specs.Lexemes.{Lexeme, first_place, Ended}
use Rattle.grammar_rules.specs.Readers.{Reading}
use Rattle.grammar_rules.specs.Laws.{Fits, StopsAt}
use Rattle.grammar_rules.proofs.WholeTexts.{ended_under, same_front, sound, complete, stops, none_unfit, unfit_once}
use Rattle.query_tokens.specs.declared.parse_err.ParseErr.{ParseErr}
use Rattle.query_tokens.specs.declared.parse_err.ParseErr.TheVariants.{Utf8, Token as stuck_at, Expected as expected_at, Deep as deep_at, TooLong, Memory as no_memory}
use Rattle.query_tokens.specs.declared.token.Token.{Token}
use Rattle.query_tokens.specs.declared.symbol.Symbol.TheVariants as symbol
use Rattle.query_tokens.specs.Bytes.{max_text}
use Rattle.query_tokens.specs.Tokens.{tokens_of, tokens_from, IsRefusal}
use Rattle.query_tokens.specs.Lexemes.{lexemes_of}
use Rattle.query_tokens.proofs.TokensLemmas.{tokens_from-err}
use Rattle.query_tokens.proofs.LexemeLemmas.{lexemes_ended}
use Rattle.query_tree.specs.declared.script.Script.{Script}
use Rattle.query_grammar.specs.Lists.{one}
use Rattle.query_grammar.specs.StatementGrammar.{Limits, script, statements}
use Rattle.query_grammar.specs.Queries.{query_limits, IsScript, BeginsQuery, BeginsUnlimited, IsFirstUnfit, IsRefusedBy, IsDue}
use Rattle.query_grammar.specs.Reading.{read_statements, read_script, error_at, answer_by, answer_in, answer_of}
use Rattle.query_grammar.proofs.Sets.{script_goes_on}
use Rattle.query_grammar.proofs.StatementLines.{Wider, statements_fits}

-- ---- limits that are wider than those of a query, and than others

abbrev wide : Limits → Limits
wide l = record { tokens = l.tokens + 1025; nesting = l.nesting + 65 }

wide_query : (l : Limits) → Wider (Unit {0}) query_limits (wide l)
wide_query l = record { tokens = omega arith; nesting = omega arith; more_tokens = λ p. omega arith; more_nesting = λ p. omega arith }

wide_own : (l : Limits) → Wider ⊥ l (wide l)
wide_own l = record { tokens = omega arith; nesting = omega arith; more_tokens = λ p. absurd p; more_nesting = λ p. absurd p }

abbrev begins : List ℕ
begins = one symbol.With ++ one symbol.Select

query_fits : (l : Limits) → Fits Script (Unit {0}) (statements query_limits) (statements (wide l)) begins script_goes_on false (read_statements query_limits)
query_fits l = statements_fits query_limits (wide l) (wide_query l)

own_fits : (l : Limits) → Fits Script ⊥ (statements l) (statements (wide l)) begins script_goes_on false (read_statements l)
own_fits l = statements_fits l (wide l) (wide_own l)

-- ---- one list of tokens

read_sound : (ts rest : List Lexeme) (found : Script) → Ended ts → read_script query_limits ts ≡ Ok (found, rest) → (script query_limits).whole ts found
read_sound ts rest found end e =
    sound Script (Unit {0}) (statements query_limits) (statements (wide query_limits)) begins script_goes_on false (read_statements query_limits) (query_fits query_limits) refl tt ts rest found end e

read_complete : (ts : List Lexeme) (found : Script) → (script query_limits).whole ts found → read_script query_limits ts ≡ Ok (found, [])
read_complete ts found w =
    complete Script (Unit {0}) (statements query_limits) (statements (wide query_limits)) begins script_goes_on false (read_statements query_limits) (query_fits query_limits) refl tt ts found w

read_stops : (l : Limits) (ts rest : List Lexeme) (stop : Stop) → Ended ts → read_script query_limits ts ≡ Err (stop, rest) → StopsAt (script query_limits).beginning (script (wide l)).beginning ts stop rest
read_stops l ts rest stop end e =
    stops Script (Unit {0}) (statements query_limits) (statements (wide l)) begins script_goes_on false (read_statements query_limits) (query_fits l) refl tt ts rest stop end e

whole_fits : (ts used more : List Lexeme) (t : Lexeme) (found : Script) → (script query_limits).whole ts found → used ++ t ∷ more ≡ ts → ((script query_limits).beginning (used ++ t ∷ []) → ⊥) → ⊥
whole_fits ts used more t found w e unfit =
    none_unfit Script (Unit {0}) (statements query_limits) (statements (wide query_limits)) begins script_goes_on false (read_statements query_limits) (query_fits query_limits) refl ts used more t found w e unfit

first_once : (ts used more used' more' : List Lexeme) (t t' : Lexeme) → used ++ t ∷ more ≡ ts → used' ++ t' ∷ more' ≡ ts → (script query_limits).beginning used → (script query_limits).beginning used'
    → ((script query_limits).beginning (used ++ t ∷ []) → ⊥) → ((script query_limits).beginning (used' ++ t' ∷ []) → ⊥) → (used ≡ used') × (t ≡ t')
first_once ts used more used' more' t t' e e' f f' unfit unfit' =
    unfit_once Script (Unit {0}) (statements query_limits) (statements (wide query_limits)) begins script_goes_on false (read_statements query_limits) (query_fits query_limits) refl ts used more used' more' t t' e e' f f' unfit unfit'

-- what begins a query within some limits begins one within wider ones
wide_beginning : (l : Limits) (ts : List Lexeme) → (script l).beginning ts → (script (wide l)).beginning ts
wide_beginning l ts f =
    (ended_under Script ⊥ (statements l) (statements (wide l)) begins script_goes_on false (read_statements l) (own_fits l) refl).beginning ts f

-- a token that isn't expected begins no query within any limits
not_unlimited : (ts rest used more : List Lexeme) (t : Lexeme) → Ended ts → read_script query_limits ts ≡ Err (Expected, rest) → rest ≡ t ∷ more → used ++ rest ≡ ts → BeginsUnlimited (used ++ t ∷ []) → ⊥
not_unlimited ts rest used more t end e at all f =
    let l = f.0 in
    let u = read_stops l ts rest Expected end e in
    let used_is : u.used ≡ used = same_front u.used used rest (u.all ∙ sym all) in
    let token_is : u.token ≡ t = let same = sym u.at ∙ at in cc (same) in
    let beginning : (script (wide l)).beginning (u.used ++ u.token ∷ []) =
    subst (λ (x : Lexeme). (script (wide l)).beginning (u.used ++ x ∷ [])) (sym token_is)
    (subst (λ (xs : List Lexeme). (script (wide l)).beginning (xs ++ t ∷ [])) (sym used_is) (wide_beginning l (used ++ t ∷ []) f.1)) in
    u.verdict beginning

-- ---- the answer for a text is due

first_unfit : (text : List ℕ) (tokens : List Token) (stop : Stop) (rest : List Lexeme) → tokens_of text ≡ Ok tokens
    → (u : StopsAt (script query_limits).beginning (script (wide query_limits)).beginning (lexemes_of text tokens) stop rest) → IsFirstUnfit text u.used u.token
first_unfit text tokens stop rest t u = record {
  tokens = tokens;
  text_tokens = t;
  more = u.more;
  all = ap (λ (xs : List Lexeme). u.used ++ xs) (sym u.at) ∙ u.all;
  fits = u.fits;
  unfit = u.unfit;
}

refused_by : (text : List ℕ) (tokens : List Token) (stop : Stop) (rest : List Lexeme) → tokens_of text ≡ Ok tokens → read_script query_limits (lexemes_of text tokens) ≡ Err (stop, rest)
    → StopsAt (script query_limits).beginning (script (wide query_limits)).beginning (lexemes_of text tokens) stop rest → IsRefusedBy text (error_at stop (first_place rest))
refused_by text tokens Expected rest t e u = (
  u.used,
  u.token,
  ap first_place u.at,
  first_unfit text tokens Expected rest t u,
  not_unlimited (lexemes_of text tokens) rest u.used u.more u.token (lexemes_ended text tokens) e u.at u.all,
)
refused_by text tokens Deep rest t e u = (u.used, u.token, ap first_place u.at, first_unfit text tokens Deep rest t u, (wide query_limits, u.verdict))
refused_by text tokens Memory rest t e u = absurd u.verdict

read_due : (text : List ℕ) (tokens : List Token) (read : Reading Script) → tokens_of text ≡ Ok tokens → read_script query_limits (lexemes_of text tokens) ≡ read → IsDue text (answer_by read)
read_due text tokens (Ok (found, rest)) t e = (tokens, t, read_sound (lexemes_of text tokens) rest found (lexemes_ended text tokens) e)
read_due text tokens (Err (stop, rest)) t e = refused_by text tokens stop rest t e (read_stops query_limits (lexemes_of text tokens) rest stop (lexemes_ended text tokens) e)

-- a refusal of the tokens is the one that is due
tokens_due : (a b : Bool) (text : List ℕ) (error : ParseErr) → tokens_of text ≡ Err error
    → (if a then (if b then tokens_from 0 0 text else Err (Utf8 (utf8_valid_len text))) else Err TooLong) ≡ Err error → IsRefusedBy text error
tokens_due true true text error t e =
    let stuck = tokens_from-err 0 0 text error e in
    subst (λ (x : ParseErr). IsRefusedBy text x) (sym stuck.1) (t ∙ ap Err stuck.1)
tokens_due true false text error t e =
    let same : Utf8 (utf8_valid_len text) ≡ error = cc in
    subst (λ (x : ParseErr). IsRefusedBy text x) same (t ∙ ap Err (sym same))
tokens_due false b text error t e =
    let same : TooLong ≡ error = cc in
    subst (λ (x : ParseErr). IsRefusedBy text x) same (t ∙ ap Err (sym same))

in_due : (text : List ℕ) (read : Result (List Token) ParseErr) → tokens_of text ≡ read → IsDue text (answer_in text read)
in_due text (Ok tokens) t = read_due text tokens (read_script query_limits (lexemes_of text tokens)) t refl
in_due text (Err error) t = tokens_due (nat_le (length text) max_text) (utf8_valid_len text == length text) text error t t

-- what is read is the answer that is due
pub answer_of-due : (text : List ℕ) → IsDue text (answer_of text)
answer_of-due text = in_due text (tokens_of text) refl

-- ---- no other answer is due

module _ (text : List ℕ) (tokens : List Token) (front more : List Lexeme) (token : Lexeme) (all : front ++ token ∷ more ≡ lexemes_of text tokens)
    (fits : BeginsQuery front) (unfit : BeginsQuery (front ++ token ∷ []) → ⊥) where
  same_unfit : (stop : Stop) (rest : List Lexeme) (u : StopsAt (script query_limits).beginning (script (wide query_limits)).beginning (lexemes_of text tokens) stop rest) → (u.used ≡ front) × (u.token ≡ token)
  same_unfit stop rest u =
      first_once (lexemes_of text tokens) u.used u.more front more u.token token (ap (λ (xs : List Lexeme). u.used ++ xs) (sym u.at) ∙ u.all) all u.fits fits u.unfit unfit

  place_is : (stop : Stop) (rest : List Lexeme) (u : StopsAt (script query_limits).beginning (script (wide query_limits)).beginning (lexemes_of text tokens) stop rest) → first_place rest ≡ token.place
  place_is stop rest u = ap first_place u.at ∙ ap (λ (t : Lexeme). t.place) (same_unfit stop rest u).1

  deep_begins : (rest : List Lexeme) (u : StopsAt (script query_limits).beginning (script (wide query_limits)).beginning (lexemes_of text tokens) Deep rest) → BeginsUnlimited (front ++ token ∷ [])
  deep_begins rest u =
      let same = same_unfit Deep rest u in (
        wide query_limits,
        subst (λ (t : Lexeme). (script (wide query_limits)).beginning (front ++ t ∷ [])) same.1
            (subst (λ (xs : List Lexeme). (script (wide query_limits)).beginning (xs ++ u.token ∷ [])) same.0 u.verdict),
      )

  expected_by : (place : ℕ) (read : Reading Script) → read_script query_limits (lexemes_of text tokens) ≡ read → place ≡ token.place → (BeginsUnlimited (front ++ token ∷ []) → ⊥)
      → answer_by read ≡ Err (expected_at place)
  expected_by place (Ok (found, rest)) e p refuted =
      absurd (whole_fits (lexemes_of text tokens) front more token found (read_sound (lexemes_of text tokens) rest found (lexemes_ended text tokens) e) all unfit)
  expected_by place (Err (Expected, rest)) e p refuted =
      ap (λ (n : ℕ). Err (expected_at n)) (place_is Expected rest (read_stops query_limits (lexemes_of text tokens) rest Expected (lexemes_ended text tokens) e) ∙ sym p)
  expected_by place (Err (Deep, rest)) e p refuted = absurd (refuted (deep_begins rest (read_stops query_limits (lexemes_of text tokens) rest Deep (lexemes_ended text tokens) e)))
  expected_by place (Err (Memory, rest)) e p refuted = absurd ((read_stops query_limits (lexemes_of text tokens) rest Memory (lexemes_ended text tokens) e).verdict)

  deep_by : (place : ℕ) (read : Reading Script) → read_script query_limits (lexemes_of text tokens) ≡ read → place ≡ token.place → BeginsUnlimited (front ++ token ∷ [])
      → answer_by read ≡ Err (deep_at place)
  deep_by place (Ok (found, rest)) e p f =
      absurd (whole_fits (lexemes_of text tokens) front more token found (read_sound (lexemes_of text tokens) rest found (lexemes_ended text tokens) e) all unfit)
  deep_by place (Err (Expected, rest)) e p f =
      let u = read_stops query_limits (lexemes_of text tokens) rest Expected (lexemes_ended text tokens) e in
      let same = same_unfit Expected rest u in
      absurd (not_unlimited (lexemes_of text tokens) rest u.used u.more u.token (lexemes_ended text tokens) e u.at u.all
      (subst (λ (t : Lexeme). BeginsUnlimited (u.used ++ t ∷ [])) (sym same.1) (subst (λ (xs : List Lexeme). BeginsUnlimited (xs ++ token ∷ [])) (sym same.0) f)))
  deep_by place (Err (Deep, rest)) e p f =
      ap (λ (n : ℕ). Err (deep_at n)) (place_is Deep rest (read_stops query_limits (lexemes_of text tokens) rest Deep (lexemes_ended text tokens) e) ∙ sym p)
  deep_by place (Err (Memory, rest)) e p f = absurd ((read_stops query_limits (lexemes_of text tokens) rest Memory (lexemes_ended text tokens) e).verdict)

-- no other answer is due
pub due-once : (text : List ℕ) (due : Result Script ParseErr) → IsDue text due → answer_of text ≡ due
due-once text (Ok found) w = ap (answer_in text) w.1 ∙ ap answer_by (read_complete (lexemes_of text w.0) found w.2)
due-once text (Err (Utf8 place)) w = ap (answer_in text) w
due-once text (Err (stuck_at place)) w = ap (answer_in text) w
due-once text (Err (expected_at place)) w =
    let u = w.3 in
    ap (answer_in text) u.text_tokens
    ∙ expected_by text u.tokens w.0 u.more w.1 u.all u.fits u.unfit place (read_script query_limits (lexemes_of text u.tokens)) refl w.2 w.4
due-once text (Err (deep_at place)) w =
    let u = w.3 in
    ap (answer_in text) u.text_tokens
    ∙ deep_by text u.tokens w.0 u.more w.1 u.all u.fits u.unfit place (read_script query_limits (lexemes_of text u.tokens)) refl w.2 w.4
due-once text (Err TooLong) w = ap (answer_in text) w
due-once text (Err no_memory) w = absurd w

-- ---- what a call of the parser says

pub ok_from : (text : List ℕ) (result : Result Script ParseErr) → IfOk result (λ found. answer_of text ≡ Ok found) → IfOk result (IsScript text)
ok_from text (Ok found) ok = subst (λ (read : Result Script ParseErr). IsDue text read) ok (answer_of-due text)
ok_from text (Err error) ok = tt

pub err_from : (text : List ℕ) (result : Result Script ParseErr) → IfErr result (IsRefusal (answer_of text)) → IfErr result (λ error. (error ≡ no_memory) ⊎ IsRefusedBy text error)
err_from text (Ok found) err = tt
err_from text (Err error) (inl memory) = inl memory
err_from text (Err error) (inr due) = inr (subst (λ (read : Result Script ParseErr). IsDue text read) due (answer_of-due text))

pub only_from : (text : List ℕ) (result : Result Script ParseErr) → IfOk result (λ found. answer_of text ≡ Ok found) → IfErr result (IsRefusal (answer_of text))
    → (due : Result Script ParseErr) → IsDue text due → (result ≡ due) ⊎ (result ≡ Err no_memory)
only_from text (Ok found) ok err due w = inl (sym ok ∙ due-once text due w)
only_from text (Err error) ok (inl memory) due w = inr (ap Err memory)
only_from text (Err error) ok (inr e) due w = inl (sym e ∙ due-once text due w)
