-- Lemmas on the tokens of a text.
use Rattle.std.proofs.lemmas.List.{append-nil}
use Rattle.std.proofs.lemmas.Str.{utf8_valid_len-IsUtf8}
use Rattle.std.proofs.lemmas.Bool.Decides.{nat_tests}
use Rattle.std.specs.Str.{IsUtf8}
use Rattle.std.proofs.Common.{length-drop, ◌≡◌, ◌<◌, ◌≤◌, ◌+◌, ◌-◌, ℕ, zero, suc, List, [], ◌∷◌, ◌++◌, length, drop, Result, Ok, Err, refl, ap, sym, ◌∙◌, append_assoc, arith, add-zero}
use Rattle.query_tokens.specs.declared.parse_err.ParseErr.{ParseErr}
use Rattle.query_tokens.specs.declared.parse_err.ParseErr.TheVariants.{Token as stuck_at}
use Rattle.query_tokens.specs.declared.token.Token.{Token}
use Rattle.query_tokens.specs.declared.token.TokenKind.{TokenKind}
use Rattle.query_tokens.specs.declared.step.Step.{Step}
use Rattle.query_tokens.specs.declared.step.Step.TheVariants.{Skip, Token as token_step, Stuck}
use Rattle.query_tokens.specs.Tokens.{tokens_from, tokens_by, prepended, tokens_of}
use Rattle.query_tokens.specs.Steps.{step_of}
use Rattle.query_tokens.specs.Bytes.{max_text}

-- bytes that are passed over are as good as gone
tokens_from-passed : (passed place : ℕ) (text : List ℕ) → passed ≤ length text → tokens_from passed place text ≡ tokens_from 0 (place + passed) (drop passed text)
unfolding tokens_from
tokens_from-passed zero place text h = ap (λ p. tokens_from 0 p text) (sym (add-zero place))
tokens_from-passed (suc passed) place [] h = refl
tokens_from-passed (suc passed) place (b ∷ bs) h =
    tokens_from-passed passed (place + 1) bs (omega arith) ∙ ap (λ p. tokens_from 0 p (drop passed bs)) (omega arith)

-- the tokens from a step on
pub tokens_from-step : (place : ℕ) (text : List ℕ) → 0 < length text → tokens_from 0 place text ≡ tokens_by (step_of text) place (λ more. tokens_from more (place + 1) (drop 1 text))
unfolding tokens_from
tokens_from-step place [] h = absurd (omega arith)
tokens_from-step place (b ∷ bs) h = refl

after-step : (place len : ℕ) (text : List ℕ) → 0 < len → len ≤ length text → tokens_from (len - 1) (place + 1) (drop 1 text) ≡ tokens_from 0 (place + len) (drop len text)
after-step place len [] l h = absurd (omega arith)
after-step place zero (b ∷ bs) l h = absurd (omega arith)
after-step place (suc len) (b ∷ bs) l h =
    let e : suc len - 1 ≡ len = omega arith in
    rw e (tokens_from-passed len (place + 1) bs (omega arith) ∙ ap (λ p. tokens_from 0 p (drop len bs)) (omega arith))

-- behind bytes that separate tokens
pub tokens_from-skip : (place len : ℕ) (text : List ℕ) → 0 < len → len ≤ length text → step_of text ≡ Skip len → tokens_from 0 place text ≡ tokens_from 0 (place + len) (drop len text)
tokens_from-skip place len text l h e =
    tokens_from-step place text (omega arith) ∙ ap (λ s. tokens_by s place (λ more. tokens_from more (place + 1) (drop 1 text))) e ∙ after-step place len text l h

-- behind a token
pub tokens_from-token : (place len : ℕ) (kind : TokenKind) (text : List ℕ) → 0 < len → len ≤ length text → step_of text ≡ token_step kind len
    → tokens_from 0 place text ≡ prepended (record { kind = kind; start = place; end = place + len } ∷ []) (tokens_from 0 (place + len) (drop len text))
tokens_from-token place len kind text l h e =
    tokens_from-step place text (omega arith) ∙ ap (λ s. tokens_by s place (λ more. tokens_from more (place + 1) (drop 1 text))) e
    ∙ ap (prepended (record { kind = kind; start = place; end = place + len } ∷ [])) (after-step place len text l h)

-- where no token begins
pub tokens_from-stuck : (place : ℕ) (text : List ℕ) → 0 < length text → step_of text ≡ Stuck → tokens_from 0 place text ≡ Err (stuck_at place)
tokens_from-stuck place text l e = tokens_from-step place text l ∙ ap (λ s. tokens_by s place (λ more. tokens_from more (place + 1) (drop 1 text))) e

pub prepended-prepended : (front more : List Token) (read : Result (List Token) ParseErr) → prepended front (prepended more read) ≡ prepended (front ++ more) read
prepended-prepended front more (Ok tokens) = ap Ok (sym (append_assoc front more tokens))
prepended-prepended front more (Err error) = refl

pub tokens_from-end : (place : ℕ) → tokens_from 0 place [] ≡ Ok []
unfolding tokens_from
tokens_from-end place = refl

-- at the start
pub prepended-nil : (read : Result (List Token) ParseErr) → prepended [] read ≡ read
prepended-nil (Ok tokens) = refl
prepended-nil (Err error) = refl

-- one turn of the lexer's loop, over bytes that separate tokens
pub skip-turn : (front : List Token) (total len : ℕ) (rest after : List ℕ) (whole : Result (List Token) ParseErr) → step_of rest ≡ Skip len → 0 < len → len ≤ length rest → length rest ≤ total → after ≡ drop len rest
    → prepended front (tokens_from 0 (total - length rest) rest) ≡ whole → prepended front (tokens_from 0 (total - length after) after) ≡ whole
skip-turn front total len rest after whole e l h t a w =
    let place : total - length after ≡ (total - length rest) + len = rw a (omega (arith, length-drop len rest)) in
    rw (place, a) (ap (prepended front) (sym (tokens_from-skip (total - length rest) len rest l h e)) ∙ w)

-- one turn over a token
pub token-turn : (front next : List Token) (total len : ℕ) (kind : TokenKind) (rest after : List ℕ) (whole : Result (List Token) ParseErr) → step_of rest ≡ token_step kind len → 0 < len → len ≤ length rest → length rest ≤ total → after ≡ drop len rest
    → next ≡ front ++ record { kind = kind; start = total - length rest; end = total - length rest + len } ∷ []
    → prepended front (tokens_from 0 (total - length rest) rest) ≡ whole → prepended next (tokens_from 0 (total - length after) after) ≡ whole
token-turn front next total len kind rest after whole e l h t a n w =
    let place : total - length after ≡ (total - length rest) + len = rw a (omega (arith, length-drop len rest)) in
    let token : Token = record { kind = kind; start = total - length rest; end = total - length rest + len } in
    rw (place, a, n) (sym (prepended-prepended front (token ∷ []) _) ∙ ap (prepended front) (sym (tokens_from-token (total - length rest) len kind rest l h e)) ∙ w)

-- the lexer is stuck
pub stuck-turn : (front : List Token) (place : ℕ) (rest : List ℕ) (whole : Result (List Token) ParseErr) → step_of rest ≡ Stuck → 0 < length rest → prepended front (tokens_from 0 place rest) ≡ whole → whole ≡ Err (stuck_at place)
stuck-turn front place rest whole e l w = sym w ∙ ap (prepended front) (tokens_from-stuck place rest l e)

-- the lexer is done
pub end-turn : (front : List Token) (place : ℕ) (rest : List ℕ) (whole : Result (List Token) ParseErr) → length rest ≡ 0 → prepended front (tokens_from 0 place rest) ≡ whole → whole ≡ Ok front
end-turn front place [] whole l w = sym w ∙ ap (prepended front) (tokens_from-end place) ∙ ap Ok (append-nil front)
end-turn front place (b ∷ bs) whole l w = absurd (omega arith)

-- a text of UTF-8 within the limit
pub tokens_of-valid : (text : List ℕ) → length text ≤ max_text → IsUtf8 text → tokens_of text ≡ tokens_from 0 0 text
tokens_of-valid text short valid =
    let e = utf8_valid_len-IsUtf8 text valid in
    grind (arith, nat_tests)

-- ---- refusals

prepended_err : (front : List Token) (read : Result (List Token) ParseErr) (error : ParseErr) → prepended front read ≡ Err error → read ≡ Err error
prepended_err front (Ok tokens) error e = cc
prepended_err front (Err other) error e = ap Err cc

err_same : (a : ParseErr) (read : Result (List Token) ParseErr) (b : ParseErr) → read ≡ Err a → read ≡ Err b → b ≡ a
err_same a read b e f = cc

by_step : (s : Step) (place : ℕ) (after : ℕ → Result (List Token) ParseErr) (error : ParseErr) → ((more : ℕ) → after more ≡ Err error → (p : ℕ) × (error ≡ stuck_at p)) → tokens_by s place after ≡ Err error → (p : ℕ) × (error ≡ stuck_at p)
by_step (Skip len) place after error h e = h (len - 1) e
by_step (token_step kind len) place after error h e = h (len - 1) (prepended_err (record { kind = kind; start = place; end = place + len } ∷ []) (after (len - 1)) error e)
by_step Stuck place after error h e = (place, err_same (stuck_at place) (Err (stuck_at place)) error refl e)

-- the bytes of a text are refused where no token begins alone
pub tokens_from-err : (passed place : ℕ) (text : List ℕ) (error : ParseErr) → tokens_from passed place text ≡ Err error → (p : ℕ) × (error ≡ stuck_at p)
unfolding tokens_from
tokens_from-err passed place [] error e = cc
tokens_from-err (suc passed) place (b ∷ bs) error e = tokens_from-err passed (place + 1) bs error e
tokens_from-err zero place (b ∷ bs) error e =
    by_step (step_of (b ∷ bs)) place (λ more. tokens_from more (place + 1) bs) error (λ more r. tokens_from-err more (place + 1) bs error r) e
