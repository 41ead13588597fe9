-- The tokens of a text.
use Rattle.std.specs.Prelude.{◌≡◌, ◌⊎◌, ℕ, zero, suc, ◌+◌, ◌-◌, ◌<◌, ◌≤◌, ◌==◌, List, [], ◌∷◌, ◌++◌, length, nat_le, if◌then◌else◌, Result, Ok, Err}
use Rattle.std.specs.Str.Lossy.{utf8_valid_len}
use Rattle.query_tokens.specs.declared.parse_err.ParseErr.{ParseErr}
use Rattle.query_tokens.specs.declared.parse_err.ParseErr.TheVariants.{Utf8, Token as stuck_at, Expected, Deep, TooLong, Memory}
use Rattle.query_tokens.specs.declared.token.Token.{Token}
use Rattle.query_tokens.specs.declared.step.Step.{Step}
use Rattle.query_tokens.specs.declared.step.Step.TheVariants.{Skip, Token as token_step, Stuck}
use Rattle.query_tokens.specs.Bytes.{max_text}
use Rattle.query_tokens.specs.Steps.{step_of}

-- these tokens, and then those that were found
abbrev pub prepended : List Token → Result (List Token) ParseErr → Result (List Token) ParseErr
prepended front (Ok tokens) = Ok (front ++ tokens)
prepended front (Err error) = Err error

-- the tokens from a step on, where `after n` are those from n further bytes on
abbrev pub tokens_by : Step → ℕ → (ℕ → Result (List Token) ParseErr) → Result (List Token) ParseErr
tokens_by (Skip size) place after = after (size - 1)
tokens_by (token_step kind size) place after =
    prepended (record { kind = kind; start = place; end = place + size } ∷ []) (after (size - 1))
tokens_by Stuck place after = Err (stuck_at place)

-- the tokens of a text that starts at a place and whose first bytes are passed over, or the first place where none begins
unfoldable pub tokens_from : ℕ → ℕ → List ℕ → Result (List Token) ParseErr
tokens_from passed place [] = Ok []
tokens_from (suc passed) place (b ∷ bs) = tokens_from passed (place + 1) bs
tokens_from zero place (b ∷ bs) = tokens_by (step_of (b ∷ bs)) place (λ more. tokens_from more (place + 1) bs)

-- the tokens of a text, or the first of its refusals in the order TooLong, Utf8, Token
abbrev pub tokens_of : List ℕ → Result (List Token) ParseErr
tokens_of text = if nat_le (length text) max_text
    then (if utf8_valid_len text == length text then tokens_from 0 0 text else Err (Utf8 (utf8_valid_len text)))
    else Err TooLong

-- the tokens stand between two places, each behind the one before
abbrev pub AscendWithin : ℕ → ℕ → List Token → Type 0
AscendWithin from to [] = from ≤ to
AscendWithin from to (token ∷ tokens) = (from ≤ token.start) × (token.start < token.end) × AscendWithin token.end to tokens

-- a refusal of the tokens, and not of the grammar
abbrev pub IsOfTokens : ParseErr → Type 0
IsOfTokens (Utf8 place) = Unit {0}
IsOfTokens (stuck_at place) = Unit {0}
IsOfTokens (Expected place) = ⊥
IsOfTokens (Deep place) = ⊥
IsOfTokens TooLong = Unit {0}
IsOfTokens Memory = Unit {0}

-- a refusal is the one that is due, or there was no memory
abbrev pub IsRefusal : {A : Type 0} → Result A ParseErr → ParseErr → Type 0
IsRefusal due error = (error ≡ Memory) ⊎ (due ≡ Err error)
