-- Tokens that stand within a text, each behind the one before.
use Rattle.std.proofs.Common.{◌≡◌, ◌≤◌, ◌<◌, ℕ, List, [], ◌∷◌, ◌++◌, ◌+◌, ◌-◌, length, drop, length-drop, arith, subst}
use Rattle.query_tokens.specs.declared.token.Token.{Token}
use Rattle.query_tokens.specs.Tokens.{AscendWithin}

-- the first place is at most the last
pub ascend_le : (from to : ℕ) (tokens : List Token) → AscendWithin from to tokens → from ≤ to
ascend_le from to [] h = h
ascend_le from to (token ∷ tokens) h = let rest = ascend_le token.end to tokens h.2 in let first = h.0 in let own = h.1 in omega arith

-- an earlier first place
ascend_from : (from before to : ℕ) (tokens : List Token) → before ≤ from → AscendWithin from to tokens → AscendWithin before to tokens
ascend_from from before to [] l h = omega arith
ascend_from from before to (token ∷ tokens) l h = let first = h.0 in (omega arith, h.1, h.2)

-- a later last place
pub ascend_to : (from to later : ℕ) (tokens : List Token) → to ≤ later → AscendWithin from to tokens → AscendWithin from later tokens
ascend_to from to later [] l h = omega arith
ascend_to from to later (token ∷ tokens) l h = (h.0, h.1, ascend_to token.end to later tokens l h.2)

one_more : (from to : ℕ) (tokens : List Token) (token : Token) → to ≤ token.start → token.start < token.end → AscendWithin from to tokens
    → AscendWithin from token.end (tokens ++ token ∷ [])
one_more from to [] token l own h = (omega arith, own, omega arith)
one_more from to (first ∷ tokens) token l own h = (h.0, h.1, one_more first.end to tokens token l own h.2)

-- one more token
pub ascend_more : (to : ℕ) (tokens next : List Token) (token : Token) → next ≡ tokens ++ token ∷ [] → to ≤ token.start → token.start < token.end
    → AscendWithin 0 to tokens → AscendWithin 0 token.end next
ascend_more to tokens next token e l own h = rw e (one_more 0 to tokens token l own h)

-- the tokens behind the first
pub ascend_behind : (to : ℕ) (token : Token) (behind tokens : List Token) → tokens ≡ token ∷ behind → AscendWithin 0 to tokens → AscendWithin 0 to behind
ascend_behind to token behind tokens e h =
    let all : AscendWithin 0 to (token ∷ behind) = subst (λ (ts : List Token). AscendWithin 0 to ts) e h in
    ascend_from token.end 0 to behind (omega arith) all.2

-- the first token ends within the text
pub first_end : (to : ℕ) (token : Token) (tokens behind : List Token) → tokens ≡ token ∷ behind → AscendWithin 0 to tokens → token.end ≤ to
first_end to token tokens behind e h =
    let all : AscendWithin 0 to (token ∷ behind) = subst (λ (ts : List Token). AscendWithin 0 to ts) e h in
    ascend_le token.end to behind all.2

-- a step over bytes that separate tokens
pub skip_turn : (total size : ℕ) (rest after : List ℕ) (tokens : List Token) → after ≡ drop size rest → AscendWithin 0 (total - length rest) tokens → AscendWithin 0 (total - length after) tokens
skip_turn total size rest after tokens a h =
    let le : total - length rest ≤ total - length after = rw a (omega (arith, length-drop size rest)) in
    ascend_to 0 (total - length rest) (total - length after) tokens le h

-- a step over a token
pub token_turn : (total size : ℕ) (rest after : List ℕ) (tokens next : List Token) (token : Token) → 0 < size → size ≤ length rest → length rest ≤ total → after ≡ drop size rest → next ≡ tokens ++ token ∷ []
    → token.start ≡ total - length rest → token.end ≡ total - length rest + size → AscendWithin 0 (total - length rest) tokens → AscendWithin 0 (total - length after) next
token_turn total size rest after tokens next token p l t a n s e h =
    let same : token.end ≡ total - length after = rw a (omega (arith, length-drop size rest)) in
    subst (λ (to : ℕ). AscendWithin 0 to next) same (ascend_more (total - length rest) tokens next token n (omega arith) (omega arith) h)
