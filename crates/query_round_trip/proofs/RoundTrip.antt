-- The canonical text of a query is read again as the same query, but for its places.
use Rattle.std.proofs.Common.{◌≡◌, ◌+◌, ◌-◌, ◌<◌, ◌≤◌, ℕ, zero, suc, List, [], ◌∷◌, ◌++◌, length, drop, take, get_or, Bool, true, false, refl, ap, sym, ◌∙◌, subst, arith, length-append, length-drop, get_or-drop}
use Rattle.std.proofs.lemmas.List.{take_at, take-append-drop}
use Rattle.std.proofs.lemmas.Str.{IsUtf8-drop, IsUtf8-take, IsCharBoundary-before_ascii, IsCharBoundary-after_ascii, IsUtf8-from_is_utf8, IsUtf8-nil}
use Rattle.std.specs.Str.{IsUtf8, is_utf8}
use Rattle.std.specs.Str.Lossy.{utf8_valid_len, valid_len_up_to}
use Rattle.std.specs.Prelude.{◌==◌, if◌then◌else◌, nat_le, slice_range, Ok, Err}
use Rattle.grammar_rules.specs.Lexemes.{Lexeme}
use Rattle.query_tokens.specs.declared.lexeme.Before.TheVariants as before
use Rattle.query_tokens.specs.declared.parse_err.ParseErr.TheVariants.{Utf8, TooLong}
use Rattle.query_tokens.specs.declared.token.Token.{Token}
use Rattle.query_tokens.specs.declared.token.TokenKind.{TokenKind}
use Rattle.query_tokens.specs.declared.token.TokenKind.TheVariants as kind
use Rattle.query_tokens.specs.Bytes.{max_text, quote, open_bracket, close_bracket}
use Rattle.query_tokens.specs.Tokens.{tokens_of, tokens_from}
use Rattle.query_tokens.specs.Lexemes.{end_of, lexemes_of}
use Rattle.query_tokens.proofs.SymbolLemmas.{equal_numbers}
use Rattle.query_tokens.proofs.TokensLemmas.{tokens_of-valid}
use Rattle.query_tree.specs.declared.script.Script.{Script}
use Rattle.query_grammar.specs.StatementGrammar.{script, statements}
use Rattle.query_grammar.specs.Queries.{query_limits, IsScript}
use Rattle.query_print.specs.declared.behind.Behind.TheVariants as behind
use Rattle.query_print.specs.Words.{Word}
use Rattle.query_print.specs.Scripts.{script_words, canonical_text}
use Rattle.query_print.specs.Unplaced.{IsSameButPlaces, bare_script}
use Rattle.query_round_trip.specs.Rereading.{IsReadAgain}
use Rattle.query_round_trip.proofs.Alike.{words_of}
use Rattle.query_round_trip.proofs.StatementPrints.{printed_statements}
use Rattle.query_round_trip.proofs.Forms.{Form, AllFormed, tokens_formed}
use Rattle.query_round_trip.proofs.TokenPieces.{Utf8Form}
use Rattle.query_round_trip.proofs.Joined.{joined, text_of-joined}
use Rattle.query_round_trip.proofs.Relexing.{lexeme_list, lexemes_behind-end, Relexed}
use Rattle.query_round_trip.proofs.RelexedTokens.{AllUtf8, relexed_tokens}

-- ---- texts that are UTF-8

up_to_le : (bs : List ℕ) (m : ℕ) → valid_len_up_to bs m ≤ m
up_to_le bs zero = omega arith
up_to_le bs (suc m) = by_cases (is_utf8 (take (suc m) bs)) (up_to_le bs m)
  where
    by_cases : (t : Bool) → valid_len_up_to bs m ≤ m → (if t then suc m else valid_len_up_to bs m) ≤ suc m
    by_cases true h = omega arith
    by_cases false h = omega arith

valid_front : (bs : List ℕ) (m : ℕ) → valid_len_up_to bs m ≡ m → IsUtf8 (take m bs)
valid_front bs zero e = IsUtf8-nil
valid_front bs (suc m) e = by_cases (is_utf8 (take (suc m) bs)) refl e (up_to_le bs m)
  where
    by_cases : (t : Bool) → is_utf8 (take (suc m) bs) ≡ t → (if t then suc m else valid_len_up_to bs m) ≡ suc m → valid_len_up_to bs m ≤ m → IsUtf8 (take (suc m) bs)
    by_cases true u h le = IsUtf8-from_is_utf8 (take (suc m) bs) u
    by_cases false u h le = absurd (omega arith)

utf8_whole : (bs : List ℕ) → utf8_valid_len bs ≡ length bs → IsUtf8 bs
unfolding utf8_valid_len
utf8_whole bs e = subst IsUtf8 (take_all bs) (valid_front bs (length bs) e)
  where
    take_all : (xs : List ℕ) → take (length xs) xs ≡ xs
    take_all [] = refl
    take_all (x ∷ xs) = ap (λ (l : List ℕ). x ∷ l) (take_all xs)

-- what the tokens of a text say of it
pub record Lexed (text : List ℕ) (tokens : List Token) : Type 0 where
  pub read : tokens_from 0 0 text ≡ Ok tokens
  pub utf8 : IsUtf8 text

lexed : (text : List ℕ) (tokens : List Token) → tokens_of text ≡ Ok tokens → Lexed text tokens
lexed text tokens e = by_cases (nat_le (length text) max_text) (utf8_valid_len text == length text) refl e
  where
    by_cases : (a b : Bool) → (utf8_valid_len text == length text) ≡ b → (if a then (if b then tokens_from 0 0 text else Err (Utf8 (utf8_valid_len text))) else Err TooLong) ≡ Ok tokens → Lexed text tokens
    by_cases true true u h = record { read = h; utf8 = utf8_whole text (equal_numbers (utf8_valid_len text) (length text) u) }
    by_cases true false u h = absurd (cc)
    by_cases false b u h = absurd (cc)

-- ---- names in brackets and texts of a text that is UTF-8

-- a part between two ASCII bytes, with these
utf8_part : (text : List ℕ) (i n a z : ℕ) (mid : List ℕ) → IsUtf8 text → a < 128 → z < 128 → take n (drop i text) ≡ a ∷ mid ++ z ∷ [] → IsUtf8 (a ∷ mid ++ z ∷ [])
utf8_part text i n a z mid u la lz e =
    let part : List ℕ = a ∷ mid ++ z ∷ [] in
    let rest : List ℕ = drop n (drop i text) in
    let all : drop i text ≡ (a ∷ mid ++ z ∷ []) ++ drop n (drop i text) = sym (take-append-drop n (drop i text)) ∙ ap (λ (l : List ℕ). l ++ drop n (drop i text)) e in
    let size : length (drop i text) ≡ length ((a ∷ mid ++ z ∷ []) ++ drop n (drop i text)) = ap length all in
    let len : length ((a ∷ mid ++ z ∷ []) ++ drop n (drop i text)) ≡ length mid + 2 + length (drop n (drop i text)) =
    omega (arith, length-append (a ∷ mid ++ z ∷ []) (drop n (drop i text)), length-append mid (z ∷ [])) in
    let within : i < length text = omega (arith, length-drop i text) in
    let first : get_or text i 0 ≡ a = here i text 0 a (ap (λ (l : List ℕ). get_or l 0 0) all) in
    let behind : IsUtf8 (drop i text) = IsUtf8-drop text i u (IsCharBoundary-before_ascii text i within (omega arith)) in
    let tail : IsUtf8 ((a ∷ mid ++ z ∷ []) ++ drop n (drop i text)) = subst IsUtf8 all behind in
    let last : get_or ((a ∷ mid ++ z ∷ []) ++ drop n (drop i text)) (suc (length mid)) 0 ≡ z = last_at mid z (drop n (drop i text)) in
    let cut = IsCharBoundary-after_ascii ((a ∷ mid ++ z ∷ []) ++ drop n (drop i text)) (suc (length mid)) tail (omega arith) (omega arith) in
    let len_part : length (a ∷ mid ++ z ∷ []) ≡ suc (length mid) + 1 = omega (arith, length-append mid (z ∷ [])) in
    subst IsUtf8 (take_at (a ∷ mid ++ z ∷ []) (drop n (drop i text)) (suc (length mid) + 1) len_part) (IsUtf8-take ((a ∷ mid ++ z ∷ []) ++ drop n (drop i text)) (suc (length mid) + 1) tail cut)
  where
    here : (i : ℕ) (xs : List ℕ) (d a : ℕ) → get_or (drop i xs) 0 d ≡ a → get_or xs i d ≡ a
    here zero xs d a h = h
    here (suc i) [] d a h = h
    here (suc i) (x ∷ xs) d a h = here_in i xs d a h
      where
        here_in : (i : ℕ) (xs : List ℕ) (d a : ℕ) → get_or (drop i xs) 0 d ≡ a → get_or xs i d ≡ a
        here_in i xs d a h = let e : get_or (drop i xs) 0 d ≡ get_or xs (i + 0) d = get_or-drop i xs 0 d in let s : i + 0 ≡ i = omega arith in sym (ap (λ (k : ℕ). get_or xs k d) s) ∙ sym e ∙ h

    last_at : (mid : List ℕ) (z : ℕ) (rest : List ℕ) → get_or ((mid ++ z ∷ []) ++ rest) (length mid) 0 ≡ z
    last_at [] z rest = refl
    last_at (b ∷ mid) z rest = last_at mid z rest

token_utf8 : (k : TokenKind) (text : List ℕ) (i j : ℕ) → IsUtf8 text → Form k (slice_range text i j) → Utf8Form k (slice_range text i j)
token_utf8 kind.Word text i j u f = tt
token_utf8 kind.Bracketed text i j u f =
    subst IsUtf8 (sym f.1) (utf8_part text i (j - i) open_bracket close_bracket f.0 u (omega arith) (omega arith) f.1)
token_utf8 kind.Number text i j u f = tt
token_utf8 kind.Text text i j u f =
    subst IsUtf8 (sym f.1) (utf8_part text i (j - i) quote quote f.0 u (omega arith) (omega arith) f.1)
token_utf8 kind.Sign text i j u f = tt

tokens_utf8 : (text : List ℕ) (tokens : List Token) → IsUtf8 text → AllFormed text tokens → AllUtf8 text tokens
tokens_utf8 text [] u f = tt
tokens_utf8 text (t ∷ ts) u f = (token_utf8 t.kind text t.start t.end u f.0, tokens_utf8 text ts u f.1)

-- ---- the tokens of a query without the end of its text

same_front : (xs ys : List Lexeme) (x y : Lexeme) → xs ++ x ∷ [] ≡ ys ++ y ∷ [] → xs ≡ ys
same_front [] [] x y e = refl
same_front [] (b ∷ []) x y e = cc
same_front [] (b ∷ c ∷ ys) x y e = cc
same_front (a ∷ []) [] x y e = cc
same_front (a ∷ c ∷ xs) [] x y e = cc
same_front (a ∷ xs) (b ∷ ys) x y e =
    let head : a ≡ b = cc in
    let tail : xs ++ x ∷ [] ≡ ys ++ y ∷ [] = cc in
    ap (λ (l : Lexeme). l ∷ xs) head ∙ ap (λ (l : List Lexeme). b ∷ l) (same_front xs ys x y tail)

-- the tokens of a tree are those of its text but for the end
pub record Stated (text : List ℕ) (tokens : List Token) (found : Script) : Type 0 where
  pub whole : (statements query_limits).whole (lexeme_list before.Other text tokens) found

stated : (text : List ℕ) (tokens : List Token) (found : Script) → (script query_limits).whole (lexemes_of text tokens) found → Stated text tokens found
stated text tokens found w =
    let ends = w.1.4 in
    let all : w.1.0 ++ w.0.1 ∷ [] ≡ lexeme_list before.Other text tokens ++ end_of text ∷ [] =
    ap (λ (l : List Lexeme). w.1.0 ++ l) (sym ends.0) ∙ w.1.2 ∙ lexemes_behind-end before.Other text tokens in
    let front : w.1.0 ≡ lexeme_list before.Other text tokens = same_front w.1.0 (lexeme_list before.Other text tokens) w.0.1 (end_of text) all in
    record {
      whole = subst (λ (s : Script). (statements query_limits).whole (lexeme_list before.Other text tokens) s) (sym w.2)
          (subst (λ (l : List Lexeme). (statements query_limits).whole l w.0.0) front w.1.3);
    }

ended : (text : List ℕ) (tokens : List Token) (found : Script) → (statements query_limits).whole (lexeme_list before.Other text tokens) found → (script query_limits).whole (lexemes_of text tokens) found
ended text tokens found w =
    ((found, end_of text), (lexeme_list before.Other text tokens, end_of text ∷ [], sym (lexemes_behind-end before.Other text tokens), w, (refl, refl)), refl)

-- ---- the round trip

canonical_joined : (found : Script) (ws : List Word) → ws ≡ script_words found → canonical_text found ≡ joined behind.Start ws
unfolding canonical_text
canonical_joined found ws e = text_of-joined (script_words found) ∙ ap (joined behind.Start) (sym e)

same_places : (again found : Script) → bare_script again ≡ bare_script found → IsSameButPlaces again found
unfolding IsSameButPlaces
same_places again found e = e

module _ (text : List ℕ) (found : Script) (tokens : List Token) (l : Lexed text tokens) (s : Stated text tokens found) (short : length (canonical_text found) ≤ max_text) where
  written : canonical_text found ≡ joined behind.Start (words_of (lexeme_list before.Other text tokens))
  written = canonical_joined found (words_of (lexeme_list before.Other text tokens)) ((printed_statements query_limits).words (lexeme_list before.Other text tokens) found s.whole)

  relexed : Relexed behind.Start before.Other (lexeme_list before.Other text tokens)
  relexed =
      let formed = tokens_formed text tokens l.read in
      relexed_tokens text tokens before.Other behind.Start before.Other formed (tokens_utf8 text tokens l.utf8 formed) refl refl refl
      ((printed_statements query_limits).tidy (lexeme_list before.Other text tokens) found s.whole)

  canonical_utf8 : IsUtf8 (canonical_text found)
  canonical_utf8 = subst IsUtf8 (sym written) relexed.utf8

  reread : (again : Script) × IsScript (canonical_text found) again × IsSameButPlaces again found
  reread =
      let r = relexed.again (canonical_text found) [] written in
      let read : tokens_of (canonical_text found) ≡ Ok r.0 =
      tokens_of-valid (canonical_text found) short canonical_utf8 ∙ ap (λ (bytes : List ℕ). tokens_from 0 0 bytes) written ∙ r.1 in
      let n = (printed_statements query_limits).again (lexeme_list before.Other text tokens) (lexeme_list before.Other (canonical_text found) r.0) found s.whole r.2 in
      (n.found, (r.0, read, ended (canonical_text found) r.0 n.found n.whole), same_places n.found found n.same)

pub read_again : (text : List ℕ) (found : Script) → IsReadAgain text found
unfolding IsReadAgain
read_again text found = λ h short. reread text found h.0 (lexed text h.0 h.1) (stated text h.0 found h.2) short
