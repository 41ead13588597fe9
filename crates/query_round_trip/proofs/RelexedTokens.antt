-- All tokens of a text: what is written for their words has tokens that are alike to them.
use Rattle.std.proofs.Common.{◌≡◌, ◌⊎◌, inl, inr, ℕ, List, [], ◌∷◌, drop, true, false, refl, ap, sym, ◌∙◌, subst}
use Rattle.std.specs.Prelude.{codes}
use Rattle.grammar_rules.specs.Lexemes.{Lexeme}
use Rattle.query_tokens.specs.declared.lexeme.Before.{Before}
use Rattle.query_tokens.specs.declared.symbol.Symbol.{Symbol}
use Rattle.query_tokens.specs.declared.symbol.Symbol.TheVariants as symbol
use Rattle.query_tokens.specs.declared.token.Token.{Token}
use Rattle.query_tokens.specs.Symbols.{symbol_number, symbol_of, is_same_word}
use Rattle.query_tokens.specs.Lexemes.{bytes_of, is_word_point, is_name_point, before_next, behind_point, lexeme_by, symbol_at}
use Rattle.query_print.specs.declared.behind.Behind.{Behind}
use Rattle.query_print.specs.Words.{Word, Fixed, Named, is_behind_stamp_point, behind_word, word_text}
use Rattle.query_round_trip.proofs.Alike.{word_by, word_of, words_of, is_point, Tidy, done, single, path}
use Rattle.query_round_trip.proofs.Forms.{Form, AllFormed}
use Rattle.query_round_trip.proofs.Pieces.{is_system, seen_symbol, quiet_symbol, quiet_word}
use Rattle.query_round_trip.proofs.TokenPieces.{Linked, Utf8Form, PieceFor, token_piece, point_number, name_system}
use Rattle.query_round_trip.proofs.Joined.{NoPointFirst}
use Rattle.query_round_trip.proofs.Relexing.{lexeme_list, Relexed, relexed_nil, relexed_cons, follows, no_point_symbol, quiet_next, no_stamp_next, is_system_behind, system_name, stamp_point, name_point_of, word_point_of, point_next, kept_point}

abbrev Cases : List Word → Type 0
Cases [] = Unit {0}
Cases (w ∷ ws) =
    ((is_point w ≡ false) × Tidy ws)
    ⊎ ((n : List ℕ) × (m : List ℕ) × (vs : List Word) × (w ≡ Named n) × (ws ≡ Fixed symbol.Point ∷ Named m ∷ vs) × Tidy vs)

tidy_cases : {ws : List Word} → Tidy ws → Cases ws
tidy_cases done = tt
tidy_cases (single p s) = inl (p, s)
tidy_cases (path {n = n} {m = m} {ws = ws} s) = inr (n, m, ws, refl, refl, s)

no_point_first : {ws : List Word} → Tidy ws → NoPointFirst ws
no_point_first done = tt
no_point_first (single p s) = p
no_point_first (path s) = refl

-- names in brackets and texts among the tokens are UTF-8
abbrev pub AllUtf8 : List ℕ → List Token → Type 0
AllUtf8 text [] = Unit {0}
AllUtf8 text (t ∷ ts) = Utf8Form t.kind (bytes_of text t) × AllUtf8 text ts

quiet_linked : (b : Before) (c : Behind) (d : Before) → is_name_point b ≡ false → is_behind_stamp_point c ≡ false → is_name_point d ≡ false → Linked b c d
quiet_linked b c d qb qc qd = record { stamp = qc ∙ sym qb; name_point = qd ∙ sym qb; word_point = quiet_word d qd ∙ sym qb }

never_named : (b : Before) (m : ℕ) (bytes : List ℕ) → is_name_point b ≡ false → is_name_point b ≡ true → (name : List ℕ) × (word_by m bytes ≡ Named name)
never_named b m bytes q e = let never : true ≡ false = sym e ∙ q in absurd (cc)

-- the tokens may be written behind any that leave no point
abbrev Relexes : List ℕ → List Token → Type 0
Relexes text ts =
    (b : Before) (c : Behind) (d : Before) → AllFormed text ts → AllUtf8 text ts → is_name_point b ≡ false → is_behind_stamp_point c ≡ false → is_name_point d ≡ false
    → Tidy (words_of (lexeme_list b text ts)) → Relexed c d (lexeme_list b text ts)

quiet_piece : (text : List ℕ) (t : Token) (b : Before) (c : Behind) (d : Before) → Form t.kind (bytes_of text t) → Utf8Form t.kind (bytes_of text t) → is_name_point b ≡ false → is_behind_stamp_point c ≡ false
    → is_name_point d ≡ false → PieceFor (symbol_number (symbol_at b text t)) (bytes_of text t) c d
quiet_piece text t b c d f u qb qc qd =
    token_piece t.kind b c d (bytes_of text t) (quiet_linked b c d qb qc qd) f u (never_named b (symbol_number (symbol_at b text t)) (bytes_of text t) qb)

abbrev after_piece : (m : ℕ) (bytes : List ℕ) (c : Behind) (d : Before) → PieceFor m bytes c d → Before
after_piece m bytes c d p = before_next d (seen_symbol d p.kind_is (word_text c (word_by m bytes))) (word_text c (word_by m bytes))

quiet_after : (m : ℕ) (bytes : List ℕ) (c : Behind) (d : Before) (p : PieceFor m bytes c d) → is_point (word_by m bytes) ≡ false → is_name_point (after_piece m bytes c d p) ≡ false
quiet_after m bytes c d p e =
    let text : List ℕ = word_text c (word_by m bytes) in
    quiet_next d (seen_symbol d p.kind_is (word_text c (word_by m bytes))) (word_text c (word_by m bytes))
    (no_point_symbol (seen_symbol d p.kind_is (word_text c (word_by m bytes))) (word_text c (word_by m bytes)) (ap is_point p.word ∙ e))

single_case : (text : List ℕ) (t : Token) (ts : List Token) → Relexes text ts → (b : Before) (c : Behind) (d : Before) → AllFormed text (t ∷ ts) → AllUtf8 text (t ∷ ts) → is_name_point b ≡ false
    → is_behind_stamp_point c ≡ false → is_name_point d ≡ false → is_point (word_of (lexeme_by (symbol_at b text t) text t)) ≡ false
    → Tidy (words_of (lexeme_list (before_next b (symbol_at b text t) (bytes_of text t)) text ts)) → Relexed c d (lexeme_list b text (t ∷ ts))
single_case text t ts one b c d f u qb qc qd e tidy =
    let bytes : List ℕ = bytes_of text t in
    let m : ℕ = symbol_number (symbol_at b text t) in
    let p = quiet_piece text t b c d f.0 u.0 qb qc qd in
    let w : Word = word_by (symbol_number (symbol_at b text t)) (bytes_of text t) in
    let next : Before = before_next b (symbol_at b text t) (bytes_of text t) in
    relexed_cons c d (lexeme_by (symbol_at b text t) text t) (lexeme_list next text ts) p
    (follows c w (words_of (lexeme_list next text ts)) (inl (no_point_first tidy)))
    (one next (behind_word c w) (after_piece (symbol_number (symbol_at b text t)) (bytes_of text t) c d p) f.1 u.1
    (quiet_next b (symbol_at b text t) (bytes_of text t) (no_point_symbol (symbol_at b text t) (bytes_of text t) e)) (no_stamp_next c w e)
    (quiet_after (symbol_number (symbol_at b text t)) (bytes_of text t) c d p e) tidy)

-- ---- a path: a name, a point and a name

seen_quiet : (text : List ℕ) (t : Token) (b : Before) → is_name_point b ≡ false → symbol_at b text t ≡ symbol_of t.kind (bytes_of text t)
seen_quiet text t b q = quiet_symbol b (symbol_of t.kind (bytes_of text t)) (bytes_of text t) q

word_quiet : (text : List ℕ) (t : Token) (b : Before) (w : Word) → is_name_point b ≡ false → word_by (symbol_number (symbol_at b text t)) (bytes_of text t) ≡ w
    → word_by (symbol_number (symbol_of t.kind (bytes_of text t))) (bytes_of text t) ≡ w
word_quiet text t b w q e = ap (λ (s : Symbol). word_by (symbol_number s) (bytes_of text t)) (sym (seen_quiet text t b q)) ∙ e

module _ (text : List ℕ) (t1 t2 t3 : Token) (ts : List Token) (b : Before) (c : Behind) (d : Before) (f : AllFormed text (t1 ∷ t2 ∷ t3 ∷ ts)) (u : AllUtf8 text (t1 ∷ t2 ∷ t3 ∷ ts))
    (qb : is_name_point b ≡ false) (qc : is_behind_stamp_point c ≡ false) (qd : is_name_point d ≡ false) (n m : List ℕ) where
  abbrev m1 : ℕ
  m1 = symbol_number (symbol_at b text t1)

  abbrev w1 : Word
  w1 = word_by m1 (bytes_of text t1)

  abbrev b1 : Before
  b1 = before_next b (symbol_at b text t1) (bytes_of text t1)

  abbrev c1 : Behind
  c1 = behind_word c w1

  abbrev p1 : PieceFor m1 (bytes_of text t1) c d
  p1 = quiet_piece text t1 b c d f.0 u.0 qb qc qd

  abbrev d1 : Before
  d1 = after_piece m1 (bytes_of text t1) c d p1

  abbrev m2 : ℕ
  m2 = symbol_number (symbol_at b1 text t2)

  abbrev w2 : Word
  w2 = word_by m2 (bytes_of text t2)

  abbrev b2 : Before
  b2 = before_next b1 (symbol_at b1 text t2) (bytes_of text t2)

  abbrev c2 : Behind
  c2 = behind_word c1 w2

  abbrev m3 : ℕ
  m3 = symbol_number (symbol_at b2 text t3)

  abbrev w3 : Word
  w3 = word_by m3 (bytes_of text t3)

  abbrev b3 : Before
  b3 = before_next b2 (symbol_at b2 text t3) (bytes_of text t3)

  module _ (e1 : w1 ≡ Named n) (e2 : w2 ≡ Fixed symbol.Point) (e3 : w3 ≡ Named m) where
    no_point_1 : is_point w1 ≡ false
    no_point_1 = ap is_point e1

    quiet_b1 : is_name_point b1 ≡ false
    quiet_b1 = quiet_next b (symbol_at b text t1) (bytes_of text t1) (no_point_symbol (symbol_at b text t1) (bytes_of text t1) no_point_1)

    quiet_c1 : is_behind_stamp_point c1 ≡ false
    quiet_c1 = no_stamp_next c w1 no_point_1

    quiet_d1 : is_name_point d1 ≡ false
    quiet_d1 = quiet_after m1 (bytes_of text t1) c d p1 no_point_1

    abbrev p2 : PieceFor m2 (bytes_of text t2) c1 d1
    p2 = quiet_piece text t2 b1 c1 d1 f.1.0 u.1.0 quiet_b1 quiet_c1 quiet_d1

    abbrev d2 : Before
    d2 = after_piece m2 (bytes_of text t2) c1 d1 p2

    system_b1 : is_system b1 ≡ is_same_word n (codes "System")
    system_b1 =
        ap (λ (s : Symbol). is_system (before_next b s (bytes_of text t1))) (seen_quiet text t1 b qb)
        ∙ name_system t1.kind b (bytes_of text t1) n f.0 (word_quiet text t1 b (Named n) qb e1)

    system_c1 : is_system_behind c1 ≡ is_same_word n (codes "System")
    system_c1 = ap (λ (w : Word). is_system_behind (behind_word c w)) e1 ∙ system_name (is_same_word n (codes "System"))

    point_2 : m2 ≡ symbol_number symbol.Point
    point_2 =
        ap symbol_number (seen_quiet text t2 b1 quiet_b1)
        ∙ point_number t2.kind (bytes_of text t2) f.1.0 (word_quiet text t2 b1 (Fixed symbol.Point) quiet_b1 e2)

    b2_is : b2 ≡ behind_point b1
    b2_is = point_next b1 (symbol_at b1 text t2) (bytes_of text t2) point_2

    d2_is : d2 ≡ behind_point d1
    d2_is =
        point_next d1 (seen_symbol d1 p2.kind_is (word_text c1 w2)) (word_text c1 w2)
        (kept_point m2 (symbol_number (seen_symbol d1 p2.kind_is (word_text c1 w2))) point_2 p2.kept)

    name_point_b2 : is_name_point b2 ≡ is_same_word n (codes "System")
    name_point_b2 = ap is_name_point b2_is ∙ name_point_of b1 ∙ system_b1

    linked_2 : Linked b2 c2 d2
    linked_2 = record {
      stamp = ap (λ (w : Word). is_behind_stamp_point (behind_word c1 w)) e2 ∙ stamp_point c1 ∙ system_c1 ∙ sym name_point_b2;
      name_point = ap is_name_point d2_is ∙ name_point_of d1 ∙ (p1.system n e1).0 ∙ sym name_point_b2;
      word_point = ap is_word_point d2_is ∙ word_point_of d1 ∙ (p1.system n e1).1 ∙ sym name_point_b2;
    }

    abbrev p3 : PieceFor m3 (bytes_of text t3) c2 d2
    p3 = token_piece t3.kind b2 c2 d2 (bytes_of text t3) linked_2 f.1.1.0 u.1.1.0 (λ _. (m, e3))

    no_point_3 : is_point w3 ≡ false
    no_point_3 = ap is_point e3

    path_case : Relexes text ts → Tidy (words_of (lexeme_list b3 text ts)) → Relexed c d (lexeme_list b text (t1 ∷ t2 ∷ t3 ∷ ts))
    path_case two tidy =
        let l3 : Lexeme = lexeme_by (symbol_at b2 text t3) text t3 in
        let r = two b3 (behind_word c2 w3) (after_piece m3 (bytes_of text t3) c2 d2 p3) f.1.1.1 u.1.1.1
        (quiet_next b2 (symbol_at b2 text t3) (bytes_of text t3) (no_point_symbol (symbol_at b2 text t3) (bytes_of text t3) no_point_3))
        (no_stamp_next c2 w3 no_point_3) (quiet_after m3 (bytes_of text t3) c2 d2 p3 no_point_3) tidy in
        let r3 = relexed_cons c2 d2 (lexeme_by (symbol_at b2 text t3) text t3) (lexeme_list b3 text ts) p3 (follows c2 w3 (words_of (lexeme_list b3 text ts)) (inr (m, e3))) r in
        let r2 = relexed_cons c1 d1 (lexeme_by (symbol_at b1 text t2) text t2) (lexeme_list b2 text (t3 ∷ ts)) p2 (follows c1 w2 (words_of (lexeme_list b2 text (t3 ∷ ts))) (inl no_point_3)) r3 in
        relexed_cons c d (lexeme_by (symbol_at b text t1) text t1) (lexeme_list b1 text (t2 ∷ t3 ∷ ts)) p1 (follows c w1 (words_of (lexeme_list b1 text (t2 ∷ t3 ∷ ts))) (inr (n, e1))) r2

-- ---- all tokens

first_same : (w v : Word) (ws vs : List Word) → w ∷ ws ≡ v ∷ vs → w ≡ v
first_same w v ws vs e = cc

rest_same : (w v : Word) (ws vs : List Word) → w ∷ ws ≡ v ∷ vs → ws ≡ vs
rest_same w v ws vs e = cc

path_tokens : (text : List ℕ) (t : Token) (ts : List Token) → Relexes text (drop 2 ts) → (b : Before) (c : Behind) (d : Before) → AllFormed text (t ∷ ts) → AllUtf8 text (t ∷ ts)
    → is_name_point b ≡ false → is_behind_stamp_point c ≡ false → is_name_point d ≡ false → (n m : List ℕ) (vs : List Word) → word_of (lexeme_by (symbol_at b text t) text t) ≡ Named n
    → words_of (lexeme_list (before_next b (symbol_at b text t) (bytes_of text t)) text ts) ≡ Fixed symbol.Point ∷ Named m ∷ vs → Tidy vs → Relexed c d (lexeme_list b text (t ∷ ts))
path_tokens text t [] two b c d f u qb qc qd n m vs e1 e2 tidy = absurd (cc)
path_tokens text t (t2 ∷ []) two b c d f u qb qc qd n m vs e1 e2 tidy =
    let e = rest_same _ (Fixed symbol.Point) [] (Named m ∷ vs) e2 in absurd (cc)
path_tokens text t (t2 ∷ t3 ∷ ts) two b c d f u qb qc qd n m vs e1 e2 tidy =
    let first = first_same (w2 text t t2 t3 ts b c d f u qb qc qd n m) (Fixed symbol.Point) _ (Named m ∷ vs) e2 in
    let rest = rest_same (w2 text t t2 t3 ts b c d f u qb qc qd n m) (Fixed symbol.Point) _ (Named m ∷ vs) e2 in
    let second = first_same (w3 text t t2 t3 ts b c d f u qb qc qd n m) (Named m) _ vs rest in
    let behind = rest_same (w3 text t t2 t3 ts b c d f u qb qc qd n m) (Named m) _ vs rest in
    path_case text t t2 t3 ts b c d f u qb qc qd n m e1 first second two (subst Tidy (sym behind) tidy)

step : (text : List ℕ) (t : Token) (ts : List Token) → Relexes text ts → Relexes text (drop 2 ts) → Relexes text (t ∷ ts)
step text t ts one two b c d f u qb qc qd tidy = by_cases (tidy_cases tidy)
  where
    by_cases : Cases (words_of (lexeme_list b text (t ∷ ts))) → Relexed c d (lexeme_list b text (t ∷ ts))
    by_cases (inl h) = single_case text t ts one b c d f u qb qc qd h.0 h.1
    by_cases (inr h) = path_tokens text t ts two b c d f u qb qc qd h.0 h.1 h.2 h.3 h.4 h.5

nil : (text : List ℕ) → Relexes text []
nil text b c d f u qb qc qd tidy = relexed_nil c d

three : (text : List ℕ) (ts : List Token) → Relexes text ts × Relexes text (drop 1 ts) × Relexes text (drop 2 ts)
three text [] = (nil text, nil text, nil text)
three text (t ∷ ts) = let r = three text ts in (step text t ts r.0 r.2, r.0, r.1)

pub relexed_tokens : (text : List ℕ) (ts : List Token) → Relexes text ts
relexed_tokens text ts = (three text ts).0
