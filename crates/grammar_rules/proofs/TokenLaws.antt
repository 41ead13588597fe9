-- Readers of one token and of nothing, and a token that opens.
use Rattle.std.proofs.Common.{◌≡◌, ◌⊎◌, inl, inr, ℕ, zero, List, [], ◌∷◌, ◌++◌, drop, Bool, true, false, refl, ap, sym, ◌∙◌, subst}
use Rattle.std.specs.Prelude.{if◌then◌else◌, Ok, Err}
use Rattle.grammar_rules.specs.declared.stop.Stop.{Stop}
use Rattle.grammar_rules.specs.declared.stop.Stop.TheVariants.{Expected, Deep}
use Rattle.grammar_rules.specs.Lexemes.{Lexeme, among, begins_with, first_of, Ended, no_symbol, end_symbol}
use Rattle.grammar_rules.specs.Rules.{Grammar, token, nothing, both, opened}
use Rattle.grammar_rules.specs.Readers.{Reading, Reader, read_token, read_nothing, then_read, read_opened}
use Rattle.grammar_rules.specs.Laws.{Among, Free, Under, Got, IsVerdict, StopsAt, Reads, Keeps}
use Rattle.grammar_rules.proofs.Cuts.{either, if_true, if_false}

module _ (set : List ℕ) where
  abbrev taken : List Lexeme → Reading Lexeme
  taken ts = Ok (first_of ts, drop 1 ts)

  abbrev refused : List Lexeme → Reading Lexeme
  refused ts = Err (Expected, ts)

  pub reads_yes : (ts : List Lexeme) → begins_with set ts ≡ true → read_token set ts ≡ Ok (first_of ts, drop 1 ts)
  reads_yes ts h = if_true (begins_with set ts) (taken ts) (refused ts) h

  pub reads_no : (ts : List Lexeme) → begins_with set ts ≡ false → read_token set ts ≡ Err (Expected, ts)
  reads_no ts h = if_false (begins_with set ts) (taken ts) (refused ts) h

  ok_parts : (ts rest : List Lexeme) (a : Lexeme) → begins_with set ts ≡ true → read_token set ts ≡ Ok (a, rest) → (a ≡ first_of ts) × (drop 1 ts ≡ rest)
  ok_parts ts rest a h e =
      let given : Lexeme × List Lexeme = (first_of ts, drop 1 ts) in
      let taken_is = sym (reads_yes ts h) ∙ e in
      let same : given ≡ (a, rest) = cc (taken_is) in
      (sym (ap (λ (p : Lexeme × List Lexeme). p.0) same), ap (λ (p : Lexeme × List Lexeme). p.1) same)

  no_second : (t u : Lexeme) → (token set).beginning (t ∷ u ∷ []) → ⊥
  no_second t u (inl e) = cc
  no_second t u (inr s) = cc (s.1)

  not_one : (t : Lexeme) → (Among set t → ⊥) → (token set).beginning (t ∷ []) → ⊥
  not_one t h (inl e) = cc
  not_one t h (inr s) = let same : t ≡ s.0 = cc (s.1) in h (subst (λ (u : Lexeme). Among set u) (sym same) s.2)

  no_true : (b : Bool) → b ≡ false → b ≡ true → ⊥
  no_true b e f = cc

  module _ (absent : among set no_symbol ≡ false) where
    token_got : (ts rest : List Lexeme) (a : Lexeme) → read_token set ts ≡ Ok (a, rest) → Got Lexeme (token set) (token set) ts a rest
    token_got ts rest a e = by_cases ts (either (begins_with set ts)) e
      where
        by_cases : (ts : List Lexeme) → (begins_with set ts ≡ true) ⊎ (begins_with set ts ≡ false) → read_token set ts ≡ Ok (a, rest) → Got Lexeme (token set) (token set) ts a rest
        by_cases [] (inl h) e = absurd (no_true (among set no_symbol) absent h)
        by_cases (t ∷ ts) (inl h) e =
            let parts = ok_parts (t ∷ ts) rest a h e in
            record {
              used = t ∷ [];
              all = ap (λ (xs : List Lexeme). t ∷ xs) (sym parts.1);
              whole = (ap (λ (x : Lexeme). x ∷ []) (sym parts.0), subst (λ (x : Lexeme). Among set x) (sym parts.0) h);
              over = λ u more r g. no_second t u g;
            }
        by_cases ts (inr h) e = let stopped = sym (reads_no ts h) ∙ e in cc (stopped)

    token_stopped : (ts rest : List Lexeme) (stop : Stop) → Ended ts → read_token set ts ≡ Err (stop, rest) → StopsAt (token set).beginning (token set).beginning ts stop rest
    token_stopped ts rest stop ended e = by_cases ts ended (either (begins_with set ts)) e
      where
        by_cases : (ts : List Lexeme) → Ended ts → (begins_with set ts ≡ true) ⊎ (begins_with set ts ≡ false) → read_token set ts ≡ Err (stop, rest)
            → StopsAt (token set).beginning (token set).beginning ts stop rest
        by_cases [] ended h e = absurd ended
        by_cases (t ∷ ts) ended (inl h) e = let took = sym (reads_yes (t ∷ ts) h) ∙ e in cc (took)
        by_cases (t ∷ ts) ended (inr h) e =
            let given : Stop × List Lexeme = (Expected, t ∷ ts) in
            let stopped = sym (reads_no (t ∷ ts) h) ∙ e in
            let same : given ≡ (stop, rest) = cc (stopped) in
            let unfit : (token set).beginning (t ∷ []) → ⊥ = not_one t (no_true (among set t.symbol) h) in
            record {
              used = [];
              token = t;
              more = ts;
              at = sym (ap (λ (p : Stop × List Lexeme). p.1) same);
              all = sym (ap (λ (p : Stop × List Lexeme). p.1) same);
              fits = inl refl;
              unfit = unfit;
              verdict = subst (λ (s : Stop). IsVerdict s ((token set).beginning (t ∷ []))) (ap (λ (p : Stop × List Lexeme). p.0) same) unfit;
            }

    token_complete : (used rest : List Lexeme) (a : Lexeme) → (token set).whole used a → Free [] rest → read_token set (used ++ rest) ≡ Ok (a, rest)
    token_complete used rest a w free = ap (λ (xs : List Lexeme). read_token set (xs ++ rest)) w.0 ∙ reads_yes (a ∷ rest) w.1

    pub Reads-token : Reads Lexeme (token set) (token set) [] (read_token set)
    Reads-token = record { got = token_got; stopped = token_stopped; complete = token_complete }

  module _ (no_end : among set end_symbol ≡ false) (absent : among set no_symbol ≡ false) where
    not_end : (t : Lexeme) → among set t.symbol ≡ true → t.symbol ≡ end_symbol → ⊥
    not_end t h e = no_true (among set end_symbol) no_end (sym (ap (among set) e) ∙ h)

    behind : (t : Lexeme) (ts : List Lexeme) → Ended (t ∷ ts) → among set t.symbol ≡ true → Ended ts
    behind t [] ended h = not_end t h ended
    behind t (u ∷ ts) ended h = ended.1

    kept : (ts rest : List Lexeme) (a : Lexeme) → Ended ts → (begins_with set ts ≡ true) ⊎ (begins_with set ts ≡ false) → read_token set ts ≡ Ok (a, rest) → Ended rest
    kept [] rest a ended h e = absurd ended
    kept (t ∷ ts) rest a ended (inl h) e = subst Ended (ok_parts (t ∷ ts) rest a h e).1 (behind t ts ended h)
    kept (t ∷ ts) rest a ended (inr h) e = let stopped = sym (reads_no (t ∷ ts) h) ∙ e in cc (stopped)

    pub Keeps-token : Keeps Lexeme (read_token set)
    Keeps-token = record { ended = λ ts rest a ended e. kept ts rest a ended (either (begins_with set ts)) e }

-- ---- nothing

pub Reads-nothing : Reads (Unit {0}) nothing nothing [] read_nothing
Reads-nothing = record {
  got = λ ts rest a e. nothing_got ts rest a e;
  stopped = λ ts rest stop ended e. cc;
  complete = λ used rest a w f. nothing_complete used rest a w;
}
  where
    nothing_got : (ts rest : List Lexeme) (a : Unit {0}) → read_nothing ts ≡ Ok (a, rest) → Got (Unit {0}) nothing nothing ts a rest
    nothing_got ts rest a e =
        let given : Unit {0} × List Lexeme = (tt, ts) in
        let same : given ≡ (a, rest) = cc in
        record { used = []; all = sym (ap (λ (p : Unit {0} × List Lexeme). p.1) same); whole = refl; over = λ t more r f. cc (f) }

    nothing_complete : (used rest : List Lexeme) (a : Unit {0}) → used ≡ [] → read_nothing (used ++ rest) ≡ Ok (a, rest)
    nothing_complete used rest a w = ap (λ (xs : List Lexeme). read_nothing (xs ++ rest)) w

pub Keeps-nothing : Keeps (Unit {0}) read_nothing
Keeps-nothing = record { ended = kept }
  where
    kept : (ts rest : List Lexeme) (a : Unit {0}) → Ended ts → read_nothing ts ≡ Ok (a, rest) → Ended rest
    kept ts rest a ended e =
        let given : Unit {0} × List Lexeme = (tt, ts) in
        let same : given ≡ (a, rest) = cc in
        subst Ended (ap (λ (p : Unit {0} × List Lexeme). p.1) same) ended

-- ---- a token that opens, where nothing may be opened any more

module _ (A : Type 0) (set : List ℕ) (inner : Reader A) where
  abbrev too_deep : List Lexeme → Reading (Lexeme × A)
  too_deep ts = Err (Deep, ts)

  abbrev not_open : List Lexeme → Reading (Lexeme × A)
  not_open ts = Err (Expected, ts)

  deep_by : (b : Bool) (ts : List Lexeme) → then_read (if b then Err (Deep, ts) else Err (Expected, ts)) inner ≡ (if b then too_deep ts else not_open ts)
  deep_by true ts = refl
  deep_by false ts = refl

  -- nothing is opened
  deep_is : (ts : List Lexeme) → read_opened zero set inner ts ≡ (if begins_with set ts then too_deep ts else not_open ts)
  deep_is ts = deep_by (begins_with set ts) ts

  no_ok : (b : Bool) (ts rest : List Lexeme) (a : Lexeme × A) → (if b then too_deep ts else not_open ts) ≡ Ok (a, rest) → ⊥
  no_ok true ts rest a e = cc
  no_ok false ts rest a e = cc

  pub Keeps-deep : Keeps (Lexeme × A) (read_opened zero set inner)
  Keeps-deep = record { ended = λ ts rest a ended e. absurd (no_ok (begins_with set ts) ts rest a (sym (deep_is ts) ∙ e)) }

module _ (A : Type 0) (set : List ℕ) (inner : Reader A) (U : Grammar A) (empty : U.beginning []) where
  abbrev open_beginning : List Lexeme → Type 0
  open_beginning = (both (token set) U).beginning

  opens : (t : Lexeme) → Among set t → open_beginning (t ∷ [])
  opens t h = inr (t ∷ [], [], t, refl, (refl, h), empty)

  among_of : (t : Lexeme) → open_beginning (t ∷ []) → Among set t
  among_of t (inl (inl e)) = cc
  among_of t (inl (inr s)) = let same : t ≡ s.0 = cc (s.1) in subst (λ (u : Lexeme). Among set u) (sym same) s.2
  among_of t (inr s) = first_is s.0 s.1 s.2 s.3 s.4
    where
      first_is : (left right : List Lexeme) (a : Lexeme) → left ++ right ≡ t ∷ [] → (token set).whole left a → Among set t
      first_is left right a e w =
          let all : a ∷ right ≡ t ∷ [] = ap (λ (xs : List Lexeme). xs ++ right) (sym w.0) ∙ e in
          let same : a ≡ t = cc (all) in
          subst (λ (u : Lexeme). Among set u) same w.1

  deep_stopped : (ts rest : List Lexeme) (stop : Stop) → Ended ts → read_opened zero set inner ts ≡ Err (stop, rest) → StopsAt (opened zero set U).beginning open_beginning ts stop rest
  deep_stopped ts rest stop ended e = by_cases ts ended (either (begins_with set ts)) e
    where
      at_token : (t : Lexeme) (more : List Lexeme) → (verdict : Stop) → IsVerdict verdict (open_beginning (t ∷ [])) → (let given : Stop × List Lexeme = (verdict, t ∷ more) in given ≡ (stop, rest)) → StopsAt (opened zero set U).beginning open_beginning (t ∷ more) stop rest
      at_token t more verdict v same = record {
        used = [];
        token = t;
        more = more;
        at = sym (ap (λ (p : Stop × List Lexeme). p.1) same);
        all = sym (ap (λ (p : Stop × List Lexeme). p.1) same);
        fits = refl;
        unfit = λ f. cc (f);
        verdict = subst (λ (s : Stop). IsVerdict s (open_beginning (t ∷ []))) (ap (λ (p : Stop × List Lexeme). p.0) same) v;
      }

      no_true : (b : Bool) → b ≡ false → b ≡ true → ⊥
      no_true b e f = cc

      by_cases : (ts : List Lexeme) → Ended ts → (begins_with set ts ≡ true) ⊎ (begins_with set ts ≡ false) → read_opened zero set inner ts ≡ Err (stop, rest)
          → StopsAt (opened zero set U).beginning open_beginning ts stop rest
      by_cases [] ended h e = absurd ended
      by_cases (t ∷ more) ended (inl h) e =
          let given : Stop × List Lexeme = (Deep, t ∷ more) in
          let stopped = sym (if_true (begins_with set (t ∷ more)) (too_deep A set inner (t ∷ more)) (not_open A set inner (t ∷ more)) h) ∙ sym (deep_is A set inner (t ∷ more)) ∙ e in
          let same : given ≡ (stop, rest) = cc (stopped) in
          at_token t more Deep (opens t h) same
      by_cases (t ∷ more) ended (inr h) e =
          let given : Stop × List Lexeme = (Expected, t ∷ more) in
          let stopped = sym (if_false (begins_with set (t ∷ more)) (too_deep A set inner (t ∷ more)) (not_open A set inner (t ∷ more)) h) ∙ sym (deep_is A set inner (t ∷ more)) ∙ e in
          let same : given ≡ (stop, rest) = cc (stopped) in
          at_token t more Expected (λ f. no_true (among set t.symbol) h (among_of t f)) same

  pub Reads-deep : (c : List ℕ) → Reads (Lexeme × A) (opened zero set U) (both (token set) U) c (read_opened zero set inner)
  Reads-deep c = record {
    got = λ ts rest a e. absurd (no_ok A set inner (begins_with set ts) ts rest a (sym (deep_is A set inner ts) ∙ e));
    stopped = deep_stopped;
    complete = λ used rest a w f. absurd w;
  }

  never_beginning : (ts : List Lexeme) → ts ≡ [] → open_beginning ts
  never_beginning ts e = inl (inl e)

  never_solid : (ts : List Lexeme) (a : Lexeme × A) → (both (token set) U).whole ts a → ts ≡ [] → ⊥
  never_solid ts a w e =
      let all : a.0 ∷ w.1 ≡ [] = ap (λ (xs : List Lexeme). xs ++ w.1) (sym w.3.0) ∙ w.2 ∙ e in
      cc (all)

  pub Under-deep : Under (Lexeme × A) (opened zero set U) (both (token set) U)
  Under-deep = record { whole = λ ts a w. absurd w; beginning = never_beginning; solid = never_solid }
