-- A reader within a number of tokens.
use Rattle.std.proofs.Common.{◌≡◌, ◌⊎◌, inl, inr, ◌<◌, ◌≤◌, ◌+◌, ℕ, zero, suc, List, [], ◌∷◌, ◌++◌, length, length-append, drop, Bool, true, false, refl, ap, sym, ◌∙◌, subst, append_assoc, arith}
use Rattle.std.proofs.lemmas.Bool.Decides.{nat_tests}
use Rattle.std.specs.Prelude.{nat_le, Result, Ok, Err}
use Rattle.grammar_rules.specs.declared.stop.Stop.{Stop}
use Rattle.grammar_rules.specs.declared.stop.Stop.TheVariants.{Deep}
use Rattle.grammar_rules.specs.Lexemes.{Lexeme, Ended}
use Rattle.grammar_rules.specs.Rules.{Grammar, within}
use Rattle.grammar_rules.specs.Readers.{Reading, Reader, within_by, read_within}
use Rattle.grammar_rules.specs.Laws.{Free, Lawful, Under, Got, StopsAt, Reads, Keeps}
use Rattle.grammar_rules.proofs.Cuts.{either, if_true, if_false}
use Rattle.grammar_rules.proofs.RuleLaws.{closed_at}
use Rattle.grammar_rules.proofs.ReaderLaws.{verdict_by}

-- a list that is long enough, cut at a token
pub record CutAt (n : ℕ) (ts : List Lexeme) : Type 0 where
  pub front : List Lexeme
  pub token : Lexeme
  pub more : List Lexeme
  pub all : front ++ token ∷ more ≡ ts
  pub size : length front ≡ n
  pub behind : drop n ts ≡ token ∷ more

cut_at : (n : ℕ) (ts : List Lexeme) → n < length ts → CutAt n ts
cut_at n [] l = absurd (omega arith)
cut_at zero (t ∷ ts) l = record { front = []; token = t; more = ts; all = refl; size = refl; behind = refl }
cut_at (suc n) (t ∷ ts) l =
    let c = cut_at n ts (omega arith) in
    record { front = t ∷ c.front; token = c.token; more = c.more; all = ap (λ (xs : List Lexeme). t ∷ xs) c.all; size = ap suc c.size; behind = c.behind }

test_false : (m n : ℕ) → nat_le m n ≡ false → n < m
test_false m n e = grind (arith, nat_tests)

test_true : (m n : ℕ) → nat_le m n ≡ true → m ≤ n
test_true m n e = grind (arith, nat_tests)

true_test : (m n : ℕ) → m ≤ n → nat_le m n ≡ true
true_test m n e = grind (arith, nat_tests)

drop-append : (n : ℕ) (xs ys : List Lexeme) → n ≤ length xs → drop n (xs ++ ys) ≡ drop n xs ++ ys
drop-append zero xs ys l = refl
drop-append (suc n) [] ys l = absurd (omega arith)
drop-append (suc n) (x ∷ xs) ys l = drop-append n xs ys (omega arith)

module _ (A : Type 0) (R U : Grammar A) (b c : List ℕ) (n : Bool) (laws : Lawful A R b c n) (under : Under A R U) (most more : ℕ) (less : most < more) where
  -- a beginning that is too long
  too_long : (ts rest used : List Lexeme) → used ++ rest ≡ ts → R.beginning used → length rest + most < length ts → StopsAt (within most R).beginning (within more U).beginning ts Deep (drop most ts)
  too_long ts rest used all f l =
      let size : length ts ≡ length used + length rest = ap length (sym all) ∙ length-append used rest in
      let cut = cut_at most used (omega arith) in
      let short : length cut.front ≡ most = cut.size in
      let begun : R.beginning (cut.front ++ cut.token ∷ []) = closed_at A R b c n laws cut.front cut.token cut.more (subst (λ (xs : List Lexeme). R.beginning xs) (sym cut.all) f) in
      record {
        used = cut.front;
        token = cut.token;
        more = cut.more ++ rest;
        at = ap (drop most) (sym all) ∙ drop-append most used rest (omega arith) ∙ ap (λ (xs : List Lexeme). xs ++ rest) cut.behind;
        all = ap (λ (xs : List Lexeme). cut.front ++ xs) (ap (drop most) (sym all) ∙ drop-append most used rest (omega arith) ∙ ap (λ (xs : List Lexeme). xs ++ rest) cut.behind)
            ∙ sym (append_assoc cut.front (cut.token ∷ cut.more) rest) ∙ ap (λ (xs : List Lexeme). xs ++ rest) cut.all ∙ all;
        fits = (omega arith, laws.closed cut.front (cut.token ∷ []) begun);
        unfit = λ g. let h = g.0 in absurd (omega (arith, length-append cut.front (cut.token ∷ [])));
        verdict = (omega (arith, length-append cut.front (cut.token ∷ [])), under.beginning (cut.front ++ cut.token ∷ []) begun);
      }

  module _ (read : Reader A) (reads : Reads A R U c read) where
    got_by : (ts rest : List Lexeme) (a : A) (r : Reading A) → read ts ≡ r → within_by most ts r ≡ Ok (a, rest) → Got A (within most R) (within more U) ts a rest
    got_by ts rest a (Ok (a', rest')) e w = by_cases (either (nat_le (length ts) (length rest' + most)))
      where
        by_cases : (nat_le (length ts) (length rest' + most) ≡ true) ⊎ (nat_le (length ts) (length rest' + most) ≡ false) → Got A (within most R) (within more U) ts a rest
        by_cases (inl h) =
            let given : A × List Lexeme = (a', rest') in
            let deep : Reading A = Err (Deep, drop most ts) in
            let taken = sym (if_true (nat_le (length ts) (length rest' + most)) (Ok given) deep h) ∙ w in
            let same : given ≡ (a, rest) = cc (taken) in
            let g = reads.got ts rest' a' e in
            let size : length ts ≡ length g.used + length rest' = ap length (sym g.all) ∙ length-append g.used rest' in
            let l : length ts ≤ length rest' + most = test_true _ _ h in
            let whole : Got A (within most R) (within more U) ts a' rest' = record { used = g.used; all = g.all; whole = (omega arith, g.whole); over = λ t others r f. g.over t others r f.1 } in
            subst (λ (p : A × List Lexeme). Got A (within most R) (within more U) ts p.0 p.1) same whole
        by_cases (inr h) =
            let given : A × List Lexeme = (a', rest') in
            let deep : Result (A × List Lexeme) (Stop × List Lexeme) = Err (Deep, drop most ts) in
            let taken = sym (if_false (nat_le (length ts) (length rest' + most)) (Ok given) deep h) ∙ w in
            cc (taken)
    got_by ts rest a (Err stop) e w = by_cases (either (nat_le (length ts) (length stop.1 + most)))
      where
        by_cases : (nat_le (length ts) (length stop.1 + most) ≡ true) ⊎ (nat_le (length ts) (length stop.1 + most) ≡ false) → Got A (within most R) (within more U) ts a rest
        by_cases (inl h) =
            let deep : Reading A = Err (Deep, drop most ts) in
            let stopped = sym (if_true (nat_le (length ts) (length stop.1 + most)) (Err stop) deep h) ∙ w in cc (stopped)
        by_cases (inr h) =
            let deep : Reading A = Err (Deep, drop most ts) in
            let stopped = sym (if_false (nat_le (length ts) (length stop.1 + most)) (Err stop) deep h) ∙ w in cc (stopped)

    -- reading stops at the token behind the limit
    at_limit : (ts rest rest' used : List Lexeme) (stop : Stop) → used ++ rest' ≡ ts → R.beginning used → nat_le (length ts) (length rest' + most) ≡ false
        → (let given : Stop × List Lexeme = (Deep, drop most ts) in given ≡ (stop, rest)) → StopsAt (within most R).beginning (within more U).beginning ts stop rest
    at_limit ts rest rest' used stop all f h same =
        subst (λ (p : Stop × List Lexeme). StopsAt (within most R).beginning (within more U).beginning ts p.0 p.1) same (too_long ts rest' used all f (test_false _ _ h))

    stopped_by : (ts rest : List Lexeme) (stop : Stop) (r : Reading A) → Ended ts → read ts ≡ r → within_by most ts r ≡ Err (stop, rest) → StopsAt (within most R).beginning (within more U).beginning ts stop rest
    stopped_by ts rest stop (Ok (a', rest')) ended e w = by_cases (either (nat_le (length ts) (length rest' + most)))
      where
        by_cases : (nat_le (length ts) (length rest' + most) ≡ true) ⊎ (nat_le (length ts) (length rest' + most) ≡ false) → StopsAt (within most R).beginning (within more U).beginning ts stop rest
        by_cases (inl h) =
            let given : Reading A = Ok (a', rest') in
            let deep : Reading A = Err (Deep, drop most ts) in
            let taken = sym (if_true (nat_le (length ts) (length rest' + most)) given deep h) ∙ w in cc (taken)
        by_cases (inr h) =
            let given : Reading A = Ok (a', rest') in
            let deep : Reading A = Err (Deep, drop most ts) in
            let taken = sym (if_false (nat_le (length ts) (length rest' + most)) given deep h) ∙ w in
            let g = reads.got ts rest' a' e in
            at_limit ts rest rest' g.used stop g.all (laws.begun g.used a' g.whole) h (cc (taken))
    stopped_by ts rest stop (Err (stop', rest')) ended e w = by_cases (either (nat_le (length ts) (length rest' + most)))
      where
        by_cases : (nat_le (length ts) (length rest' + most) ≡ true) ⊎ (nat_le (length ts) (length rest' + most) ≡ false) → StopsAt (within most R).beginning (within more U).beginning ts stop rest
        by_cases (inl h) =
            let given : Reading A = Err (stop', rest') in
            let deep : Reading A = Err (Deep, drop most ts) in
            let u : StopsAt R.beginning U.beginning ts stop' rest' = reads.stopped ts rest' stop' ended e in
            let pair : Stop × List Lexeme = (stop', rest') in
            let taken = sym (if_true (nat_le (length ts) (length rest' + most)) given deep h) ∙ w in
            let same : pair ≡ (stop, rest) = cc (taken) in
            let size : length ts ≡ length u.used + length rest' = ap length (sym u.all) ∙ length-append u.used rest' in
            let l : length ts ≤ length rest' + most = test_true _ _ h in
            let stands : StopsAt (within most R).beginning (within more U).beginning ts stop' rest' = record {
              used = u.used;
              token = u.token;
              more = u.more;
              at = u.at;
              all = u.all;
              fits = (omega arith, u.fits);
              unfit = λ f. u.unfit f.1;
              verdict = verdict_by stop' (U.beginning (u.used ++ u.token ∷ [])) ((within more U).beginning (u.used ++ u.token ∷ []))
                  (λ f. (omega (arith, length-append u.used (u.token ∷ [])), f)) (λ refuted f. refuted f.1) u.verdict;
            } in
            subst (λ (p : Stop × List Lexeme). StopsAt (within most R).beginning (within more U).beginning ts p.0 p.1) same stands
        by_cases (inr h) =
            let given : Reading A = Err (stop', rest') in
            let deep : Reading A = Err (Deep, drop most ts) in
            let u : StopsAt R.beginning U.beginning ts stop' rest' = reads.stopped ts rest' stop' ended e in
            let taken = sym (if_false (nat_le (length ts) (length rest' + most)) given deep h) ∙ w in
            at_limit ts rest rest' u.used stop u.all u.fits h (cc (taken))

    within_complete : (used rest : List Lexeme) (a : A) → (within most R).whole used a → Free c rest → read_within most read (used ++ rest) ≡ Ok (a, rest)
    within_complete used rest a w f =
        let given : Reading A = Ok (a, rest) in
        let deep : Reading A = Err (Deep, drop most (used ++ rest)) in
        let l = w.0 in
        ap (within_by most (used ++ rest)) (reads.complete used rest a w.1 f)
        ∙ if_true (nat_le (length (used ++ rest)) (length rest + most)) given deep (true_test _ _ (omega (arith, length-append used rest)))

    pub Reads-within : Reads A (within most R) (within more U) c (read_within most read)
    Reads-within = record {
      got = λ ts rest a e. got_by ts rest a (read ts) refl e;
      stopped = λ ts rest stop ended e. stopped_by ts rest stop (read ts) ended refl e;
      complete = within_complete;
    }

module _ (A : Type 0) (most : ℕ) (read : Reader A) (keeps : Keeps A read) where
  kept_by : (ts rest : List Lexeme) (a : A) (r : Reading A) → Ended ts → read ts ≡ r → within_by most ts r ≡ Ok (a, rest) → Ended rest
  kept_by ts rest a (Ok (a', rest')) ended e w = by_cases (either (nat_le (length ts) (length rest' + most)))
    where
      by_cases : (nat_le (length ts) (length rest' + most) ≡ true) ⊎ (nat_le (length ts) (length rest' + most) ≡ false) → Ended rest
      by_cases (inl h) =
          let given : A × List Lexeme = (a', rest') in
          let deep : Reading A = Err (Deep, drop most ts) in
          let taken = sym (if_true (nat_le (length ts) (length rest' + most)) (Ok given) deep h) ∙ w in
          let same : given ≡ (a, rest) = cc (taken) in
          subst Ended (ap (λ (p : A × List Lexeme). p.1) same) (keeps.ended ts rest' a' ended e)
      by_cases (inr h) =
          let given : A × List Lexeme = (a', rest') in
          let deep : Reading A = Err (Deep, drop most ts) in
          let taken = sym (if_false (nat_le (length ts) (length rest' + most)) (Ok given) deep h) ∙ w in cc (taken)
  kept_by ts rest a (Err stop) ended e w = by_cases (either (nat_le (length ts) (length stop.1 + most)))
    where
      by_cases : (nat_le (length ts) (length stop.1 + most) ≡ true) ⊎ (nat_le (length ts) (length stop.1 + most) ≡ false) → Ended rest
      by_cases (inl h) =
          let deep : Reading A = Err (Deep, drop most ts) in
          let stopped = sym (if_true (nat_le (length ts) (length stop.1 + most)) (Err stop) deep h) ∙ w in cc (stopped)
      by_cases (inr h) =
          let deep : Reading A = Err (Deep, drop most ts) in
          let stopped = sym (if_false (nat_le (length ts) (length stop.1 + most)) (Err stop) deep h) ∙ w in cc (stopped)

  pub Keeps-within : Keeps A (read_within most read)
  Keeps-within = record { ended = λ ts rest a ended e. kept_by ts rest a (read ts) ended refl e }
