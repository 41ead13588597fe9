-- Readers of one grammar or another, told apart by their first token.
use Rattle.std.proofs.Common.{◌≡◌, ◌⊎◌, inl, inr, ℕ, List, [], ◌∷◌, ◌++◌, Bool, true, false, refl, ap, sym, ◌∙◌, subst}
use Rattle.std.specs.Prelude.{if◌then◌else◌, Ok, Err}
use Rattle.grammar_rules.specs.declared.stop.Stop.{Stop}
use Rattle.grammar_rules.specs.Lexemes.{Lexeme, among, begins_with, no_symbol, Ended}
use Rattle.grammar_rules.specs.Rules.{Grammar, choice}
use Rattle.grammar_rules.specs.Readers.{Reading, Reader, mapped, to_left, to_right, read_choice}
use Rattle.grammar_rules.specs.Laws.{Among, Apart, Free, Lawful, Got, StopsAt, Reads, Keeps}
use Rattle.grammar_rules.proofs.Cuts.{among-left, among-right, if_among, either, if_true, if_false}
use Rattle.grammar_rules.proofs.RuleLaws.{closed_first}
use Rattle.grammar_rules.proofs.ReaderLaws.{mapped_ok, mapped_err, verdict_by}

-- beginnings of a choice whose first token is known
module _ (A B : Type 0) (R : Grammar A) (S : Grammar B) (b₁ c₁ b₂ c₂ : List ℕ) (n₂ : Bool) (first_laws : Lawful A R b₁ c₁ false) (second_laws : Lawful B S b₂ c₂ n₂) (apart : Apart b₁ b₂) where
  -- the second grammar has no beginning where the first begins, and the other way round
  pub not_second : (used more : List Lexeme) (t : Lexeme) (ts : List Lexeme) → used ++ t ∷ more ≡ ts → begins_with b₁ ts ≡ true → S.beginning (used ++ t ∷ []) → ⊥
  not_second [] more t ts e h f = apart.none t (sym (ap (begins_with b₁) (sym e)) ∙ h) (second_laws.first t f)
  not_second (x ∷ used) more t ts e h f = apart.none x (sym (ap (begins_with b₁) (sym e)) ∙ h) (closed_first B S b₂ c₂ n₂ second_laws x (used ++ t ∷ []) f)

  pub not_first : (used more : List Lexeme) (t : Lexeme) (ts : List Lexeme) → used ++ t ∷ more ≡ ts → begins_with b₁ ts ≡ false → R.beginning (used ++ t ∷ []) → ⊥
  not_first [] more t ts e h f = let begins = first_laws.first t f in let same : begins_with b₁ (t ∷ more) ≡ begins_with b₁ ts = ap (begins_with b₁) e in cc (begins, same, h)
  not_first (x ∷ used) more t ts e h f =
      let begins = closed_first A R b₁ c₁ false first_laws x (used ++ t ∷ []) f in
      let same : begins_with b₁ (x ∷ (used ++ t ∷ more)) ≡ begins_with b₁ ts = ap (begins_with b₁) e in cc (begins, same, h)

  pub no_more_first : (used more : List Lexeme) (t : Lexeme) (ts : List Lexeme) → used ++ t ∷ more ≡ ts → begins_with b₁ ts ≡ true → (R.beginning (used ++ t ∷ []) → ⊥) → (choice R S).beginning (used ++ t ∷ []) → ⊥
  no_more_first used more t ts all h over (inl f) = over f
  no_more_first used more t ts all h over (inr f) = not_second used more t ts all h f

  pub no_more_second : (used more : List Lexeme) (t : Lexeme) (ts : List Lexeme) → used ++ t ∷ more ≡ ts → begins_with b₁ ts ≡ false → (S.beginning (used ++ t ∷ []) → ⊥) → (choice R S).beginning (used ++ t ∷ []) → ⊥
  no_more_second used more t ts all h over (inl f) = not_first used more t ts all h f
  no_more_second used more t ts all h over (inr f) = over f

module _ (A B : Type 0) (R U : Grammar A) (S V : Grammar B) (b₁ c₁ b₂ c₂ : List ℕ) (n₂ : Bool) (first_laws : Lawful A R b₁ c₁ false) (first_free : Lawful A U b₁ c₁ false)
    (second_laws : Lawful B S b₂ c₂ n₂) (second_free : Lawful B V b₂ c₂ n₂) (apart : Apart b₁ b₂) (absent : among b₁ no_symbol ≡ false)
    (first : Reader A) (second : Reader B) (first_reads : Reads A R U c₁ first) (second_reads : Reads B S V c₂ second) where
  to_first : (ts : List Lexeme) → begins_with b₁ ts ≡ true → read_choice b₁ first second ts ≡ mapped to_left (first ts)
  to_first ts h = if_true (begins_with b₁ ts) (mapped to_left (first ts)) (mapped to_right (second ts)) h

  to_second : (ts : List Lexeme) → begins_with b₁ ts ≡ false → read_choice b₁ first second ts ≡ mapped to_right (second ts)
  to_second ts h = if_false (begins_with b₁ ts) (mapped to_left (first ts)) (mapped to_right (second ts)) h

  choice_got : (ts rest : List Lexeme) (a : A ⊎ B) → read_choice b₁ first second ts ≡ Ok (a, rest) → Got (A ⊎ B) (choice R S) (choice U V) ts a rest
  choice_got ts rest a e = by_cases (either (begins_with b₁ ts))
    where
      by_cases : (begins_with b₁ ts ≡ true) ⊎ (begins_with b₁ ts ≡ false) → Got (A ⊎ B) (choice R S) (choice U V) ts a rest
      by_cases (inl h) =
          let m = mapped_ok A (A ⊎ B) to_left (first ts) a rest (sym (to_first ts h) ∙ e) in
          let g = first_reads.got ts rest m.0 m.1 in
          record {
            used = g.used;
            all = g.all;
            whole = subst (λ (x : A ⊎ B). (choice R S).whole g.used x) (sym m.2) g.whole;
            over = λ t more r. no_more_first A B U V b₁ c₁ b₂ c₂ n₂ first_free second_free apart g.used more t ts (ap (λ (xs : List Lexeme). g.used ++ xs) (sym r) ∙ g.all) h (g.over t more r);
          }
      by_cases (inr h) =
          let m = mapped_ok B (A ⊎ B) to_right (second ts) a rest (sym (to_second ts h) ∙ e) in
          let g = second_reads.got ts rest m.0 m.1 in
          record {
            used = g.used;
            all = g.all;
            whole = subst (λ (x : A ⊎ B). (choice R S).whole g.used x) (sym m.2) g.whole;
            over = λ t more r. no_more_second A B U V b₁ c₁ b₂ c₂ n₂ first_free second_free apart g.used more t ts (ap (λ (xs : List Lexeme). g.used ++ xs) (sym r) ∙ g.all) h (g.over t more r);
          }

  choice_stopped : (ts rest : List Lexeme) (stop : Stop) → Ended ts → read_choice b₁ first second ts ≡ Err (stop, rest) → StopsAt (choice R S).beginning (choice U V).beginning ts stop rest
  choice_stopped ts rest stop ended e = by_cases (either (begins_with b₁ ts))
    where
      by_cases : (begins_with b₁ ts ≡ true) ⊎ (begins_with b₁ ts ≡ false) → StopsAt (choice R S).beginning (choice U V).beginning ts stop rest
      by_cases (inl h) =
          let u = first_reads.stopped ts rest stop ended (mapped_err A (A ⊎ B) to_left (first ts) (stop, rest) (sym (to_first ts h) ∙ e)) in
          let all : u.used ++ u.token ∷ u.more ≡ ts = ap (λ (xs : List Lexeme). u.used ++ xs) (sym u.at) ∙ u.all in
          record {
            used = u.used;
            token = u.token;
            more = u.more;
            at = u.at;
            all = u.all;
            fits = inl u.fits;
            unfit = no_more_first A B R S b₁ c₁ b₂ c₂ n₂ first_laws second_laws apart u.used u.more u.token ts all h u.unfit;
            verdict = verdict_by stop (U.beginning (u.used ++ u.token ∷ [])) ((choice U V).beginning (u.used ++ u.token ∷ [])) (λ f. inl f)
                (no_more_first A B U V b₁ c₁ b₂ c₂ n₂ first_free second_free apart u.used u.more u.token ts all h) u.verdict;
          }
      by_cases (inr h) =
          let u = second_reads.stopped ts rest stop ended (mapped_err B (A ⊎ B) to_right (second ts) (stop, rest) (sym (to_second ts h) ∙ e)) in
          let all : u.used ++ u.token ∷ u.more ≡ ts = ap (λ (xs : List Lexeme). u.used ++ xs) (sym u.at) ∙ u.all in
          record {
            used = u.used;
            token = u.token;
            more = u.more;
            at = u.at;
            all = u.all;
            fits = inr u.fits;
            unfit = no_more_second A B R S b₁ c₁ b₂ c₂ n₂ first_laws second_laws apart u.used u.more u.token ts all h u.unfit;
            verdict = verdict_by stop (V.beginning (u.used ++ u.token ∷ [])) ((choice U V).beginning (u.used ++ u.token ∷ [])) (λ f. inr f)
                (no_more_second A B U V b₁ c₁ b₂ c₂ n₂ first_free second_free apart u.used u.more u.token ts all h) u.verdict;
          }

  first_begins : (used rest : List Lexeme) (a : A) → R.whole used a → begins_with b₁ (used ++ rest) ≡ true
  first_begins [] rest a w = absurd (cc (first_laws.none a w))
  first_begins (x ∷ used) rest a w = closed_first A R b₁ c₁ false first_laws x used (first_laws.begun (x ∷ used) a w)

  not_among : (t : Lexeme) → (Among b₁ t → ⊥) → among b₁ t.symbol ≡ false
  not_among t h = by_cases (either (among b₁ t.symbol))
    where
      by_cases : (among b₁ t.symbol ≡ true) ⊎ (among b₁ t.symbol ≡ false) → among b₁ t.symbol ≡ false
      by_cases (inl e) = absurd (h e)
      by_cases (inr e) = e

  second_begins : (used rest : List Lexeme) (a : B) → S.whole used a → Free ((c₁ ++ c₂) ++ (if n₂ then b₁ else [])) rest → begins_with b₁ (used ++ rest) ≡ false
  second_begins [] [] a w f = absent
  second_begins [] (t ∷ rest) a w f =
      not_among t (λ h. f.free t rest refl (among-right (c₁ ++ c₂) (if n₂ then b₁ else []) t.symbol (if_among n₂ b₁ t.symbol (second_laws.none a w) h)))
  second_begins (x ∷ used) rest a w f = not_among x (λ h. apart.none x h (closed_first B S b₂ c₂ n₂ second_laws x used (second_laws.begun (x ∷ used) a w)))

  free_left : (rest : List Lexeme) → Free ((c₁ ++ c₂) ++ (if n₂ then b₁ else [])) rest → Free c₁ rest
  free_left rest f = record { free = λ t more r h. f.free t more r (among-left (c₁ ++ c₂) (if n₂ then b₁ else []) t.symbol (among-left c₁ c₂ t.symbol h)) }

  free_right : (rest : List Lexeme) → Free ((c₁ ++ c₂) ++ (if n₂ then b₁ else [])) rest → Free c₂ rest
  free_right rest f = record { free = λ t more r h. f.free t more r (among-left (c₁ ++ c₂) (if n₂ then b₁ else []) t.symbol (among-right c₁ c₂ t.symbol h)) }

  choice_complete : (used rest : List Lexeme) (a : A ⊎ B) → (choice R S).whole used a → Free ((c₁ ++ c₂) ++ (if n₂ then b₁ else [])) rest → read_choice b₁ first second (used ++ rest) ≡ Ok (a, rest)
  choice_complete used rest (inl a) w f =
      to_first (used ++ rest) (first_begins used rest a w) ∙ ap (λ (r : Reading A). mapped to_left r) (first_reads.complete used rest a w (free_left rest f))
  choice_complete used rest (inr a) w f =
      to_second (used ++ rest) (second_begins used rest a w f) ∙ ap (λ (r : Reading B). mapped to_right r) (second_reads.complete used rest a w (free_right rest f))

  pub Reads-choice : Reads (A ⊎ B) (choice R S) (choice U V) ((c₁ ++ c₂) ++ (if n₂ then b₁ else [])) (read_choice b₁ first second)
  Reads-choice = record { got = choice_got; stopped = choice_stopped; complete = choice_complete }

pub Keeps-choice : (A B : Type 0) (set : List ℕ) (first : Reader A) (second : Reader B) → Keeps A first → Keeps B second → Keeps (A ⊎ B) (read_choice set first second)
Keeps-choice A B set first second first_keeps second_keeps = record { ended = kept }
  where
    kept : (ts rest : List Lexeme) (a : A ⊎ B) → Ended ts → read_choice set first second ts ≡ Ok (a, rest) → Ended rest
    kept ts rest a ended e = by_cases (either (begins_with set ts))
      where
        by_cases : (begins_with set ts ≡ true) ⊎ (begins_with set ts ≡ false) → Ended rest
        by_cases (inl h) =
            let m = mapped_ok A (A ⊎ B) to_left (first ts) a rest (sym (if_true (begins_with set ts) (mapped to_left (first ts)) (mapped to_right (second ts)) h) ∙ e) in
            first_keeps.ended ts rest m.0 ended m.1
        by_cases (inr h) =
            let m = mapped_ok B (A ⊎ B) to_right (second ts) a rest (sym (if_false (begins_with set ts) (mapped to_left (first ts)) (mapped to_right (second ts)) h) ∙ e) in
            second_keeps.ended ts rest m.0 ended m.1
