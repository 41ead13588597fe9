-- A reader of a grammar any number of times.
use Rattle.std.proofs.Common.{◌≡◌, ◌⊎◌, inl, inr, ◌<◌, ◌≤◌, ℕ, zero, suc, List, [], ◌∷◌, ◌++◌, length, length-append, true, false, refl, ap, sym, ◌∙◌, subst, append_assoc, arith}
use Rattle.std.specs.Prelude.{Ok, Err}
use Rattle.grammar_rules.specs.declared.stop.Stop.{Stop}
use Rattle.grammar_rules.specs.Lexemes.{Lexeme, among, begins_with, no_symbol, Ended}
use Rattle.grammar_rules.specs.Rules.{Grammar, both, times, repeated, cons_of}
use Rattle.grammar_rules.specs.Readers.{Reading, Reader, mapped, paired, then_read, read_times, read_repeated}
use Rattle.grammar_rules.specs.Laws.{Among, Apart, Free, Lawful, Under, Got, StopsAt, Reads, Keeps}
use Rattle.grammar_rules.proofs.Cuts.{among-left, among-right, either, if_true, if_false, nothing_right, first_same}
use Rattle.grammar_rules.proofs.RuleLaws.{closed_first, Lawful-times}
use Rattle.grammar_rules.proofs.ReaderLaws.{mapped_ok, mapped_err, both_ok, both_err, no_beginning, no_beginning_first, verdict_by}

module _ (A : Type 0) (b : List ℕ) (read : Reader A) where
  abbrev stopped_at : List Lexeme → Reading (List A)
  stopped_at ts = Ok ([], ts)

  abbrev turned : ℕ → List Lexeme → Reading (List A)
  turned n ts = mapped cons_of (then_read (read ts) (read_times n b read))

  pub goes_on : (n : ℕ) (ts : List Lexeme) → begins_with b ts ≡ true → read_times (suc n) b read ts ≡ mapped cons_of (then_read (read ts) (read_times n b read))
  goes_on n ts h = if_true (begins_with b ts) (turned n ts) (stopped_at ts) h

  pub ends : (n : ℕ) (ts : List Lexeme) → begins_with b ts ≡ false → read_times (suc n) b read ts ≡ Ok ([], ts)
  ends n ts h = if_false (begins_with b ts) (turned n ts) (stopped_at ts) h

  module _ (keeps : Keeps A read) where
    times_keeps : (n : ℕ) (ts rest : List Lexeme) (trees : List A) → Ended ts → read_times n b read ts ≡ Ok (trees, rest) → Ended rest
    times_keeps zero ts rest trees ended e =
        let nothing : List A × List Lexeme = ([], ts) in
        let same : nothing ≡ (trees, rest) = cc in
        subst Ended (ap (λ (p : List A × List Lexeme). p.1) same) ended
    times_keeps (suc n) ts rest trees ended e = by_cases (either (begins_with b ts)) (λ middle more end r. times_keeps n middle rest more end r)
      where
        by_cases : ((begins_with b ts ≡ true) ⊎ (begins_with b ts ≡ false)) → ((middle : List Lexeme) (more : List A) → Ended middle → read_times n b read middle ≡ Ok (more, rest) → Ended rest) → Ended rest
        by_cases (inl h) again =
            let m = mapped_ok (A × List A) (List A) cons_of (then_read (read ts) (read_times n b read)) trees rest (sym (goes_on n ts h) ∙ e) in
            let steps = both_ok A (List A) (read_times n b read) (read ts) m.0 rest m.1 in
            again steps.0 m.0.1 (keeps.ended ts steps.0 m.0.0 ended steps.1) steps.2
        by_cases (inr h) again =
            let nothing : List A × List Lexeme = ([], ts) in
            let r : stopped_at ts ≡ Ok (trees, rest) = sym (ends n ts h) ∙ e in
            let same : nothing ≡ (trees, rest) = cc in
            subst Ended (ap (λ (p : List A × List Lexeme). p.1) same) ended

    pub Keeps-repeated : Keeps (List A) (read_repeated b read)
    Keeps-repeated = record { ended = λ ts rest trees ended e. times_keeps (length ts) ts rest trees ended e }

module _ (A : Type 0) (R U : Grammar A) (b c : List ℕ) (laws : Lawful A R b c false) (unlimited : Lawful A U b c false) (apart : Apart c b) (under : Under A R U) (absent : among b no_symbol ≡ false)
    (read : Reader A) (reads : Reads A R U c read) where
  -- an item takes a token
  pub shorter : (ts rest : List Lexeme) (a : A) → read ts ≡ Ok (a, rest) → length rest < length ts
  shorter ts rest a e = by_cases (reads.got ts rest a e).used (reads.got ts rest a e).all (reads.got ts rest a e).whole
    where
      by_cases : (used : List Lexeme) → used ++ rest ≡ ts → R.whole used a → length rest < length ts
      by_cases [] e w = absurd (cc (laws.none a w))
      by_cases (x ∷ used) e w = rw (← e) (omega (arith, length-append used rest))

  no_more : (ts : List Lexeme) → begins_with b ts ≡ false → Got (List A) (repeated R) (repeated U) ts [] ts
  no_more ts e = record {
    used = [];
    all = refl;
    whole = (zero, (refl, refl));
    over = λ t more r f.
        let begins : Among b t = (Lawful-times A U b c unlimited apart f.0).first t f.1 in
        let same : begins_with b ts ≡ among b t.symbol = ap (begins_with b) r in
        cc (begins, same, e);
  }

  -- behind an item that can't go on only the later items matter
  behind_item : (P : Grammar A) (laws' : Lawful A P b c false) (left right : List Lexeme) (a : A) (t : Lexeme) → P.whole left a
      → ((z : Lexeme) (zs : List Lexeme) → right ++ t ∷ [] ≡ z ∷ zs → P.beginning (left ++ z ∷ []) → ⊥) → ((repeated P).beginning (right ++ t ∷ []) → ⊥) → (repeated P).beginning ((left ++ right) ++ t ∷ []) → ⊥
  behind_item P laws' left right a t w over unfit f = cut f.0 f.1
    where
      cut : (n : ℕ) → (times n P).beginning ((left ++ right) ++ t ∷ []) → ⊥
      cut zero f = cc (nothing_right (left ++ right) (t ∷ []) f)
      cut (suc n) (inl f) = cc (nothing_right (left ++ right) (t ∷ []) f)
      cut (suc n) (inr f) =
          no_beginning A (List A) P (times n P) b c b (c ++ b) false true laws' (Lawful-times A P b c laws' apart n) apart left right a t w over (λ g. unfit (n, g)) f

  -- an item that stops
  in_item : (P : Grammar A) (laws' : Lawful A P b c false) (used : List Lexeme) (t : Lexeme) → P.beginning used → (P.beginning (used ++ t ∷ []) → ⊥) → ((a : A) → P.whole used a → Among b t → ⊥)
      → (repeated P).beginning (used ++ t ∷ []) → ⊥
  in_item P laws' used t fits unfit no_whole f = cut f.0 f.1
    where
      cut : (n : ℕ) → (times n P).beginning (used ++ t ∷ []) → ⊥
      cut zero f = cc (nothing_right used (t ∷ []) f)
      cut (suc n) (inl f) = cc (nothing_right used (t ∷ []) f)
      cut (suc n) (inr f) =
          no_beginning_first A (List A) P (times n P) b c b (c ++ b) false true laws' (Lawful-times A P b c laws' apart n) apart used t fits unfit
          (λ a w s. no_whole a w ((Lawful-times A P b c laws' apart n).first t s)) f

  one_more : (ts middle rest : List Lexeme) (a : A) (trees : List A) → Got A R U ts a middle → Got (List A) (repeated R) (repeated U) middle trees rest → Got (List A) (repeated R) (repeated U) ts (a ∷ trees) rest
  one_more ts middle rest a trees one two = record {
    used = one.used ++ two.used;
    all = append_assoc one.used two.used rest ∙ ap (λ (xs : List Lexeme). one.used ++ xs) two.all ∙ one.all;
    whole = (suc two.whole.0, inr ((a, trees), (one.used, two.used, refl, one.whole, two.whole.1), refl));
    over = λ t more r f.
        behind_item U unlimited one.used two.used a t (under.whole one.used a one.whole)
        (λ z zs cut. let w = first_same two.used more t z zs cut in one.over z w.0 (sym two.all ∙ ap (λ (xs : List Lexeme). two.used ++ xs) r ∙ w.1))
        (two.over t more r) f;
  }

  -- an item that stops could not have been whole where another begins
  no_whole : (ts rest used more : List Lexeme) (stop : Stop) (t : Lexeme) (a : A) → read ts ≡ Err (stop, rest) → used ++ rest ≡ ts → rest ≡ t ∷ more → R.whole used a → Among b t → ⊥
  no_whole ts rest used more stop t a e all at w s =
      let free : Free c rest = record { free = λ u others r h. let same : t ≡ u = cc in apart.none u h (subst (λ (x : Lexeme). Among b x) same s) } in
      let taken = sym (ap read (sym all) ∙ reads.complete used rest a w free) ∙ e in
      cc (taken)

  item_stopped : (ts rest : List Lexeme) (stop : Stop) → read ts ≡ Err (stop, rest) → StopsAt R.beginning U.beginning ts stop rest → StopsAt (repeated R).beginning (repeated U).beginning ts stop rest
  item_stopped ts rest stop e u = record {
    used = u.used;
    token = u.token;
    more = u.more;
    at = u.at;
    all = u.all;
    fits = (suc zero, inr (inl u.fits));
    unfit = in_item R laws u.used u.token u.fits u.unfit (λ a w s. no_whole ts rest u.used u.more stop u.token a e u.all u.at w s);
    verdict = verdict_by stop (U.beginning (u.used ++ u.token ∷ [])) ((repeated U).beginning (u.used ++ u.token ∷ [])) (λ f. (suc zero, inr (inl f)))
        (λ refuted. in_item U unlimited u.used u.token (under.beginning u.used u.fits) refuted
        (λ a w s. no_whole ts rest u.used u.more stop u.token a e u.all u.at (under.solid u.used a w u.fits) s)) u.verdict;
  }

  later_stopped : (ts middle rest : List Lexeme) (a : A) (stop : Stop) → Got A R U ts a middle → StopsAt (repeated R).beginning (repeated U).beginning middle stop rest → StopsAt (repeated R).beginning (repeated U).beginning ts stop rest
  later_stopped ts middle rest a stop one u = record {
    used = one.used ++ u.used;
    token = u.token;
    more = u.more;
    at = u.at;
    all = append_assoc one.used u.used rest ∙ ap (λ (xs : List Lexeme). one.used ++ xs) u.all ∙ one.all;
    fits = (suc u.fits.0, inr (inr (one.used, u.used, a, refl, one.whole, u.fits.1)));
    unfit = behind_item R laws one.used u.used a u.token one.whole (λ z zs cut f. over z zs cut (under.beginning (one.used ++ z ∷ []) f)) u.unfit;
    verdict = verdict_by stop ((repeated U).beginning (u.used ++ u.token ∷ [])) ((repeated U).beginning ((one.used ++ u.used) ++ u.token ∷ []))
        (λ f. (suc f.0, inr (inr (one.used, u.used ++ u.token ∷ [], a, sym (append_assoc one.used u.used (u.token ∷ [])), under.whole one.used a one.whole, f.1))))
        (behind_item U unlimited one.used u.used a u.token (under.whole one.used a one.whole) over) u.verdict;
  }
    where
      over : (z : Lexeme) (zs : List Lexeme) → u.used ++ u.token ∷ [] ≡ z ∷ zs → U.beginning (one.used ++ z ∷ []) → ⊥
      over z zs cut =
          let w = first_same u.used u.more u.token z zs cut in
          one.over z w.0 (sym u.all ∙ ap (λ (xs : List Lexeme). u.used ++ xs) u.at ∙ w.1)

  stop_got : (ts rest : List Lexeme) (trees : List A) → begins_with b ts ≡ false → stopped_at A b read ts ≡ Ok (trees, rest) → Got (List A) (repeated R) (repeated U) ts trees rest
  stop_got ts rest trees stops e =
      let nothing : List A × List Lexeme = ([], ts) in
      let same : nothing ≡ (trees, rest) = cc in
      subst (λ (p : List A × List Lexeme). Got (List A) (repeated R) (repeated U) ts p.0 p.1) same (no_more ts stops)

  -- within a number of turns that is enough for all tokens
  times_got : (n : ℕ) (ts rest : List Lexeme) (trees : List A) → length ts ≤ n → read_times n b read ts ≡ Ok (trees, rest) → Got (List A) (repeated R) (repeated U) ts trees rest
  times_got zero [] rest trees l e = stop_got [] rest trees absent e
  times_got zero (t ∷ ts) rest trees l e = absurd (omega arith)
  times_got (suc n) ts rest trees l e = by_cases (either (begins_with b ts)) (λ middle more short r. times_got n middle rest more short r)
    where
      by_cases : ((begins_with b ts ≡ true) ⊎ (begins_with b ts ≡ false))
          → ((middle : List Lexeme) (more : List A) → length middle ≤ n → read_times n b read middle ≡ Ok (more, rest) → Got (List A) (repeated R) (repeated U) middle more rest)
          → Got (List A) (repeated R) (repeated U) ts trees rest
      by_cases (inl h) again =
          let m = mapped_ok (A × List A) (List A) cons_of (then_read (read ts) (read_times n b read)) trees rest (sym (goes_on A b read n ts h) ∙ e) in
          let steps = both_ok A (List A) (read_times n b read) (read ts) m.0 rest m.1 in
          let less = shorter ts steps.0 m.0.0 steps.1 in
          subst (λ (xs : List A). Got (List A) (repeated R) (repeated U) ts xs rest) (sym m.2)
          (one_more ts steps.0 rest m.0.0 m.0.1 (reads.got ts steps.0 m.0.0 steps.1) (again steps.0 m.0.1 (omega arith) steps.2))
      by_cases (inr h) again = stop_got ts rest trees h (sym (ends A b read n ts h) ∙ e)

  module _ (keeps : Keeps A read) where
    times_stopped : (n : ℕ) (ts rest : List Lexeme) (stop : Stop) → length ts ≤ n → Ended ts → read_times n b read ts ≡ Err (stop, rest) → StopsAt (repeated R).beginning (repeated U).beginning ts stop rest
    times_stopped zero ts rest stop l ended e = cc
    times_stopped (suc n) ts rest stop l ended e = by_cases (either (begins_with b ts)) (λ middle short end r. times_stopped n middle rest stop short end r)
      where
        second : (length ts ≤ suc n) → ((middle : List Lexeme) → length middle ≤ n → Ended middle → read_times n b read middle ≡ Err (stop, rest) → StopsAt (repeated R).beginning (repeated U).beginning middle stop rest)
            → (read ts ≡ Err (stop, rest)) ⊎ ((a : A) × (middle : List Lexeme) × (read ts ≡ Ok (a, middle)) × (read_times n b read middle ≡ Err (stop, rest)))
            → StopsAt (repeated R).beginning (repeated U).beginning ts stop rest
        second short again (inl f) = item_stopped ts rest stop f (reads.stopped ts rest stop ended f)
        second short again (inr s) =
            let less = shorter ts s.1 s.0 s.2 in
            later_stopped ts s.1 rest s.0 stop (reads.got ts s.1 s.0 s.2) (again s.1 (omega arith) (keeps.ended ts s.1 s.0 ended s.2) s.3)

        by_cases : ((begins_with b ts ≡ true) ⊎ (begins_with b ts ≡ false))
            → ((middle : List Lexeme) → length middle ≤ n → Ended middle → read_times n b read middle ≡ Err (stop, rest) → StopsAt (repeated R).beginning (repeated U).beginning middle stop rest)
            → StopsAt (repeated R).beginning (repeated U).beginning ts stop rest
        by_cases (inl h) again =
            second l again (both_err A (List A) (read_times n b read) (read ts) (stop, rest)
            (mapped_err (A × List A) (List A) cons_of (then_read (read ts) (read_times n b read)) (stop, rest) (sym (goes_on A b read n ts h) ∙ e)))
        by_cases (inr h) again = let never = sym (ends A b read n ts h) ∙ e in cc (never)

  free_item : (rest : List Lexeme) → Free (c ++ b) rest → Free c rest
  free_item rest f = record { free = λ t more r h. f.free t more r (among-left c b t.symbol h) }

  free_stops : (rest : List Lexeme) → Free (c ++ b) rest → begins_with b rest ≡ false
  free_stops [] f = absent
  free_stops (t ∷ rest) f = by_cases (either (among b t.symbol))
    where
      by_cases : (among b t.symbol ≡ true) ⊎ (among b t.symbol ≡ false) → among b t.symbol ≡ false
      by_cases (inl h) = absurd (f.free t rest refl (among-right c b t.symbol h))
      by_cases (inr h) = h

  free_between : (n : ℕ) (right rest : List Lexeme) (trees : List A) → (times n R).whole right trees → Free (c ++ b) rest → Free c (right ++ rest)
  free_between n [] rest trees w f = free_item rest f
  free_between n (x ∷ right) rest trees w f = record {
    free = λ t more r h.
        let same : x ≡ t = cc in
        apart.none t h (subst (λ (y : Lexeme). Among b y) same
        (closed_first (List A) (times n R) b (c ++ b) true (Lawful-times A R b c laws apart n) x right ((Lawful-times A R b c laws apart n).begun (x ∷ right) trees w)));
  }

  -- an item begins with one of its tokens
  item_begins : (left rest : List Lexeme) (a : A) → R.whole left a → begins_with b (left ++ rest) ≡ true
  item_begins [] rest a w = absurd (cc (laws.none a w))
  item_begins (x ∷ left) rest a w = closed_first A R b c false laws x left (laws.begun (x ∷ left) a w)

  longer : (left right rest : List Lexeme) (a : A) (n : ℕ) → R.whole left a → length ((left ++ right) ++ rest) ≤ suc n → length (right ++ rest) ≤ n
  longer [] right rest a n w l = absurd (cc (laws.none a w))
  longer (x ∷ left) right rest a n w l = omega (arith, length-append left right, length-append (left ++ right) rest, length-append right rest, l)

  -- nothing, or an item and then others
  times_view : (k : ℕ) (used : List Lexeme) (trees : List A) → (times k R).whole used trees
      → ((used ≡ []) × (trees ≡ [])) ⊎ ((m : ℕ) × (pair : A × List A) × (both R (times m R)).whole used pair × (trees ≡ cons_of pair))
  times_view zero used trees w = inl w
  times_view (suc k) used trees (inl w) = inl w
  times_view (suc k) used trees (inr w) = inr (k, w.0, w.1, w.2)

  nothing_read : (n : ℕ) (rest : List Lexeme) → Free (c ++ b) rest → read_times n b read rest ≡ stopped_at A b read rest
  nothing_read zero rest f = refl
  nothing_read (suc n) rest f = ends A b read n rest (free_stops rest f)

  no_room : (left right rest : List Lexeme) (a : A) → R.whole left a → length ((left ++ right) ++ rest) ≤ 0 → ⊥
  no_room [] right rest a w l = cc (laws.none a w)
  no_room (x ∷ left) right rest a w l = omega arith

  item_read : (n : ℕ) (left right rest : List Lexeme) (a : A) (m : ℕ) (trees : List A) → R.whole left a → (times m R).whole right trees → Free (c ++ b) rest
      → read_times n b read (right ++ rest) ≡ Ok (trees, rest) → read_times (suc n) b read ((left ++ right) ++ rest) ≡ Ok (a ∷ trees, rest)
  item_read n left right rest a m trees w v f later =
      let all : (left ++ right) ++ rest ≡ left ++ (right ++ rest) = append_assoc left right rest in
      let one = reads.complete left (right ++ rest) a w (free_between m right rest trees v f) in
      ap (λ (xs : List Lexeme). read_times (suc n) b read xs) all
      ∙ goes_on A b read n (left ++ (right ++ rest)) (item_begins left (right ++ rest) a w)
      ∙ ap (λ (r : Reading A). mapped cons_of (then_read r (read_times n b read))) one
      ∙ ap (λ (r : Reading (List A)). mapped cons_of (paired a r)) later

  times_complete : (n k : ℕ) (used rest : List Lexeme) (trees : List A) → length (used ++ rest) ≤ n → (times k R).whole used trees → Free (c ++ b) rest → read_times n b read (used ++ rest) ≡ Ok (trees, rest)
  times_complete zero k used rest trees l w f = by_cases (times_view k used trees w)
    where
      by_cases : ((used ≡ []) × (trees ≡ [])) ⊎ ((m : ℕ) × (pair : A × List A) × (both R (times m R)).whole used pair × (trees ≡ cons_of pair)) → read_times zero b read (used ++ rest) ≡ Ok (trees, rest)
      by_cases (inl nothing) = rw (nothing.0, nothing.1) refl
      by_cases (inr v) = absurd (no_room v.2.0 v.2.1 rest v.1.0 v.2.3 (subst (λ (xs : List Lexeme). length (xs ++ rest) ≤ 0) (sym v.2.2) l))
  times_complete (suc n) k used rest trees l w f =
      by_cases (times_view k used trees w) (λ m right more short v. times_complete n m right rest more short v f)
    where
      by_cases : ((used ≡ []) × (trees ≡ [])) ⊎ ((m : ℕ) × (pair : A × List A) × (both R (times m R)).whole used pair × (trees ≡ cons_of pair))
          → ((m : ℕ) (right : List Lexeme) (more : List A) → length (right ++ rest) ≤ n → (times m R).whole right more → read_times n b read (right ++ rest) ≡ Ok (more, rest))
          → read_times (suc n) b read (used ++ rest) ≡ Ok (trees, rest)
      by_cases (inl nothing) again =
          let target : List Lexeme → List A → Type 0 = λ xs as_trees. read_times (suc n) b read (xs ++ rest) ≡ Ok (as_trees, rest) in
          subst (λ (xs : List Lexeme). target xs trees) (sym nothing.0) (subst (λ (ys : List A). target [] ys) (sym nothing.1) (nothing_read (suc n) rest f))
      by_cases (inr v) again =
          let target : List Lexeme → List A → Type 0 = λ xs as_trees. read_times (suc n) b read (xs ++ rest) ≡ Ok (as_trees, rest) in
          let short = longer v.2.0 v.2.1 rest v.1.0 n v.2.3 (subst (λ (xs : List Lexeme). length (xs ++ rest) ≤ suc n) (sym v.2.2) l) in
          subst (λ (xs : List Lexeme). target xs trees) v.2.2 (subst (λ (ys : List A). target (v.2.0 ++ v.2.1) ys) (sym v.3)
          (item_read n v.2.0 v.2.1 rest v.1.0 v.0 v.1.1 v.2.3 v.2.4 f (again v.0 v.2.1 v.1.1 short v.2.4)))

  module _ (keeps : Keeps A read) where
    pub Reads-repeated : Reads (List A) (repeated R) (repeated U) (c ++ b) (read_repeated b read)
    Reads-repeated = record {
      got = λ ts rest trees e. times_got (length ts) ts rest trees (omega arith) e;
      stopped = λ ts rest stop ended e. times_stopped keeps (length ts) ts rest stop (omega arith) ended e;
      complete = λ used rest trees w f. times_complete (length (used ++ rest)) w.0 used rest trees (omega arith) w.1 f;
    }
