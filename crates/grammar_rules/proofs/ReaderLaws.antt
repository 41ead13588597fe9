-- Readers that read a grammar within limits: what they take is whole, they take all that they can, and they stop at the
-- first token that doesn't fit. Each way to join readers keeps this.
use Rattle.std.proofs.Common.{◌≡◌, ◌⊎◌, inl, inr, ℕ, List, [], ◌∷◌, ◌++◌, Bool, refl, ap, sym, ◌∙◌, subst, append_assoc}
use Rattle.std.proofs.lemmas.List.{append-nil}
use Rattle.std.specs.Prelude.{if◌then◌else◌, Ok, Err}
use Rattle.grammar_rules.specs.declared.stop.Stop.{Stop}
use Rattle.grammar_rules.specs.declared.stop.Stop.TheVariants.{Expected, Deep, Memory}
use Rattle.grammar_rules.specs.Lexemes.{Lexeme, Ended}
use Rattle.grammar_rules.specs.Rules.{Grammar, both, tree}
use Rattle.grammar_rules.specs.Readers.{Reading, Reader, mapped, paired, then_read, read_both, read_tree}
use Rattle.grammar_rules.specs.Laws.{Among, Apart, Free, Lawful, Under, Got, IsVerdict, StopsAt, Reads, Keeps}
use Rattle.grammar_rules.proofs.Cuts.{among-left, among-right, if_among, Behind, Before, cuts, some_end, first_same}
use Rattle.grammar_rules.proofs.RuleLaws.{closed_at, closed_first, no_cut_before}

-- ---- the steps of a reading

module _ (A B : Type 0) (second : Reader B) where
  second_ok : (a : A) (read : Reading B) (pair : A × B) (rest : List Lexeme) → paired a read ≡ Ok (pair, rest) → (read ≡ Ok (pair.1, rest)) × (pair.0 ≡ a)
  second_ok a (Ok (b, end)) pair rest e =
      let same : ((a, b), end) ≡ (pair, rest) = cc in
      (ap Ok (ap (λ (r : (A × B) × List Lexeme). (r.0.1, r.1)) same), sym (ap (λ (r : (A × B) × List Lexeme). r.0.0) same))
  second_ok a (Err stop) pair rest e = cc

  pub both_ok : (read : Reading A) (pair : A × B) (rest : List Lexeme) → then_read read second ≡ Ok (pair, rest)
      → (middle : List Lexeme) × (read ≡ Ok (pair.0, middle)) × (second middle ≡ Ok (pair.1, rest))
  both_ok (Ok (a, middle)) pair rest e =
      let steps = second_ok a (second middle) pair rest e in
      (middle, ap (λ (x : A). Ok (x, middle)) (sym steps.1), steps.0)
  both_ok (Err stop) pair rest e = cc

  second_err : (a : A) (read : Reading B) (stop : Stop × List Lexeme) → paired a read ≡ Err stop → read ≡ Err stop
  second_err a (Ok read) stop e = cc
  second_err a (Err other) stop e = ap Err cc

  -- which of the two steps stops
  pub both_err : (read : Reading A) (stop : Stop × List Lexeme) → then_read read second ≡ Err stop
      → (read ≡ Err stop) ⊎ ((a : A) × (middle : List Lexeme) × (read ≡ Ok (a, middle)) × (second middle ≡ Err stop))
  both_err (Ok (a, middle)) stop e = inr (a, middle, refl, second_err a (second middle) stop e)
  both_err (Err other) stop e = inl (ap Err cc)

module _ (A B : Type 0) (f : A → B) where
  pub mapped_ok : (r : Reading A) (b : B) (rest : List Lexeme) → mapped f r ≡ Ok (b, rest) → (a : A) × (r ≡ Ok (a, rest)) × (b ≡ f a)
  mapped_ok (Ok (a, end)) b rest e =
      let same : (f a, end) ≡ (b, rest) = cc in
      (a, ap (λ (xs : List Lexeme). Ok (a, xs)) (ap (λ (p : B × List Lexeme). p.1) same), sym (ap (λ (p : B × List Lexeme). p.0) same))
  mapped_ok (Err stop) b rest e = cc

  pub mapped_err : (r : Reading A) (stop : Stop × List Lexeme) → mapped f r ≡ Err stop → r ≡ Err stop
  mapped_err (Ok read) stop e = cc
  mapped_err (Err other) stop e = ap Err cc

-- ---- verdicts

-- what a verdict says of one fact it says of another that holds where the first does and only there
pub verdict_along : (stop : Stop) (P Q : Type 0) → (P → Q) → (Q → P) → IsVerdict stop P → IsVerdict stop Q
verdict_along Expected P Q to from v = λ q. v (from q)
verdict_along Deep P Q to from v = to v
verdict_along Memory P Q to from v = v

-- the same where the second leads to the first for a token that isn't expected
pub verdict_by : (stop : Stop) (P Q : Type 0) → (P → Q) → ((P → ⊥) → Q → ⊥) → IsVerdict stop P → IsVerdict stop Q
verdict_by Expected P Q to refuted v = refuted v
verdict_by Deep P Q to refuted v = to v
verdict_by Memory P Q to refuted v = v

-- ---- one grammar and then another

-- behind a whole that can't go on only the second grammar matters
module _ (A B : Type 0) (R : Grammar A) (S : Grammar B) (b₁ c₁ b₂ c₂ : List ℕ) (n₁ n₂ : Bool) (first_laws : Lawful A R b₁ c₁ n₁) (second_laws : Lawful B S b₂ c₂ n₂) (apart : Apart c₁ b₂) where
  pub no_beginning : (left right : List Lexeme) (a : A) (t : Lexeme) → R.whole left a → ((z : Lexeme) (zs : List Lexeme) → right ++ t ∷ [] ≡ z ∷ zs → R.beginning (left ++ z ∷ []) → ⊥)
      → (S.beginning (right ++ t ∷ []) → ⊥) → (both R S).beginning ((left ++ right) ++ t ∷ []) → ⊥
  no_beginning left right a t w over unfit (inl f) =
      let end = some_end right t in
      let e : (left ++ right) ++ t ∷ [] ≡ left ++ end.0 ∷ end.1 = append_assoc left right (t ∷ []) ∙ ap (λ (ts : List Lexeme). left ++ ts) end.2 in
      over end.0 end.1 end.2 (closed_at A R b₁ c₁ n₁ first_laws left end.0 end.1 (subst (λ (ts : List Lexeme). R.beginning ts) e f))
  no_beginning left right a t w over unfit (inr s) = by_cases (cuts s.0 s.1 left (right ++ t ∷ []) (s.3 ∙ append_assoc left right (t ∷ [])))
    where
      behind : (more : List Lexeme) → s.0 ≡ left ++ more → right ++ t ∷ [] ≡ more ++ s.1 → ⊥
      behind [] l e = unfit (subst (λ (ts : List Lexeme). S.beginning ts) (sym e) s.5)
      behind (m ∷ more) l e = over m (more ++ s.1) e (closed_at A R b₁ c₁ n₁ first_laws left m more (subst (λ (ts : List Lexeme). R.beginning ts) l (first_laws.begun s.0 s.2 s.4)))

      by_cases : Behind s.0 s.1 left (right ++ t ∷ []) ⊎ Before s.0 s.1 left (right ++ t ∷ []) → ⊥
      by_cases (inl b) = behind b.more b.left_is b.ys_is
      by_cases (inr b) = no_cut_before A B R S b₁ c₁ b₂ c₂ n₁ n₂ first_laws second_laws apart s.0 s.1 left (right ++ t ∷ []) s.2 a s.4 s.5 w b

  -- a token that can't go on with a beginning of the first grammar, which isn't whole where the second can begin with it
  pub no_beginning_first : (used : List Lexeme) (t : Lexeme) → R.beginning used → (R.beginning (used ++ t ∷ []) → ⊥) → ((a : A) → R.whole used a → S.beginning (t ∷ []) → ⊥) → (both R S).beginning (used ++ t ∷ []) → ⊥
  no_beginning_first used t fits unfit no_whole (inl f) = unfit f
  no_beginning_first used t fits unfit no_whole (inr s) = by_cases (cuts s.0 s.1 used (t ∷ []) s.3)
    where
      behind : (more : List Lexeme) → s.0 ≡ used ++ more → t ∷ [] ≡ more ++ s.1 → ⊥
      behind [] l r =
          no_whole s.2 (subst (λ (xs : List Lexeme). R.whole xs s.2) (l ∙ append-nil used) s.4) (subst (λ (xs : List Lexeme). S.beginning xs) (sym r) s.5)
      behind (m ∷ more) l r =
          let same : m ≡ t = cc in
          unfit (subst (λ (x : Lexeme). R.beginning (used ++ x ∷ [])) same (closed_at A R b₁ c₁ n₁ first_laws used m more (subst (λ (xs : List Lexeme). R.beginning xs) l (first_laws.begun s.0 s.2 s.4))))

      before : Before s.0 s.1 used (t ∷ []) → ⊥
      before b =
          apart.none b.next
          (first_laws.next s.0 s.2 b.next s.4 (closed_at A R b₁ c₁ n₁ first_laws s.0 b.next b.more (subst (λ (xs : List Lexeme). R.beginning xs) b.xs_is fits)))
          (closed_first B S b₂ c₂ n₂ second_laws b.next (b.more ++ t ∷ []) (subst (λ (xs : List Lexeme). S.beginning xs) b.right_is s.5))

      by_cases : Behind s.0 s.1 used (t ∷ []) ⊎ Before s.0 s.1 used (t ∷ []) → ⊥
      by_cases (inl b) = behind b.more b.left_is b.ys_is
      by_cases (inr b) = before b

module _ (A B : Type 0) (R U : Grammar A) (S V : Grammar B) (b₁ c₁ b₂ c₂ : List ℕ) (n₁ n₂ : Bool) (first_laws : Lawful A R b₁ c₁ n₁) (first_free : Lawful A U b₁ c₁ n₁)
    (second_laws : Lawful B S b₂ c₂ n₂) (second_free : Lawful B V b₂ c₂ n₂) (apart : Apart c₁ b₂) (first_under : Under A R U) (second_under : Under B S V)
    (first : Reader A) (first_reads : Reads A R U c₁ first) where
  -- a whole of the first grammar would have been read where the second can go on
  no_whole : (ts rest : List Lexeme) (stop : Stop) (used more : List Lexeme) (t : Lexeme) (a : A) → first ts ≡ Err (stop, rest) → used ++ rest ≡ ts → rest ≡ t ∷ more → R.whole used a → Among b₂ t → ⊥
  no_whole ts rest stop used more t a e all at w s =
      let free : Free c₁ rest = record { free = λ u others r c. let same : t ≡ u = cc in apart.none u c (subst (λ (x : Lexeme). Among b₂ x) same s) } in
      let read = sym (ap first (sym all) ∙ first_reads.complete used rest a w free) ∙ e in
      cc (read)

  unfit_first : (ts rest : List Lexeme) (stop : Stop) → first ts ≡ Err (stop, rest) → (u : StopsAt R.beginning U.beginning ts stop rest) → (both R S).beginning (u.used ++ u.token ∷ []) → ⊥
  unfit_first ts rest stop e u f =
      no_beginning_first A B R S b₁ c₁ b₂ c₂ n₁ n₂ first_laws second_laws apart u.used u.token u.fits u.unfit
      (λ a w s. no_whole ts rest stop u.used u.more u.token a e u.all u.at w (second_laws.first u.token s)) f

  unlimited_first : (ts rest : List Lexeme) (stop : Stop) → first ts ≡ Err (stop, rest) → (u : StopsAt R.beginning U.beginning ts stop rest) → (U.beginning (u.used ++ u.token ∷ []) → ⊥) → (both U V).beginning (u.used ++ u.token ∷ []) → ⊥
  unlimited_first ts rest stop e u unfit f =
      no_beginning_first A B U V b₁ c₁ b₂ c₂ n₁ n₂ first_free second_free apart u.used u.token (first_under.beginning u.used u.fits) unfit
      (λ a w s. no_whole ts rest stop u.used u.more u.token a e u.all u.at (first_under.solid u.used a w u.fits) (second_free.first u.token s)) f

  pub first_stopped : (ts rest : List Lexeme) (stop : Stop) → first ts ≡ Err (stop, rest) → StopsAt R.beginning U.beginning ts stop rest → StopsAt (both R S).beginning (both U V).beginning ts stop rest
  first_stopped ts rest stop e u = record {
    used = u.used;
    token = u.token;
    more = u.more;
    at = u.at;
    all = u.all;
    fits = inl u.fits;
    unfit = unfit_first ts rest stop e u;
    verdict = verdict_by stop (U.beginning (u.used ++ u.token ∷ [])) ((both U V).beginning (u.used ++ u.token ∷ [])) (λ f. inl f) (unlimited_first ts rest stop e u) u.verdict;
  }

  pub second_stopped : (ts middle rest : List Lexeme) (a : A) (stop : Stop) → Got A R U ts a middle → StopsAt S.beginning V.beginning middle stop rest → StopsAt (both R S).beginning (both U V).beginning ts stop rest
  second_stopped ts middle rest a stop one u = record {
    used = one.used ++ u.used;
    token = u.token;
    more = u.more;
    at = u.at;
    all = append_assoc one.used u.used rest ∙ ap (λ (xs : List Lexeme). one.used ++ xs) u.all ∙ one.all;
    fits = inr (one.used, u.used, a, refl, one.whole, u.fits);
    unfit = no_beginning A B R S b₁ c₁ b₂ c₂ n₁ n₂ first_laws second_laws apart one.used u.used a u.token one.whole
        (λ z zs cut f. over z zs cut (first_under.beginning (one.used ++ z ∷ []) f)) u.unfit;
    verdict = verdict_by stop (V.beginning (u.used ++ u.token ∷ [])) ((both U V).beginning ((one.used ++ u.used) ++ u.token ∷ []))
        (λ f. inr (one.used, u.used ++ u.token ∷ [], a, sym (append_assoc one.used u.used (u.token ∷ [])), first_under.whole one.used a one.whole, f))
        (λ refuted. no_beginning A B U V b₁ c₁ b₂ c₂ n₁ n₂ first_free second_free apart one.used u.used a u.token (first_under.whole one.used a one.whole) over refuted) u.verdict;
  }
    where
      over : (z : Lexeme) (zs : List Lexeme) → u.used ++ u.token ∷ [] ≡ z ∷ zs → U.beginning (one.used ++ z ∷ []) → ⊥
      over z zs cut =
          let w = first_same u.used u.more u.token z zs cut in
          one.over z w.0 (sym u.all ∙ ap (λ (xs : List Lexeme). u.used ++ xs) u.at ∙ w.1)

  pub both_got : (ts middle rest : List Lexeme) (a : A) (b : B) → Got A R U ts a middle → Got B S V middle b rest → Got (A × B) (both R S) (both U V) ts (a, b) rest
  both_got ts middle rest a b one two = record {
    used = one.used ++ two.used;
    all = append_assoc one.used two.used rest ∙ ap (λ (xs : List Lexeme). one.used ++ xs) two.all ∙ one.all;
    whole = (one.used, two.used, refl, one.whole, two.whole);
    over = λ t more r f.
        no_beginning A B U V b₁ c₁ b₂ c₂ n₁ n₂ first_free second_free apart one.used two.used a t (first_under.whole one.used a one.whole)
        (λ z zs cut. let w = first_same two.used more t z zs cut in one.over z w.0 (sym two.all ∙ ap (λ (xs : List Lexeme). two.used ++ xs) r ∙ w.1))
        (two.over t more r) f;
  }

module _ (A B : Type 0) (R U : Grammar A) (S V : Grammar B) (b₁ c₁ b₂ c₂ : List ℕ) (n₁ n₂ : Bool) (first_laws : Lawful A R b₁ c₁ n₁) (first_free : Lawful A U b₁ c₁ n₁)
    (second_laws : Lawful B S b₂ c₂ n₂) (second_free : Lawful B V b₂ c₂ n₂) (apart : Apart c₁ b₂) (first_under : Under A R U) (second_under : Under B S V)
    (first : Reader A) (second : Reader B) (first_reads : Reads A R U c₁ first) (second_reads : Reads B S V c₂ second) (first_keeps : Keeps A first) where
  pair_got : (ts rest : List Lexeme) (pair : A × B) → read_both first second ts ≡ Ok (pair, rest) → Got (A × B) (both R S) (both U V) ts pair rest
  pair_got ts rest pair e =
      let steps = both_ok A B second (first ts) pair rest e in
      both_got A B R U S V b₁ c₁ b₂ c₂ n₁ n₂ first_laws first_free second_laws second_free apart first_under second_under first first_reads ts steps.0 rest pair.0 pair.1
      (first_reads.got ts steps.0 pair.0 steps.1) (second_reads.got steps.0 rest pair.1 steps.2)

  pair_stopped : (ts rest : List Lexeme) (stop : Stop) → Ended ts → read_both first second ts ≡ Err (stop, rest) → StopsAt (both R S).beginning (both U V).beginning ts stop rest
  pair_stopped ts rest stop ended e = by_cases (both_err A B second (first ts) (stop, rest) e)
    where
      by_cases : (first ts ≡ Err (stop, rest)) ⊎ ((a : A) × (middle : List Lexeme) × (first ts ≡ Ok (a, middle)) × (second middle ≡ Err (stop, rest))) → StopsAt (both R S).beginning (both U V).beginning ts stop rest
      by_cases (inl f) =
          first_stopped A B R U S V b₁ c₁ b₂ c₂ n₁ n₂ first_laws first_free second_laws second_free apart first_under second_under first first_reads ts rest stop f (first_reads.stopped ts rest stop ended f)
      by_cases (inr s) =
          second_stopped A B R U S V b₁ c₁ b₂ c₂ n₁ n₂ first_laws first_free second_laws second_free apart first_under second_under first first_reads ts s.1 rest s.0 stop
          (first_reads.got ts s.1 s.0 s.2) (second_reads.stopped s.1 rest stop (first_keeps.ended ts s.1 s.0 ended s.2) s.3)

  free_second : (rest : List Lexeme) → Free (c₂ ++ (if n₂ then c₁ else [])) rest → Free c₂ rest
  free_second rest f = record { free = λ t more r c. f.free t more r (among-left c₂ (if n₂ then c₁ else []) t.symbol c) }

  free_first : (right rest : List Lexeme) (b : B) → S.whole right b → Free (c₂ ++ (if n₂ then c₁ else [])) rest → Free c₁ (right ++ rest)
  free_first [] rest b w f = record { free = λ t more r c. f.free t more r (among-right c₂ (if n₂ then c₁ else []) t.symbol (if_among n₂ c₁ t.symbol (second_laws.none b w) c)) }
  free_first (x ∷ right) rest b w f = record {
    free = λ t more r c. let same : x ≡ t = cc in apart.none t c (subst (λ (y : Lexeme). Among b₂ y) same (closed_first B S b₂ c₂ n₂ second_laws x right (second_laws.begun (x ∷ right) b w)));
  }

  pair_complete : (used rest : List Lexeme) (pair : A × B) → (both R S).whole used pair → Free (c₂ ++ (if n₂ then c₁ else [])) rest → read_both first second (used ++ rest) ≡ Ok (pair, rest)
  pair_complete used rest pair w f =
      let all : used ++ rest ≡ w.0 ++ (w.1 ++ rest) = ap (λ (xs : List Lexeme). xs ++ rest) (sym w.2) ∙ append_assoc w.0 w.1 rest in
      let one = first_reads.complete w.0 (w.1 ++ rest) pair.0 w.3 (free_first w.1 rest pair.1 w.4 f) in
      let two = second_reads.complete w.1 rest pair.1 w.4 (free_second rest f) in
      ap (λ (xs : List Lexeme). read_both first second xs) all ∙ ap (λ (r : Reading A). then_read r second) one ∙ ap (λ (r : Reading B). paired pair.0 r) two

  pub Reads-both : Reads (A × B) (both R S) (both U V) (c₂ ++ (if n₂ then c₁ else [])) (read_both first second)
  Reads-both = record { got = pair_got; stopped = pair_stopped; complete = pair_complete }

pub Keeps-both : (A B : Type 0) (first : Reader A) (second : Reader B) → Keeps A first → Keeps B second → Keeps (A × B) (read_both first second)
Keeps-both A B first second first_keeps second_keeps = record {
  ended = λ ts rest pair e r. let steps = both_ok A B second (first ts) pair rest r in second_keeps.ended steps.0 rest pair.1 (first_keeps.ended ts steps.0 pair.0 e steps.1) steps.2;
}

-- ---- other trees

module _ (A B : Type 0) (f : A → B) (R U : Grammar A) (c : List ℕ) (read : Reader A) (reads : Reads A R U c read) where
  tree_got : (ts rest : List Lexeme) (b : B) → mapped f (read ts) ≡ Ok (b, rest) → Got B (tree f R) (tree f U) ts b rest
  tree_got ts rest b e =
      let r = mapped_ok A B f (read ts) b rest e in
      let g = reads.got ts rest r.0 r.1 in
      record { used = g.used; all = g.all; whole = (r.0, g.whole, r.2); over = g.over }

  tree_complete : (used rest : List Lexeme) (b : B) → (tree f R).whole used b → Free c rest → mapped f (read (used ++ rest)) ≡ Ok (b, rest)
  tree_complete used rest b w free = ap (λ (r : Reading A). mapped f r) (reads.complete used rest w.0 w.1 free) ∙ ap (λ (x : B). Ok (x, rest)) (sym w.2)

  pub Reads-tree : Reads B (tree f R) (tree f U) c (read_tree f read)
  Reads-tree = record { got = tree_got; stopped = λ ts rest stop ended e. reads.stopped ts rest stop ended (mapped_err A B f (read ts) (stop, rest) e); complete = tree_complete }

pub Keeps-tree : (A B : Type 0) (f : A → B) (read : Reader A) → Keeps A read → Keeps B (read_tree f read)
Keeps-tree A B f read keeps = record { ended = λ ts rest b e r. let m = mapped_ok A B f (read ts) b rest r in keeps.ended ts rest m.0 e m.1 }
