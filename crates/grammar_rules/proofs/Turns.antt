-- A reader of many as a loop reads them: a turn for each that its symbols begin.
use Rattle.std.proofs.Common.{◌≡◌, inl, inr, ◌<◌, ◌≤◌, ℕ, zero, suc, List, [], ◌∷◌, ◌++◌, length, length-append, true, false, refl, ap, sym, ◌∙◌, append_assoc, arith}
use Rattle.std.proofs.lemmas.List.{append-nil}
use Rattle.std.specs.Prelude.{if◌then◌else◌, Ok, Err}
use Rattle.grammar_rules.specs.declared.stop.Stop.{Stop}
use Rattle.grammar_rules.specs.Lexemes.{Lexeme, among, begins_with, no_symbol}
use Rattle.grammar_rules.specs.Rules.{Grammar, cons_of}
use Rattle.grammar_rules.specs.Readers.{Reading, Reader, mapped, paired, then_read, read_times, read_repeated, IsStop}
use Rattle.grammar_rules.specs.Laws.{Fits}
use Rattle.grammar_rules.proofs.RepeatedReaders.{goes_on, ends}

-- what is read takes a token
pub record Takes (A : Type 0) (read : Reader A) : Type 0 where
  pub shorter : (ts rest : List Lexeme) (a : A) → read ts ≡ Ok (a, rest) → length rest < length ts

pub takes : {A P : Type 0} {R U : Grammar A} {b c : List ℕ} {read : Reader A} → Fits A P R U b c false read → P → Takes A read
takes {A} {P} {R} fits p = record { shorter = λ ts rest a e. let g = (fits.reads p).got ts rest a e in by_cases ts rest a g.used g.all g.whole }
  where
    by_cases : (ts rest : List Lexeme) (a : A) (used : List Lexeme) → used ++ rest ≡ ts → R.whole used a → length rest < length ts
    by_cases ts rest a [] e w = absurd (cc (fits.laws.none a w))
    by_cases ts rest a (x ∷ used) e w = rw (← e) (omega (arith, length-append used rest))

-- these trees, and then those that are read
abbrev pub joined : {A : Type 0} → List A → Reading (List A) → Reading (List A)
joined front (Ok read) = Ok (front ++ read.0, read.1)
joined front (Err stop) = Err stop

pub joined-nil : {A : Type 0} (read : Reading (List A)) → joined [] read ≡ read
joined-nil (Ok read) = refl
joined-nil (Err stop) = refl

joined-joined : {A : Type 0} (front more : List A) (read : Reading (List A)) → joined front (joined more read) ≡ joined (front ++ more) read
joined-joined {A} front more (Ok read) = ap (λ (trees : List A). let both : List A × List Lexeme = (trees, read.1) in Ok both) (sym (append_assoc front more read.0))
joined-joined front more (Err stop) = refl

then_same : {A B : Type 0} (read : Reading A) (f g : Reader B) → ((a : A) (rest : List Lexeme) → read ≡ Ok (a, rest) → f rest ≡ g rest) → then_read read f ≡ then_read read g
then_same (Ok (a, rest)) f g h = ap (paired a) (h a rest refl)
then_same (Err stop) f g h = refl

cons_joined : {A : Type 0} (a : A) (read : Reading (List A)) → mapped cons_of (paired a read) ≡ joined (a ∷ []) read
cons_joined a (Ok read) = refl
cons_joined a (Err stop) = refl

module _ (A : Type 0) (set : List ℕ) (read : Reader A) (absent : among set no_symbol ≡ false) (takes : Takes A read) where
  -- how many times doesn't matter, if it is enough for all tokens
  enough : (m n : ℕ) (ts : List Lexeme) → length ts ≤ m → length ts ≤ n → read_times m set read ts ≡ read_times n set read ts
  enough zero zero ts a b = refl
  enough zero (suc n) [] a b = sym (ends A set read n [] absent)
  enough zero (suc n) (t ∷ ts) a b = absurd (omega arith)
  enough (suc m) zero [] a b = ends A set read m [] absent
  enough (suc m) zero (t ∷ ts) a b = absurd (omega arith)
  enough (suc m) (suc n) ts a b =
      ap (λ (r : Reading (A × List A)). if begins_with set ts then mapped cons_of r else Ok ([], ts))
      (then_same (read ts) (read_times m set read) (read_times n set read) (λ x rest e. let less = takes.shorter ts rest x e in enough m n rest (omega arith) (omega arith)))

  once : (ts rest : List Lexeme) (a : A) → begins_with set ts ≡ true → read ts ≡ Ok (a, rest) → read_repeated set read ts ≡ joined (a ∷ []) (read_repeated set read rest)
  once [] rest a h e = absurd (cc (absent, h))
  once (t ∷ ts) rest a h e =
      let less = takes.shorter (t ∷ ts) rest a e in
      goes_on A set read (length ts) (t ∷ ts) h
      ∙ ap (λ (r : Reading A). mapped cons_of (then_read r (read_times (length ts) set read))) e
      ∙ cons_joined a (read_times (length ts) set read rest)
      ∙ ap (joined (a ∷ [])) (enough (length ts) (length rest) rest (omega arith) (omega arith))

  stopped : (ts rest : List Lexeme) (stop : Stop) → begins_with set ts ≡ true → read ts ≡ Err (stop, rest) → read_repeated set read ts ≡ Err (stop, rest)
  stopped [] rest stop h e = absurd (cc (absent, h))
  stopped (t ∷ ts) rest stop h e =
      goes_on A set read (length ts) (t ∷ ts) h ∙ ap (λ (r : Reading A). mapped cons_of (then_read r (read_times (length ts) set read))) e

  none : (ts : List Lexeme) → begins_with set ts ≡ false → read_repeated set read ts ≡ Ok ([], ts)
  none [] h = refl
  none (t ∷ ts) h = ends A set read (length ts) (t ∷ ts) h

  -- a turn of the loop
  pub turn_on : (front next : List A) (before after : List Lexeme) (a : A) (whole : Reading (List A)) → begins_with set before ≡ true → read before ≡ Ok (a, after) → next ≡ front ++ a ∷ []
      → joined front (read_repeated set read before) ≡ whole → joined next (read_repeated set read after) ≡ whole
  turn_on front next before after a whole h e n w =
      ap (λ (trees : List A). joined trees (read_repeated set read after)) n
      ∙ sym (joined-joined front (a ∷ []) (read_repeated set read after)) ∙ ap (joined front) (sym (once before after a h e)) ∙ w

  -- a turn that stops
  pub turn_stops : (front : List A) (before after : List Lexeme) (stop : Stop) (whole : Reading (List A)) → begins_with set before ≡ true → IsStop (read before) after stop
      → joined front (read_repeated set read before) ≡ whole → IsStop whole after stop
  turn_stops front before after stop whole h (inl memory) w = inl memory
  turn_stops front before after stop whole h (inr e) w = inr (sym w ∙ ap (joined front) (stopped before after stop h e))

  -- the end of the loop
  pub turns_end : (front : List A) (before : List Lexeme) (whole : Reading (List A)) → begins_with set before ≡ false → joined front (read_repeated set read before) ≡ whole → whole ≡ Ok (front, before)
  turns_end front before whole h w =
      sym w ∙ ap (joined front) (none before h) ∙ ap (λ (trees : List A). let both : List A × List Lexeme = (trees, before) in Ok both) (append-nil front)
