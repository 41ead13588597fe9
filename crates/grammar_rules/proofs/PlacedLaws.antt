-- A grammar with the place of its first token.
use Rattle.std.proofs.Common.{◌≡◌, ℕ, List, [], ◌∷◌, ◌++◌, Bool, false, refl, ap, sym, ◌∙◌, subst}
use Rattle.std.specs.Prelude.{Ok}
use Rattle.grammar_rules.specs.Lexemes.{Lexeme, first_place}
use Rattle.grammar_rules.specs.Rules.{Grammar, placed}
use Rattle.grammar_rules.specs.Readers.{Reading, Reader, mapped, with_place, read_placed}
use Rattle.grammar_rules.specs.Laws.{Free, Lawful, Got, Reads, Fits}
use Rattle.grammar_rules.proofs.ReaderLaws.{mapped_ok, mapped_err}

module _ (A : Type 0) (R U : Grammar A) (b c : List ℕ) (laws : Lawful A R b c false) where
  same_place : (used rest ts : List Lexeme) (a : A) → R.whole used a → used ++ rest ≡ ts → first_place ts ≡ first_place used
  same_place [] rest ts a w e = absurd (cc (laws.none a w))
  same_place (t ∷ used) rest ts a w e = ap first_place (sym e)

  module _ (read : Reader A) (reads : Reads A R U c read) where
    placed_got : (ts rest : List Lexeme) (pair : ℕ × A) → read_placed read ts ≡ Ok (pair, rest) → Got (ℕ × A) (placed R) (placed U) ts pair rest
    placed_got ts rest pair e =
        let m = mapped_ok A (ℕ × A) (with_place (first_place ts)) (read ts) pair rest e in
        let g = reads.got ts rest m.0 m.1 in
        let place : pair.0 ≡ first_place g.used = ap (λ (p : ℕ × A). p.0) m.2 ∙ same_place g.used rest ts m.0 g.whole g.all in
        let tree : m.0 ≡ pair.1 = sym (ap (λ (p : ℕ × A). p.1) m.2) in
        record { used = g.used; all = g.all; whole = (place, subst (λ (x : A). R.whole g.used x) tree g.whole); over = g.over }

    placed_complete : (used rest : List Lexeme) (pair : ℕ × A) → (placed R).whole used pair → Free c rest → read_placed read (used ++ rest) ≡ Ok (pair, rest)
    placed_complete used rest pair w free =
        ap (λ (r : Reading A). mapped (with_place (first_place (used ++ rest))) r) (reads.complete used rest pair.1 w.1 free)
        ∙ ap (λ (n : ℕ). Ok ((n, pair.1), rest)) (same_place used rest (used ++ rest) pair.1 w.1 refl ∙ sym w.0)

    pub Reads-placed : Reads (ℕ × A) (placed R) (placed U) c (read_placed read)
    Reads-placed = record {
      got = placed_got;
      stopped = λ ts rest stop ended e. reads.stopped ts rest stop ended (mapped_err A (ℕ × A) (with_place (first_place ts)) (read ts) (stop, rest) e);
      complete = placed_complete;
    }

pub Lawful-placed : (A : Type 0) (R : Grammar A) (b c : List ℕ) (n : Bool) → Lawful A R b c n → Lawful (ℕ × A) (placed R) b c n
Lawful-placed A R b c n laws = record {
  empty = laws.empty;
  closed = laws.closed;
  begun = λ xs pair w. laws.begun xs pair.1 w.1;
  first = laws.first;
  next = λ xs pair t w f. laws.next xs pair.1 t w.1 f;
  none = λ pair w. laws.none pair.1 w.1;
}

-- a grammar that isn't nothing, with the place of its first token
pub fits_placed : {A P : Type 0} {R U : Grammar A} {b c : List ℕ} {read : Reader A} → Fits A P R U b c false read → Fits (ℕ × A) P (placed R) (placed U) b c false (read_placed read)
fits_placed {A} {P} {R} {U} {b} {c} {read} one = record {
  laws = Lawful-placed A R b c false one.laws;
  wider_laws = Lawful-placed A U b c false one.wider_laws;
  under = record {
    whole = λ ts pair w. (w.0, one.under.whole ts pair.1 w.1);
    beginning = one.under.beginning;
    solid = λ ts pair w f. (w.0, one.under.solid ts pair.1 w.1 f);
  };
  reads = λ p. Reads-placed A R U b c one.laws read (one.reads p);
  keeps = record { ended = λ ts rest pair ended e. let m = mapped_ok A (ℕ × A) (with_place (first_place ts)) (read ts) pair rest e in one.keeps.ended ts rest m.0 ended m.1 };
}
