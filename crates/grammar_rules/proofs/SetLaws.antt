-- Wider sets of symbols.
use Rattle.std.proofs.Common.{◌≡◌, ℕ, List, [], ◌∷◌, Bool, true, false, refl, arith, subst}
use Rattle.std.proofs.lemmas.Bool.Decides.{nat_tests}
use Rattle.std.specs.Prelude.{◌==◌, ◌||◌, ◌&&◌}
use Rattle.grammar_rules.specs.Lexemes.{among, subset}
use Rattle.grammar_rules.specs.Rules.{Grammar}
use Rattle.grammar_rules.specs.Readers.{Reader}
use Rattle.grammar_rules.specs.Laws.{Fits}
use Rattle.grammar_rules.proofs.RuleLaws.{Lawful-wider}

equal_numbers : (m n : ℕ) → (m == n) ≡ true → m ≡ n
equal_numbers m n e = grind (arith, nat_tests)

in_subset : (xs ys : List ℕ) (n : ℕ) → subset xs ys ≡ true → among xs n ≡ true → among ys n ≡ true
in_subset [] ys n s h = cc
in_subset (x ∷ xs) ys n s h = by_cases (x == n) (among ys x) refl refl s h (λ rest. in_subset xs ys n rest)
  where
    by_cases : (b a : Bool) → (x == n) ≡ b → among ys x ≡ a → (a && subset xs ys) ≡ true → (b || among xs n) ≡ true
        → (subset xs ys ≡ true → among xs n ≡ true → among ys n ≡ true) → among ys n ≡ true
    by_cases true true e f s h later = subst (λ (m : ℕ). among ys m ≡ true) (equal_numbers x n e) f
    by_cases false true e f s h later = later s h
    by_cases b false e f s h later = cc

-- what begins and continues a grammar is within wider sets
pub fits_sets : {A P : Type 0} {R U : Grammar A} {b c : List ℕ} {n : Bool} {read : Reader A} (wider_begins wider_continues : List ℕ) → subset b wider_begins ≡ true → subset c wider_continues ≡ true
    → Fits A P R U b c n read → Fits A P R U wider_begins wider_continues n read
fits_sets {A} {P} {R} {U} {b} {c} {n} {read} b' c' in_begins in_continues one = record {
  laws = Lawful-wider A R b c b' c' n n one.laws (λ t h. in_subset b b' t.symbol in_begins h) (λ t h. in_subset c c' t.symbol in_continues h) (λ e. e);
  wider_laws = Lawful-wider A U b c b' c' n n one.wider_laws (λ t h. in_subset b b' t.symbol in_begins h) (λ t h. in_subset c c' t.symbol in_continues h) (λ e. e);
  under = one.under;
  reads = λ p. let reads = one.reads p in record {
    got = reads.got;
    stopped = reads.stopped;
    complete = λ used rest a w free. reads.complete used rest a w (record { free = λ t more r h. free.free t more r (in_subset c c' t.symbol in_continues h) });
  };
  keeps = one.keeps;
}
