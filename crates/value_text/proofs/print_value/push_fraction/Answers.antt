use Rattle.std.proofs.Common.{◌≡◌, ◌++◌, ◌<◌, ℕ, ◌+◌, ◌%◌, List, [], ◌∷◌, length, get_or, drop, arith, refl, rules, drop-cons}
use Rattle.std.proofs.lemmas.Grind.{common_steps}
use Rattle.std.proofs.lemmas.Bool.Decides.{nat_tests}
use Rattle.tick_time.specs.MomentText.{digit}
use Rattle.value_text.specs.Printed.{fraction_digits, fraction_text, places_behind_point}
use Rattle.value_text.proofs.print_value.push_fraction.Goals as goal

fraction_digits-cons : (place n : ℕ) (places : List ℕ) → (n ≡ 0 → ⊥) → fraction_digits (place ∷ places) n ≡ digit n place ∷ fraction_digits places (n % place)
fraction_digits-cons place n places h = grind (arith, nat_tests)

fraction_digits-zero : (places : List ℕ) (n : ℕ) → n ≡ 0 → fraction_digits places n ≡ []
fraction_digits-zero [] n e = refl
fraction_digits-zero (place ∷ places) n e = grind (arith, nat_tests)

next_digit : (out more whole places : List ℕ) (i n : ℕ) → i < length places → (n ≡ 0 → ⊥) → more ≡ out ++ digit n (get_or places i 0) ∷ []
    → out ++ fraction_digits (drop i places) n ≡ whole → more ++ fraction_digits (drop (i + 1) places) (n % get_or places i 0) ≡ whole
next_digit out more whole places i n low h e is =
    let cut = drop-cons places i 0 low in
    let first = fraction_digits-cons (get_or places i 0) n (drop (i + 1) places) h in
    grind (arith, common_steps)

last_digit : (out start places : List ℕ) (n rest : ℕ) → (n ≡ 0 → ⊥) → rest ≡ 0
    → out ++ fraction_digits places rest ≡ start ++ 46 ∷ fraction_digits places_behind_point n → out ≡ start ++ fraction_text n
last_digit out start places n rest h e is =
    let none = fraction_digits-zero places rest e in
    grind (arith, nat_tests, common_steps)

pub loop-place-preserved : goal.loop-place-preserved
loop-place-preserved c =
    next_digit c.loop-place.out c.push-in-loop-place.new.self (c.args.out.now ++ 46 ∷ fraction_digits places_behind_point c.args.millionths) places_behind_point c.loop-place.place-index c.loop-place.rest
    (search rules) (search rules) (search rules) c.loop-place.invariant

pub returns-then-rest-eq0 : goal.returns-then-rest-eq0
returns-then-rest-eq0 c = last_digit _ _ _ _ _ (search rules) c.if-rest-eq0.true c.loop-place.invariant
