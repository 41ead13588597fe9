-- The sum that is carried from value to value is the sum of the list.
use Rattle.std.proofs.Common.{◌≡◌, ℕ, suc, ◌+◌, ◌≤◌, Bool, true, false, cond, List, [], ◌∷◌, map, length, refl, sym, ap, ◌∙◌, arith}
use Rattle.std.proofs.Common.{ℤ, pos}
use Rattle.std.specs.List.{fold, list_all}
use Rattle.std.specs.Prelude.{nat_lt, nat_le, ◌&&◌, ◌+ℤ◌, Option, Some, None}
use Rattle.std.proofs.lemmas.Bool.Decides.{nat_tests}
use Rattle.event_value.specs.declared.value.Value.{Value}
use Rattle.event_value.specs.declared.value.Value.TheVariants.{Null, Bit, Big, Fixed, Text, Moment}
use Rattle.row_groups.specs.Aggregates.{exact_sum_from, is_fixed, is_whole, is_wide, most_numbers, number_of, sum_of, total_or_unfit}
use Rattle.row_groups.specs.Tallies.{fitting, no_numbers, sum_with, total_with}
use Rattle.row_groups.specs.declared.sum.Sum.{Sum}
use Rattle.row_groups.specs.declared.sum.Sum.TheVariants.{Empty, Whole, Decimal, Unfit}
use Rattle.row_groups.specs.declared.sum.Total.{Total}

fold-Unfit : (values : List Value) → fold sum_with Unfit values ≡ Unfit
fold-Unfit [] = refl
fold-Unfit (value ∷ values) = fold-Unfit values

cond-same : {X : Type 0} (b : Bool) (x : X) → cond b x x ≡ x
cond-same true x = refl
cond-same false x = refl

lt-true : (a b : ℕ) → nat_lt a b ≡ true → a + 1 ≤ b
lt-true a b h = grind (arith, nat_tests)

full : (a b n : ℕ) → nat_lt a b ≡ false → nat_le (a + suc n) b ≡ false
full a b n h = grind (arith, nat_tests)

le-true : (a b : ℕ) → a ≤ b → nat_le a b ≡ true
le-true a b h = grind (arith, nat_tests)

-- numbers of one kind
module _ (kind : Total → Sum) (is_kind : Value → Bool)
    (same : (t : Total) (value : Value) → is_kind value ≡ true → sum_with (kind t) value ≡ fitting kind (total_with t (number_of value)))
    (other : (t : Total) (value : Value) → is_kind value ≡ false → sum_with (kind t) value ≡ Unfit) where
  -- a total of so many, where there are not too many
  abbrev upto_most : ℕ → Option ℤ → Sum
  upto_most count sum = cond (nat_le count most_numbers) (total_or_unfit kind count sum) Unfit

  abbrev carried : Total → List Value → Sum
  carried t values = cond (list_all is_kind values) (upto_most (t.count + length values) (exact_sum_from t.sum (map number_of values))) Unfit

  abbrev carried_from : Total → ℤ → List Value → Sum
  carried_from t n values =
      cond (list_all is_kind values) (upto_most (t.count + suc (length values)) (exact_sum_from t.sum (n ∷ map number_of values))) Unfit

  fold-from : (t : Total) (n : ℤ) (values : List Value)
      → ((u : Total) → u.count ≤ most_numbers → fold sum_with (kind u) values ≡ carried u values)
      → fold sum_with (fitting kind (total_with t n)) values ≡ carried_from t n values
  fold-from t n values rest = by_count (nat_lt t.count most_numbers) (is_wide (t.sum +ℤ n)) refl refl
    where
      grown : Total
      grown = record { count = t.count + 1; sum = t.sum +ℤ n }

      by_count : (a b : Bool) → nat_lt t.count most_numbers ≡ a → is_wide (t.sum +ℤ n) ≡ b
          → fold sum_with (fitting kind (total_with t n)) values ≡ carried_from t n values
      by_count true true h k =
          ap (λ (a : Bool). fold sum_with (fitting kind (cond (a && is_wide (t.sum +ℤ n)) (Some grown) None)) values) h
          ∙ ap (λ (b : Bool). fold sum_with (fitting kind (cond b (Some grown) None)) values) k
          ∙ rest grown (lt-true t.count most_numbers h)
          ∙ ap (λ (m : ℕ). cond (list_all is_kind values) (upto_most m (exact_sum_from (t.sum +ℤ n) (map number_of values))) Unfit) (omega arith)
          ∙ ap (λ (b : Bool). cond (list_all is_kind values) (upto_most (t.count + suc (length values)) (cond b (exact_sum_from (t.sum +ℤ n) (map number_of values)) None)) Unfit) (sym k)
      by_count true false h k =
          ap (λ (a : Bool). fold sum_with (fitting kind (cond (a && is_wide (t.sum +ℤ n)) (Some grown) None)) values) h
          ∙ ap (λ (b : Bool). fold sum_with (fitting kind (cond b (Some grown) None)) values) k
          ∙ fold-Unfit values
          ∙ sym (ap (λ (b : Bool). cond (list_all is_kind values) (upto_most (t.count + suc (length values)) (cond b (exact_sum_from (t.sum +ℤ n) (map number_of values)) None)) Unfit) k
          ∙ ap (λ (s : Sum). cond (list_all is_kind values) s Unfit) (cond-same (nat_le (t.count + suc (length values)) most_numbers) Unfit)
          ∙ cond-same (list_all is_kind values) Unfit)
      by_count false b h k =
          ap (λ (a : Bool). fold sum_with (fitting kind (cond (a && is_wide (t.sum +ℤ n)) (Some grown) None)) values) h
          ∙ fold-Unfit values
          ∙ sym (ap (λ (a : Bool). cond (list_all is_kind values) (cond a (total_or_unfit kind (t.count + suc (length values)) (exact_sum_from t.sum (n ∷ map number_of values))) Unfit) Unfit) (full t.count most_numbers (length values) h)
          ∙ cond-same (list_all is_kind values) Unfit)

  fold-carried : (t : Total) (values : List Value) → t.count ≤ most_numbers → fold sum_with (kind t) values ≡ carried t values
  fold-carried t [] h =
      sym (ap (λ (m : ℕ). upto_most m (Some t.sum)) (omega arith)
      ∙ ap (λ (b : Bool). cond b (kind (record { count = t.count; sum = t.sum })) Unfit) (le-true t.count most_numbers h))
  fold-carried t (value ∷ values) h =
      elim (is_kind value) as (λ b. is_kind value ≡ b → fold sum_with (sum_with (kind t) value) values ≡ cond (b && list_all is_kind values) (upto_most (t.count + suc (length values)) (exact_sum_from t.sum (number_of value ∷ map number_of values))) Unfit) [
        | true ↦ λ e. ap (λ (s : Sum). fold sum_with s values) (same t value e) ∙ fold-from t (number_of value) values (λ u. fold-carried u values)
        | false ↦ λ e. ap (λ (s : Sum). fold sum_with s values) (other t value e) ∙ fold-Unfit values
      ] refl

  -- a sum that begins with a number of this kind
  pub fold-first : (n : ℤ) (values : List Value)
      → fold sum_with (fitting kind (total_with no_numbers n)) values
      ≡ cond (list_all is_kind values) (upto_most (suc (length values)) (exact_sum_from (pos 0) (n ∷ map number_of values))) Unfit
  fold-first n values =
      fold-from no_numbers n values (λ u. fold-carried u values)
      ∙ ap (λ (m : ℕ). cond (list_all is_kind values) (upto_most m (exact_sum_from (pos 0) (n ∷ map number_of values))) Unfit) (omega arith)

whole-same : (t : Total) (value : Value) → is_whole value ≡ true → sum_with (Whole t) value ≡ fitting Whole (total_with t (number_of value))
whole-same t Null e = cc
whole-same t (Bit b) e = cc
whole-same t (Big n) e = refl
whole-same t (Fixed m) e = cc
whole-same t (Text x) e = cc
whole-same t (Moment m) e = cc

whole-other : (t : Total) (value : Value) → is_whole value ≡ false → sum_with (Whole t) value ≡ Unfit
whole-other t Null e = refl
whole-other t (Bit b) e = refl
whole-other t (Big n) e = cc
whole-other t (Fixed m) e = refl
whole-other t (Text x) e = refl
whole-other t (Moment m) e = refl

decimal-same : (t : Total) (value : Value) → is_fixed value ≡ true → sum_with (Decimal t) value ≡ fitting Decimal (total_with t (number_of value))
decimal-same t Null e = cc
decimal-same t (Bit b) e = cc
decimal-same t (Big n) e = cc
decimal-same t (Fixed m) e = refl
decimal-same t (Text x) e = cc
decimal-same t (Moment m) e = cc

decimal-other : (t : Total) (value : Value) → is_fixed value ≡ false → sum_with (Decimal t) value ≡ Unfit
decimal-other t Null e = refl
decimal-other t (Bit b) e = refl
decimal-other t (Big n) e = refl
decimal-other t (Fixed m) e = cc
decimal-other t (Text x) e = refl
decimal-other t (Moment m) e = refl

pub fold-sum_of : (values : List Value) → fold sum_with Empty values ≡ sum_of values
fold-sum_of [] = refl
fold-sum_of (Null ∷ values) = fold-Unfit values
fold-sum_of (Bit b ∷ values) = fold-Unfit values
fold-sum_of (Big n ∷ values) = fold-first Whole is_whole whole-same whole-other n values
fold-sum_of (Fixed m ∷ values) = fold-first Decimal is_fixed decimal-same decimal-other m values
fold-sum_of (Text t ∷ values) = fold-Unfit values
fold-sum_of (Moment m ∷ values) = fold-Unfit values
