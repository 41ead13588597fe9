-- Rules, positions, dropped records, marks of substreams and rows have forms.
use Rattle.std.specs.Prelude.{◌≡◌, ℕ, ◌≤◌, true, false, ◌&&◌, cond, ◌==◌, refl}
use Rattle.std.proofs.Common.{sym, ◌∙◌, arith}
use Rattle.std.proofs.lemmas.Bool.Decides.{nat_tests}
use Rattle.event_value.specs.declared.record.Rule.{Rule}
use Rattle.event_value.specs.declared.record.Rule.TheVariants.{Syntax, Enqueued, Number, Field, Long, Damaged, SegmentTooLong, NoTime, Early, Late, Disorder}
use Rattle.field_forms.specs.Forms.{IsForm}
use Rattle.field_forms.specs.FormLaws.{IsForm-image_form, IsForm-pair_form, IsForm-record_form, IsForm-tested_form, and-first}
use Rattle.field_forms.specs.NumberLaws.{IsForm-moment_form, IsForm-u16_form, IsForm-u32_form, IsForm-u8_form}
use Rattle.field_forms.specs.Numbers.{u8_form}
use Rattle.field_forms.specs.Records.{dropped_form, dropped_of, dropped_parts, is_any, is_rule_number, key_mark_form, key_mark_of, key_mark_parts, position_form, position_of, position_parts, rule_form, rule_number, rule_of, stamped_form, stamped_of, stamped_parts}
use Rattle.field_forms.specs.ValueLaws.{IsForm-values_form}

rule-back : (r : Rule) → rule_of (rule_number r) ≡ r
rule-back Syntax = refl
rule-back Enqueued = refl
rule-back Number = refl
rule-back Field = refl
rule-back Long = refl
rule-back Damaged = refl
rule-back SegmentTooLong = refl
rule-back NoTime = refl
rule-back Early = refl
rule-back Late = refl
rule-back Disorder = refl

rule-fits : (r : Rule) → (is_rule_number (rule_number r) && u8_form.fits (rule_number r)) ≡ true
rule-fits Syntax = refl
rule-fits Enqueued = refl
rule-fits Number = refl
rule-fits Field = refl
rule-fits Long = refl
rule-fits Damaged = refl
rule-fits SegmentTooLong = refl
rule-fits NoTime = refl
rule-fits Early = refl
rule-fits Late = refl
rule-fits Disorder = refl

eq-true : (m n : ℕ) → (m == n) ≡ true → m ≡ n
eq-true m n h = grind (arith, nat_tests)

eq-false : (m n : ℕ) → (m == n) ≡ false → m ≡ n → ⊥
eq-false m n h e = grind (arith, nat_tests)

in-range : (n : ℕ) → is_rule_number n ≡ true → (1 ≤ n) × (n ≤ 11)
in-range n h = (grind (arith, nat_tests), grind (arith, nat_tests))

number-at : (k n : ℕ) (r s : Rule) → rule_number r ≡ k → ((n ≡ k → ⊥) → rule_number s ≡ n) → rule_number (cond (n == k) r s) ≡ n
number-at k n r s p q = elim (n == k) as (λ b. (n == k) ≡ b → rule_number (cond b r s) ≡ n) [
  | true ↦ λ e. p ∙ sym (eq-true n k e)
  | false ↦ λ e. q (eq-false n k e)
] refl

rule-forth : (n : ℕ) → is_rule_number n ≡ true → rule_number (rule_of n) ≡ n
rule-forth n h =
    let r = in-range n h in
    number-at 1 n Syntax _ refl (λ n1.
    number-at 2 n Enqueued _ refl (λ n2.
    number-at 3 n Number _ refl (λ n3.
    number-at 4 n Field _ refl (λ n4.
    number-at 5 n Long _ refl (λ n5.
    number-at 6 n Damaged _ refl (λ n6.
    number-at 7 n SegmentTooLong _ refl (λ n7.
    number-at 8 n NoTime _ refl (λ n8.
    number-at 9 n Early _ refl (λ n9.
    number-at 10 n Late _ refl (λ n10.
    (omega (arith, r.0, r.1, n1, n2, n3, n4, n5, n6, n7, n8, n9, n10))))))))))))

pub IsForm-rule_form : IsForm rule_form
IsForm-rule_form = IsForm-image_form is_any rule_of rule_number (record {
  back = λ r h. rule-back r;
  back_fits = λ r h. rule-fits r;
  forth = λ n h. rule-forth n (and-first (is_rule_number n) (u8_form.fits n) h);
  forth_fits = λ n h. refl;
}) (IsForm-tested_form is_rule_number IsForm-u8_form)

pub IsForm-position_form : IsForm position_form
IsForm-position_form =
    IsForm-record_form position_of position_parts (λ b. refl) (λ a. refl) (IsForm-pair_form IsForm-u32_form IsForm-u32_form)

pub IsForm-dropped_form : IsForm dropped_form
IsForm-dropped_form =
    IsForm-record_form dropped_of dropped_parts (λ b. refl) (λ a. refl)
    (IsForm-pair_form IsForm-u16_form (IsForm-pair_form IsForm-u16_form (IsForm-pair_form IsForm-u32_form (IsForm-pair_form IsForm-u32_form IsForm-rule_form))))

pub IsForm-key_mark_form : IsForm key_mark_form
IsForm-key_mark_form =
    IsForm-record_form key_mark_of key_mark_parts (λ b. refl) (λ a. refl) (IsForm-pair_form IsForm-values_form IsForm-moment_form)

pub IsForm-stamped_form : IsForm stamped_form
IsForm-stamped_form =
    IsForm-record_form stamped_of stamped_parts (λ b. refl) (λ a. refl) (IsForm-pair_form IsForm-moment_form IsForm-values_form)
