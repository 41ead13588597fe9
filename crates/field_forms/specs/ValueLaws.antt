-- Values have a form.
use Rattle.std.specs.Prelude.{◌≡◌, ℕ, Bool, true, ℤ, List, Option, Some, None, refl}
use Rattle.std.proofs.Common.{sym, ap}
use Rattle.event_value.specs.Order.{kind_rank}
use Rattle.event_value.specs.declared.value.Value.{Value}
use Rattle.event_value.specs.declared.value.Value.TheVariants.{Null, Bit, Big, Fixed, Text, Moment}
use Rattle.field_forms.specs.Forms.{IsForm}
use Rattle.field_forms.specs.FormLaws.{AreBodies, AreBodies-alternative, AreBodies-no_alternative, IsForm-constant_form, IsForm-tagged_form, IsForm-variant_form, variant-tag}
use Rattle.field_forms.specs.FieldLaws.{IsForm-bit_form, IsForm-text_form}
use Rattle.field_forms.specs.ListLaws.{IsForm-list_form}
use Rattle.field_forms.specs.NumberLaws.{IsForm-i64_form, IsForm-moment_form, IsForm-u32_form}
use Rattle.field_forms.specs.Values.{big_of, bit_of, fixed_of, is_null, moment_of, text_of, value_body, value_form, values_form}

some-same : {A : Type 0} (a c : A) → ◌≡◌ {A = Option A} (Some c) (Some a) → a ≡ c
some-same a c e = sym (ap (content_or c) e)
  where
    content_or : {A : Type 0} → A → Option A → A
    content_or c None = c
    content_or c (Some b) = b

null-is : (v : Value) → is_null v ≡ true → Null ≡ v
null-is Null h = refl
null-is (Bit b) h = cc
null-is (Big n) h = cc
null-is (Fixed m) h = cc
null-is (Text t) h = cc
null-is (Moment m) h = cc

null-tag : (v : Value) → is_null v ≡ true → kind_rank v ≡ 0
null-tag v h = ap kind_rank (sym (null-is v h))

bit-is : (v : Value) (a : Bool) → bit_of v ≡ Some a → Bit a ≡ v
bit-is Null a e = cc
bit-is (Bit c) a e = ap Bit (some-same a c e)
bit-is (Big c) a e = cc
bit-is (Fixed c) a e = cc
bit-is (Text c) a e = cc
bit-is (Moment c) a e = cc

big-is : (v : Value) (a : ℤ) → big_of v ≡ Some a → Big a ≡ v
big-is Null a e = cc
big-is (Bit c) a e = cc
big-is (Big c) a e = ap Big (some-same a c e)
big-is (Fixed c) a e = cc
big-is (Text c) a e = cc
big-is (Moment c) a e = cc

fixed-is : (v : Value) (a : ℤ) → fixed_of v ≡ Some a → Fixed a ≡ v
fixed-is Null a e = cc
fixed-is (Bit c) a e = cc
fixed-is (Big c) a e = cc
fixed-is (Fixed c) a e = ap Fixed (some-same a c e)
fixed-is (Text c) a e = cc
fixed-is (Moment c) a e = cc

text-is : (v : Value) (a : List ℕ) → text_of v ≡ Some a → Text a ≡ v
text-is Null a e = cc
text-is (Bit c) a e = cc
text-is (Big c) a e = cc
text-is (Fixed c) a e = cc
text-is (Text c) a e = ap Text (some-same a c e)
text-is (Moment c) a e = cc

moment-is : (v : Value) (a : ℕ) → moment_of v ≡ Some a → Moment a ≡ v
moment-is Null a e = cc
moment-is (Bit c) a e = cc
moment-is (Big c) a e = cc
moment-is (Fixed c) a e = cc
moment-is (Text c) a e = cc
moment-is (Moment c) a e = ap Moment (some-same a c e)

AreBodies-value_body : AreBodies kind_rank value_body
AreBodies-value_body =
    AreBodies-alternative kind_rank 0 (IsForm-constant_form Null is_null refl null-is) null-tag
    (AreBodies-alternative kind_rank 1 (IsForm-variant_form Bit bit_of bit-is (λ a. refl) IsForm-bit_form) (variant-tag _ kind_rank 1 Bit bit_of bit-is (λ a. refl))
    (AreBodies-alternative kind_rank 2 (IsForm-variant_form Big big_of big-is (λ a. refl) IsForm-i64_form) (variant-tag _ kind_rank 2 Big big_of big-is (λ a. refl))
    (AreBodies-alternative kind_rank 3 (IsForm-variant_form Fixed fixed_of fixed-is (λ a. refl) IsForm-i64_form) (variant-tag _ kind_rank 3 Fixed fixed_of fixed-is (λ a. refl))
    (AreBodies-alternative kind_rank 4 (IsForm-variant_form Text text_of text-is (λ a. refl) IsForm-text_form) (variant-tag _ kind_rank 4 Text text_of text-is (λ a. refl))
    (AreBodies-alternative kind_rank 5 (IsForm-variant_form Moment moment_of moment-is (λ a. refl) IsForm-moment_form) (variant-tag _ kind_rank 5 Moment moment_of moment-is (λ a. refl))
    (AreBodies-no_alternative kind_rank))))))

pub IsForm-value_form : IsForm value_form
IsForm-value_form = IsForm-tagged_form kind_rank value_body AreBodies-value_body

pub IsForm-values_form : IsForm values_form
IsForm-values_form = IsForm-list_form IsForm-u32_form IsForm-value_form
