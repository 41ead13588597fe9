-- The order that `Value` derives, by which maps keep their keys, is the order of values.
use Rattle.std.proofs.Common.{◌≡◌, refl}
use Rattle.std.specs.declared.cmp.Ordering.{Ordering}
use Rattle.event_value.specs.Order.{value_order}
use Rattle.event_value.specs.contracts.value.ValueOrd.TheImpl.{ghosts}
use Rattle.event_value.specs.declared.value.Value.{Value}
use Rattle.event_value.specs.declared.value.Value.TheVariants.{Null, Bit, Big, Fixed, Text, Moment}

derived-value_order : (a b : Value) → ghosts.cmp a b ≡ value_order a b
derived-value_order Null Null = refl
derived-value_order Null (Bit b) = refl
derived-value_order Null (Big n) = refl
derived-value_order Null (Fixed m) = refl
derived-value_order Null (Text t) = refl
derived-value_order Null (Moment k) = refl
derived-value_order (Bit b) Null = refl
derived-value_order (Bit b) (Bit b') = refl
derived-value_order (Bit b) (Big n) = refl
derived-value_order (Bit b) (Fixed m) = refl
derived-value_order (Bit b) (Text t) = refl
derived-value_order (Bit b) (Moment k) = refl
derived-value_order (Big n) Null = refl
derived-value_order (Big n) (Bit b) = refl
derived-value_order (Big n) (Big n') = refl
derived-value_order (Big n) (Fixed m) = refl
derived-value_order (Big n) (Text t) = refl
derived-value_order (Big n) (Moment k) = refl
derived-value_order (Fixed m) Null = refl
derived-value_order (Fixed m) (Bit b) = refl
derived-value_order (Fixed m) (Big n) = refl
derived-value_order (Fixed m) (Fixed m') = refl
derived-value_order (Fixed m) (Text t) = refl
derived-value_order (Fixed m) (Moment k) = refl
derived-value_order (Text t) Null = refl
derived-value_order (Text t) (Bit b) = refl
derived-value_order (Text t) (Big n) = refl
derived-value_order (Text t) (Fixed m) = refl
derived-value_order (Text t) (Text t') = refl
derived-value_order (Text t) (Moment k) = refl
derived-value_order (Moment k) Null = refl
derived-value_order (Moment k) (Bit b) = refl
derived-value_order (Moment k) (Big n) = refl
derived-value_order (Moment k) (Fixed m) = refl
derived-value_order (Moment k) (Text t) = refl
derived-value_order (Moment k) (Moment k') = refl

pub derived_order-is : ◌≡◌ {A = Value → Value → Ordering} ghosts.cmp value_order
derived_order-is = λ i a b. derived-value_order a b i
