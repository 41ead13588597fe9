-- The order of values is total, and only equal values tie.
use Rattle.std.specs.Prelude.{◌≡◌, ℕ, ℤ, pos, Bool, true, false, List, [], refl}
use Rattle.std.specs.declared.cmp.Ordering.{Ordering}
use Rattle.std.specs.declared.cmp.Ordering.TheVariants.{Less, Equal, Greater}
use Rattle.std.specs.Ordering.{nat_cmp, bool_cmp, int_cmp, ordering_then, then_cmp, on}
use Rattle.std.specs.Cmp.{IsTotalOrder, bool_cmp_total}
use Rattle.std.specs.Cmp.Lexicographic.{slice_cmp}
use Rattle.std.specs.FinMap.{IsAntisymmetric, nat_cmp-IsAntisymmetric, int_cmp-IsAntisymmetric, slice_cmp-IsAntisymmetric}
use Rattle.std.proofs.Common.{ap, subst}
use Rattle.std.proofs.lemmas.Cmp.{nat_cmp_total, int_cmp_total, nat_list_cmp_total, on_total, then_total}
use Rattle.event_value.specs.declared.value.Value.{Value}
use Rattle.event_value.specs.declared.value.Value.TheVariants.{Null, Bit, Big, Fixed, Text, Moment}
use Rattle.event_value.specs.Order.{kind_rank, value_order}

abbrev bit : Value → Bool
bit (Bit b) = b
bit _ = false

abbrev number : Value → ℤ
number (Big n) = n
number (Fixed m) = m
number _ = pos 0

abbrev ticks : Value → ℕ
ticks (Moment m) = m
ticks _ = 0

abbrev bytes : Value → List ℕ
bytes (Text t) = t
bytes _ = []

-- the order as a chain of orders of parts
abbrev order_by_parts : Value → Value → Ordering
order_by_parts =
    then_cmp (on kind_rank nat_cmp) (then_cmp (on bit bool_cmp) (then_cmp (on number int_cmp) (then_cmp (on ticks nat_cmp) (on bytes (slice_cmp nat_cmp)))))

then_equal : (o : Ordering) → ordering_then o Equal ≡ o
then_equal Less = refl
then_equal Equal = refl
then_equal Greater = refl

order_by_parts-value_order : (a b : Value) → order_by_parts a b ≡ value_order a b
order_by_parts-value_order Null Null = refl
order_by_parts-value_order Null (Bit y) = refl
order_by_parts-value_order Null (Big y) = refl
order_by_parts-value_order Null (Fixed y) = refl
order_by_parts-value_order Null (Text y) = refl
order_by_parts-value_order Null (Moment y) = refl
order_by_parts-value_order (Bit x) Null = refl
order_by_parts-value_order (Bit x) (Bit y) = then_equal (bool_cmp x y)
order_by_parts-value_order (Bit x) (Big y) = refl
order_by_parts-value_order (Bit x) (Fixed y) = refl
order_by_parts-value_order (Bit x) (Text y) = refl
order_by_parts-value_order (Bit x) (Moment y) = refl
order_by_parts-value_order (Big x) Null = refl
order_by_parts-value_order (Big x) (Bit y) = refl
order_by_parts-value_order (Big x) (Big y) = then_equal (int_cmp x y)
order_by_parts-value_order (Big x) (Fixed y) = refl
order_by_parts-value_order (Big x) (Text y) = refl
order_by_parts-value_order (Big x) (Moment y) = refl
order_by_parts-value_order (Fixed x) Null = refl
order_by_parts-value_order (Fixed x) (Bit y) = refl
order_by_parts-value_order (Fixed x) (Big y) = refl
order_by_parts-value_order (Fixed x) (Fixed y) = then_equal (int_cmp x y)
order_by_parts-value_order (Fixed x) (Text y) = refl
order_by_parts-value_order (Fixed x) (Moment y) = refl
order_by_parts-value_order (Text x) Null = refl
order_by_parts-value_order (Text x) (Bit y) = refl
order_by_parts-value_order (Text x) (Big y) = refl
order_by_parts-value_order (Text x) (Fixed y) = refl
order_by_parts-value_order (Text x) (Text y) = refl
order_by_parts-value_order (Text x) (Moment y) = refl
order_by_parts-value_order (Moment x) Null = refl
order_by_parts-value_order (Moment x) (Bit y) = refl
order_by_parts-value_order (Moment x) (Big y) = refl
order_by_parts-value_order (Moment x) (Fixed y) = refl
order_by_parts-value_order (Moment x) (Text y) = refl
order_by_parts-value_order (Moment x) (Moment y) = then_equal (nat_cmp x y)

pub value_order-total : IsTotalOrder value_order
value_order-total =
    subst IsTotalOrder (λ i a b. order_by_parts-value_order a b i)
    (then_total (on_total kind_rank nat_cmp_total) (then_total (on_total bit bool_cmp_total) (then_total (on_total number int_cmp_total) (then_total (on_total ticks nat_cmp_total) (on_total bytes nat_list_cmp_total)))))

bool_cmp-IsAntisymmetric : IsAntisymmetric bool_cmp
bool_cmp-IsAntisymmetric true true e = refl
bool_cmp-IsAntisymmetric true false e = cc
bool_cmp-IsAntisymmetric false true e = cc
bool_cmp-IsAntisymmetric false false e = refl

pub value_order-exact : IsAntisymmetric value_order
value_order-exact Null Null e = refl
value_order-exact Null (Bit y) e = cc
value_order-exact Null (Big y) e = cc
value_order-exact Null (Fixed y) e = cc
value_order-exact Null (Text y) e = cc
value_order-exact Null (Moment y) e = cc
value_order-exact (Bit x) Null e = cc
value_order-exact (Bit x) (Bit y) e = ap Bit (bool_cmp-IsAntisymmetric x y e)
value_order-exact (Bit x) (Big y) e = cc
value_order-exact (Bit x) (Fixed y) e = cc
value_order-exact (Bit x) (Text y) e = cc
value_order-exact (Bit x) (Moment y) e = cc
value_order-exact (Big x) Null e = cc
value_order-exact (Big x) (Bit y) e = cc
value_order-exact (Big x) (Big y) e = ap Big (int_cmp-IsAntisymmetric x y e)
value_order-exact (Big x) (Fixed y) e = cc
value_order-exact (Big x) (Text y) e = cc
value_order-exact (Big x) (Moment y) e = cc
value_order-exact (Fixed x) Null e = cc
value_order-exact (Fixed x) (Bit y) e = cc
value_order-exact (Fixed x) (Big y) e = cc
value_order-exact (Fixed x) (Fixed y) e = ap Fixed (int_cmp-IsAntisymmetric x y e)
value_order-exact (Fixed x) (Text y) e = cc
value_order-exact (Fixed x) (Moment y) e = cc
value_order-exact (Text x) Null e = cc
value_order-exact (Text x) (Bit y) e = cc
value_order-exact (Text x) (Big y) e = cc
value_order-exact (Text x) (Fixed y) e = cc
value_order-exact (Text x) (Text y) e = ap Text (slice_cmp-IsAntisymmetric nat_cmp-IsAntisymmetric x y e)
value_order-exact (Text x) (Moment y) e = cc
value_order-exact (Moment x) Null e = cc
value_order-exact (Moment x) (Bit y) e = cc
value_order-exact (Moment x) (Big y) e = cc
value_order-exact (Moment x) (Fixed y) e = cc
value_order-exact (Moment x) (Text y) e = cc
value_order-exact (Moment x) (Moment y) e = ap Moment (nat_cmp-IsAntisymmetric x y e)
