-- A length of as many units as 64 bits don't hold is above seven days.
use Rattle.std.proofs.Common.{◌≡◌, sym, ap, ◌^◌, ◌<◌, Bool, false, cond, Some, None, ℤ, pos, arith}
use Rattle.std.specs.Prelude.{unsigned_abs, FitsSigned}
use Rattle.std.proofs.lemmas.Int.{unsigned_abs-mul, fits_signed_from_abs}
use mir.Syntax.{w64}
use Rattle.tick_time.specs.Span.{span_of_units}
use Rattle.tick_time.specs.declared.unit.Unit.{Unit}
use Rattle.tick_time.specs.declared.unit.Unit.TheVariants.{Day, Hour, Minute, Second, Millisecond, Microsecond}

none_of : (b : Bool) (t : ℤ) → b ≡ false → None ≡ cond b (Some t) None
none_of b t e = sym (ap (λ c. cond c (Some t) None) e)

module _ (z : ℤ) (far : FitsSigned w64 z → ⊥) where
  wide : unsigned_abs z < 2 ^ 63 → ⊥
  wide h = far (fits_signed_from_abs w64 z h)

  pub no_span : (unit : Unit) → None ≡ span_of_units unit z
  unfolding span_of_units
  no_span Day = none_of _ _ (grind (arith, wide, unsigned_abs-mul z (pos 864_000_000_000)))
  no_span Hour = none_of _ _ (grind (arith, wide, unsigned_abs-mul z (pos 36_000_000_000)))
  no_span Minute = none_of _ _ (grind (arith, wide, unsigned_abs-mul z (pos 600_000_000)))
  no_span Second = none_of _ _ (grind (arith, wide, unsigned_abs-mul z (pos 10_000_000)))
  no_span Millisecond = none_of _ _ (grind (arith, wide, unsigned_abs-mul z (pos 10_000)))
  no_span Microsecond = none_of _ _ (grind (arith, wide, unsigned_abs-mul z (pos 10)))
