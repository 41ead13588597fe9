-- Kinds that fit each other; what rests on NULL alone has no kind and fits wherever one is due.
use Rattle.std.specs.Prelude.{Bool, true, false, ◌||◌, if◌then◌else◌, Option, Some, None}
use Rattle.event_value.specs.declared.kind.Kind.{Kind}
use Rattle.event_value.specs.declared.kind.Kind.TheVariants as kind

abbrev pub is_same_kind : Kind → Kind → Bool
is_same_kind kind.Big kind.Big = true
is_same_kind kind.Fixed kind.Fixed = true
is_same_kind kind.Text kind.Text = true
is_same_kind kind.Moment kind.Moment = true
is_same_kind kind.Bit kind.Bit = true
is_same_kind _ _ = false

abbrev pub is_number : Option Kind → Bool
is_number None = true
is_number (Some kind.Big) = true
is_number (Some kind.Fixed) = true
is_number (Some _) = false

abbrev pub is_of : Kind → Option Kind → Bool
is_of wanted None = true
is_of wanted (Some k) = is_same_kind wanted k

-- bigint with fixed
abbrev pub is_mixed : Kind → Kind → Bool
is_mixed kind.Big kind.Fixed = true
is_mixed kind.Fixed kind.Big = true
is_mixed _ _ = false

abbrev pub is_bit_with_big : Kind → Kind → Bool
is_bit_with_big kind.Bit kind.Big = true
is_bit_with_big kind.Big kind.Bit = true
is_bit_with_big _ _ = false

-- equal kinds, bigint with fixed, or bit with bigint
abbrev pub is_comparable : Option Kind → Option Kind → Bool
is_comparable (Some j) (Some k) = is_same_kind j k || is_mixed j k || is_bit_with_big j k
is_comparable None k = true
is_comparable (Some j) None = true

-- one kind, or fixed where bigint and fixed mix
abbrev pub mix_kinds : Kind → Kind → Option (Option Kind)
mix_kinds j k =
    if is_same_kind j k then Some (Some j)
    else (if is_mixed j k then Some (Some kind.Fixed) else None)

abbrev pub mix : Option Kind → Option Kind → Option (Option Kind)
mix None k = Some k
mix (Some j) None = Some (Some j)
mix (Some j) (Some k) = mix_kinds j k

-- a text becomes any kind; bigint fixed or bit; fixed and bit bigint
abbrev pub is_castable_from : Kind → Kind → Bool
is_castable_from kind.Text to = true
is_castable_from kind.Big kind.Fixed = true
is_castable_from kind.Big kind.Bit = true
is_castable_from kind.Fixed kind.Big = true
is_castable_from kind.Bit kind.Big = true
is_castable_from _ _ = false

-- besides, each kind becomes itself and a text
abbrev pub is_castable : Option Kind → Kind → Bool
is_castable None to = true
is_castable (Some from) to =
    is_same_kind from to || is_same_kind to kind.Text || is_castable_from from to
