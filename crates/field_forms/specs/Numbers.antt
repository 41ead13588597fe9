-- Numbers and moments as bytes of a fixed size, the lowest first (docs/FORMATS, "Numbers").
--
--   SIZE  MEANING
--      1  u8, a number below 256
--      2  u16, a number below 65,536
--      4  u32, a number below 2^32
--      8  u64, a number below 2^64
--      8  i64, a signed number in two's complement
--     16  i128, a signed number in two's complement
--      8  a moment, as a u64 of ticks, at most that of the year 10000
use Rattle.std.specs.Prelude.{ℕ, zero, suc, ◌+◌, ◌*◌, ◌/◌, ◌%◌, ◌^◌, Bool, nat_lt, nat_le, if◌then◌else◌, ℤ, pos, negsuc, List, [], ◌∷◌, Some, None}
use Rattle.std.specs.Int.{Width, w64, w128, cast_signed, cast_unsigned}
use Rattle.field_forms.specs.Forms.{Form, Reading, image_form, image_reading, tested_form}
use Rattle.tick_time.specs.Moment.{end_ticks}

-- the lowest k bytes of a number, the lowest first
abbrev pub low_first : ℕ → ℕ → List ℕ
low_first zero n = []
low_first (suc k) n = n % 256 ∷ low_first k (n / 256)

-- the number that k bytes are, where there are as many
abbrev pub number_reading : ℕ → List ℕ → Reading ℕ
number_reading zero bytes = Some (0, bytes)
number_reading (suc k) [] = None
number_reading (suc k) (b ∷ bytes) =
    if nat_lt b 256 then image_reading (λ n. b + 256 * n) (number_reading k bytes) else None

-- a number of k bytes
abbrev pub number_form : ℕ → Form ℕ
number_form k = record {
  fits = λ n. nat_lt n (256 ^ k);
  spelling = low_first k;
  reading = number_reading k;
}

-- a byte
abbrev pub u8_form : Form ℕ
u8_form = number_form 1

-- a number of two bytes
abbrev pub u16_form : Form ℕ
u16_form = number_form 2

-- a number of four bytes, which is also the number of items or bytes in front of a list or a text
abbrev pub u32_form : Form ℕ
u32_form = number_form 4

-- a number of eight bytes
abbrev pub u64_form : Form ℕ
u64_form = number_form 8

-- the sixteen bytes of a signed number, read as an unsigned one
abbrev pub u128_form : Form ℕ
u128_form = number_form 16

-- whether a signed number has at most so many bits beside its sign
abbrev pub signed_fits : ℕ → ℤ → Bool
signed_fits half (pos n) = nat_lt n (2 ^ half)
signed_fits half (negsuc n) = nat_lt n (2 ^ half)

-- a signed number in two's complement, of so many bits beside its sign and so many bytes
abbrev pub signed_form : Width → ℕ → ℕ → Form ℤ
signed_form w half k =
    image_form (signed_fits half) (cast_signed w) (cast_unsigned w) (number_form k)

-- a signed number of eight bytes
abbrev pub i64_form : Form ℤ
i64_form = signed_form w64 63 8

-- a signed number of sixteen bytes
abbrev pub i128_form : Form ℤ
i128_form = signed_form w128 127 16

-- a moment
abbrev pub moment_form : Form ℕ
moment_form = tested_form (λ n. nat_le n end_ticks) u64_form
