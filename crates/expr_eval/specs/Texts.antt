-- Operations on texts. A text that isn't UTF-8 has none: the result is Null.
use Rattle.std.specs.Prelude.{ℕ, ℤ, pos, negsuc, ◌+ℤ◌, ◌-ℤ◌, int_lt, Bool, true, false, ◌&&◌, nat_le, if◌then◌else◌, List, [], ◌∷◌, map, take, drop, length}
use Rattle.std.specs.List.{flat_map, list_all}
use Rattle.std.specs.Char.{to_ascii_lowercase, to_ascii_uppercase}
use Rattle.std.specs.Str.{chars, is_utf8, encode_utf8_all}
use Rattle.value_text.specs.Numbers.{whole_value}
use Rattle.event_value.specs.declared.value.Value.{Value}
use Rattle.event_value.specs.declared.value.Value.TheVariants.{Null, Big, Text}

-- the greatest length of a result, in bytes
abbrev pub max_text : ℕ
max_text = 65_536

-- a result, Null where it is too long
abbrev pub text_value : List ℕ → Value
text_value bytes = if nat_le (length bytes) max_text then Text bytes else Null

-- the number of a text's characters
unfoldable pub character_count : Value → Value
character_count (Text t) = if is_utf8 t then whole_value (pos (length (chars t))) else Null
character_count _ = Null

-- a text with its ASCII letters in lower case
unfoldable pub lower : Value → Value
lower (Text t) = if is_utf8 t then text_value (map to_ascii_lowercase t) else Null
lower _ = Null

-- a text with its ASCII letters in upper case
unfoldable pub upper : Value → Value
upper (Text t) = if is_utf8 t then text_value (map to_ascii_uppercase t) else Null
upper _ = Null

-- a number, or 0 where it is below
abbrev pub positive_part : ℤ → ℕ
positive_part (pos n) = n
positive_part (negsuc n) = 0

-- the characters at the places from to from + count - 1 that there are, the first place being 1
abbrev pub characters_at : ℤ → ℤ → List ℕ → List ℕ
characters_at from count cs =
    drop (positive_part (from -ℤ pos 1)) (take (positive_part (from -ℤ pos 1 +ℤ count)) cs)

abbrev pub part_of_text : List ℕ → ℤ → ℤ → Value
part_of_text t from count =
    if int_lt count (pos 0) then Null
    else (if is_utf8 t then text_value (encode_utf8_all (characters_at from count (chars t))) else Null)

-- so many characters of a text from a place on; Null for a count below 0
unfoldable pub substring : Value → Value → Value → Value
substring (Text t) (Big from) (Big count) = part_of_text t from count
substring _ _ _ = Null

-- a value that texts are joined of
abbrev pub is_joinable : Value → Bool
is_joinable Null = true
is_joinable (Text t) = is_utf8 t
is_joinable _ = false

-- its bytes: those of a text
abbrev pub bytes_of : Value → List ℕ
bytes_of (Text t) = t
bytes_of _ = []

-- texts one behind the other, without those that are Null
unfoldable pub joined : List Value → Value
joined values =
    if nat_le 1 (length values) && list_all is_joinable values then text_value (flat_map bytes_of values) else Null
