-- The ranges of values in an inputs document: what is found within, and nothing outside.
use Rattle.std.specs.Prelude.{ℕ, suc, ◌*◌, ℤ, pos, List, [], ◌∷◌, length, slice_index, codes, Bool, true, false}
use Rattle.std.specs.Prelude.{nat_le, ◌&&◌, ◌==◌, if◌then◌else◌, Option, Some, None, option_map}
use Rattle.std.specs.List.{list_any}
use Rattle.std.specs.Str.{bytes_eq}
use Rattle.toml.specs.Data.{Items, no_items, item}
use Rattle.tick_time.specs.Ticks.{second_ticks}
use Rattle.event_value.specs.declared.kind.Format.{Format}
use Rattle.event_value.specs.declared.kind.Format.TheVariants.{Json, Csv}
use Rattle.event_value.specs.declared.kind.Kind.{Kind}
use Rattle.event_value.specs.declared.kind.Kind.TheVariants.{Big, Fixed, Bit, Text as TextKind, Moment as MomentKind}

-- any value of a type
abbrev pub any : {A : Type 0} → A → Option A
any x = Some x

-- a text of 1 to so many bytes
abbrev pub sized : ℕ → List ℕ → Option (List ℕ)
sized most text = if nat_le 1 (length text) && nat_le (length text) most then Some text else None

-- how many entries a list has
abbrev pub item_count : Items → ℕ
item_count no_items = 0
item_count (item d ds) = suc (item_count ds)

-- a list that isn't empty
abbrev pub some_items : Items → Option Items
some_items ds = if nat_le 1 (item_count ds) then Some ds else None

-- a list of 1 to so many entries
abbrev pub items_to : ℕ → Items → Option Items
items_to most ds = if nat_le 1 (item_count ds) && nat_le (item_count ds) most then Some ds else None

-- seconds in ticks
abbrev pub ticks_of : ℕ → ℤ
ticks_of seconds = pos (seconds * second_ticks)

-- 0 to so many seconds
abbrev pub seconds_to : ℕ → ℤ → Option ℤ
seconds_to most (pos seconds) = if nat_le seconds most then Some (ticks_of seconds) else None
seconds_to most _ = None

-- whether records are adjusted, by the word of the action
abbrev pub action_of : List ℕ → Option Bool
action_of word =
    if bytes_eq word (codes "adjust") then Some true else
    (if bytes_eq word (codes "drop") then Some false else None)

-- the kinds by their words
abbrev pub kind_of : List ℕ → Option Kind
kind_of word =
    if bytes_eq word (codes "bigint") then Some Big else
    (if bytes_eq word (codes "fixed") then Some Fixed else
    (if bytes_eq word (codes "nvarchar(max)") then Some TextKind else
    (if bytes_eq word (codes "datetime") then Some MomentKind else
    (if bytes_eq word (codes "bit") then Some Bit else None))))

-- the bytes that may stand between fields; the first where the document says none
abbrev pub delimiters : List ℕ
delimiters = codes ",;\t |"

-- the formats by their words
abbrev pub format_of : List ℕ → Option Format
format_of word =
    if bytes_eq word (codes "json") then Some Json else
    (if bytes_eq word (codes "csv") then Some (Csv (slice_index delimiters 0)) else None)

abbrev pub is_delimiter : ℕ → Bool
is_delimiter byte = list_any (λ d. d == byte) delimiters

-- a text that is one of the delimiters
abbrev pub delimiter_of : List ℕ → Option ℕ
delimiter_of (byte ∷ []) = if is_delimiter byte then Some byte else None
delimiter_of _ = None

-- a format with the delimiter of a text, which CSV alone has
abbrev pub delimited : Format → List ℕ → Option Format
delimited (Csv _) text = option_map (λ delimiter. Csv delimiter) (delimiter_of text)
delimited _ text = None
