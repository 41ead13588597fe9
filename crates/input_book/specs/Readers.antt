-- Readers: what a value of the document is read as, or why it is refused at its key.
use Rattle.std.specs.Prelude.{ℕ, ◌+◌, List, [], ◌∷◌, Bool, if◌then◌else◌, Option, Some, None, Result, Ok, Err}
use Rattle.std.specs.List.{list_any}
use Rattle.std.specs.Str.{bytes_eq}
use Rattle.toml.specs.Data.{Data, Items, no_items, item, Members, no_members, member}
use Rattle.toml.specs.Data.{get_member, as_str, as_array, as_table}
use Rattle.input_book.specs.Refusals.{◌>>=◌, ok_or, entry_key, read_inside}
use Rattle.input_book.specs.declared.input_err.InputErr.{InputErr}
use Rattle.input_book.specs.declared.input_err.InputErr.TheVariants.{Missing, Unknown, Shape, Range}

-- from a key and the value there
abbrev pub Reader : Type 0 → Type 0
Reader A = List ℕ → Data → Result A InputErr

-- a value of this type; one of another type is misshaped
abbrev pub typed : {A : Type 0} → (Data → Option A) → Reader A
typed as_type key d = ok_or (Shape key) (as_type d)

-- what is found within a range; where nothing is, the value is out of it
abbrev pub ranged : {A : Type 0} → List ℕ → Option A → Result A InputErr
ranged key found = ok_or (Range key) found

-- a value of this type and within this range
abbrev pub value_of : {A B : Type 0} → (Data → Option A) → (A → Option B) → Reader B
value_of as_type within key d = do
  x ← typed as_type key d
  ranged key (within x)

-- a text within a range
abbrev pub text_of : {A : Type 0} → (List ℕ → Option A) → Reader A
text_of within = value_of as_str within

-- a table
abbrev pub table_of : {A : Type 0} → (Members → Result A InputErr) → Reader A
table_of read key d = do
  ms ← typed as_table key d
  read_inside key (read ms)

-- the entries of a list from an index on
abbrev pub entries_from : {A : Type 0} → ℕ → Reader A → List ℕ → Items → Result (List A) InputErr
entries_from index read list no_items = Ok []
entries_from index read list (item d ds) = do
  x ← read (entry_key list index) d
  xs ← entries_from (index + 1) read list ds
  Ok (x ∷ xs)

-- a list within a range of lengths, and then its entries
abbrev pub list_of : {A : Type 0} → (Items → Option Items) → Reader A → Reader (List A)
list_of within read key d = do
  ds ← value_of as_array within key d
  entries_from 0 read key ds

-- the value of a key that has to be there
abbrev pub present : List ℕ → Members → Result Data InputErr
present key ms = ok_or (Missing key) (get_member key ms)

-- what such a key is read as
abbrev pub needed : {A : Type 0} → List ℕ → Reader A → Members → Result A InputErr
needed key read ms = do
  d ← present key ms
  read key d

-- what is read of a value, where there is one
abbrev pub read_or : {A : Type 0} → A → (Data → Result A InputErr) → Option Data → Result A InputErr
read_or default read None = Ok default
read_or default read (Some d) = read d

-- what a key is read as that may be absent
abbrev pub optional : {A : Type 0} → List ℕ → A → Reader A → Members → Result A InputErr
optional key default read ms = read_or default (read key) (get_member key ms)

abbrev pub is_known : List (List ℕ) → List ℕ → Bool
is_known known key = list_any (λ k. bytes_eq k key) known

-- no keys but these: the first other one, in the order of their bytes, is unknown
abbrev pub only : List (List ℕ) → Members → Result (Unit {0}) InputErr
only known no_members = Ok tt
only known (member key d ms) = if is_known known key then only known ms else Err (Unknown key)
