-- What the calls that take values off the front of bytes answer, in terms of a form's reading.
use Rattle.std.specs.Prelude.{◌≡◌, ℕ, ◌<◌, ◌≤◌, List, length, take, drop, Option, Some, None, Result, Ok, Err}
use Rattle.field_forms.specs.Forms.{Reading}
use Rattle.field_forms.specs.declared.unreadable.Unreadable.{Unreadable}
use Rattle.field_forms.specs.declared.unreadable.Unreadable.TheVariants.{Memory, Malformed}

-- no value stands there, or there was no memory
abbrev pub IsUnread : {V : Type 0} → Reading V → Unreadable → Type 0
IsUnread read Memory = Unit {0}
IsUnread read Malformed = read ≡ None

-- the value that stands there and the bytes behind it, or that none does, or there was no memory
abbrev pub IsReading : {V : Type 0} → Reading V → Result V Unreadable → List ℕ → Type 0
IsReading read (Ok v) rest = read ≡ Some (v, rest)
IsReading read (Err e) rest = IsUnread read e

-- the value that stands there and the bytes behind it, or that none does
abbrev pub IsTaken : {V : Type 0} → Reading V → Option V → List ℕ → Type 0
IsTaken read None rest = read ≡ None
IsTaken read (Some v) rest = read ≡ Some (v, rest)

-- the first n bytes and those behind them
abbrev pub IsCut : ℕ → List ℕ → List ℕ → List ℕ → Type 0
IsCut n bytes part rest = (n ≤ length bytes) × (part ≡ take n bytes) × (rest ≡ drop n bytes)

-- the first n bytes and those behind them, or that there are fewer
abbrev pub IsChunk : ℕ → List ℕ → Option (List ℕ) → List ℕ → Type 0
IsChunk n bytes None rest = length bytes < n
IsChunk n bytes (Some chunk) rest = IsCut n bytes chunk rest
