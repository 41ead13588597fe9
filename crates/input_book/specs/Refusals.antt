-- Refusals: the first cause that stands, and the key where it does.
use Rattle.std.specs.Prelude.{◌≡◌, ◌⊎◌, ℕ, List, ◌++◌, codes, Option, Some, None, Result, Ok, Err}
use Rattle.std.specs.Fmt.{decimal}
use Rattle.input_book.specs.declared.input_err.InputErr.{InputErr}
use Rattle.input_book.specs.declared.input_err.InputErr.TheVariants.{Missing, Unknown, Shape, Range}
use Rattle.input_book.specs.declared.input_err.InputErr.TheVariants.{ThroughOrder, EffectiveOrder, TooMany, Memory}

infixl 10 ◌>>=◌
-- one reading, and then the next with what it gave; the first refusal stands
abbrev pub ◌>>=◌ : {A B : Type 0} → Result A InputErr → (A → Result B InputErr) → Result B InputErr
Ok x >>= next = next x
Err e >>= next = Err e

-- the value, or the refusal where there is none
abbrev pub ok_or : {A : Type 0} → InputErr → Option A → Result A InputErr
ok_or e None = Err e
ok_or e (Some x) = Ok x

-- the key of an entry of the list at a key
abbrev pub entry_key : List ℕ → ℕ → List ℕ
entry_key list index = list ++ codes "[" ++ decimal index ++ codes "]"

-- the key of what stands in the table at a key
abbrev pub key_inside : List ℕ → List ℕ → List ℕ
key_inside table key = table ++ codes "." ++ key

-- a refusal within the table at a key
abbrev pub refusal_inside : List ℕ → InputErr → InputErr
refusal_inside table (Missing key) = Missing (key_inside table key)
refusal_inside table (Unknown key) = Unknown (key_inside table key)
refusal_inside table (Shape key) = Shape (key_inside table key)
refusal_inside table (Range key) = Range (key_inside table key)
refusal_inside table (ThroughOrder key) = ThroughOrder (key_inside table key)
refusal_inside table (EffectiveOrder key) = EffectiveOrder (key_inside table key)
refusal_inside table (TooMany key) = TooMany (key_inside table key)
refusal_inside table other = other

-- what is read within the table at a key
abbrev pub read_inside : {A : Type 0} → List ℕ → Result A InputErr → Result A InputErr
read_inside table (Ok x) = Ok x
read_inside table (Err e) = Err (refusal_inside table e)

-- the refusal is the one that is due, or memory ran out
abbrev pub IsRefusal : {A : Type 0} → Result A InputErr → InputErr → Type 0
IsRefusal due error = (error ≡ Memory) ⊎ (due ≡ Err error)
