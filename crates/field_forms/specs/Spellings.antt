-- Which bytes spell which value of a form, whole and at a place (docs/GUARANTEES, "Stored bytes").
use Rattle.std.specs.Prelude.{◌≡◌, ℕ, ◌≤◌, Bool, true, false, List, [], ◌∷◌, ◌++◌, length, drop, Option, Some, None}
use Rattle.field_forms.specs.Forms.{Form}

-- the bytes are those of the value
abbrev pub IsSpelling : {V : Type 0} → Form V → V → List ℕ → Type 0
IsSpelling f v bytes = (f.fits v ≡ true) × (bytes ≡ f.spelling v)

-- no bytes spell two values, no value has two spellings, and none begins with another's
pub record SpellsOnce {V : Type 0} (f : Form V) : Type 0 where
  pub one_value : (bytes : List ℕ) (v w : V) → IsSpelling f v bytes → IsSpelling f w bytes → v ≡ w
  pub one_spelling : (v : V) (bytes others : List ℕ)
      → IsSpelling f v bytes → IsSpelling f v others → bytes ≡ others
  pub no_front : (v w : V) (behind_v behind_w : List ℕ) → f.fits v ≡ true → f.fits w ≡ true
      → f.spelling v ++ behind_v ≡ f.spelling w ++ behind_w → (v ≡ w) × (behind_v ≡ behind_w)

-- the value whose bytes these are, or that they are no value's
abbrev pub IsWhole : {V : Type 0} → Form V → List ℕ → Option V → Type 0
IsWhole {V} f bytes None = (v : V) → IsSpelling f v bytes → ⊥
IsWhole f bytes (Some v) = IsSpelling f v bytes

-- the value that is spelled at a place and the place behind it, or that none is spelled there
abbrev pub IsSpelledAt : {V : Type 0} → Form V → List ℕ → ℕ → Option (V × ℕ) → Type 0
IsSpelledAt {V} f bytes at None =
    (v : V) (behind : List ℕ) → f.fits v ≡ true → drop at bytes ≡ f.spelling v ++ behind → ⊥
IsSpelledAt f bytes at (Some (v, place)) =
    (place ≤ length bytes) × (f.fits v ≡ true) × (drop at bytes ≡ f.spelling v ++ drop place bytes)

-- whether there are no bytes
abbrev pub is_nil : List ℕ → Bool
is_nil [] = true
is_nil (b ∷ bytes) = false
