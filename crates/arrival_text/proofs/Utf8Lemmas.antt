-- The test for UTF-8 and what it says.
use Rattle.std.proofs.Common.{◌≡◌, ℕ, List, Bool, true, false, refl}
use Rattle.std.proofs.lemmas.Str.{is_utf8-from_IsUtf8, IsUtf8-from_is_utf8}
use Rattle.std.specs.Str.{IsUtf8, is_utf8}

false_from_not : (t : Bool) → (t ≡ true → ⊥) → t ≡ false
false_from_not true h = absurd (h refl)
false_from_not false h = refl

pub is_utf8-true : (bytes : List ℕ) → IsUtf8 bytes → is_utf8 bytes ≡ true
is_utf8-true = is_utf8-from_IsUtf8

pub is_utf8-false : (bytes : List ℕ) → (IsUtf8 bytes → ⊥) → is_utf8 bytes ≡ false
is_utf8-false bytes h = false_from_not (is_utf8 bytes) (λ e. h (IsUtf8-from_is_utf8 bytes e))
