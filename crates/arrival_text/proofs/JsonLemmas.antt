-- A line and a member as serde_json reads them.
use Rattle.std.proofs.Common.{◌≡◌, ℕ, List, Bool, true, false, Option, Some, None, refl, ap, sym, ◌∙◌}
use Rattle.std.proofs.lemmas.Str.{IsUtf8-from_is_utf8}
use Rattle.std.specs.Prelude.{if◌then◌else◌}
use Rattle.std.specs.Str.{IsUtf8, is_utf8}
use Rattle.serde_json.specs.Data.{Data}
use Rattle.serde_json.specs.Find.{get}
use Rattle.serde_json.specs.Read.{read}
use Rattle.arrival_text.specs.JsonItems.{json_of, member_of}
use Rattle.arrival_text.proofs.Utf8Lemmas.{is_utf8-true, is_utf8-false}

pub member_of-text : (name : List ℕ) (json : Data) → IsUtf8 name → member_of name json ≡ get name json
member_of-text name json h = ap (λ t. if t then get name json else None) (is_utf8-true name h)

pub member_of-bytes : (name : List ℕ) (json : Data) → (IsUtf8 name → ⊥) → None ≡ member_of name json
member_of-bytes name json h = sym (ap (λ t. if t then get name json else None) (is_utf8-false name h))

pub json_of-some : (line : List ℕ) (json : Data) → IsUtf8 line → read line ≡ Some json → json_of line ≡ Some json
json_of-some line json h e = ap (λ t. if t then read line else None) (is_utf8-true line h) ∙ e

none_either : (t : Bool) (o : Option Data) → (t ≡ true → o ≡ None) → (if t then o else None) ≡ None
none_either true o h = h refl
none_either false o h = refl

pub json_of-none : (line : List ℕ) → (IsUtf8 line → read line ≡ None) → json_of line ≡ None
json_of-none line h = none_either (is_utf8 line) (read line) (λ e. h (IsUtf8-from_is_utf8 line e))
