-- The fields of a record from a place on.
use Rattle.std.proofs.Common.{◌≡◌, ◌<◌, ◌≤◌, ◌+◌, ◌-◌, ℕ, zero, suc, List, [], ◌∷◌, drop, length, sum_by, bytes_eq, true, false, Option, Some, None, refl, ap, ◌∙◌, arith}
use Rattle.std.specs.List.{list_all, position_from}
use Rattle.std.specs.Prelude.{nat_lt}
use Rattle.std.specs.Str.{is_utf8}
use Rattle.std.proofs.lemmas.Bool.{lt-ltb}
use Rattle.std.proofs.lemmas.List.Sums.{sum_by-cons}
use Rattle.csv.specs.Records.{field_at}

drop_none : (n : ℕ) (fields : List (List ℕ)) → fields ≡ [] → drop n fields ≡ []
drop_none zero fields e = e
drop_none (suc n) [] e = refl
drop_none (suc n) (f ∷ fields) e = cc

-- a field is the first of those from its place on
fields-more : (fields : List (List ℕ)) (at next : ℕ) (field : List ℕ) → field_at fields at ≡ Some field → next ≡ at + 1
    → drop at fields ≡ field ∷ drop next fields
unfolding field_at
fields-more [] at next field e n = cc
fields-more (f ∷ fields) zero next field e n =
    let one : next ≡ 1 = omega arith in
    let same : f ≡ field = cc in
    rw (one, same) refl
fields-more (f ∷ fields) (suc at) next field e n =
    let later : next ≡ suc (at + 1) = omega arith in
    rw later (fields-more fields at (at + 1) field e refl)

-- where there is no field, none is left
fields-none : (fields : List (List ℕ)) (at : ℕ) → field_at fields at ≡ None → drop at fields ≡ []
unfolding field_at
fields-none [] at e = drop_none at [] refl
fields-none (f ∷ fields) zero e = cc
fields-none (f ∷ fields) (suc at) e = fields-none fields at e

-- the lengths of the fields from a place on, together
abbrev pub length_from : List (List ℕ) → ℕ → ℕ
length_from fields at = sum_by length (drop at fields)

nat_lt-false : (a b : ℕ) → b ≤ a → nat_lt a b ≡ false
nat_lt-false a b h = grind arith

nat_lt-same : (a b c d : ℕ) → a + d ≡ c + b → nat_lt a b ≡ nat_lt c d
nat_lt-same a b c d e = grind arith

pub length-over : (fields : List (List ℕ)) (at : ℕ) (field : List ℕ) (room : ℕ) → field_at fields at ≡ Some field → room < length field
    → nat_lt room (length_from fields at) ≡ true
length-over fields at field room e h =
    let more : length_from fields at ≡ length field + length_from fields (at + 1) =
    ap (λ rest. sum_by length rest) (fields-more fields at (at + 1) field e refl) ∙ sum_by-cons length field (drop (at + 1) fields) in
    lt-ltb room (length_from fields at) (omega arith)

pub length-more : (fields : List (List ℕ)) (at next : ℕ) (field : List ℕ) (room : ℕ) → field_at fields at ≡ Some field → next ≡ at + 1 → length field ≤ room
    → nat_lt (room - length field) (length_from fields next) ≡ nat_lt room (length_from fields at)
length-more fields at next field room e n h =
    let more : length_from fields at ≡ length field + length_from fields next =
    ap (λ rest. sum_by length rest) (fields-more fields at next field e n) ∙ sum_by-cons length field (drop next fields) in
    nat_lt-same (room - length field) (length_from fields next) room (length_from fields at) (omega arith)

pub length-none : (fields : List (List ℕ)) (at room : ℕ) → field_at fields at ≡ None → nat_lt room (length_from fields at) ≡ false
length-none fields at room e =
    let none : length_from fields at ≡ 0 = ap (λ rest. sum_by length rest) (fields-none fields at e) in
    nat_lt-false room (length_from fields at) (omega arith)

pub text-broken : (fields : List (List ℕ)) (at : ℕ) (field : List ℕ) → field_at fields at ≡ Some field → false ≡ is_utf8 field
    → list_all is_utf8 (drop at fields) ≡ false
text-broken fields at field e h = rw (fields-more fields at (at + 1) field e refl, ← h) refl

pub text-more : (fields : List (List ℕ)) (at next : ℕ) (field : List ℕ) → field_at fields at ≡ Some field → next ≡ at + 1 → true ≡ is_utf8 field
    → list_all is_utf8 (drop next fields) ≡ list_all is_utf8 (drop at fields)
text-more fields at next field e n h = rw (fields-more fields at next field e n, ← h) refl

pub text-none : (fields : List (List ℕ)) (at : ℕ) → field_at fields at ≡ None → list_all is_utf8 (drop at fields) ≡ true
text-none fields at e = rw (fields-none fields at e) refl

-- the first place of a name from a place on
abbrev pub place_from : List ℕ → List (List ℕ) → ℕ → Option ℕ
place_from name fields at = position_from (λ field. bytes_eq field name) at (drop at fields)

pub place-found : (name : List ℕ) (fields : List (List ℕ)) (at : ℕ) (field : List ℕ) → field_at fields at ≡ Some field → true ≡ bytes_eq field name
    → place_from name fields at ≡ Some at
place-found name fields at field e h = rw (fields-more fields at (at + 1) field e refl, ← h) refl

pub place-more : (name : List ℕ) (fields : List (List ℕ)) (at : ℕ) (field : List ℕ) → field_at fields at ≡ Some field → false ≡ bytes_eq field name
    → place_from name fields (at + 1) ≡ place_from name fields at
place-more name fields at field e h = rw (fields-more fields at (at + 1) field e refl, ← h) refl

pub place-none : (name : List ℕ) (fields : List (List ℕ)) (at : ℕ) → field_at fields at ≡ None → place_from name fields at ≡ None
place-none name fields at e = rw (fields-none fields at e) refl

-- a field that is there is one of those left
pub fewer-left : (fields : List (List ℕ)) (at : ℕ) (field : List ℕ) → field_at fields at ≡ Some field
    → length (drop (at + 1) fields) < length (drop at fields)
fewer-left fields at field e =
    let more = ap length (fields-more fields at (at + 1) field e refl) in
    omega arith
