-- What is read behind a first byte.
use Rattle.std.proofs.Common.{◌≡◌, ℕ, ◌+◌, ◌*◌, true, false, cond, nat_lt, arith, List, [], ◌∷◌, Some, None, ap, ◌∙◌}
use Rattle.field_forms.specs.Forms.{Form, Reading, tagged_reading}
use Rattle.field_forms.specs.FormLaws.{same-rest, same-value}
use Rattle.field_forms.specs.Numbers.{number_reading}

pub tagged_reading-at : {V : Type 0} (body : ℕ → Form V) (bytes rest : List ℕ) (tag n : ℕ) → number_reading 1 bytes ≡ Some (tag, rest) → tag ≡ n
    → tagged_reading body bytes ≡ (body n).reading rest
tagged_reading-at body [] rest tag n e q = cc
tagged_reading-at body (b ∷ bytes) rest tag n e q =
    elim (nat_lt b 256) as (λ t. ◌≡◌ {A = Reading ℕ} (cond t (Some (b + 256 * 0, bytes)) None) (Some (tag, rest)) → (body b).reading bytes ≡ (body n).reading rest) [
      | true ↦ λ k.
          let byte = same-value (b + 256 * 0) tag bytes rest k in
          let number : b ≡ n = omega arith in
          ap (λ m. (body m).reading bytes) number ∙ ap (body n).reading (same-rest (b + 256 * 0) tag bytes rest k)
      | false ↦ λ k. cc
    ] e
