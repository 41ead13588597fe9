-- Rows, outputs and batches have forms.
use Rattle.std.specs.Prelude.{ℕ, refl}
use Rattle.checkpoint_bytes.specs.Batches.{batch_body, batch_of, batch_parts, numbered_form, output_form, row_form, row_of, row_parts}
use Rattle.field_forms.specs.FieldLaws.{IsForm-option_form, IsForm-text_form}
use Rattle.field_forms.specs.FormLaws.{AreBodies-alternative, AreBodies-no_alternative, IsForm-pair_form, IsForm-record_form, IsForm-tagged_form}
use Rattle.field_forms.specs.Forms.{IsForm}
use Rattle.field_forms.specs.ListLaws.{IsForm-list_form}
use Rattle.field_forms.specs.NumberLaws.{IsForm-moment_form, IsForm-u32_form}
use Rattle.field_forms.specs.RecordLaws.{IsForm-dropped_form, IsForm-position_form}

pub IsForm-row_form : IsForm row_form
IsForm-row_form = IsForm-record_form row_of row_parts (λ b. refl) (λ a. refl) (IsForm-pair_form IsForm-moment_form IsForm-text_form)

pub IsForm-output_form : IsForm output_form
IsForm-output_form = IsForm-list_form IsForm-u32_form IsForm-row_form

pub IsForm-batch_body : IsForm batch_body
IsForm-batch_body =
    IsForm-record_form batch_of batch_parts (λ b. refl) (λ a. refl)
    (IsForm-pair_form IsForm-moment_form (IsForm-pair_form (IsForm-list_form IsForm-u32_form IsForm-output_form)
    (IsForm-pair_form (IsForm-list_form IsForm-u32_form IsForm-dropped_form)
    (IsForm-pair_form (IsForm-list_form IsForm-u32_form IsForm-position_form) (IsForm-option_form IsForm-text_form)))))

pub IsForm-numbered_form : (n : ℕ) → IsForm (numbered_form n)
IsForm-numbered_form n =
    IsForm-tagged_form (λ _. n) _ (AreBodies-alternative (λ _. n) n IsForm-batch_body (λ v h. refl) (AreBodies-no_alternative (λ _. n)))
