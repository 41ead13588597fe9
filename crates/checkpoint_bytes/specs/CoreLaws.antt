-- Waiting events, lanes and cores have forms.
use Rattle.std.specs.Prelude.{refl}
use Rattle.checkpoint_bytes.specs.Cores.{any_core_form, any_lane_form, core_of, core_parts, lane_of, lane_parts, waiting_form, waiting_of, waiting_parts}
use Rattle.field_forms.specs.FieldLaws.{IsForm-text_form}
use Rattle.field_forms.specs.FormLaws.{IsForm-pair_form, IsForm-record_form}
use Rattle.field_forms.specs.Forms.{IsForm}
use Rattle.field_forms.specs.ListLaws.{IsForm-list_form}
use Rattle.field_forms.specs.NumberLaws.{IsForm-moment_form, IsForm-u32_form}
use Rattle.field_forms.specs.RecordLaws.{IsForm-key_mark_form}
use Rattle.field_forms.specs.ValueLaws.{IsForm-values_form}

pub IsForm-waiting_form : IsForm waiting_form
IsForm-waiting_form =
    IsForm-record_form waiting_of waiting_parts (λ b. refl) (λ a. refl)
    (IsForm-pair_form IsForm-moment_form (IsForm-pair_form IsForm-u32_form (IsForm-pair_form IsForm-u32_form IsForm-values_form)))

pub IsForm-any_lane_form : IsForm any_lane_form
IsForm-any_lane_form =
    IsForm-record_form lane_of lane_parts (λ b. refl) (λ a. refl)
    (IsForm-pair_form IsForm-moment_form (IsForm-pair_form IsForm-moment_form
    (IsForm-pair_form (IsForm-list_form IsForm-u32_form IsForm-key_mark_form) (IsForm-list_form IsForm-u32_form IsForm-waiting_form))))

pub IsForm-any_core_form : IsForm any_core_form
IsForm-any_core_form =
    IsForm-record_form core_of core_parts (λ b. refl) (λ a. refl)
    (IsForm-pair_form (IsForm-list_form IsForm-u32_form IsForm-any_lane_form)
    (IsForm-pair_form (IsForm-list_form IsForm-u32_form IsForm-text_form) IsForm-moment_form))
