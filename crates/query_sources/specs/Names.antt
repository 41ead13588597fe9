-- Names that stand twice: each that repeats an earlier one is refused.
use Rattle.std.specs.Prelude.{ℕ, Bool, false, ◌||◌, if◌then◌else◌, List, [], ◌∷◌, ◌++◌}
use Rattle.std.specs.Str.{bytes_eq}
use Rattle.query_tree.specs.declared.name.Name.{Name}
use Rattle.query_forms.specs.declared.fault.Cause.TheVariants as cause
use Rattle.query_sources.specs.declared.draft.Draft.{Draft}
use Rattle.query_sources.specs.Drafts.{noted_at}

-- one of the names is this text
abbrev pub is_named : List Name → List ℕ → Bool
is_named [] text = false
is_named (n ∷ ns) text = bytes_eq n.text text || is_named ns text

abbrev pub noted_repeat : List Name → Name → Draft → Draft
noted_repeat before n d = if is_named before n.text then noted_at n.place cause.NameTwice d else d

abbrev pub noted_repeats_from : List Name → List Name → Draft → Draft
noted_repeats_from before [] d = d
noted_repeats_from before (n ∷ ns) d =
    noted_repeats_from (before ++ n ∷ []) ns (noted_repeat before n d)

unfoldable pub noted_repeats : List Name → Draft → Draft
noted_repeats names d = noted_repeats_from [] names d
