-- A plan while its script is read: the faults, the streams that are named, the steps.
use Rattle.std.specs.Prelude.{ℕ, ◌+◌, nat_le, nat_lt, ◌&&◌, if◌then◌else◌, List, [], ◌∷◌, ◌++◌, length}
use Rattle.query_plan.specs.declared.plan.Step.{Step}
use Rattle.query_forms.specs.declared.fault.Fault.{Fault}
use Rattle.query_forms.specs.declared.fault.Cause.{Cause}
use Rattle.query_forms.specs.declared.fault.Cause.TheVariants as cause
use Rattle.query_forms.specs.Faults.{fault_at}
use Rattle.query_sources.specs.declared.draft.Draft.{Draft}
use Rattle.query_sources.specs.declared.draft.Mention.{Mention}

-- faults added at the end
abbrev pub noted : List Fault → Draft → Draft
noted faults d = record d { faults = d.faults ++ faults }

abbrev pub noted_at : ℕ → Cause → Draft → Draft
noted_at place r d = record d { faults = d.faults ++ fault_at place r ∷ [] }

abbrev pub mentioned : Mention → Draft → Draft
mentioned m d = record d { mentions = d.mentions ++ m ∷ [] }

-- a step added at the end, whose rows go on
abbrev pub with_step : Step → Draft → Draft
with_step step d = record d { steps = d.steps ++ step ∷ []; last = length d.steps }

-- how many steps a plan may have
abbrev pub max_steps : ℕ
max_steps = 32

abbrev pub with_count : ℕ → Draft → Draft
with_count n d = record d { count = n }

-- the select at a place asks for so many steps more
abbrev pub asked : ℕ → ℕ → Draft → Draft
asked place n d =
    if nat_le d.count max_steps && nat_lt max_steps (d.count + n)
    then noted_at place cause.TooMany (with_count (d.count + n) d)
    else with_count (d.count + n) d
