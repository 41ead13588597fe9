-- A plan that is ready to run: what its joins take from the columns of the inputs and from the snapshots of
-- references.
use Rattle.std.specs.Prelude.{ℕ, ◌+◌, List, [], ◌∷◌, ◌++◌, length, map, get_or, Option, Some, None, slice_get}
use Rattle.query_plan.specs.declared.plan.Plan.{Plan}
use Rattle.query_plan.specs.declared.plan.Step.{Step}
use Rattle.query_plan.specs.declared.plan.Step.TheVariants.{Source, Filter, Project, Union, Grid, Snapshot}
use Rattle.query_plan.specs.declared.plan.Step.TheVariants.{Sliding, Session, Join, Lookup}
use Rattle.query_plan.specs.declared.plan.StreamUse.{StreamUse}
use Rattle.input_types.specs.declared.inputs.Inputs.{Inputs}
use Rattle.input_types.specs.declared.inputs.Reference.{Reference}
use Rattle.input_types.specs.declared.inputs.Stream.{Stream}
use Rattle.stream_joins.specs.Snapshots.{Snapshots}
use Rattle.query_meaning.specs.declared.ready.ReadyPlan.{ReadyPlan}
use Rattle.query_meaning.specs.declared.ready.ReadyStep.{ReadyStep}

-- the number at a place; 0 where there is no such place
abbrev pub width_at : List ℕ → ℕ → ℕ
width_at widths place = get_or widths place 0

-- how many columns the rows of a step have, by those of the streams, of the references and of the earlier steps
abbrev pub width_of : List ℕ → List ℕ → List ℕ → Step → ℕ
width_of streams references done (Source index) = width_at streams index
width_of streams references done (Filter from cond) = width_at done from
width_of streams references done (Project from exprs) = length exprs
width_of streams references done (Union first second) = width_at done first
width_of streams references done (Grid from size hop offset keys aggs) = keys + length aggs
width_of streams references done (Snapshot from keys aggs) = keys + length aggs
width_of streams references done (Sliding from size keys aggs) = keys + length aggs
width_of streams references done (Session from timeout most parts keys aggs) = keys + length aggs
width_of streams references done (Join left right low high cond outer) =
    width_at done left + width_at done right
width_of streams references done (Lookup left reference cond outer) =
    width_at done left + width_at references reference

-- those of further steps, behind those of the steps before
abbrev pub widths_behind : List ℕ → List ℕ → List ℕ → List Step → List ℕ
widths_behind streams references done [] = done
widths_behind streams references done (step ∷ steps) =
    widths_behind streams references (done ++ width_of streams references done step ∷ []) steps

abbrev pub widths_of : List ℕ → List ℕ → List Step → List ℕ
widths_of streams references steps = widths_behind streams references [] steps

-- how many columns a step joins to each row
abbrev pub joined_width : List ℕ → List ℕ → Step → ℕ
joined_width references widths (Join left right low high cond outer) = width_at widths right
joined_width references widths (Lookup left reference cond outer) = width_at references reference
joined_width references widths _ = 0

-- no snapshots
abbrev pub no_snapshots : Snapshots
no_snapshots = record { effective = []; rows = [] }

abbrev pub or_no_snapshots : Option Snapshots → Snapshots
or_no_snapshots None = no_snapshots
or_no_snapshots (Some snapshots) = snapshots

-- the snapshots in which a step looks rows up
abbrev pub joined_snapshots : List Snapshots → Step → Snapshots
joined_snapshots snapshots (Lookup left reference cond outer) =
    or_no_snapshots (slice_get snapshots reference)
joined_snapshots snapshots _ = no_snapshots

-- a step with what it joins, by the numbers of columns of the references and of all steps
abbrev pub ready_step : List ℕ → List ℕ → List Snapshots → Step → ReadyStep
ready_step references widths snapshots step = record {
  step = step;
  width = joined_width references widths step;
  versions = joined_snapshots snapshots step;
}

abbrev pub ready_steps : List ℕ → List ℕ → List Snapshots → List Step → List ReadyStep
ready_steps references widths snapshots steps =
    map (ready_step references widths snapshots) steps

-- a plan over streams and references with so many columns each, and over these snapshots
abbrev pub ready_over : Plan → List ℕ → List ℕ → List Snapshots → ReadyPlan
ready_over plan streams references snapshots = record {
  streams = plan.streams;
  steps = ready_steps references (widths_of streams references plan.steps) snapshots plan.steps;
  outputs = plan.outputs;
}

abbrev pub columns_of_stream : Option Stream → ℕ
columns_of_stream None = 0
columns_of_stream (Some s) = length s.columns

abbrev pub columns_of_reference : Option Reference → ℕ
columns_of_reference None = 0
columns_of_reference (Some r) = length r.columns

abbrev pub stream_width : Inputs → StreamUse → ℕ
stream_width inputs used = columns_of_stream (slice_get inputs.streams used.stream)

abbrev pub reference_width : Inputs → ℕ → ℕ
reference_width inputs number = columns_of_reference (slice_get inputs.references number)

-- a plan over the inputs of a job, with the snapshots of each reference that it names, in its order
abbrev pub ready_plan : Plan → Inputs → List Snapshots → ReadyPlan
ready_plan plan inputs snapshots =
    ready_over plan (map (stream_width inputs) plan.streams)
    (map (reference_width inputs) plan.references) snapshots
