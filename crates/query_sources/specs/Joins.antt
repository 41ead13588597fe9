-- The joins of a select in their order: what each adds to the steps, or why it is refused.
use Rattle.std.specs.Prelude.{ℕ, ◌+◌, ◌==◌, Bool, true, false, if◌then◌else◌, Option, Some, None, Ok, Err, List, [], ◌∷◌, pos}
use Rattle.query_plan.specs.declared.expr.Cond.{Cond}
use Rattle.query_plan.specs.declared.expr.Cond.TheVariants.{Compare}
use Rattle.query_plan.specs.declared.expr.Expr.TheVariants.{Lit}
use Rattle.query_plan.specs.declared.expr.Rel.TheVariants.{Eq}
use Rattle.query_plan.specs.declared.plan.Step.TheVariants as step
use Rattle.event_value.specs.declared.value.Value.TheVariants.{Big}
use Rattle.query_tree.specs.declared.expr.Expr.{Expr, out-Expr}
use Rattle.query_tree.specs.declared.select.Tail.{Tail}
use Rattle.query_tree.specs.declared.source.Join.{Join}
use Rattle.query_tree.specs.declared.source.Side.{Side}
use Rattle.query_tree.specs.declared.source.Side.TheVariants.{Inner, Left}
use Rattle.query_tree.specs.declared.source.Source.{Source}
use Rattle.query_forms.specs.declared.fault.Cause.TheVariants as cause
use Rattle.query_readings.specs.declared.reading.Reading.{Reading}
use Rattle.query_readings.specs.declared.scope.Scope.{Scope}
use Rattle.query_readings.specs.declared.scope.ScopeSource.{ScopeSource}
use Rattle.query_forms.specs.Faults.{Checked}
use Rattle.query_senses.specs.Conjunctions.{reading_without}
use Rattle.query_senses.specs.Readings.{reading}
use Rattle.query_literals.specs.declared.bounds.Bound.{Bound}
use Rattle.query_sources.specs.declared.draft.Draft.{Draft}
use Rattle.query_sources.specs.declared.joins.Joined.{Joined}
use Rattle.query_sources.specs.declared.known.KnownSource.{KnownSource}
use Rattle.query_sources.specs.declared.known.Origin.{Origin}
use Rattle.query_sources.specs.declared.known.Origin.TheVariants as origin
use Rattle.query_literals.specs.Bounds.{bound_of}
use Rattle.query_sources.specs.Conditions.{condition_of, place_of}
use Rattle.query_sources.specs.Drafts.{noted, noted_at, with_step}
use Rattle.query_sources.specs.Known.{known_named}
use Rattle.query_sources.specs.Sources.{qualifier, scope_of, with_scope_source}

abbrev pub is_outer_side : Side → Bool
is_outer_side (Inner place) = false
is_outer_side (Left place written) = true

-- rows without a match come alone
abbrev pub is_outer : Option Side → Bool
is_outer None = false
is_outer (Some side) = is_outer_side side

-- ---- the condition, over the sources up to and with the joined one

abbrev pub condition_on : Scope → Expr → Checked Cond
condition_on scope on = condition_of (place_of on) (reading scope on).rows

-- `0 = 0`
abbrev pub always : Cond
always = Compare Eq (Lit (Big (pos 0))) (Lit (Big (pos 0)))

abbrev pub condition_left : ℕ → Option Reading → Checked Cond
condition_left place None = Ok always
condition_left place (Some r) = condition_of place r.rows

-- the parts beside the bound
unfoldable pub condition_beside : Scope → ℕ → Expr → Checked Cond
condition_beside scope part on =
    condition_left (place_of on) (reading_without scope (out-Expr on).first part)

-- ---- a join with a stream, or with what WITH defines

abbrev pub with_join : Bound → ℕ → Bool → Checked Cond → Draft → Draft
with_join b right outer (Ok c) d = with_step (step.Join d.last right b.low b.high c outer) d
with_join b right outer (Err faults) d = noted faults d

abbrev pub bound_joined : Bound → Scope → ℕ → Join → Draft → Draft
bound_joined b scope right j d =
    with_join b right (is_outer j.side) (condition_beside scope b.part j.on) d

-- the second one of a select isn't built
abbrev pub second_noted : Bool → ℕ → Draft → Draft
second_noted second place d = if second then noted_at place cause.Unsupported d else d

abbrev pub stream_joined_by : Option Bound → Bool → Scope → ℕ → Join → Draft → Draft
stream_joined_by None second scope right j d =
    noted_at j.join_place cause.Bound (second_noted second j.place d)
stream_joined_by (Some b) second scope right j d =
    if second then noted_at j.place cause.Unsupported d else bound_joined b scope right j d

unfoldable pub stream_joined : List ℕ → Bool → Scope → ℕ → Join → Draft → Draft
stream_joined left second scope right j d =
    stream_joined_by (bound_of left (qualifier j.source).text j.on) second scope right j d

-- ---- a join with a reference

abbrev pub with_lookup : ℕ → Bool → Checked Cond → Draft → Draft
with_lookup number outer (Ok c) d = with_step (step.Lookup d.last number c outer) d
with_lookup number outer (Err faults) d = noted faults d

-- how many references a select may join
abbrev pub max_references : ℕ
max_references = 4

-- the first one above the limit is refused
unfoldable pub reference_joined : ℕ → Scope → ℕ → Join → Draft → Draft
reference_joined before scope number j d =
    if before == max_references then noted_at j.place cause.TooMany d
    else with_lookup number (is_outer j.side) (condition_on scope j.on) d

-- ---- all joins of a select

abbrev pub joined_as : Origin → ℕ → List ℕ → Joined → Join → Draft → Draft
joined_as (origin.Stream stream) right left so_far j d =
    stream_joined left so_far.has_stream so_far.scope right j d
joined_as origin.Definition right left so_far j d =
    stream_joined left so_far.has_stream so_far.scope right j d
joined_as (origin.Reference number) right left so_far j d =
    reference_joined so_far.references so_far.scope number j d

-- an unknown source is refused by its name alone
abbrev pub found_joined : Option KnownSource → List ℕ → Joined → Join → Draft → Draft
found_joined None left so_far j d = d
found_joined (Some known) left so_far j d = joined_as known.origin known.step left so_far j d

abbrev pub counted_as : Origin → Joined → Joined
counted_as (origin.Reference number) so_far =
    record so_far { references = so_far.references + 1 }
counted_as _ so_far = record so_far { has_stream = true }

abbrev pub counted : Option KnownSource → Joined → Joined
counted None so_far = so_far
counted (Some known) so_far = counted_as known.origin so_far

abbrev pub with_sources : List ScopeSource → Scope → Scope
with_sources sources scope = record scope { sources = sources }

-- the columns of the joined source are in reach
abbrev pub reaching : List KnownSource → Source → Joined → Joined
reaching known s so_far = record so_far {
  scope = with_sources (with_scope_source known so_far.scope.sources s) so_far.scope;
}

abbrev pub join_read : List KnownSource → List ℕ → Joined → Join → Draft → Draft
join_read known left so_far j d =
    found_joined (known_named known j.source.name.text) left so_far j d

abbrev pub join_counted : List KnownSource → Source → Joined → Joined
join_counted known s so_far = counted (known_named known s.name.text) so_far

abbrev pub joins_read_from : List KnownSource → List ℕ → Joined → List Join → Draft → Draft
joins_read_from known left so_far [] d = d
joins_read_from known left so_far (j ∷ js) d =
    let reached = reaching known j.source so_far in
    joins_read_from known left (join_counted known j.source reached) js
    (join_read known left reached j d)

abbrev pub first_reach : List KnownSource → Source → Joined
first_reach known s = record {
  scope = scope_of true (with_scope_source known [] s);
  has_stream = false;
  references = 0;
}

-- each join takes the rows so far on; its bound speaks of the first source's time
unfoldable pub joins_read : List KnownSource → Tail → Draft → Draft
joins_read known t d =
    joins_read_from known (qualifier t.source).text (first_reach known t.source) t.joins d
