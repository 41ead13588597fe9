-- The inputs of an accepted document are well formed.
use Rattle.std.proofs.Common.{◌≡◌, ℕ, ◌≤◌, List, length, get_or, Ok, Err, true, false, Bool, if◌then◌else◌, nat_lt, subst}
use Rattle.input_book.specs.Checks.{effective_order, limits_check, names_check, order_check, references_limits, references_names, streams_limits, streams_names}
use Rattle.input_book.specs.Document.{document}
use Rattle.input_book.specs.Inputs.{inputs_of, inputs_of_short, IsAccepted}
use Rattle.input_book.specs.Laws.{IsReference, IsStream, IsWellFormed}
use Rattle.input_book.specs.Limits.{max_document}
use Rattle.input_book.specs.Refusals.{ok_or}
use Rattle.input_book.specs.Tables.{root_of}
use Rattle.input_book.specs.declared.input_err.InputErr.TheVariants.{Toml, TooLong}
use Rattle.input_types.specs.declared.inputs.Inputs.{Inputs}
use Rattle.input_types.specs.declared.inputs.Reference.{Reference}
use Rattle.input_types.specs.declared.inputs.Stream.{Stream}
use Rattle.input_book.proofs.CheckLemmas.{Passes, KeepsLimits, KeepsNames, KeepsOrder, limits-keep, names-keep, order-keeps}
use Rattle.input_book.proofs.RangeLemmas.{KeepsInputs, KeepsReference, KeepsStream, root-keeps}
use Rattle.input_book.proofs.ReferenceLemmas.{AreApart, DoRise, effective-keeps, reference_limits-keep, reference_names-keep}
use Rattle.input_book.specs.Limits.{max_columns}
use Rattle.input_book.proofs.ReadingLemmas.{bind-then}

-- a stream from what its table and the checks leave
stream-well_formed : (s : Stream) → KeepsStream s → KeepsLimits s → KeepsNames s → KeepsOrder s → IsStream s
stream-well_formed s tables limits names order = record {
  name = tables.name;
  format = tables.format;
  column_count = (tables.column_count, limits.columns);
  columns = tables.columns;
  column_names = names.columns;
  partition_count = tables.partition_count;
  partitions = λ k d within. record {
    count = limits.segments k d within;
    segments = (tables.partitions k d within).segments;
    order = order.partitions k d within;
  };
}

-- a reference, likewise
reference-well_formed : (r : Reference) → KeepsReference r → length r.columns ≤ max_columns → AreApart r → DoRise r → IsReference r
reference-well_formed r tables limit apart rise = record {
  name = tables.name;
  format = tables.format;
  column_count = (tables.column_count, limit);
  columns = tables.columns;
  column_names = apart;
  snapshots = tables.snapshots;
  order = rise;
}

-- the limits of streams, and then those of references
limits-parts : {P : Type 0} (inputs : Inputs) → Passes (limits_check inputs) → (Passes (streams_limits inputs.streams) → Passes (references_limits inputs.references) → P) → P
unfolding limits_check
limits-parts inputs h next = bind-then (streams_limits inputs.streams) _ tt h (λ _ first rest. next first rest)

names-parts : {P : Type 0} (inputs : Inputs) → Passes (names_check inputs) → (Passes (streams_names inputs.streams) → Passes (references_names inputs.streams inputs.references) → P) → P
unfolding names_check
names-parts inputs h next = bind-then (streams_names inputs.streams) _ tt h (λ _ first rest. next first rest)

-- the inputs from what the tables and the checks leave
inputs-well_formed : (inputs : Inputs) → KeepsInputs inputs → Passes (limits_check inputs) → Passes (names_check inputs) → Passes (order_check inputs) → Passes (effective_order inputs) → IsWellFormed inputs
inputs-well_formed inputs tables limits names order effective =
    limits-parts inputs limits (λ stream_limits reference_limits.
    names-parts inputs names (λ stream_names reference_names.
    let (count, each, partitions) = limits-keep inputs.streams stream_limits in
    let (named, apart) = names-keep inputs.streams stream_names in
    let ordered = order-keeps inputs order in
    let (reference_count, narrow, snapshots) = reference_limits-keep inputs.references reference_limits in
    let (reference_named, references_apart, sources_apart) = reference_names-keep inputs.streams inputs.references reference_names in
    let rising = effective-keeps inputs effective in
    record {
      stream_count = (tables.stream_count, count);
      streams = λ k d within. stream-well_formed (get_or inputs.streams k d) (tables.streams k d within) (each k d within) (named k d within) (ordered k d within);
      stream_names = apart;
      partition_count = partitions;
      reference_count = reference_count;
      references = λ k d within. reference-well_formed (get_or inputs.references k d) (tables.references k d within) (narrow k d within) (reference_named k d within) (rising k d within);
      reference_names = references_apart;
      source_names = sources_apart;
      snapshot_count = snapshots;
      policy = tables.policy;
    }))

short-well_formed : (bytes : List ℕ) (inputs : Inputs) → inputs_of_short bytes ≡ Ok inputs → IsWellFormed inputs
unfolding inputs_of_short
short-well_formed bytes inputs h =
    bind-then (ok_or Toml (document bytes)) _ inputs h (λ root _ h1.
    bind-then (root_of root) _ inputs h1 (λ read given h2.
    bind-then (limits_check read) _ inputs h2 (λ _ limits h3.
    bind-then (names_check read) _ inputs h3 (λ _ names h4.
    bind-then (order_check read) _ inputs h4 (λ _ order h5.
    bind-then (effective_order read) _ inputs h5 (λ _ effective h6.
    let same : read ≡ inputs = cc in
    subst IsWellFormed same (inputs-well_formed read (root-keeps root read given) limits names order effective)))))))

pub accepted-well_formed : (inputs : Inputs) → IsAccepted inputs → IsWellFormed inputs
unfolding inputs_of
accepted-well_formed inputs accepted = short (nat_lt max_document (length accepted.0)) accepted.1 where
  short : (b : Bool) → (if b then Err TooLong else inputs_of_short accepted.0) ≡ Ok inputs → IsWellFormed inputs
  short true h = absurd cc
  short false h = short-well_formed accepted.0 inputs h
