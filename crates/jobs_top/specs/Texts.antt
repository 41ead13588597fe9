-- The text of a command (docs/GUIDE, "Printed text"), and the files that it may ask for.
use Rattle.std.specs.Prelude.{◌≡◌, ◌⊎◌, ℕ, List, ◌++◌, codes, Option, IfSome}
use Rattle.event_value.specs.declared.record.Stamped.{Stamped}
use Rattle.job_core.specs.Batches.{printed_outputs}
use Rattle.log_reading.specs.Log.{log_in, log_files}
use Rattle.log_reading.specs.References.{references_files, references_in}
use Rattle.outside.specs.KnownFiles.{KnownFiles}
use Rattle.preview_text.specs.PreviewText.{preview_text}
use Rattle.query_meaning.specs.Lists.{all_below}
use Rattle.query_meaning.specs.Meaning.{rows_of_outputs}
use Rattle.query_meaning.specs.Ready.{ready_plan}
use Rattle.query_meaning.specs.Streams.{Log, drops_of_streams}
use Rattle.query_print.specs.Scripts.{canonical_text}
use Rattle.tick_time.specs.Moment.{end_ticks}
use Rattle.stream_joins.specs.Snapshots.{Snapshots}
use Rattle.jobs_top.specs.Documents.{IsAccepted, documents_in}
use Rattle.jobs_top.specs.Words.{Command, documents_of}
use Rattle.jobs_top.specs.declared.acceptance.Accepted.{Accepted}
use Rattle.jobs_top.specs.declared.words.Action.{Action}
use Rattle.jobs_top.specs.declared.words.Action.TheVariants.{Preview, Check}

-- the log of the streams that the plan uses
abbrev pub log_of : KnownFiles → Accepted → Log
log_of files accepted = log_in files accepted.inputs.streams accepted.plan.streams

-- the snapshots of the references that the plan names
abbrev pub snapshots_of : KnownFiles → Accepted → List Snapshots
snapshots_of files accepted =
    references_in files accepted.inputs.references accepted.plan.references

-- the rows of the outputs over a log, all of which are below the end of time
abbrev pub rows_over : Accepted → List Snapshots → Log → List (List Stamped)
rows_over accepted snapshots log = all_below end_ticks
    (rows_of_outputs (ready_plan accepted.plan accepted.inputs snapshots) accepted.inputs.policy log)

-- the preview over a log: the rows from the first moment on, printed, and the dropped records
abbrev pub preview_over : Accepted → List Snapshots → Log → List ℕ
preview_over accepted snapshots log =
    preview_text accepted.plan.outputs
    (printed_outputs 0 accepted.plan.outputs (rows_over accepted snapshots log))
    accepted.inputs.streams
    (drops_of_streams accepted.inputs.policy accepted.plan.streams log)

-- the preview over the snapshots and the log that the files hold
abbrev pub preview_of : KnownFiles → Accepted → List ℕ
preview_of files accepted =
    preview_over accepted (snapshots_of files accepted) (log_of files accepted)

-- the canonical query on a line
abbrev pub canonical_line : Accepted → List ℕ
canonical_line accepted = canonical_text accepted.script ++ codes "\n"

-- the text of a command over accepted documents
abbrev pub text_of : Action → KnownFiles → Accepted → List ℕ
text_of Preview files accepted = preview_of files accepted
text_of Check files accepted = canonical_line accepted

-- the text is that of the command over the documents that the files hold
pub record IsTextOf (files : KnownFiles) (command : Command) (text : List ℕ) : Type 0 where
  pub accepted : Accepted
  pub documents : IsAccepted (documents_in files command) accepted
  pub printed : text ≡ text_of command.action files accepted

-- the names of the files of the snapshots, in order of (reference, snapshot), and behind them those of the
-- log, in order of (stream, partition, segment)
abbrev pub preview_files_of : Accepted → List (List ℕ)
preview_files_of accepted =
    references_files accepted.inputs.references accepted.plan.references
    ++ log_files accepted.inputs.streams accepted.plan.streams

-- the files of the documents, and behind them those of the references and the log of an accepted preview
pub record AreDocumentsAndLog (files : Option KnownFiles) (command : Command) (names : List (List ℕ)) : Type 0 where
  pub accepted : Accepted
  pub preview : command.action ≡ Preview
  pub documents : IfSome files (λ known. IsAccepted (documents_in known command) accepted)
  pub names_are : names ≡ documents_of command ++ preview_files_of accepted

-- the files that a command may ask for, in their order
abbrev pub MayAsk : Option KnownFiles → Command → List (List ℕ) → Type 0
MayAsk files command names = (names ≡ documents_of command) ⊎ AreDocumentsAndLog files command names
