-- The text of a command, and the files that were asked for on the way to it.
use Rattle.std.proofs.Common.{◌≡◌, ◌⊎◌, inl, inr, ℕ, List, [], ◌∷◌, ◌++◌, Option, Some, None, refl, ap, sym, subst, ◌∙◌, append_assoc}
use Rattle.std.proofs.lemmas.List.{append-nil}
use Rattle.std.specs.Option.{IfSome}
use Rattle.checkpoint_form.specs.declared.batch.Batch.{Batch}
use Rattle.checkpoint_form.specs.declared.batch.Row.{Row}
use Rattle.query_plan.specs.declared.plan.Output.{Output}
use Rattle.event_value.specs.declared.record.Dropped.{Dropped}
use Rattle.input_book.proofs.WellFormedLemmas.{accepted-well_formed}
use Rattle.input_book.specs.Laws.{IsWellFormed}
use Rattle.input_types.specs.declared.inputs.Inputs.{Inputs}
use Rattle.input_types.specs.declared.inputs.Stream.{Stream}
use Rattle.job_core.specs.Batches.{printed_outputs}
use Rattle.log_reading.proofs.AskingLemmas.{Asks-append, Asks-none, AsksOnErr-among, AsksPrefixOf-all}
use Rattle.log_reading.proofs.KnownLemmas.{IfSome-before, both}
use Rattle.log_reading.specs.Asking.{Asks, AsksOnErr, AsksPrefixOf, AsksUpTo}
use Rattle.log_reading.specs.Batch.{IsWholeBatch}
use Rattle.log_reading.specs.Log.{log_files}
use Rattle.log_reading.specs.References.{references_files, references_in}
use Rattle.log_reading.specs.declared.named_read_err.NamedReadErr.{NamedReadErr}
use Rattle.log_reading.specs.declared.named_read_err.NamedReadErr.TheVariants.{Fault, Memory}
use Rattle.outside.specs.KnownFiles.{KnownFiles, files_after_asking}
use Rattle.outside.specs.declared.segment.Segment.{Segment}
use Rattle.outside.specs.declared.segment.Segment.TheVariants.{Bytes, TooLong}
use Rattle.preview_text.specs.PreviewText.{preview_text}
use Rattle.query_meaning.specs.Ready.{ready_plan}
use Rattle.query_meaning.specs.Streams.{Log}
use Rattle.stream_joins.specs.Snapshots.{Snapshots}
use Rattle.jobs_top.specs.Asking.{AsksInOrder, AsksUpToFile}
use Rattle.jobs_top.specs.Documents.{HoldsInputs, IsAccepted, documents_in}
use Rattle.jobs_top.specs.Failures.{failure_of_read}
use Rattle.jobs_top.specs.Texts.{AreDocumentsAndLog, IsTextOf, MayAsk, log_of, preview_files_of, preview_of, preview_over, rows_over, text_of}
use Rattle.jobs_top.specs.Words.{Command, documents_of}
use Rattle.jobs_top.specs.declared.acceptance.Accepted.{Accepted}
use Rattle.jobs_top.specs.declared.documents.Documents.{Documents}
use Rattle.jobs_top.specs.declared.failure.Failure.TheVariants.{Read}
use Rattle.jobs_top.specs.declared.words.Action.{Action}
use Rattle.jobs_top.specs.declared.words.Action.TheVariants.{Preview}

pub HoldsInputs-well_formed : (segment : Segment) (inputs : Inputs) → HoldsInputs segment inputs → IsWellFormed inputs
HoldsInputs-well_formed (Bytes text) inputs h = accepted-well_formed inputs (text, h)
HoldsInputs-well_formed TooLong inputs h = absurd h

-- the text of a batch over a log that was read whole
batch-text : (accepted : Accepted) (snapshots : List Snapshots) (log : Log) (batch : Batch) (text : List ℕ)
    → IsWholeBatch (ready_plan accepted.plan accepted.inputs snapshots) accepted.inputs.policy log batch
    → text ≡ preview_text accepted.plan.outputs batch.outputs accepted.inputs.streams batch.drops → text ≡ preview_over accepted snapshots log
batch-text accepted snapshots log batch text whole is =
    is
    ∙ ap (λ (rows : List (List Row)). preview_text accepted.plan.outputs rows accepted.inputs.streams batch.drops) whole.outputs_are
    ∙ ap (λ (ds : List Dropped). preview_text accepted.plan.outputs (printed_outputs 0 accepted.plan.outputs (rows_over accepted snapshots log)) accepted.inputs.streams ds) whole.drops_are

pub preview_text-same : (outputs others : List Output) (rows lines : List (List Row)) (streams sources : List Stream) (drops records : List Dropped)
    → outputs ≡ others → rows ≡ lines → streams ≡ sources → drops ≡ records → preview_text outputs rows streams drops ≡ preview_text others lines sources records
preview_text-same outputs others rows lines streams sources drops records o r s d =
    ap (λ (os : List Output). preview_text os rows streams drops) o
    ∙ ap (λ (rs : List (List Row)). preview_text others rs streams drops) r
    ∙ ap (λ (ss : List Stream). preview_text others lines ss drops) s
    ∙ ap (λ (ds : List Dropped). preview_text others lines sources ds) d

-- the text over the snapshots and the log that were read is that over those that the files hold
pub preview_of-read : (old middle : Option KnownFiles) (accepted : Accepted) (numbers : List ℕ) (snapshots : List Snapshots) (batch : Batch) (text : List ℕ)
    → numbers ≡ accepted.plan.references
    → Asks (references_files accepted.inputs.references numbers) old middle
    → IfSome old (λ known. snapshots ≡ references_in known accepted.inputs.references numbers)
    → IfSome middle (λ known. IsWholeBatch (ready_plan accepted.plan accepted.inputs snapshots) accepted.inputs.policy (log_of known accepted) batch)
    → text ≡ preview_text accepted.plan.outputs batch.outputs accepted.inputs.streams batch.drops → IfSome old (λ known. text ≡ preview_of known accepted)
preview_of-read old middle accepted numbers snapshots batch text n asks held whole is =
    both old (λ (known : KnownFiles). snapshots ≡ references_in known accepted.inputs.references numbers)
    (λ (known : KnownFiles). IsWholeBatch (ready_plan accepted.plan accepted.inputs snapshots) accepted.inputs.policy (log_of known accepted) batch)
    (λ (known : KnownFiles). text ≡ preview_of known accepted)
    (λ known a b.
    batch-text accepted snapshots (log_of known accepted) batch text b is
    ∙ ap (λ (s : List Snapshots). preview_over accepted s (log_of known accepted)) a
    ∙ ap (λ (ns : List ℕ). preview_over accepted (references_in known accepted.inputs.references ns) (log_of known accepted)) n)
    held
    (IfSome-before (λ (known : KnownFiles). IsWholeBatch (ready_plan accepted.plan accepted.inputs snapshots) accepted.inputs.policy (log_of known accepted) batch)
    (references_files accepted.inputs.references numbers) old middle (λ known left h. h) asks whole)

-- ---- the files of a preview

-- an error at the references
pub AsksOnErr-references : (error : NamedReadErr) (accepted : Accepted) (numbers : List ℕ) (old new : Option KnownFiles) → numbers ≡ accepted.plan.references
    → AsksOnErr (references_files accepted.inputs.references numbers) error old new → AsksOnErr (preview_files_of accepted) error old new
AsksOnErr-references error accepted numbers old new n w =
    AsksOnErr-among error [] (references_files accepted.inputs.references numbers) (log_files accepted.inputs.streams accepted.plan.streams) (preview_files_of accepted) old old new
    (ap (λ (ns : List ℕ). references_files accepted.inputs.references ns ++ log_files accepted.inputs.streams accepted.plan.streams) n)
    (Asks-none old) w

preview_files-are : (accepted : Accepted) (numbers : List ℕ) → numbers ≡ accepted.plan.references
    → references_files accepted.inputs.references numbers ++ log_files accepted.inputs.streams accepted.plan.streams ≡ preview_files_of accepted
preview_files-are accepted numbers n =
    ap (λ (ns : List ℕ). references_files accepted.inputs.references ns ++ log_files accepted.inputs.streams accepted.plan.streams) n

-- an error at the log behind them
pub AsksOnErr-behind : (error : NamedReadErr) (accepted : Accepted) (numbers : List ℕ) (old middle new : Option KnownFiles) → numbers ≡ accepted.plan.references
    → Asks (references_files accepted.inputs.references numbers) old middle → AsksOnErr (log_files accepted.inputs.streams accepted.plan.streams) error middle new
    → AsksOnErr (preview_files_of accepted) error old new
AsksOnErr-behind error accepted numbers old middle new n a w =
    let log = log_files accepted.inputs.streams accepted.plan.streams in
    AsksOnErr-among error (references_files accepted.inputs.references numbers) log [] (preview_files_of accepted) old middle new
    (ap (λ (names : List (List ℕ)). references_files accepted.inputs.references numbers ++ names) (append-nil log) ∙ preview_files-are accepted numbers n)
    a w

-- both were read
pub Asks-preview : (accepted : Accepted) (numbers : List ℕ) (old middle new : Option KnownFiles) → numbers ≡ accepted.plan.references
    → Asks (references_files accepted.inputs.references numbers) old middle → Asks (log_files accepted.inputs.streams accepted.plan.streams) middle new
    → Asks (preview_files_of accepted) old new
Asks-preview accepted numbers old middle new n a b =
    subst (λ (names : List (List ℕ)). Asks names old new) (preview_files-are accepted numbers n)
    (Asks-append (references_files accepted.inputs.references numbers) (log_files accepted.inputs.streams accepted.plan.streams) old middle new a b)

-- ---- the documents

AsksPrefixOf-on_err : (error : NamedReadErr) (names : List (List ℕ)) (old new : Option KnownFiles) → AsksOnErr names error old new → AsksPrefixOf names old new
AsksPrefixOf-on_err (Fault name) names old new w = record {
  front = w.earlier ++ name ∷ [];
  rest = w.later;
  whole = append_assoc w.earlier (name ∷ []) w.later ∙ w.among;
  asks = w.asks;
}
AsksPrefixOf-on_err Memory names old new w = w

pub AsksInOrder-documents : (command : Command) (old new : Option KnownFiles) → Asks (documents_of command) old new → AsksInOrder command old new
AsksInOrder-documents command old new a = record { names = documents_of command; may = inl refl; asks = AsksPrefixOf-all (documents_of command) old new a }

pub AsksInOrder-documents_err : (error : NamedReadErr) (command : Command) (old new : Option KnownFiles)
    → AsksOnErr (documents_of command) error old new → AsksInOrder command old new
AsksInOrder-documents_err error command old new a =
    record { names = documents_of command; may = inl refl; asks = AsksPrefixOf-on_err error (documents_of command) old new a }

-- ---- the log of an accepted preview

pub MayAsk-log : (files : Option KnownFiles) (command : Command) (documents : Documents) (accepted : Accepted) → command.action ≡ Preview
    → IfSome files (λ known. documents ≡ documents_in known command) → IsAccepted documents accepted
    → MayAsk files command (documents_of command ++ preview_files_of accepted)
MayAsk-log files command documents accepted preview held ok = inr (record {
  accepted = accepted;
  preview = preview;
  documents =
      both files (λ (known : KnownFiles). documents ≡ documents_in known command) (λ (known : KnownFiles). documents ≡ documents_in known command)
      (λ (known : KnownFiles). IsAccepted (documents_in known command) accepted)
      (λ known is also. subst (λ (d : Documents). IsAccepted d accepted) is ok) held held;
  names_are = refl;
})

AsksOnErr-log : (error : NamedReadErr) (command : Command) (accepted : Accepted) (old middle new : Option KnownFiles)
    → Asks (documents_of command) old middle → AsksOnErr (preview_files_of accepted) error middle new
    → AsksOnErr (documents_of command ++ preview_files_of accepted) error old new
AsksOnErr-log error command accepted old middle new a w =
    AsksOnErr-among error (documents_of command) (preview_files_of accepted) [] (documents_of command ++ preview_files_of accepted) old middle new
    (ap (λ (names : List (List ℕ)). documents_of command ++ names) (append-nil (preview_files_of accepted))) a w

pub AsksInOrder-log_err : (error : NamedReadErr) (command : Command) (accepted : Accepted) (old middle new : Option KnownFiles)
    → MayAsk old command (documents_of command ++ preview_files_of accepted)
    → Asks (documents_of command) old middle → AsksOnErr (preview_files_of accepted) error middle new → AsksInOrder command old new
AsksInOrder-log_err error command accepted old middle new may a w = record {
  names = documents_of command ++ preview_files_of accepted;
  may = may;
  asks = AsksPrefixOf-on_err error (documents_of command ++ preview_files_of accepted) old new (AsksOnErr-log error command accepted old middle new a w);
}

AsksUpTo-read : (error : NamedReadErr) (name : List ℕ) (names : List (List ℕ)) (old new : Option KnownFiles)
    → failure_of_read error ≡ Read name → AsksOnErr names error old new → AsksUpTo name names old new
AsksUpTo-read (Fault other) name names old new is w =
    let same : other ≡ name = cc in
    subst (λ (n : List ℕ). AsksUpTo n names old new) same w
AsksUpTo-read Memory name names old new is w = cc

pub AsksUpToFile-log : (error : NamedReadErr) (name : List ℕ) (command : Command) (accepted : Accepted) (old middle new : Option KnownFiles)
    → failure_of_read error ≡ Read name → MayAsk old command (documents_of command ++ preview_files_of accepted)
    → Asks (documents_of command) old middle → AsksOnErr (preview_files_of accepted) error middle new → AsksUpToFile command name old new
AsksUpToFile-log error name command accepted old middle new is may a w = record {
  names = documents_of command ++ preview_files_of accepted;
  may = may;
  asks = AsksUpTo-read error name (documents_of command ++ preview_files_of accepted) old new is (AsksOnErr-log error command accepted old middle new a w);
}

pub AsksInOrder-log : (command : Command) (accepted : Accepted) (old middle new : Option KnownFiles)
    → MayAsk old command (documents_of command ++ preview_files_of accepted)
    → Asks (documents_of command) old middle → Asks (preview_files_of accepted) middle new → AsksInOrder command old new
AsksInOrder-log command accepted old middle new may a b = record {
  names = documents_of command ++ preview_files_of accepted;
  may = may;
  asks = AsksPrefixOf-all (documents_of command ++ preview_files_of accepted) old new (Asks-append (documents_of command) (preview_files_of accepted) old middle new a b);
}

-- ---- the text

pub IsTextOf-preview : (old middle : Option KnownFiles) (command : Command) (documents : Documents) (accepted : Accepted) (text : List ℕ)
    → command.action ≡ Preview → Asks (documents_of command) old middle
    → IfSome old (λ known. documents ≡ documents_in known command) → IsAccepted documents accepted
    → IfSome middle (λ known. text ≡ preview_of known accepted) → IfSome old (λ known. IsTextOf known command text)
IsTextOf-preview old middle command documents accepted text preview asks held ok printed =
    both old (λ (known : KnownFiles). documents ≡ documents_in known command) (λ (known : KnownFiles). text ≡ preview_of known accepted)
    (λ (known : KnownFiles). IsTextOf known command text)
    (λ known is shown. record {
      accepted = accepted;
      documents = subst (λ (d : Documents). IsAccepted d accepted) is ok;
      printed = shown ∙ ap (λ (action : Action). text_of action known accepted) (sym preview);
    })
    held (IfSome-before (λ (known : KnownFiles). text ≡ preview_of known accepted) (documents_of command) old middle (λ known left h. h) asks printed)
