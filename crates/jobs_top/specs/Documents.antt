-- What the two documents of a command say, and the first cause for which they are refused (docs/GUIDE, "Statuses").
use Rattle.std.specs.Prelude.{◌≡◌, ℕ, Result, Ok, Err}
use Rattle.input_book.specs.Inputs.{inputs_of}
use Rattle.input_book.specs.Limits.{max_document}
use Rattle.input_book.specs.declared.input_err.InputErr.{InputErr}
use Rattle.input_book.specs.declared.input_err.InputErr.TheVariants.{TooLong as document_too_long}
use Rattle.input_types.specs.declared.inputs.Inputs.{Inputs}
use Rattle.outside.specs.KnownFiles.{KnownFiles, file_of}
use Rattle.outside.specs.Segment.{segment_of}
use Rattle.outside.specs.declared.segment.Segment.{Segment}
use Rattle.outside.specs.declared.segment.Segment.TheVariants.{Bytes, TooLong}
use Rattle.query_grammar.specs.Queries.{IsScript, IsRefusedBy}
use Rattle.query_tokens.specs.declared.parse_err.ParseErr.{ParseErr}
use Rattle.query_tokens.specs.declared.parse_err.ParseErr.TheVariants.{TooLong as query_too_long}
use Rattle.query_tree.specs.declared.script.Script.{Script}
use Rattle.query_type.specs.Plans.{plan_or_fault}
use Rattle.jobs_top.specs.Words.{Command}
use Rattle.jobs_top.specs.declared.acceptance.Accepted.{Accepted}
use Rattle.jobs_top.specs.declared.documents.Documents.{Documents}
use Rattle.jobs_top.specs.declared.failure.Failure.{Failure}
use Rattle.jobs_top.specs.declared.failure.Failure.TheVariants.{Query, Inputs as the_inputs, Plan, Read, Memory}

-- the greatest length of a query in bytes
abbrev pub max_query : ℕ
max_query = 65_536

-- the documents of a command, as the files hold them
abbrev pub documents_in : KnownFiles → Command → Documents
documents_in files command = record {
  query = segment_of max_query (file_of files command.query);
  inputs = segment_of max_document (file_of files command.inputs);
}

-- a file of this length may hold a query that stands for this tree
abbrev pub HoldsScript : Segment → Script → Type 0
HoldsScript (Bytes text) script = IsScript text script
HoldsScript TooLong script = ⊥

-- a file of this length holds no query, for this cause
abbrev pub HoldsNoScript : Segment → ParseErr → Type 0
HoldsNoScript (Bytes text) error = IsRefusedBy text error
HoldsNoScript TooLong error = error ≡ query_too_long

-- a file of this length may hold a document of these inputs
abbrev pub HoldsInputs : Segment → Inputs → Type 0
HoldsInputs (Bytes text) inputs = inputs_of text ≡ Ok inputs
HoldsInputs TooLong inputs = ⊥

-- a file of this length holds no inputs document, for this cause
abbrev pub HoldsNoInputs : Segment → InputErr → Type 0
HoldsNoInputs (Bytes text) error = inputs_of text ≡ Err error
HoldsNoInputs TooLong error = error ≡ document_too_long

-- the documents say this: a query, inputs, and the query's plan over them
pub record IsAccepted (documents : Documents) (accepted : Accepted) : Type 0 where
  pub script : HoldsScript documents.query accepted.script
  pub inputs : HoldsInputs documents.inputs accepted.inputs
  pub plan : plan_or_fault accepted.script accepted.inputs ≡ Ok accepted.plan

-- the documents are refused for this cause: the first is the query's text, the second the inputs document, and
-- then comes the query over the inputs; for want of memory without any
abbrev pub IsRefusalOf : Documents → Failure → Type 0
IsRefusalOf documents (Query error) = HoldsNoScript documents.query error
IsRefusalOf documents (the_inputs error) =
    (script : Script) × HoldsScript documents.query script × HoldsNoInputs documents.inputs error
IsRefusalOf documents (Plan error) =
    (script : Script) × (inputs : Inputs) × HoldsScript documents.query script
    × HoldsInputs documents.inputs inputs × (plan_or_fault script inputs ≡ Err error)
IsRefusalOf documents (Read name) = ⊥
IsRefusalOf documents Memory = Unit {0}

-- what was answered of the query, for private clauses
abbrev pub IsScriptAnswer : Segment → Result Script Failure → Type 0
IsScriptAnswer segment (Ok script) = HoldsScript segment script
IsScriptAnswer segment (Err (Query error)) = HoldsNoScript segment error
IsScriptAnswer segment (Err (the_inputs error)) = ⊥
IsScriptAnswer segment (Err (Plan error)) = ⊥
IsScriptAnswer segment (Err (Read name)) = ⊥
IsScriptAnswer segment (Err Memory) = Unit {0}

-- what was answered of the inputs document, for private clauses
abbrev pub IsInputsAnswer : Segment → Result Inputs Failure → Type 0
IsInputsAnswer segment (Ok inputs) = HoldsInputs segment inputs
IsInputsAnswer segment (Err (Query error)) = ⊥
IsInputsAnswer segment (Err (the_inputs error)) = HoldsNoInputs segment error
IsInputsAnswer segment (Err (Plan error)) = ⊥
IsInputsAnswer segment (Err (Read name)) = ⊥
IsInputsAnswer segment (Err Memory) = Unit {0}
