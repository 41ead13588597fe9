-- What each status of the program says: what was asked for, what was written, and why (docs/GUARANTEES).
use Rattle.std.specs.Prelude.{◌≡◌, ◌⊎◌, ℕ, List, [], Option, Some, None, IfSome}
use Rattle.log_reading.specs.Asking.{Asks}
use Rattle.outside.specs.KnownFiles.{KnownFiles}
use Rattle.outside.specs.Written.{bytes_behind, WritesPrefix}
use Rattle.jobs_top.specs.Asking.{AsksInOrder, AsksUpToFile}
use Rattle.jobs_top.specs.Documents.{IsRefusalOf, documents_in}
use Rattle.jobs_top.specs.Failures.{failure_line, status_of}
use Rattle.jobs_top.specs.StatusLines.{read_fault_line, memory_line}
use Rattle.jobs_top.specs.Texts.{IsTextOf}
use Rattle.jobs_top.specs.Words.{Command, documents_of}
use Rattle.jobs_top.specs.declared.failure.Failure.{Failure}
use Rattle.jobs_top.specs.declared.status.Status.TheVariants.{Refused}

-- the first of the files of a command were asked for, perhaps none or all; none without a command
abbrev pub AsksOfCommand : Option Command → Option KnownFiles → Option KnownFiles → Type 0
AsksOfCommand None old new = Asks [] old new
AsksOfCommand (Some command) old new = AsksInOrder command old new

-- the text of the command was written whole
abbrev pub WritesText : Option Command → Option KnownFiles → Option (List ℕ) → Option (List ℕ) → Type 0
WritesText None files before after = ⊥
WritesText (Some command) files before after =
    IfSome files (λ known. (text : List ℕ) × IsTextOf known command text × (after ≡ bytes_behind before text))

-- a prefix of the text of the command was written, and nothing else
abbrev pub WritesTextPrefix : Option Command → Option KnownFiles → Option (List ℕ) → Option (List ℕ) → Type 0
WritesTextPrefix None files before after = ⊥
WritesTextPrefix (Some command) files before after =
    IfSome files (λ known. (text : List ℕ) × IsTextOf known command text × WritesPrefix text before after)

-- the documents are refused for this cause, and the line that says so was written, or a prefix of it
pub record IsRefused (files : KnownFiles) (command : Command) (before after : Option (List ℕ)) : Type 0 where
  pub failure : Failure
  pub refused : status_of failure ≡ Refused
  pub cause : IsRefusalOf (documents_in files command) failure
  pub line : WritesPrefix (failure_line failure) before after

abbrev pub RefusesDocuments : Option Command → Option KnownFiles → Option (List ℕ) → Option (List ℕ) → Type 0
RefusesDocuments None files before after = ⊥
RefusesDocuments (Some command) files before after = IfSome files (λ known. IsRefused known command before after)

-- both documents were asked for, and nothing else
abbrev pub AsksDocumentsAlone : Option Command → Option KnownFiles → Option KnownFiles → Type 0
AsksDocumentsAlone None old new = ⊥
AsksDocumentsAlone (Some command) old new = Asks (documents_of command) old new

-- the files of a command up to one of them were asked for, and the line with the name of that one
-- was written, or a prefix of it
pub record NamesFaultyFile (command : Command) (old new : Option KnownFiles) (before after : Option (List ℕ)) : Type 0 where
  pub name : List ℕ
  pub asks : AsksUpToFile command name old new
  pub line : WritesPrefix (read_fault_line name) before after

abbrev pub ReportsFaultyFile : Option Command → Option KnownFiles → Option KnownFiles → Option (List ℕ) → Option (List ℕ) → Type 0
ReportsFaultyFile None old new before after = ⊥
ReportsFaultyFile (Some command) old new before after = NamesFaultyFile command old new before after

-- the line was written, or a prefix of it, behind a prefix of the text of the command
pub record WritesMemoryLine (files : Option KnownFiles) (command : Option Command) (before after : Option (List ℕ)) : Type 0 where
  pub middle : Option (List ℕ)
  pub text : (middle ≡ before) ⊎ WritesTextPrefix command files before middle
  pub line : WritesPrefix memory_line middle after
