-- What a failure says of the answer.
use Rattle.std.proofs.Common.{◌≡◌, ℕ, List, [], Option, Some, None, refl, sym, subst}
use Rattle.std.specs.Option.{IfSome}
use Rattle.log_reading.proofs.AskingLemmas.{Asks-none}
use Rattle.outside.specs.KnownFiles.{KnownFiles}
use Rattle.outside.specs.Written.{WritesPrefix}
use Rattle.jobs_top.specs.Answers.{AsksOfCommand, IsRefused, RefusesDocuments, ReportsFaultyFile}
use Rattle.jobs_top.specs.Asking.{AsksUpToFile}
use Rattle.jobs_top.specs.Documents.{IsRefusalOf, documents_in}
use Rattle.jobs_top.specs.Failures.{failure_line, status_of}
use Rattle.jobs_top.specs.Words.{Command}
use Rattle.jobs_top.specs.declared.failure.Failure.{Failure}
use Rattle.jobs_top.specs.declared.failure.Failure.TheVariants.{Query, Inputs, Plan, Read, Memory}
use Rattle.jobs_top.specs.declared.status.Status.TheVariants.{Refused, ReadFault}

-- where the words are no command nothing is asked for
pub AsksOfCommand-none : (command : Option Command) (known : Option KnownFiles) → command ≡ None → AsksOfCommand command known known
AsksOfCommand-none command known e = subst (λ (o : Option Command). AsksOfCommand o known known) (sym e) (Asks-none known)

IsRefused-from : (known : Option KnownFiles) (command : Command) (failure : Failure) (before after : Option (List ℕ)) → status_of failure ≡ Refused
    → IfSome known (λ files. IsRefusalOf (documents_in files command) failure) → WritesPrefix (failure_line failure) before after
    → IfSome known (λ files. IsRefused files command before after)
IsRefused-from None command failure before after s h line = tt
IsRefused-from (Some files) command failure before after s h line = record { failure = failure; refused = s; cause = h; line = line }

-- the answer of the status Refused
pub RefusesDocuments-from : (failure : Failure) (words : Option Command) (command : Command) (known : Option KnownFiles) (before after : Option (List ℕ))
    → words ≡ Some command → status_of failure ≡ Refused
    → IfSome known (λ files. IsRefusalOf (documents_in files command) failure)
    → WritesPrefix (failure_line failure) before after → RefusesDocuments words known before after
RefusesDocuments-from failure words command known before after e s h line =
    subst (λ (o : Option Command). RefusesDocuments o known before after) (sym e) (IsRefused-from known command failure before after s h line)

-- the answer of the status ReadFault
pub ReportsFaultyFile-from : (failure : Failure) (words : Option Command) (command : Command) (old new : Option KnownFiles) (before after : Option (List ℕ))
    → words ≡ Some command → status_of failure ≡ ReadFault → ((name : List ℕ) → failure ≡ Read name → AsksUpToFile command name old new)
    → WritesPrefix (failure_line failure) before after → ReportsFaultyFile words old new before after
ReportsFaultyFile-from (Query error) words command old new before after e s h line = cc
ReportsFaultyFile-from (Inputs error) words command old new before after e s h line = cc
ReportsFaultyFile-from (Plan error) words command old new before after e s h line = cc
ReportsFaultyFile-from (Read name) words command old new before after e s h line =
    subst (λ (o : Option Command). ReportsFaultyFile o old new before after) (sym e) (record { name = name; asks = h name refl; line = line })
ReportsFaultyFile-from Memory words command old new before after e s h line = cc
