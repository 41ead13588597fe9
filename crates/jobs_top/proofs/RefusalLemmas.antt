-- Documents that are accepted have no refusal.
use Rattle.std.proofs.Common.{◌≡◌, ℕ, List, Result, Ok, Err, sym, ◌∙◌}
use Rattle.input_book.specs.declared.input_err.InputErr.{InputErr}
use Rattle.input_types.specs.declared.inputs.Inputs.{Inputs}
use Rattle.outside.specs.declared.segment.Segment.{Segment}
use Rattle.outside.specs.declared.segment.Segment.TheVariants.{Bytes, TooLong}
use Rattle.query_grammar.proofs.QueryLaws.{due-once}
use Rattle.query_grammar.specs.Queries.{IsDue}
use Rattle.query_tokens.specs.declared.parse_err.ParseErr.{ParseErr}
use Rattle.query_tree.specs.declared.script.Script.{Script}
use Rattle.query_type.specs.Plans.{plan_or_fault}
use Rattle.jobs_top.specs.Documents.{HoldsInputs, HoldsNoInputs, HoldsNoScript, HoldsScript, IsAccepted, IsRefusalOf}
use Rattle.jobs_top.specs.Failures.{status_of}
use Rattle.jobs_top.specs.declared.acceptance.Accepted.{Accepted}
use Rattle.jobs_top.specs.declared.documents.Documents.{Documents}
use Rattle.jobs_top.specs.declared.failure.Failure.{Failure}
use Rattle.jobs_top.specs.declared.failure.Failure.TheVariants.{Query, Inputs as the_inputs, Plan, Read, Memory}
use Rattle.jobs_top.specs.declared.status.Status.TheVariants.{Refused}

due-one : (text : List ℕ) (a b : Result Script ParseErr) → IsDue text a → IsDue text b → a ≡ b
due-one text a b first second = sym (due-once text a first) ∙ due-once text b second

HoldsScript-once : (segment : Segment) (found other : Script) → HoldsScript segment found → HoldsScript segment other → found ≡ other
HoldsScript-once (Bytes text) found other a b =
    let same = due-one text (Ok found) (Ok other) a b in
    cc
HoldsScript-once TooLong found other a b = absurd a

HoldsScript-not : (segment : Segment) (found : Script) (error : ParseErr) → HoldsScript segment found → HoldsNoScript segment error → ⊥
HoldsScript-not (Bytes text) found error a b =
    let same = due-one text (Ok found) (Err error) a b in
    cc
HoldsScript-not TooLong found error a b = absurd a

HoldsInputs-once : (segment : Segment) (found other : Inputs) → HoldsInputs segment found → HoldsInputs segment other → found ≡ other
HoldsInputs-once (Bytes text) found other a b = cc
HoldsInputs-once TooLong found other a b = absurd a

HoldsInputs-not : (segment : Segment) (found : Inputs) (error : InputErr) → HoldsInputs segment found → HoldsNoInputs segment error → ⊥
HoldsInputs-not (Bytes text) found error a b = cc
HoldsInputs-not TooLong found error a b = absurd a

pub accepted-not_refused : (documents : Documents) (accepted : Accepted) (failure : Failure)
    → IsAccepted documents accepted → status_of failure ≡ Refused → IsRefusalOf documents failure → ⊥
accepted-not_refused documents accepted (Query error) ok s h = HoldsScript-not documents.query accepted.script error ok.script h
accepted-not_refused documents accepted (the_inputs error) ok s h = HoldsInputs-not documents.inputs accepted.inputs error ok.inputs h.2
accepted-not_refused documents accepted (Plan error) ok s h =
    let same_script : h.0 ≡ accepted.script = HoldsScript-once documents.query h.0 accepted.script h.2 ok.script in
    let same_inputs : h.1 ≡ accepted.inputs = HoldsInputs-once documents.inputs h.1 accepted.inputs h.3 ok.inputs in
    let planned : plan_or_fault accepted.script accepted.inputs ≡ Ok accepted.plan = ok.plan in
    let refused : plan_or_fault h.0 h.1 ≡ Err error = h.4 in
    cc
accepted-not_refused documents accepted (Read name) ok s h = cc
accepted-not_refused documents accepted Memory ok s h = cc
