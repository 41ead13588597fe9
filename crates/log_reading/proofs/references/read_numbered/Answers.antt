use Rattle.std.proofs.Common.{Option, subst, sym}
use Rattle.std.proofs.lemmas.Result.{err_from_is_err_and}
use Rattle.input_types.specs.declared.inputs.Reference.{Reference}
use Rattle.log_reading.specs.Asking.{Asks, AsksPrefixOf}
use Rattle.log_reading.specs.References.{reference_files}
use Rattle.log_reading.proofs.AskingLemmas.{Asks-none, AsksPrefixOf-all}
use Rattle.log_reading.proofs.ReferenceLemmas.{IsReference-at}
use Rattle.log_reading.proofs.references.read_numbered.Goals as goal

pub returns-in_err-no_snapshots-in-None-clause-asked : goal.returns-in_err-no_snapshots-in-None-clause-asked
returns-in_err-no_snapshots-in-None-clause-asked g c =
    let p = err_from_is_err_and c.from_residual.result c.from_residual.ensures.1 in
    rw (p.1, p.2)
    (subst (λ (found : Option Reference). AsksPrefixOf (reference_files found) (g.F.Files.known c.args.files.now) (g.F.Files.known c.args.files.now))
    c.in-None.ensures (AsksPrefixOf-all _ _ _ (Asks-none _)))

pub read_reference-requires : goal.read_reference-requires
read_reference-requires g c = IsReference-at c.args.inputs.now c.args.number _ c.requires (sym c.in-Some.ensures)

pub returns-in_ok-no_snapshots-in-None-clause-asked : goal.returns-in_ok-no_snapshots-in-None-clause-asked
returns-in_ok-no_snapshots-in-None-clause-asked g c =
    subst (λ (found : Option Reference). Asks (reference_files found) (g.F.Files.known c.args.files.now) (g.F.Files.known c.args.files.now))
    c.in-None.ensures (Asks-none _)
