use Rattle.std.proofs.Common.{◌≡◌, true, sym, subst}
use Rattle.window_flow.specs.contracts.parted.PartedStreamOp.TheImpl as parted
use Rattle.window_flow.specs.contracts.session.SessionSpec as session_spec
use Rattle.window_flow.specs.contracts.session.SessionSpecCopies.TheImpl as session_copies
use Rattle.window_flow.specs.contracts.session.SessionSpecParts.TheImpl as session_parts
use Rattle.window_flow.specs.Sessions.{session_fits}
use Rattle.window_flow.specs.declared.session.SessionSpec.{SessionSpec}
use Rattle.query_meaning.specs.Pipeline.{GoesOn}
use Rattle.query_meaning.specs.declared.step_op.WindowOp.TheVariants as window
use Rattle.query_meaning.specs.declared.step_op.StepOp.{StepOp}
use Rattle.query_meaning.specs.declared.step_op.StepOp.TheVariants as kind
use Rattle.query_meaning.proofs.StepOpLemmas.{session-goes}
use Rattle.query_meaning.proofs.step_advance.advance_session.Goals as goal

pub returns : goal.returns
returns c =
    subst (λ (next : StepOp). GoesOn (kind.Window (window.Session c.args.op)) c.args.left.now c.args.right.now c.args.upto next c.in_ok-op.rows) (sym c.in_ok-next.ensures)
    (session-goes _ ((parted.ghosts session_spec.the_row session_parts.ghosts parted.no_dict session_copies.ghosts parted.no_dict parted.no_dict).stands c.in_ok-op.op) (λ spec l r w given. subst (λ (s : SessionSpec). session_fits s ≡ true) given.0 c.args.op.fitting) c.in_ok-op.ensures)
