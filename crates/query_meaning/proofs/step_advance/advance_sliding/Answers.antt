use Rattle.std.proofs.Common.{◌≡◌, true, sym, subst}
use Rattle.window_flow.specs.contracts.parted.PartedStreamOp.TheImpl as parted
use Rattle.window_flow.specs.contracts.sliding.SlidingSpec as sliding_spec
use Rattle.window_flow.specs.contracts.sliding.SlidingSpecCopies.TheImpl as sliding_copies
use Rattle.window_flow.specs.contracts.sliding.SlidingSpecParts.TheImpl as sliding_parts
use Rattle.window_flow.specs.Sliding.{sliding_fits}
use Rattle.window_flow.specs.declared.sliding.SlidingSpec.{SlidingSpec}
use Rattle.query_meaning.specs.Pipeline.{GoesOn}
use Rattle.query_meaning.specs.declared.step_op.WindowOp.TheVariants as window
use Rattle.query_meaning.specs.declared.step_op.StepOp.{StepOp}
use Rattle.query_meaning.specs.declared.step_op.StepOp.TheVariants as kind
use Rattle.query_meaning.proofs.StepOpLemmas.{sliding-goes}
use Rattle.query_meaning.proofs.step_advance.advance_sliding.Goals as goal

pub returns : goal.returns
returns c =
    subst (λ (next : StepOp). GoesOn (kind.Window (window.Sliding c.args.op)) c.args.left.now c.args.right.now c.args.upto next c.in_ok-op.rows) (sym c.in_ok-next.ensures)
    (sliding-goes _ ((parted.ghosts sliding_spec.the_row sliding_parts.ghosts parted.no_dict sliding_copies.ghosts parted.no_dict parted.no_dict).stands c.in_ok-op.op) (λ spec l r w given. subst (λ (s : SlidingSpec). sliding_fits s ≡ true) given.0 c.args.op.fitting) c.in_ok-op.ensures)
