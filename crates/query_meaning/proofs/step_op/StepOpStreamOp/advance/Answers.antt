use Rattle.std.proofs.Common.{IfOk, ap, sym, subst, ◌∙◌}
use Rattle.query_meaning.specs.Pipeline.{GoesOn}
use Rattle.query_meaning.specs.declared.step_op.StepOp.{StepOp}
use Rattle.query_meaning.specs.declared.step_op.StepOp.TheVariants as kind
use Rattle.query_meaning.proofs.StepOpLemmas.{nothing-goes, source-goes}
use Rattle.query_meaning.proofs.step_op.StepOpStreamOp.advance.Goals as goal

pub returns-in_ok-of-in-Same : goal.returns-in_ok-of-in-Same
returns-in_ok-of-in-Same c =
    subst (λ (p : StepOp). GoesOn p c.args.left.now c.args.right.now c.args.upto kind.Same c.in_ok-of-in-Same.field-0) (sym c.in-Same.is)
    (source-goes c.in_ok-of-in-Same.ensures)

pub returns-in-Nothing : goal.returns-in-Nothing
returns-in-Nothing c =
    subst (λ (p : StepOp). GoesOn p c.args.left.now c.args.right.now c.args.upto kind.Nothing c.empty.result) (sym c.in-Nothing.is)
    (nothing-goes c.empty.ensures)

pub returns-in-Filter : goal.returns-in-Filter
returns-in-Filter c =
    subst (λ (p : StepOp). IfOk c.advance_filter.result (λ r. GoesOn p c.args.left.now c.args.right.now c.args.upto r.0 r.1)) (sym c.in-Filter.is) c.advance_filter.ensures

pub returns-in-Project : goal.returns-in-Project
returns-in-Project c =
    subst (λ (p : StepOp). IfOk c.advance_project.result (λ r. GoesOn p c.args.left.now c.args.right.now c.args.upto r.0 r.1)) (sym c.in-Project.is) c.advance_project.ensures

pub returns-in-Union : goal.returns-in-Union
returns-in-Union c =
    subst (λ (p : StepOp). IfOk c.advance_union.result (λ r. GoesOn p c.args.left.now c.args.right.now c.args.upto r.0 r.1)) (sym c.in-Union.is) c.advance_union.ensures

pub returns-in-Window : goal.returns-in-Window
returns-in-Window c =
    subst (λ (p : StepOp). IfOk c.advance_window.result (λ r. GoesOn p c.args.left.now c.args.right.now c.args.upto r.0 r.1)) (ap kind.Window c.into_inner.ensures ∙ sym c.in-Window.is) c.advance_window.ensures

pub returns-in-Join : goal.returns-in-Join
returns-in-Join c =
    subst (λ (p : StepOp). IfOk c.advance_join.result (λ r. GoesOn p c.args.left.now c.args.right.now c.args.upto r.0 r.1)) (ap kind.Join c.into_inner-in-Join.ensures ∙ sym c.in-Join.is) c.advance_join.ensures
