use Rattle.std.proofs.Common.{arith}
use Rattle.outside.proofs.ReadingLemmas.{ReadsPrefix-begin, ReadsPrefix-more, ReadsPrefix-end}
use Rattle.outside.proofs.ReadingLemmas.{AsksFor-refused, AsksFor-read}
use Rattle.outside.proofs.reading.read_file.Goals as goal

pub returns-in_err-begin-clause-asked : goal.returns-in_err-begin-clause-asked
returns-in_err-begin-clause-asked g c =
    AsksFor-refused _ _ _ _ _ c.in_err-begin.ensures.known c.from_residual.ensures.1

pub loop-piece-init : goal.loop-piece-init
loop-piece-init g c = record {
  read = rw c.new-bytes.ensures.items
      (ReadsPrefix-begin _ _ _ _ c.in_ok-begin.ensures.known c.in_ok-begin.ensures.held);
  never_falls = omega (arith, c.in_ok-begin.ensures.never_falls);
}

pub returns-then-count-eq0-clause-content : goal.returns-then-count-eq0-clause-content
returns-then-count-eq0-clause-content g c =
    rw c.from_vec.ensures
    (ReadsPrefix-end _ _ _ c.loop-piece.bytes.items _ c.args.limit
    (omega (arith, c.loop-piece.bytes.ok)) (omega arith) c.loop-piece.invariant.read
    (rw c.if-count-eq0.true at c.in_ok-count.ensures.progress))

pub loop-piece-preserved : goal.loop-piece-preserved
loop-piece-preserved g c = record {
  read = rw c.in_ok-extend_from_slice.ensures.items
      (ReadsPrefix-more _ _ _ _ _ _ _ c.loop-piece.invariant.read c.in_ok-count.ensures.known
      c.in_ok-count.ensures.bytes);
  never_falls = omega (arith, c.in_ok-count.ensures.never_falls);
}

pub returns-in_err-extend_from_slice-clause-asked :
    goal.returns-in_err-extend_from_slice-clause-asked
returns-in_err-extend_from_slice-clause-asked g c =
    AsksFor-read _ _ _ _ _
    (ReadsPrefix-more _ _ _ _ _ _ _ c.loop-piece.invariant.read c.in_ok-count.ensures.known
    c.in_ok-count.ensures.bytes)
