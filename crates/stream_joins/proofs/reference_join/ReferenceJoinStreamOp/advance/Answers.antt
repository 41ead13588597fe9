use Rattle.std.proofs.Common.{◌≡◌, ap, ◌∙◌, take, arith}
use Rattle.std.specs.List.{flat_map}
use Rattle.std.proofs.lemmas.List.{take_all}
use Rattle.stream_joins.specs.Reference.{looked_up}
use Rattle.stream_joins.specs.ReferenceLaws.{reference_join-timewise}
use Rattle.stream_joins.specs.Specs.{lookup_of}
use Rattle.stream_op.specs.TimewiseLaws.{IsTimewise-next}
use Rattle.stream_op.proofs.RowLemmas.{AreTaken-next}
use Rattle.stream_joins.proofs.reference_join.ReferenceJoinStreamOp.advance.Goals as goal

pub returns : goal.returns
returns g c =
    let pairs = g.M.Matches.pairs in
    let u = c.args.upto in
    let new_left = c.args.left.now in
    let new_right = c.args.right.now in
    let all : take c.loop-row.row-index new_left ≡ new_left = take_all c.loop-row.row-index new_left (omega arith) in
    λ spec left right w stands le a b. (
      c.loop-row.invariant
          ∙ ap (flat_map (looked_up (lookup_of pairs c.args.self.spec))) all
          ∙ ap (λ s. flat_map (looked_up (lookup_of pairs s)) new_left) stands.0
          ∙ IsTimewise-next (reference_join-timewise (lookup_of pairs spec)) w u left new_left right new_right stands.1.left_before a stands.1.right_before b,
      (stands.0, AreTaken-next w u left new_left right new_right le stands.1 a b),
    )
