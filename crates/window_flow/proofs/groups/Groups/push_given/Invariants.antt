use Rattle.std.proofs.Common.{◌≡◌, ◌++◌}
use Rattle.std.specs.List.{flat_map}
use Rattle.window_flow.specs.Groups.{EachInOrder, given_by}
use Rattle.window_flow.proofs.groups.Groups.push_given.Given as goal

abbrev pub invariant-loop-part : goal.invariant-loop-part
invariant-loop-part g l =
    let given = given_by (g.S.Parts.parting l.spec) l.from l.upto in
    EachInOrder l.self → record {
      in_order : EachInOrder l.part-iterator;
      so_far : l.given ++ flat_map given l.part-iterator ≡ l.initial.given ++ flat_map given l.self;
    }
