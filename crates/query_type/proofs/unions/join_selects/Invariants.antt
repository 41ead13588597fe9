use Rattle.std.proofs.Common.{◌≡◌, drop}
use Rattle.query_type.specs.Unions as spec
use Rattle.query_type.proofs.unions.join_selects.Given as goal

abbrev pub invariant-loop-select : goal.invariant-loop-select
invariant-loop-select l =
    record {
      columns : spec.columns_from l.known l.columns (drop l.select-index l.more) ≡
          spec.columns_from l.known l.fn.first l.more;
      draft : spec.joined_from l.known l.columns (drop l.select-index l.more) l.draft ≡
          spec.joined_from l.known l.fn.first l.more l.fn.draft;
    }
