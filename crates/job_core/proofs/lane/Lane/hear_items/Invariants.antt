use Rattle.std.proofs.Common.{◌≡◌, ◌+◌, map, take}
use Rattle.arrival_log.specs.Log.{item_entry}
use Rattle.job_core.specs.Lane.{HearsAll, IsSameLane}
use Rattle.job_core.proofs.lane.Lane.hear_items.Given as goal

abbrev pub invariant-loop-item : goal.invariant-loop-item
invariant-loop-item l = record {
  heard : HearsAll l.fn.self l.lane (map (item_entry l.through) (take l.item-index l.items));
  same : IsSameLane l.fn.self l.lane;
  segment : l.lane.place.segment ≡ l.fn.self.place.segment;
  index : l.lane.place.index ≡ l.fn.self.place.index + l.item-index;
}
