use Rattle.std.proofs.Common.{◌≡◌, ◌+◌, ◌*◌, ◌/◌, ◌<◌, ◌≤◌, drop}
use Rattle.tick_time.specs.Ticks.{second_ticks}
use Rattle.tick_time.specs.MomentReading.{fraction_ticks}
use Rattle.tick_time.proofs.read_time.fraction_value.Given as goal

abbrev pub invariant-loop-digit : goal.invariant-loop-digit
invariant-loop-digit l = record {
  value : l.ticks + fraction_ticks (drop l.digit-index l.digits) l.place ≡ fraction_ticks l.digits (second_ticks / 10);
  below : l.ticks < second_ticks;
  room : l.ticks + 10 * l.place ≤ second_ticks;
}
