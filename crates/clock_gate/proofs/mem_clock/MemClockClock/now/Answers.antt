use Rattle.clock_gate.proofs.GivenLemmas.{given_next}
use Rattle.clock_gate.proofs.mem_clock.MemClockClock.now.Goals as goal

pub returns-clause-given : goal.returns-clause-given
returns-clause-given c =
    rw c.next_moment-moment.ensures.moment (rw c.count_call.ensures (given_next c.args.self.now))
