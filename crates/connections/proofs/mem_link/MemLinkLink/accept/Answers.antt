use Rattle.std.proofs.Common.{inr, refl}
use Rattle.connections.proofs.mem_link.MemLinkLink.accept.Goals as goal

pub returns-then-next_fails-clause-fault : goal.returns-then-next_fails-clause-fault
returns-then-next_fails-clause-fault c =
    λ _. inr (rw (← c.self.view_is) (c.if-next_fails.ensures.answer.0 refl))
