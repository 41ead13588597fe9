use Rattle.std.proofs.Common.{refl}
use Rattle.connections.proofs.mem_link.MemLinkLink.listen.Goals as goal

pub returns-then-next_fails-clause-fault : goal.returns-then-next_fails-clause-fault
returns-then-next_fails-clause-fault c =
    (λ _. rw (← c.self.view_is) (c.if-next_fails.ensures.answer.0 refl), λ _. refl)
