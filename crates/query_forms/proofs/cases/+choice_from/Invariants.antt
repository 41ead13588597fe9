use Rattle.std.proofs.Common.{length}
use Rattle.query_forms.proofs.cases.+choice_from.Given as goal

abbrev pub decreases-choice_from : goal.decreases-choice_from
decreases-choice_from l = length l.parts.now
