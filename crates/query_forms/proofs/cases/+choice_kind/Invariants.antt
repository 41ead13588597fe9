use Rattle.std.proofs.Common.{length}
use Rattle.query_forms.proofs.cases.+choice_kind.Given as goal

abbrev pub decreases-choice_kind : goal.decreases-choice_kind
decreases-choice_kind l = length l.parts.now
