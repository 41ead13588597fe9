use Rattle.std.proofs.Common.{sym}
use Rattle.time_policy.proofs.SubstreamLemmas.{is_same_substream-exact, is_same_substream-equal}
use Rattle.time_policy.proofs.laws.substreams_are_equal_keys.Goals as goal

pub returns : goal.returns
returns c = λ a b. (
  (λ same. is_same_substream-exact a b same),
  (λ same. is_same_substream-equal b a (sym same)),
)
