use Rattle.std.proofs.Common.{◌≡◌, ◌++◌, drop}
use Rattle.query_sources.specs.Stamps as spec
use Rattle.query_sources.proofs.stamps.faults_of_mentions.Given as goal

abbrev pub invariant-loop-mention : goal.invariant-loop-mention
invariant-loop-mention l =
    l.faults ++ spec.faults_of_mentions l.mentions (drop l.mention-index l.mentions) ≡
    spec.faults_of_mentions l.mentions l.mentions
