use Rattle.std.proofs.Common.{◌≡◌, drop, []}
use Rattle.query_sources.specs.Names as spec
use Rattle.query_sources.proofs.names.note_repeats.Given as goal

abbrev pub invariant-loop-name : goal.invariant-loop-name
invariant-loop-name l =
    spec.noted_repeats_from l.before (drop l.name-index l.names) l.draft ≡
    spec.noted_repeats_from [] l.names l.fn.draft
