use Rattle.std.proofs.Common.{sym, ap, ◌∙◌}
use Rattle.std.specs.Cmp.Lexicographic.{slice_cmp}
use Rattle.std.specs.Global.{Vec}
use Rattle.std.specs.Map.{lookup}
use Rattle.std.specs.Ordering.{is_eq}
use Rattle.std.specs.declared.cmp.Ordering.{Ordering}
use Rattle.event_value.specs.declared.value.Value.{Value}
use Rattle.time_policy.specs.SubstreamMarks.{Marks, mark_in}
use Rattle.time_policy.specs.Substreams.{is_same_substream}
use Rattle.time_policy.proofs.SubstreamLemmas.{lookup-view}
use Rattle.event_value.proofs.DerivedOrderLemmas.{derived_order-is}
use Rattle.time_policy.proofs.substream_marks.SubstreamMarks.mark.Goals as goal

pub returns : goal.returns
returns c =
    let key = c.args.key.now in
    let entries = c.self.inside.marks.entries in
    c.copied.ensures ∙ c.get.ensures.value
    ∙ ap (λ (R : Value → Value → Ordering). lookup (λ (k : Vec Value). is_eq (slice_cmp R key k.items)) entries) derived_order-is
    ∙ sym (lookup-view (λ (k : Vec Value). k.items) (is_same_substream key) entries)
    ∙ ap (λ (marks : Marks). mark_in marks key) c.self.view_is
