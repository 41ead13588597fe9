use Rattle.std.proofs.Common.{Some, cond, map, ap, ◌∙◌, List, ℕ}
use Rattle.std.specs.Cmp.Lexicographic.{slice_cmp}
use Rattle.std.specs.Global.{Vec}
use Rattle.std.specs.Map.{lookup, set_value}
use Rattle.std.specs.Ordering.{is_eq}
use Rattle.std.specs.declared.cmp.Ordering.{Ordering}
use Rattle.event_value.specs.declared.value.Value.{Value}
use Rattle.time_policy.specs.SubstreamMarks.{Marks, mark_in, with_values}
use Rattle.time_policy.specs.Substreams.{is_same_substream}
use Rattle.time_policy.proofs.SubstreamLemmas.{mark_in-set_value}
use Rattle.event_value.proofs.DerivedOrderLemmas.{derived_order-is}
use Rattle.time_policy.proofs.substream_marks.SubstreamMarks.set.Goals as goal

pub returns-in-Some-clause-ok : goal.returns-in-Some-clause-ok
returns-in-Some-clause-ok c = λ other.
    let key = c.args.key.now in
    let entries = c.self.inside.marks.entries in
    ap (λ (es : List (Vec Value × ℕ)). mark_in (map with_values es) other) (c.get_mut.follows.holds c.args.mark).0
    ∙ ap (λ (R : Value → Value → Ordering). mark_in (map with_values (set_value (λ (k : Vec Value). is_eq (slice_cmp R key k.items)) entries c.args.mark)) other) derived_order-is
    ∙ mark_in-set_value (λ (k : Vec Value). k.items) entries key c.in-Some.known.now c.args.mark other
    (c.in-Some.ensures.value ∙ ap (λ (R : Value → Value → Ordering). lookup (λ (k : Vec Value). is_eq (slice_cmp R key k.items)) entries) derived_order-is)
    ∙ ap (λ (marks : Marks). cond (is_same_substream key other) (Some c.args.mark) (mark_in marks other)) c.self.view_is
