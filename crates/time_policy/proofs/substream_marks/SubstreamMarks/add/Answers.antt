use Rattle.std.proofs.Common.{Some, cond, map, ap, ◌∙◌, List, ℕ}
use Rattle.std.specs.BTreeMap.{insert_entry}
use Rattle.std.specs.Cmp.Lexicographic.{slice_cmp}
use Rattle.std.specs.Global.{Vec}
use Rattle.std.specs.declared.cmp.Ordering.{Ordering}
use Rattle.event_value.specs.declared.value.Value.{Value}
use Rattle.time_policy.specs.SubstreamMarks.{Marks, mark_in, with_values}
use Rattle.time_policy.specs.Substreams.{is_same_substream}
use Rattle.time_policy.proofs.SubstreamLemmas.{mark_in-insert_entry}
use Rattle.event_value.proofs.DerivedOrderLemmas.{derived_order-is}
use Rattle.time_policy.proofs.substream_marks.SubstreamMarks.add.Goals as goal

pub returns-clause-ok : goal.returns-clause-ok
returns-clause-ok c = λ other.
    let entries = c.self.inside.marks.entries in
    ap (λ (es : List (Vec Value × ℕ)). mark_in (map with_values es) other) c.in_ok-insert.ensures.entries
    ∙ ap (λ (R : Value → Value → Ordering). mark_in (map with_values (insert_entry (λ (a b : Vec Value). slice_cmp R a.items b.items) entries c.args.key c.args.mark)) other) derived_order-is
    ∙ mark_in-insert_entry (λ (k : Vec Value). k.items) entries c.args.key c.args.mark other
    ∙ ap (λ (marks : Marks). cond (is_same_substream c.args.key.items other) (Some c.args.mark) (mark_in marks other)) c.self.view_is
