-- The parts of a CASE by twos.
use Rattle.std.proofs.Common.{◌≡◌, ◌≤◌, Option, Some, List, [], ◌∷◌, ◌++◌, length, drop, get_or, sym, ap, ◌∙◌, arith}
use Rattle.event_value.specs.declared.kind.Kind.{Kind}
use Rattle.query_plan.specs.declared.expr.Branch.{Branch}
use Rattle.query_forms.specs.declared.sense.Sense.{Sense}
use Rattle.query_forms.specs.Kinds.{mix}
use Rattle.query_forms.specs.Senses.{after, branch_of, choice_from, choice_kind, kind_of}

-- one kind for the values, over the first two parts and the rest
pub choice_kind-pair : (common : Option Kind) (parts : List Sense) (value : Sense) (k m : Option Kind)
    → 1 ≤ length (drop 1 parts) → value ≡ get_or (drop 1 parts) 0 value
    → Some k ≡ kind_of value → Some m ≡ mix common k
    → choice_kind m (drop 1 (drop 1 parts)) ≡ choice_kind common parts
unfolding choice_kind
choice_kind-pair common [] value k m h e g f = absurd (omega arith)
choice_kind-pair common (w ∷ []) value k m h e g f = absurd (omega arith)
choice_kind-pair common (w ∷ v ∷ more) value k m h e g f =
    let rest = λ (c : Option Kind). choice_kind c more in
    let mixed = λ (j : Option Kind). after (mix common j) rest in
    sym (ap (λ s. after (kind_of s) mixed) (sym e) ∙ ap (λ x. after x mixed) (sym g) ∙ ap (λ x. after x rest) (sym f))

-- the branches, over the first two parts and the rest
pub choice_from-pair : (subject : Option Sense) (common : Option Kind) (so_far : List Branch) (parts : List Sense)
    (when value : Sense) (b : Branch)
    → 1 ≤ length (drop 1 parts) → when ≡ get_or parts 0 when → value ≡ get_or (drop 1 parts) 0 value
    → Some b ≡ branch_of subject common when value
    → choice_from subject common (so_far ++ b ∷ []) (drop 1 (drop 1 parts)) ≡ choice_from subject common so_far parts
unfolding choice_from
choice_from-pair subject common so_far [] when value b h d e g = absurd (omega arith)
choice_from-pair subject common so_far (w ∷ []) when value b h d e g = absurd (omega arith)
choice_from-pair subject common so_far (w ∷ v ∷ more) when value b h d e g =
    let rest = λ (x : Branch). choice_from subject common (so_far ++ x ∷ []) more in
    sym (ap (λ s. after (branch_of subject common s v) rest) (sym d) ∙ ap (λ s. after (branch_of subject common when s) rest) (sym e) ∙ ap (λ x. after x rest) (sym g))
