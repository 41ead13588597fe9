use Rattle.std.proofs.Common.{◌≤◌, ◌-◌, length, drop, take, get_or, subst, ap, ◌∙◌}
use Rattle.std.proofs.lemmas.List.{take_rest}
use Rattle.query_forms.specs.Senses.{choice_kind}
use Rattle.query_forms.proofs.CaseLemmas.{choice_kind-pair}
use Rattle.query_forms.proofs.cases.+choice_kind.Goals as goal

pub returns-in_ok-mix-in-len1-up-rest : goal.returns-in_ok-mix-in-len1-up-rest
returns-in_ok-mix-in-len1-up-rest t c =
    let parts = c.args.parts.now in
    let value = c.then-item.result in
    let rest = take (length parts - 1) (drop 1 parts) in
    let is_rest = take_rest parts 1 in
    let mixed = c.in_ok-mix-in-len1-up-rest.field-0 in
    c.choice_kind.ensures
    ∙ ap (choice_kind mixed) (take_rest rest 1)
    ∙ ap (λ x. choice_kind mixed (drop 1 x)) is_rest
    ∙ choice_kind-pair c.args.common parts value c.in_ok-kind_of-in-len1-up-rest.field-0 mixed
    (subst (λ x. 1 ≤ length x) is_rest c.in-len1-up-rest.len_at_least)
    (c.then-item.is ∙ ap (λ x. get_or x 0 value) is_rest)
    c.in_ok-kind_of-in-len1-up-rest.ensures c.in_ok-mix-in-len1-up-rest.ensures
