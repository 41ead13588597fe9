use Rattle.std.proofs.Common.{◌≡◌, ◌≤◌, ◌-◌, IfOk, length, drop, take, get_or, subst, sym, ap, ◌∙◌}
use Rattle.std.proofs.lemmas.List.{take_rest}
use Rattle.std.specs.Option.{option_copied}
use Rattle.query_forms.specs.Senses.{choice_from}
use Rattle.query_forms.proofs.CaseLemmas.{choice_from-pair}
use Rattle.query_forms.proofs.cases.+choice_from.Goals as goal

pub returns-in_ok-branches-in-Some-2 : goal.returns-in_ok-branches-in-Some-2
returns-in_ok-branches-in-Some-2 t c =
    let parts = c.args.parts.now in
    let subject = option_copied c.args.subject in
    let common = c.args.common in
    let when = c.first-item.result in
    let value = c.then-item.result in
    let branches = c.in_ok-branches-in-Some-2.branches in
    let rest = take (length parts - 1) (drop 1 parts) in
    let is_rest = take_rest parts 1 in
    let read : choice_from subject common branches (take (length rest - 1) (drop 1 rest)) ≡ choice_from subject common c.args.so_far parts =
    ap (choice_from subject common branches) (take_rest rest 1)
    ∙ ap (λ x. choice_from subject common branches (drop 1 x)) is_rest
    ∙ ap (λ l. choice_from subject common l (drop 1 (drop 1 parts))) c.in_ok-branches-in-Some-2.ensures
    ∙ choice_from-pair subject common c.args.so_far parts when value c.in-Some-2.branch
    (subst (λ x. 1 ≤ length x) is_rest c.in-len1-up-rest.len_at_least)
    c.first-item.is
    (c.then-item.is ∙ ap (λ x. get_or x 0 value) is_rest)
    (sym c.in-Some-2.is ∙ c.in_ok-branch_of-in-len1-up-rest.ensures) in
    subst (λ x. IfOk c.choice_from.result (λ choice. choice ≡ x)) read c.choice_from.ensures
