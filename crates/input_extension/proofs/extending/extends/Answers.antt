use Rattle.std.proofs.Common.{◌≡◌, Bool, false, true}
use Rattle.std.proofs.lemmas.Result.{err_from_is_err_and}
use Rattle.std.specs.List.{AllZip}
use Rattle.input_extension.specs.Extension.{IsReferenceExtension, IsStreamExtension}
use Rattle.input_extension.proofs.ExtendingLemmas.{due-policy, due-references, due-streams, zip-along}
use Rattle.input_extension.proofs.extending.extends.Goals as goal

differs : (b : Bool) → b ≡ true → b ≡ false → ⊥
differs b h k = cc

pub returns-in_err-extend_all-clause-err : goal.returns-in_err-extend_all-clause-err
returns-in_err-extend_all-clause-err c =
    let p = err_from_is_err_and c.from_residual.result c.from_residual.ensures.1 in
    rw (p.1, p.2)
    (due-streams c.args.old.now c.args.new.now c.args.w c.in_err-extend_all.field-0.0 c.items.result.now c.items-2.result.now
    c.items.ensures c.items-2.ensures c.in_err-extend_all.ensures.err)

pub returns-in_err-extend_all-2-clause-err : goal.returns-in_err-extend_all-2-clause-err
returns-in_err-extend_all-2-clause-err c =
    let p = err_from_is_err_and c.from_residual-in_err-extend_all-2.result c.from_residual-in_err-extend_all-2.ensures.1 in
    let streams : AllZip IsStreamExtension c.args.old.now.streams c.args.new.now.streams =
    zip-along IsStreamExtension c.items.result.now c.items-2.result.now c.args.old.now.streams c.args.new.now.streams
    c.items.ensures c.items-2.ensures c.in_ok-extend_all.ensures.ok in
    rw (p.1, p.2)
    (due-references c.args.old.now c.args.new.now c.args.w c.in_err-extend_all-2.field-0.0 c.items-3.result.now c.items-4.result.now streams
    c.items-3.ensures c.items-4.ensures c.in_err-extend_all-2.ensures.err)

pub returns-then-is_same-clause-ok : goal.returns-then-is_same-clause-ok
returns-then-is_same-clause-ok c = record {
  streams = zip-along IsStreamExtension c.items.result.now c.items-2.result.now c.args.old.now.streams c.args.new.now.streams
      c.items.ensures c.items-2.ensures c.in_ok-extend_all.ensures.ok;
  references = zip-along (IsReferenceExtension c.args.w) c.items-3.result.now c.items-4.result.now c.args.old.now.references c.args.new.now.references
      c.items-3.ensures c.items-4.ensures c.in_ok-extend_all-2.ensures.ok;
  policy = c.is_same.ensures.0 c.if-is_same.true;
}

pub returns-in_ok-of-clause-err : goal.returns-in_ok-of-clause-err
returns-in_ok-of-clause-err c =
    let streams : AllZip IsStreamExtension c.args.old.now.streams c.args.new.now.streams =
    zip-along IsStreamExtension c.items.result.now c.items-2.result.now c.args.old.now.streams c.args.new.now.streams
    c.items.ensures c.items-2.ensures c.in_ok-extend_all.ensures.ok in
    let references : AllZip (IsReferenceExtension c.args.w) c.args.old.now.references c.args.new.now.references =
    zip-along (IsReferenceExtension c.args.w) c.items-3.result.now c.items-4.result.now c.args.old.now.references c.args.new.now.references
    c.items-3.ensures c.items-4.ensures c.in_ok-extend_all-2.ensures.ok in
    due-policy c.args.old.now c.args.new.now c.args.w c.in_ok-of.field-0 streams references
    (λ same. differs c.is_same.result (c.is_same.ensures.1 same) c.if-is_same.false) c.in_ok-of.ensures
