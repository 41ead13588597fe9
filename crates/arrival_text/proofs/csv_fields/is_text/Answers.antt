use Rattle.std.proofs.Common.{◌∙◌, ap, sym}
use Rattle.csv.specs.Records.{fields_of, field_at}
use Rattle.arrival_text.proofs.FieldLemmas.{text-broken, text-more, text-none}
use Rattle.arrival_text.proofs.csv_fields.is_text.Goals as goal

pub returns-then-not-is_utf8 : goal.returns-then-not-is_utf8
returns-then-not-is_utf8 c =
    let at = c.loop-field.field-iterator.at in
    let there = ap (λ row. field_at (fields_of row) at) (sym c.loop-field.invariant.row) ∙ sym c.in-Some.ensures.steps.1 in
    sym (text-broken (fields_of c.args.fields.now) at c.in-Some.field.now there c.if-not-is_utf8.ensures) ∙ c.loop-field.invariant.rest

pub loop-field-preserved : goal.loop-field-preserved
loop-field-preserved c =
    let at = c.loop-field.field-iterator.at in
    let there = ap (λ row. field_at (fields_of row) at) (sym c.loop-field.invariant.row) ∙ sym c.in-Some.ensures.steps.1 in
    record {
      row = ap (λ row. row.now) c.in-Some.ensures.steps.0 ∙ c.loop-field.invariant.row;
      rest = text-more (fields_of c.args.fields.now) at c.next.new.self.at c.in-Some.field.now there c.in-Some.ensures.steps.2 c.if-not-is_utf8.ensures ∙ c.loop-field.invariant.rest;
    }

pub returns : goal.returns
returns c =
    let at = c.loop-field.field-iterator.at in
    let none = ap (λ row. field_at (fields_of row) at) (sym c.loop-field.invariant.row) ∙ sym c.in-None.ensures.steps.1 in
    sym (text-none (fields_of c.args.fields.now) at none) ∙ c.loop-field.invariant.rest
