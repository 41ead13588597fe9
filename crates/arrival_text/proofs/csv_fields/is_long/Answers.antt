use Rattle.std.proofs.Common.{◌∙◌, ap, sym}
use Rattle.csv.specs.Records.{fields_of, field_at}
use Rattle.arrival_text.proofs.FieldLemmas.{length-over, length-more, length-none}
use Rattle.arrival_text.proofs.csv_fields.is_long.Goals as goal

pub returns-then-field-room : goal.returns-then-field-room
returns-then-field-room c =
    let at = c.loop-field.field-iterator.at in
    let there = ap (λ row. field_at (fields_of row) at) (sym c.loop-field.invariant.row) ∙ sym c.in-Some.ensures.steps.1 in
    sym (length-over (fields_of c.args.fields.now) at c.in-Some.field.now c.loop-field.room there c.if-field-room.true) ∙ c.loop-field.invariant.rest

pub loop-field-preserved : goal.loop-field-preserved
loop-field-preserved c =
    let at = c.loop-field.field-iterator.at in
    let there = ap (λ row. field_at (fields_of row) at) (sym c.loop-field.invariant.row) ∙ sym c.in-Some.ensures.steps.1 in
    record {
      row = ap (λ row. row.now) c.in-Some.ensures.steps.0 ∙ c.loop-field.invariant.row;
      rest = length-more (fields_of c.args.fields.now) at c.next.new.self.at c.in-Some.field.now c.loop-field.room there c.in-Some.ensures.steps.2 c.if-field-room.false ∙ c.loop-field.invariant.rest;
    }

pub returns : goal.returns
returns c =
    let at = c.loop-field.field-iterator.at in
    let none = ap (λ row. field_at (fields_of row) at) (sym c.loop-field.invariant.row) ∙ sym c.in-None.ensures.steps.1 in
    sym (length-none (fields_of c.args.fields.now) at c.loop-field.room none) ∙ c.loop-field.invariant.rest
