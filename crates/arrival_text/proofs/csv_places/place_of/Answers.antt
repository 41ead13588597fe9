use Rattle.std.proofs.Common.{◌∙◌, sym}
use Rattle.csv.specs.Records.{fields_of}
use Rattle.arrival_text.proofs.FieldLemmas.{place-found, place-more, place-none, fewer-left}
use Rattle.arrival_text.proofs.csv_places.place_of.Goals as goal

pub returns-then-eq : goal.returns-then-eq
returns-then-eq c =
    sym (place-found c.args.name.now (fields_of c.args.header.now) c.loop-field.at c.in-Some.field.now (sym c.in-Some.ensures.value) c.if-eq.ensures) ∙ c.loop-field.invariant

pub loop-field-smaller : goal.loop-field-smaller
loop-field-smaller c = fewer-left (fields_of c.args.header.now) c.loop-field.at c.in-Some.field.now (sym c.in-Some.ensures.value)

pub loop-field-preserved : goal.loop-field-preserved
loop-field-preserved c =
    place-more c.args.name.now (fields_of c.args.header.now) c.loop-field.at c.in-Some.field.now (sym c.in-Some.ensures.value) c.if-eq.ensures ∙ c.loop-field.invariant

pub returns : goal.returns
returns c = sym (place-none c.args.name.now (fields_of c.args.header.now) c.loop-field.at (sym c.in_default.ensures.value)) ∙ c.loop-field.invariant
