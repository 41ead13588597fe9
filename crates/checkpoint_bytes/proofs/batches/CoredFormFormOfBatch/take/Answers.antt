use Rattle.std.proofs.Common.{◌≡◌, sym, subst, rules}
use Rattle.checkpoint_bytes.specs.Batches.{numbered_body}
use Rattle.checkpoint_form.specs.declared.batch.Batch.{Batch}
use Rattle.field_forms.proofs.TagLemmas.{tagged_reading-at}
use Rattle.field_forms.specs.Forms.{Reading}
use Rattle.field_forms.specs.Readings.{IsReading}
use Rattle.checkpoint_bytes.proofs.batches.CoredFormFormOfBatch.take.Goals as goal

pub returns-then-number-eq-CORED : goal.returns-then-number-eq-CORED
returns-then-number-eq-CORED c =
    let e : c.in_ok-number.number ≡ 2 = search rules in
    subst (λ (r : Reading Batch). IsReading r c.take_body.result c.take_body.new.unread)
    (sym (tagged_reading-at (numbered_body 2) c.args.unread.now c.take.new.unread _ 2 c.in_ok-number.ensures e)) c.take_body.ensures
