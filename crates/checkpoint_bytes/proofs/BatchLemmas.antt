-- Batches of form 2 and of form 1.
use Rattle.std.proofs.Common.{◌≡◌, inl, inr, ℕ, List, [], ◌∷◌, Option, Some, None, Result, Ok, Err, IfOk, sym, ap, ◌∙◌}
use Rattle.checkpoint_bytes.specs.BatchLaws.{IsForm-numbered_form}
use Rattle.checkpoint_bytes.specs.Batches.{IsBatch, IsDecoded, IsDecodedCoreless, SpellsOneBatch, batch_form, coreless_form, without_core}
use Rattle.checkpoint_form.specs.declared.batch.Batch.{Batch}
use Rattle.field_forms.proofs.WholeLemmas.{spells-once}
use Rattle.field_forms.specs.Spellings.{IsSpelling, IsWhole}

-- the first of some bytes
abbrev first_byte : List ℕ → ℕ
first_byte [] = 0
first_byte (b ∷ bytes) = b

-- no bytes begin with two numbers of forms
not-both : (bytes : List ℕ) (b c : Batch) → IsSpelling batch_form b bytes → IsSpelling coreless_form c bytes → ⊥
not-both bytes b c s t = differ (ap first_byte (sym s.1 ∙ t.1))
  where
    differ : ◌≡◌ {A = ℕ} 2 1 → ⊥
    differ e = cc

pub spells-one : SpellsOneBatch
spells-one bytes b c (inl s) (inl t) = (spells-once (IsForm-numbered_form 2)).one_value bytes b c s t
spells-one bytes b c (inl s) (inr t) = absurd (not-both bytes b t.0 s t.1)
spells-one bytes b c (inr s) (inl t) = absurd (not-both bytes c s.0 t s.1)
spells-one bytes b c (inr s) (inr t) =
    s.2 ∙ ap without_core ((spells-once (IsForm-numbered_form 1)).one_value bytes s.0 t.0 s.1 t.1) ∙ sym t.2

-- what is decoded as form 1, where nothing is as form 2
pub decoded-coreless : {E : Type 0} (bytes : List ℕ) (o : Option Batch) → IsWhole batch_form bytes o → o ≡ None → (r : Result (Option Batch) E)
    → IfOk r (λ found. IsDecodedCoreless bytes found) → IfOk r (λ found. IsDecoded bytes found)
decoded-coreless bytes (Some b) whole e r h = cc
decoded-coreless bytes None whole e (Ok None) h = λ b s. neither b s
  where
    neither : (b : Batch) → IsBatch b bytes → ⊥
    neither b (inl s) = whole b s
    neither b (inr s) = h b s
decoded-coreless bytes None whole e (Ok (Some b)) h = inr h
decoded-coreless bytes None whole e (Err x) h = h
