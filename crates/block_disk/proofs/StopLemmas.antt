-- What a write that is cut short may leave.
use Rattle.std.proofs.Common.{◌≡◌, ◌≤◌, ◌+◌, ◌-◌, ◌++◌, ℕ, List, length, take, drop, max, refl, sym, ◌∙◌, ap, arith}
use Rattle.std.proofs.lemmas.List.{drop_at, drop-drop}
use Rattle.std.proofs.lemmas.Grind.{common_steps}
use Rattle.block_disk.specs.Stops.{put, TornWrite}

-- nothing of it
pub TornWrite-none : (at count : ℕ) (file : List ℕ) → TornWrite at count file file
TornWrite-none at count file =
    record { before = refl; behind = refl; no_shorter = omega arith; no_longer = omega arith }

module _ (at : ℕ) (part old : List ℕ) (below : at ≤ length old) where
  front : take at (put at part old) ≡ take at old
  front = grind (arith, common_steps)

  size : length (put at part old) ≡ max (length old) (at + length part)
  size = grind (arith, common_steps)

  front_size : length (take at old ++ part) ≡ at + length part
  front_size = grind (arith, common_steps)

  rest : (count k : ℕ) → count ≡ length part + k → drop (at + count) (put at part old) ≡ drop (at + count) old
  rest count k is =
      let whole : at + count ≡ at + length part + k = omega arith in
      ap (λ (n : ℕ). drop n (put at part old)) whole
      ∙ sym (drop-drop k (at + length part) (put at part old))
      ∙ ap (λ (l : List ℕ). drop k l) (drop_at (take at old ++ part) (drop (at + length part) old) (at + length part) front_size)
      ∙ drop-drop k (at + length part) old
      ∙ sym (ap (λ (n : ℕ). drop n old) whole)

  -- a part of the bytes put at their place
  pub TornWrite-put : (count : ℕ) → length part ≤ count → TornWrite at count old (put at part old)
  TornWrite-put count within = record {
    before = front;
    behind = rest count (count - length part) (omega arith);
    no_shorter = omega (arith, size);
    no_longer = omega (arith, size);
  }
