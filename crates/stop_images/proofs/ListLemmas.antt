-- Lists to which files are added.
use Rattle.std.proofs.Common.{◌≡◌, ◌≤◌, ◌+◌, ◌++◌, ◌∷◌, [], ℕ, List, length, take, drop, min, sym, ◌∙◌, ap, arith, append_assoc, ⊎_elim}
use Rattle.std.specs.Prelude.{All}
use Rattle.std.proofs.lemmas.List.{append-nil, take_min, drop_all}
use Rattle.std.proofs.lemmas.List.Elements.{All-nil, All-push, All-append, All-weaker}
use Rattle.std.proofs.lemmas.Bool.{cases_lt}
use Rattle.block_disk.specs.Stops.{put}
use Rattle.stop_images.specs.Listed.{AddsFiles}

-- none was added
pub AddsFiles-none : (P : List ℕ → Type 0) (files : List (List ℕ)) → AddsFiles P files files
AddsFiles-none P files = record { more = []; list = sym (append-nil files); each = All-nil P }

-- one more was added
pub AddsFiles-push : (P : List ℕ → Type 0) (old new next : List (List ℕ)) (c : List ℕ)
    → AddsFiles P old new → next ≡ new ++ c ∷ [] → P c → AddsFiles P old next
AddsFiles-push P old new next c adds is holds = record {
  more = adds.more ++ c ∷ [];
  list = is ∙ ap (λ (files : List (List ℕ)). files ++ c ∷ []) adds.list ∙ append_assoc old adds.more (c ∷ []);
  each = All-push P adds.more c adds.each holds;
}

-- some were added, and then others of which Q holds
pub AddsFiles-more : (P Q : List ℕ → Type 0) (old new next : List (List ℕ))
    → AddsFiles P old new → AddsFiles Q new next → ((c : List ℕ) → Q c → P c) → AddsFiles P old next
AddsFiles-more P Q old new next adds later weaker = record {
  more = adds.more ++ later.more;
  list = later.list ∙ ap (λ (files : List (List ℕ)). files ++ later.more) adds.list ∙ append_assoc old adds.more later.more;
  each = All-append P adds.more later.more adds.each (All-weaker Q P weaker later.more later.each);
}

-- some were added, and then others
pub AddsFiles-then : (P : List ℕ → Type 0) (old new next : List (List ℕ))
    → AddsFiles P old new → AddsFiles P new next → AddsFiles P old next
AddsFiles-then P old new next adds later = AddsFiles-more P P old new next adds later (λ c holds. holds)

behind_end : (at count : ℕ) (file : List ℕ) → drop (min at (length file) + count) file ≡ drop (at + count) file
behind_end at count file = ⊎_elim
    (λ within. ap (λ (n : ℕ). drop n file) (let same : min at (length file) + count ≡ at + count = omega arith in same))
    (λ past. drop_all (min at (length file) + count) file (omega arith) ∙ sym (drop_all (at + count) file (omega arith)))
    (cases_lt at (length file))

-- past the end of a file is at its end
pub put-min : (at : ℕ) (part file : List ℕ) → put (min at (length file)) part file ≡ put at part file
put-min at part file =
    ap (λ (front : List ℕ). front ++ part ++ drop (min at (length file) + length part) file) (take_min at file)
    ∙ ap (λ (rest : List ℕ). take at file ++ part ++ rest) (behind_end at (length part) file)
