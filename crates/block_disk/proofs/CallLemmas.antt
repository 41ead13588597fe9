-- One call more in the history of a file.
use Rattle.std.proofs.Common.{◌≡◌, ◌⊎◌, ◌≤◌, ◌+◌, ◌∷◌, [], ℕ, List, length, take, inl, inr, sym, ap, subst, arith, length-append, ⊎_elim}
use Rattle.std.specs.Prelude.{reverse}
use Rattle.std.proofs.lemmas.List.{take_all, take-append-le, reverse-append}
use Rattle.std.proofs.lemmas.Bool.{cases_lt}
use Rattle.block_disk.specs.declared.call.Call.{Call}
use Rattle.block_disk.specs.declared.call.Call.TheVariants.{Write, Sync}
use Rattle.block_disk.specs.Stops.{put, TornWrite, Follows, NoFurtherImage, Elapses}
use Rattle.block_disk.specs.Images.{FileHistory, file_after, file_of, history_after, moment_of, IsImageAfter, IsImage, IsImageSince}
use Rattle.block_disk.specs.ImageLaws.{IsImageAfter-file}
use Rattle.block_disk.proofs.StopLemmas.{TornWrite-none, TornWrite-put}

newest : (history : FileHistory) (call : Call) → reverse (history_after call history).calls ≡ call ∷ reverse history.calls
newest history call = reverse-append history.calls (call ∷ [])

-- what a read gives after the call
pub file_of-after : (history : FileHistory) (call : Call) → file_of (history_after call history) ≡ file_after history.first (call ∷ reverse history.calls)
file_of-after history call = ap (file_after history.first) (newest history call)

-- an image after the call is one by the calls with the newest first
images_after : (history : FileHistory) (call : Call) (c : List ℕ) → IsImage (history_after call history) c → IsImageAfter history.first (call ∷ reverse history.calls) c
images_after history call c image =
    subst (λ (calls : List Call). IsImageAfter history.first calls c) (newest history call) image

-- time goes on with no call
pub Elapses-none : (history : FileHistory) → Elapses (moment_of history) (moment_of history) (IsImageSince history) (IsImageSince history) (IsImage history)
Elapses-none history =
    record { later = omega arith; keeps = λ t c earlier left. left; nothing_else = λ t c earlier left. inl left }

module _ (history : FileHistory) (call : Call) where
  size : moment_of (history_after call history) ≡ moment_of history + 1
  size = length-append history.calls (call ∷ [])

  same_front : (k : ℕ) → k ≤ moment_of history → take k (history_after call history).calls ≡ take k history.calls
  same_front k within = take-append-le k history.calls (call ∷ []) within

  last_or_earlier : (k : ℕ) → k ≤ moment_of (history_after call history) → (k ≤ moment_of history) ⊎ (k ≡ moment_of (history_after call history))
  last_or_earlier k within =
      ⊎_elim (λ less. inl (omega (arith, size))) (λ more. inr (omega (arith, size))) (cases_lt k (moment_of (history_after call history)))

  was : (t : ℕ) (c : List ℕ) (since : IsImageSince (history_after call history) t c)
      → (since.0 ≤ moment_of history) ⊎ (since.0 ≡ moment_of (history_after call history))
      → IsImageSince history t c ⊎ IsImage (history_after call history) c
  was t c since (inl within) = inl (
    since.0,
    since.1,
    within,
    subst (λ (calls : List Call). IsImageAfter history.first (reverse calls) c) (same_front since.0 within) since.3,
  )
  was t c since (inr last) = inr (
      subst (λ (calls : List Call). IsImageAfter history.first (reverse calls) c)
      (take_all since.0 (history_after call history).calls (omega arith)) since.3
      )

  -- time goes on with the call
  pub Elapses-call : Elapses (moment_of history) (moment_of (history_after call history)) (IsImageSince history) (IsImageSince (history_after call history)) (IsImage (history_after call history))
  Elapses-call = record {
    later = omega (arith, size);
    keeps = λ t c earlier since. (
      since.0,
      since.1,
      omega (arith, size, since.2),
      subst (λ (calls : List Call). IsImageAfter history.first (reverse calls) c) (sym (same_front since.0 since.2)) since.3,
    );
    nothing_else = λ t c earlier since. was t c since (last_or_earlier since.0 since.2);
  }

module _ (history : FileHistory) (at count : ℕ) (part : List ℕ) (below : at ≤ length (file_of history)) (within : length part ≤ count) where
  torn : TornWrite at count (file_of history) (put at part (file_of history))
  torn = TornWrite-put at part (file_of history) below count within

  -- a read after the write gives the file with its range torn
  pub TornWrite-call : TornWrite at count (file_of history) (file_of (history_after (Write at count part) history))
  TornWrite-call = subst (TornWrite at count (file_of history)) (sym (file_of-after history (Write at count part))) torn

  image : (c : List ℕ) → IsImageAfter history.first (Write at count part ∷ reverse history.calls) c → (d : List ℕ) × IsImage history d × TornWrite at count d c
  image c (inl as_read) =
      (file_of history, IsImageAfter-file history.first (reverse history.calls), subst (TornWrite at count (file_of history)) (sym as_read) torn)
  image c (inr earlier) = earlier

  -- an image after the write is one before it with the range torn
  pub Follows-write : Follows (TornWrite at count) (IsImage history) (IsImage (history_after (Write at count part) history))
  Follows-write c left = image c (images_after history (Write at count part) c left)

-- with no call each image is the one before
pub Follows-none : (history : FileHistory) (at count : ℕ) → Follows (TornWrite at count) (IsImage history) (IsImage history)
Follows-none history at count c left = (c, left, TornWrite-none at count c)

-- an image after a sync is the file as it reads
pub IsImage-sync : (history : FileHistory) (c : List ℕ) → IsImage (history_after Sync history) c → c ≡ file_of history
IsImage-sync history c left = images_after history Sync c left

-- so it was one before
pub NoFurtherImage-sync : (history : FileHistory) → NoFurtherImage (IsImage history) (IsImage (history_after Sync history))
NoFurtherImage-sync history c left =
    subst (IsImage history) (sym (IsImage-sync history c left)) (IsImageAfter-file history.first (reverse history.calls))
