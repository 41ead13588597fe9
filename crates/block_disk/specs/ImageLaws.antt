-- The laws of a disk in memory.
use Rattle.std.specs.Prelude.{◌≡◌, ◌≤◌, ℕ, List, [], ◌∷◌, reverse, Some}
use Rattle.std.proofs.Common.{inl, refl, sym, subst, arith}
use Rattle.std.proofs.lemmas.List.{take_all}
use Rattle.block_disk.specs.declared.call.Call.{Call}
use Rattle.block_disk.specs.declared.call.Call.TheVariants.{Write, Sync}
use Rattle.block_disk.specs.Images.{FileHistory, file_after, file_of, moment_of}
use Rattle.block_disk.specs.Images.{IsImageAfter, IsImage, IsImageSince}

-- the file as it reads is an image
pub IsImageAfter-file : (first : List ℕ) (calls : List Call) → IsImageAfter first calls (file_after first calls)
IsImageAfter-file first [] = refl
IsImageAfter-file first (Write at count part ∷ calls) = inl refl
IsImageAfter-file first (Sync ∷ calls) = refl

pub IsImage-file : (history : FileHistory) (c : List ℕ) → Some (file_of history) ≡ Some c → IsImage history c
IsImage-file history c reads =
    let same : file_of history ≡ c = cc in
    subst (IsImage history) same (IsImageAfter-file history.first (reverse history.calls))

-- this moment is one of those since an earlier one
pub IsImageSince-now : (history : FileHistory) (t : ℕ) (c : List ℕ) → t ≤ moment_of history → IsImage history c → IsImageSince history t c
IsImageSince-now history t c earlier now = (
  moment_of history,
  earlier,
  omega arith,
  subst (λ (calls : List Call). IsImageAfter history.first (reverse calls) c)
      (sym (take_all (moment_of history) history.calls (omega arith))) now,
)

-- since this moment there is no other
pub IsImage-since_now : (history : FileHistory) (c : List ℕ) → IsImageSince history (moment_of history) c → IsImage history c
IsImage-since_now history c since =
    subst (λ (calls : List Call). IsImageAfter history.first (reverse calls) c)
    (take_all since.0 history.calls since.1) since.3

-- what was left since a later moment was left since an earlier one
pub IsImageSince-earlier : (history : FileHistory) (t u : ℕ) (c : List ℕ) → t ≤ u → IsImageSince history u c → IsImageSince history t c
IsImageSince-earlier history t u c earlier since =
    let later : u ≤ since.0 = since.1 in
    (since.0, omega arith, since.2, since.3)
