-- A file in memory and its images, from call to call.
use Rattle.std.proofs.Common.{◌≡◌, ◌<◌, ◌≤◌, ◌+◌, ◌++◌, ◌∷◌, [], ℕ, List, length, take, get_or, inl, inr, sym, ◌∙◌, ap, subst, arith}
use Rattle.std.specs.Prelude.{All, Contains, reverse}
use Rattle.std.proofs.lemmas.List.{take_all, take_more, reverse-append}
use Rattle.std.proofs.lemmas.List.Elements.{All-nil, All-push, All-append, All-same, All-weaker, All-contains, Contains-push, Contains-append_left, Contains-append_right}
use Rattle.block_disk.specs.declared.call.Call.{Call}
use Rattle.block_disk.specs.declared.call.Call.TheVariants.{Write, Sync}
use Rattle.block_disk.specs.Images.{FileHistory, file_by, file_after, file_of, IsImageAfter, IsImageSince}
use Rattle.stop_images.specs.Listed.{history_of, AddsFiles, AddsSince, IsTornOf, ListsNext}

-- behind a write: the file as it reads, and torn ones
pub ListsNext-write : (images : List (List ℕ)) (at count : ℕ) (part file : List ℕ) (one next : List (List ℕ))
    → one ≡ file ∷ [] → AddsFiles (IsTornOf at count images) one next → ListsNext images (Write at count part) file next
ListsNext-write images at count part file one next is adds = record {
  as_read = subst (λ (files : List (List ℕ)). Contains files file) (sym whole)
      (Contains-append_left (file ∷ []) adds.more file (Contains-push [] file));
  each = λ first calls all reads. All-same (IsImageAfter first (Write at count part ∷ calls)) next ((file ∷ []) ++ adds.more) whole
      (All-append (IsImageAfter first (Write at count part ∷ calls)) (file ∷ []) adds.more
      (All-push (IsImageAfter first (Write at count part ∷ calls)) [] file (All-nil (IsImageAfter first (Write at count part ∷ calls))) (inl reads))
      (All-weaker (IsTornOf at count images) (IsImageAfter first (Write at count part ∷ calls))
      (λ c torn. inr (torn.0, All-contains (IsImageAfter first calls) images torn.0 all torn.1, torn.2)) adds.more adds.each));
}
  where
    whole : next ≡ (file ∷ []) ++ adds.more
    whole = adds.list ∙ ap (λ (files : List (List ℕ)). files ++ adds.more) is

-- behind a sync: the file as it reads alone
pub ListsNext-sync : (images : List (List ℕ)) (file : List ℕ) (next : List (List ℕ)) → next ≡ file ∷ [] → ListsNext images Sync file next
ListsNext-sync images file next is = record {
  as_read = subst (λ (files : List (List ℕ)). Contains files file) (sym is) (Contains-push [] file);
  each = λ first calls all reads. All-same (IsImageAfter first (Sync ∷ calls)) next (file ∷ []) is
      (All-push (IsImageAfter first (Sync ∷ calls)) [] file (All-nil (IsImageAfter first (Sync ∷ calls))) reads);
}

-- after these calls, the newest first: the file as it reads, and images with it among them
pub record AreListed (first : List ℕ) (calls : List Call) (file : List ℕ) (images : List (List ℕ)) : Type 0 where
  pub reads : file ≡ file_after first calls
  pub as_read : Contains images file
  pub each : All (IsImageAfter first calls) images

pub AreListed-none : (first file : List ℕ) (images : List (List ℕ)) → file ≡ first → images ≡ file ∷ [] → AreListed first [] file images
AreListed-none first file images same is = record {
  reads = same;
  as_read = subst (λ (files : List (List ℕ)). Contains files file) (sym is) (Contains-push [] file);
  each = All-same (IsImageAfter first []) images (file ∷ []) is (All-push (IsImageAfter first []) [] file (All-nil (IsImageAfter first [])) same);
}

-- one call more
AreListed-call : (first : List ℕ) (calls : List Call) (call : Call) (file new : List ℕ) (images next : List (List ℕ))
    → AreListed first calls file images → new ≡ file_by call file → ListsNext images call new next → AreListed first (call ∷ calls) new next
AreListed-call first calls call file new images next before is lists = record {
  reads = reads;
  as_read = lists.as_read;
  each = lists.each first calls before.each reads;
}
  where
    reads : new ≡ file_after first (call ∷ calls)
    reads = is ∙ ap (file_by call) before.reads

-- the next of a list of calls, the oldest first
pub AreListed-next : (first : List ℕ) (calls : List Call) (k : ℕ) (call : Call) (file new : List ℕ) (images next : List (List ℕ))
    → k < length calls → call ≡ get_or calls k call → AreListed first (reverse (take k calls)) file images
    → new ≡ file_by call file → ListsNext images call new next → AreListed first (reverse (take (k + 1) calls)) new next
AreListed-next first calls k call file new images next within item before is lists =
    let front : take (k + 1) calls ≡ take k calls ++ call ∷ [] =
    take_more calls k call within ∙ ap (λ (c : Call). take k calls ++ c ∷ []) (sym item) in
    let newest : reverse (take (k + 1) calls) ≡ call ∷ reverse (take k calls) = ap reverse front ∙ reverse-append (take k calls) (call ∷ []) in
    subst (λ (l : List Call). AreListed first l new next) (sym newest) (AreListed-call first (reverse (take k calls)) call file new images next before is lists)

-- after so many calls: images that a stop may have left since an earlier one, with the file as it reads
pub record IsListed (first : List ℕ) (calls : List Call) (since k : ℕ) (file : List ℕ) (listed : List (List ℕ)) : Type 0 where
  pub as_read : since ≤ k → Contains listed file
  pub each : All (IsImageSince (history_of first calls) since) listed

-- the images of one moment more
pub IsListed-next : (first : List ℕ) (calls : List Call) (since k : ℕ) (file : List ℕ) (images listed after : List (List ℕ))
    → k ≤ length calls → AreListed first (reverse (take k calls)) file images
    → All (IsImageSince (history_of first calls) since) listed → AddsSince since k images listed after
    → IsListed first calls since k file after
IsListed-next first calls since k file images listed after within here all (inl added) = record {
  as_read = λ later. subst (λ (files : List (List ℕ)). Contains files file) (sym added.1) (Contains-append_right listed images file here.as_read);
  each = All-same (IsImageSince (history_of first calls) since) after (listed ++ images) added.1
      (All-append (IsImageSince (history_of first calls) since) listed images all
      (All-weaker (IsImageAfter first (reverse (take k calls))) (IsImageSince (history_of first calls) since)
      (λ c image. (k, added.0, within, image)) images here.each));
}
IsListed-next first calls since k file images listed after within here all (inr not_yet) = record {
  as_read = λ later. absurd (omega (arith, not_yet.0));
  each = All-same (IsImageSince (history_of first calls) since) after listed not_yet.1 all;
}

-- the list is done
pub IsListed-end : (first : List ℕ) (calls : List Call) (since k : ℕ) (file : List ℕ) (images listed : List (List ℕ))
    → length calls ≤ k → AreListed first (reverse (take k calls)) file images → IsListed first calls since k file listed
    → since ≤ length calls → Contains listed (file_of (history_of first calls))
IsListed-end first calls since k file images listed done here all later =
    let reads : file ≡ file_of (history_of first calls) = here.reads ∙ ap (λ (l : List Call). file_after first (reverse l)) (take_all k calls done) in
    subst (Contains listed) reads (all.as_read (omega arith))
