-- A file that is read in pieces.
use Rattle.std.proofs.Common.{◌≡◌, ◌<◌, ◌≤◌, inl, inr, ℕ, List, [], ◌∷◌, ◌++◌, take, drop, length, Option, Some, None}
use Rattle.std.proofs.Common.{Result, Ok, Err, refl, append_assoc, ap, sym, ◌∙◌, subst, arith}
use Rattle.std.proofs.lemmas.List.{take-append-drop, append-nil}
use Rattle.std.specs.Option.{option_map, IfSome, IsSome}
use Rattle.std.specs.Result.{IsErrAnd}
use Rattle.std.proofs.lemmas.Bool.Decides.{nat_tests}
use Rattle.std.proofs.lemmas.Result.{err_from_is_err_and}
use Rattle.outside.specs.KnownFiles.{KnownFiles, file_of, files_after_asking, files_after_begin, files_after_read}
use Rattle.outside.specs.KnownFiles.{GivesPrefix, MakesProgress}
use Rattle.outside.specs.ReadCause.{HasSameCause}
use Rattle.outside.specs.Segment.{AsksFor, segment_of}
use Rattle.outside.specs.declared.files.FileErr.{FileErr}
use Rattle.outside.specs.declared.files.FileErr.TheVariants.{Fault, Memory}
use Rattle.outside.specs.declared.segment.ReadErr.{ReadErr}
use Rattle.outside.specs.declared.segment.Segment.{Segment}
use Rattle.outside.specs.declared.segment.Segment.TheVariants.{Bytes}

-- the file was asked for, is held, and so far these bytes of it were read
pub record ReadsPrefix (name : List ℕ) (old new : Option KnownFiles) (bytes : List ℕ) : Type 0 where
  pub left : List ℕ
  pub known : new ≡ option_map (files_after_asking (name ∷ []) left) old
  pub held : IfSome old (λ files. IsSome (files.holds name))
  pub whole : IfSome old (λ files. bytes ++ left ≡ file_of files name)

left_after_begin : List ℕ → Option KnownFiles → List ℕ
left_after_begin name None = []
left_after_begin name (Some files) = file_of files name

begin-known : (name : List ℕ) (old : Option KnownFiles) (done : Unit {0})
    → option_map (files_after_begin name (Ok done)) old
    ≡ option_map (files_after_asking (name ∷ []) (left_after_begin name old)) old
unfolding left_after_begin
begin-known name None done = refl
begin-known name (Some files) done = refl

begin-whole : (name : List ℕ) (old : Option KnownFiles)
    → IfSome old (λ files. [] ++ left_after_begin name old ≡ file_of files name)
unfolding left_after_begin
begin-whole name None = tt
begin-whole name (Some files) = refl

-- nothing was read yet
pub ReadsPrefix-begin : (name : List ℕ) (old new : Option KnownFiles) (done : Unit {0})
    → new ≡ option_map (files_after_begin name (Ok done)) old
    → IfSome old (λ files. IsSome (files.holds name)) → ReadsPrefix name old new []
ReadsPrefix-begin name old new done e held = record {
  left = left_after_begin name old;
  known = e ∙ begin-known name old done;
  held = held;
  whole = begin-whole name old;
}

read-known : (name : List ℕ) (old : Option KnownFiles) (left : List ℕ) (count : ℕ)
    → option_map (files_after_read (Ok count)) (option_map (files_after_asking (name ∷ []) left) old)
    ≡ option_map (files_after_asking (name ∷ []) (drop count left)) old
read-known name None left count = refl
read-known name (Some files) left count = refl

read-whole : (name : List ℕ) (old : Option KnownFiles) (left bytes piece : List ℕ) (count : ℕ)
    → IfSome old (λ files. bytes ++ left ≡ file_of files name)
    → IfSome (option_map (files_after_asking (name ∷ []) left) old) (GivesPrefix count piece)
    → IfSome old (λ files. (bytes ++ take count piece) ++ drop count left ≡ file_of files name)
read-whole name None left bytes piece count whole given = tt
read-whole name (Some files) left bytes piece count whole given =
    append_assoc bytes (take count piece) (drop count left)
    ∙ ap (λ front. bytes ++ (front ++ drop count left)) given
    ∙ ap (λ rest. bytes ++ rest) (take-append-drop count left) ∙ whole

-- a further piece was read
pub ReadsPrefix-more : (name : List ℕ) (old new next : Option KnownFiles) (bytes piece : List ℕ) (count : ℕ)
    → ReadsPrefix name old new bytes → next ≡ option_map (files_after_read (Ok count)) new
    → IfSome new (GivesPrefix count piece) → ReadsPrefix name old next (bytes ++ take count piece)
ReadsPrefix-more name old new next bytes piece count r e given = record {
  left = drop count r.left;
  known = e ∙ ap (option_map (files_after_read (Ok count))) r.known ∙ read-known name old r.left count;
  held = r.held;
  whole = read-whole name old r.left bytes piece count r.whole
      (subst (λ (known : Option KnownFiles). IfSome known (GivesPrefix count piece)) r.known given);
}

end-content : (name : List ℕ) (old : Option KnownFiles) (left bytes : List ℕ) (room limit : ℕ)
    → length bytes ≤ limit → 0 < room → IfSome old (λ files. bytes ++ left ≡ file_of files name)
    → IfSome (option_map (files_after_asking (name ∷ []) left) old) (MakesProgress 0 room)
    → IfSome old (λ files. Bytes bytes ≡ segment_of limit (file_of files name))
end-content name None left bytes room limit within some whole progress = tt
end-content name (Some files) [] bytes room limit within some whole progress =
    let e : file_of files name ≡ bytes = sym whole ∙ append-nil bytes in
    rw e (grind (arith, nat_tests, within))
end-content name (Some files) (x ∷ left) bytes room limit within some whole progress =
    absurd (omega (arith, progress.some (omega arith) some))

-- the file is at its end
pub ReadsPrefix-end : (name : List ℕ) (old new : Option KnownFiles) (bytes : List ℕ) (room limit : ℕ)
    → length bytes ≤ limit → 0 < room → ReadsPrefix name old new bytes
    → IfSome new (MakesProgress 0 room)
    → IfSome old (λ files. Bytes bytes ≡ segment_of limit (file_of files name))
ReadsPrefix-end name old new bytes room limit within some r progress =
    end-content name old r.left bytes room limit within some r.whole
    (subst (λ (known : Option KnownFiles). IfSome known (MakesProgress 0 room)) r.known progress)

fault-known : (name : List ℕ) (old : Option KnownFiles)
    → option_map (files_after_begin name (Err Fault)) old
    ≡ option_map (files_after_asking (name ∷ []) []) old
fault-known name None = refl
fault-known name (Some files) = refl

memory-known : (name : List ℕ) (old : Option KnownFiles)
    → option_map (files_after_begin name (Err Memory)) old ≡ option_map (files_after_asking [] []) old
memory-known name None = refl
memory-known name (Some files) =
    ap (λ (names : List (List ℕ)). Some (record { holds = files.holds; asked = names; left = [] }))
    (sym (append-nil files.asked))

-- a file that couldn't be begun
pub AsksFor-refused : (name : List ℕ) (old new : Option KnownFiles) (error : FileErr) (result : Result Segment ReadErr)
    → new ≡ option_map (files_after_begin name (Err error)) old
    → IsErrAnd result (HasSameCause error) → AsksFor name result old new
AsksFor-refused name old new Fault result e r =
    record { names = name ∷ []; left = []; known = e ∙ fault-known name old; once = inl refl }
AsksFor-refused name old new Memory result e r =
    let cause = err_from_is_err_and result r in
    record { names = []; left = []; known = e ∙ memory-known name old; once = inr (refl, cause.1 ∙ ap Err cause.2) }

-- a file that was begun
pub AsksFor-read : (name : List ℕ) (old new : Option KnownFiles) (bytes : List ℕ) (result : Result Segment ReadErr)
    → ReadsPrefix name old new bytes → AsksFor name result old new
AsksFor-read name old new bytes result r =
    record { names = name ∷ []; left = r.left; known = r.known; once = inl refl }
