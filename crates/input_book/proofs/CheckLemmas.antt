-- What holds of inputs that no check refuses.
use Rattle.std.proofs.Common.{◌≡◌, ℕ, zero, suc, ◌+◌, ◌≤◌, ◌≢◌, List, [], ◌∷◌, ◌++◌, length, get_or, map, Ok, Err, refl, sym, ◌∙◌, subst, Bool, true, false, nat_le, nat_lt, if◌then◌else◌, append_assoc, append-nil, length-append, arith, codes}
use Rattle.std.proofs.lemmas.Bool.{or_parts, false≢true}
use Rattle.std.proofs.lemmas.Bool.Decides.{nat_tests}
use Rattle.std.proofs.lemmas.List.{get_or_append_left, get_or_push}
use Rattle.std.proofs.lemmas.List.Elements.{All-nil, All-cons}
use Rattle.std.proofs.lemmas.List.Kept.{AllPairs-cons}
use Rattle.std.proofs.lemmas.List.Sums.{sum_by-append, fold-append}
use Rattle.std.proofs.lemmas.Slice.Eq.{bytes_eq-Decides}
use Rattle.std.specs.List.{list_any}
use Rattle.std.specs.List.Sorted.{IsNonDecreasingBy}
use Rattle.std.specs.Prelude.{All, AllPairs}
use Rattle.std.specs.Str.{bytes_eq}
use Rattle.event_value.specs.declared.kind.Column.{Column}
use Rattle.input_book.specs.Checks.{Check, each, count_check, partition_limits, partition_count, stream_limits, streams_limits, is_among, name_check, column_names, stream_names, streams_names, last_through, segment_order, partition_order, stream_order, order_check}
use Rattle.input_book.specs.Limits.{max_streams, max_partitions, max_segments, max_columns}
use Rattle.input_book.specs.Refusals.{entry_key, read_inside}
use Rattle.input_book.specs.declared.input_err.InputErr.{InputErr}
use Rattle.input_book.specs.declared.input_err.InputErr.TheVariants.{TooMany, Twice, ThroughOrder}
use Rattle.input_types.specs.declared.inputs.Inputs.{Inputs}
use Rattle.input_types.specs.declared.inputs.SegmentName.{SegmentName}
use Rattle.input_types.specs.declared.inputs.Stream.{Stream}
use Rattle.input_book.proofs.ReadingLemmas.{bind-then, read_inside-ok, le-true}

abbrev pub Passes : Check → Type 0
Passes c = c ≡ Ok tt

pub if_passes : (b : Bool) (e : InputErr) → Passes (if b then Ok tt else Err e) → b ≡ true
if_passes true e h = refl
if_passes false e h = absurd cc

unless_passes : (b : Bool) (e : InputErr) → Passes (if b then Err e else Ok tt) → b ≡ false
unless_passes true e h = absurd cc
unless_passes false e h = refl

-- the first entry passed, and then the others
pub each-cons : {A P : Type 0} (check : List A → A → Check) (list : List ℕ) (passed : List A) (x : A) (xs : List A) → each check list passed (x ∷ xs) ≡ Ok tt
    → (check passed x ≡ Ok tt → each check list (passed ++ x ∷ []) xs ≡ Ok tt → P) → P
each-cons check list passed x xs h next =
    bind-then (read_inside (entry_key list (length passed)) (check passed x)) _ tt h (λ u first rest.
    next (read_inside-ok (entry_key list (length passed)) (check passed x) u first) rest)

-- what follows for an entry that passed, whatever was before it, holds of each entry
pub each-all : {A : Type 0} (check : List A → A → Check) (P : A → Type 0) → ((passed : List A) (x : A) → check passed x ≡ Ok tt → P x)
    → (list : List ℕ) (passed xs : List A) → each check list passed xs ≡ Ok tt → All P xs
each-all check P holds list passed [] h = All-nil P
each-all check P holds list passed (x ∷ xs) h =
    each-cons check list passed x xs h (λ first rest.
    All-cons P x xs (holds passed x first) (each-all check P holds list (passed ++ x ∷ []) xs rest))

pub count-ok : (most : ℕ) (key : List ℕ) (n : ℕ) → count_check most key n ≡ Ok tt → n ≤ most
unfolding count_check
count-ok most key n h = le-true n most (if_passes (nat_le n most) (TooMany key) h)

-- the limits of a stream
pub record KeepsLimits (stream : Stream) : Type 0 where
  pub columns : length stream.columns ≤ max_columns
  pub segments : All (λ partition. length partition.segments ≤ max_segments) stream.partitions

stream-within : (before : ℕ) (s : Stream) → stream_limits before s ≡ Ok tt → KeepsLimits s × (before + length s.partitions ≤ max_partitions)
stream-within before s h =
    bind-then (count_check max_columns (codes "columns") (length s.columns)) _ tt h (λ _ columns h1.
    bind-then (count_check max_partitions (codes "partition") (before + length s.partitions)) _ tt h1 (λ _ partitions h2. (
      record {
        columns = count-ok max_columns (codes "columns") (length s.columns) columns;
        segments = each-all (λ _ p. partition_limits p) (λ p. length p.segments ≤ max_segments) (λ _ p given. count-ok max_segments (codes "segments") (length p.segments) given) (codes "partition") [] s.partitions h2;
      },
      count-ok max_partitions (codes "partition") (before + length s.partitions) partitions,
    )))

partitions-within : (list : List ℕ) (passed xs : List Stream) → partition_count passed ≤ max_partitions
    → each (λ p s. stream_limits (partition_count p) s) list passed xs ≡ Ok tt → partition_count (passed ++ xs) ≤ max_partitions
partitions-within list passed [] before h = rw append-nil before
partitions-within list passed (x ∷ xs) before h =
    each-cons (λ p s. stream_limits (partition_count p) s) list passed x xs h (λ first rest.
    let (limits, within) = stream-within (partition_count passed) x first in
    let added : partition_count (passed ++ x ∷ []) ≡ partition_count passed + partition_count (x ∷ []) = sum_by-append (λ s. length s.partitions) passed (x ∷ []) in
    let more : partition_count (passed ++ x ∷ []) ≤ max_partitions = omega (arith, added, within) in
    let whole : partition_count ((passed ++ x ∷ []) ++ xs) ≤ max_partitions = partitions-within list (passed ++ x ∷ []) xs more rest in
    subst (λ ss. partition_count ss ≤ max_partitions) (append_assoc passed (x ∷ []) xs) whole)

-- the front of a list
All-front : {A : Type 0} (P : A → Type 0) (xs ys : List A) → All P (xs ++ ys) → All P xs
All-front P xs ys all k d within = subst P (get_or_append_left xs ys d k within) (all k d (omega (arith, length-append xs ys)))

All-last : {A : Type 0} (P : A → Type 0) (xs : List A) (x : A) → All P (xs ++ x ∷ []) → P x
All-last P xs x all = subst P (get_or_push xs x x (length xs) refl) (all (length xs) x (omega (arith, length-append xs (x ∷ []))))

-- a name that isn't among these differs from each of them
pub is_among-false : {A : Type 0} (f : A → List ℕ) (passed : List A) (name : List ℕ) → is_among (map f passed) name ≡ false → All (λ p. f p ≢ name) passed
unfolding is_among
is_among-false f [] name h = All-nil (λ p. f p ≢ name)
is_among-false f (p ∷ ps) name h =
    let (here, more) = or_parts (bytes_eq (f p) name) (list_any (λ n. bytes_eq n name) (map f ps)) h in
    All-cons (λ q. f q ≢ name) p ps (λ same. false≢true (sym here ∙ (bytes_eq-Decides (f p) name).1 same)) (is_among-false f ps name more)

-- where each entry's name isn't among those before it, no two are the same
pub names-apart : {A : Type 0} (f : A → List ℕ) (check : List A → A → Check) → ((passed : List A) (x : A) → check passed x ≡ Ok tt → is_among (map f passed) (f x) ≡ false)
    → (list : List ℕ) (passed xs : List A) → each check list passed xs ≡ Ok tt
    → All (λ x. All (λ p. f p ≢ f x) passed) xs × AllPairs (λ a b. f a ≢ f b) xs
names-apart f check new list passed [] h = (All-nil _, λ i j d below within. absurd (omega arith))
names-apart f check new list passed (x ∷ xs) h =
    each-cons check list passed x xs h (λ first rest.
    let (after, apart) = names-apart f check new list (passed ++ x ∷ []) xs rest in (
      All-cons (λ y. All (λ p. f p ≢ f y) passed) x xs (is_among-false f passed (f x) (new passed x first)) (λ k d within. All-front (λ p. f p ≢ f (get_or xs k d)) passed (x ∷ []) (after k d within)),
      AllPairs-cons (λ a b. f a ≢ f b) x xs (λ k d within. All-last (λ p. f p ≢ f (get_or xs k d)) passed x (after k d within)) apart,
    ))

nondecreasing-cons : {A : Type 0} (n : A → ℕ) (x : A) (xs : List A) → All (λ y. n x ≤ n y) xs → IsNonDecreasingBy n xs → IsNonDecreasingBy n (x ∷ xs)
nondecreasing-cons n x xs above rest zero zero d below within = omega arith
nondecreasing-cons n x xs above rest zero (suc j) d below within = above j d (omega arith)
nondecreasing-cons n x xs above rest (suc i) zero d below within = absurd (omega arith)
nondecreasing-cons n x xs above rest (suc i) (suc j) d below within = rest i j d (omega arith) (omega arith)

last_through-push : (passed : List SegmentName) (s : SegmentName) → last_through (passed ++ s ∷ []) ≡ s.through
last_through-push passed s = fold-append (λ _ t. t.through) 0 passed (s ∷ [])

segment-follows : (passed : List SegmentName) (s : SegmentName) → Passes (segment_order passed s) → last_through passed ≤ s.through
segment-follows passed s h =
    let b : nat_lt s.through (last_through passed) ≡ false = unless_passes (nat_lt s.through (last_through passed)) (ThroughOrder (codes "through")) h in
    le-false s.through (last_through passed) b where
      le-false : (m n : ℕ) → nat_lt m n ≡ false → n ≤ m
      le-false m n e = grind (arith, nat_tests)

segments-ascend : (list : List ℕ) (passed xs : List SegmentName) → Passes (each segment_order list passed xs)
    → All (λ s. last_through passed ≤ s.through) xs × IsNonDecreasingBy (λ s. s.through) xs
segments-ascend list passed [] h = (All-nil (λ s. last_through passed ≤ s.through), λ i j d below within. absurd (omega arith))
segments-ascend list passed (x ∷ xs) h =
    each-cons segment_order list passed x xs h (λ first rest.
    let (after, ascend) = segments-ascend list (passed ++ x ∷ []) xs rest in
    let follows : last_through passed ≤ x.through = segment-follows passed x first in
    let above : All (λ s. x.through ≤ s.through) xs = subst (λ n. All (λ s. n ≤ s.through) xs) (last_through-push passed x) after in (
      All-cons (λ s. last_through passed ≤ s.through) x xs follows (λ k d within. omega (arith, above k d within)),
      nondecreasing-cons (λ s. s.through) x xs above ascend,
    ))

pub record KeepsOrder (stream : Stream) : Type 0 where
  pub partitions : All (λ p. IsNonDecreasingBy (λ s. s.through) p.segments) stream.partitions

pub record KeepsNames (stream : Stream) : Type 0 where
  pub columns : AllPairs (λ a b. a.name ≢ b.name) stream.columns

pub name-new : (names : List (List ℕ)) (name : List ℕ) → Passes (name_check names name) → is_among names name ≡ false
name-new names name h = unless_passes (is_among names name) (Twice name) h

pub columns-named : (columns : List Column) → Passes (each column_names (codes "columns") [] columns) → AllPairs (λ a b. a.name ≢ b.name) columns
columns-named columns h =
    (names-apart (λ c. c.name) column_names (λ passed c given. name-new (map (λ c. c.name) passed) c.name given) (codes "columns") [] columns h).1

stream-named : (passed : List Stream) (s : Stream) → Passes (stream_names passed s) → (is_among (map (λ s. s.name) passed) s.name ≡ false) × KeepsNames s
stream-named passed s h =
    bind-then (name_check (map (λ s. s.name) passed) s.name) _ tt h (λ _ first rest.
    (name-new (map (λ s. s.name) passed) s.name first, record { columns = columns-named s.columns rest }))

-- what the checks leave of the streams
pub limits-keep : (streams : List Stream) → Passes (streams_limits streams)
    → (length streams ≤ max_streams) × All KeepsLimits streams × (partition_count streams ≤ max_partitions)
unfolding streams_limits
limits-keep streams h =
    bind-then (count_check max_streams (codes "stream") (length streams)) _ tt h (λ _ count rest.
    let check : List Stream → Stream → Check = λ passed s. stream_limits (partition_count passed) s in (
      count-ok max_streams (codes "stream") (length streams) count,
      each-all check KeepsLimits (λ passed s given. (stream-within (partition_count passed) s given).0) (codes "stream") [] streams rest,
      partitions-within (codes "stream") [] streams (omega arith) rest,
    ))

pub names-keep : (streams : List Stream) → Passes (streams_names streams) → All KeepsNames streams × AllPairs (λ a b. a.name ≢ b.name) streams
unfolding streams_names
names-keep streams h = (
  each-all stream_names KeepsNames (λ passed s given. (stream-named passed s given).1) (codes "stream") [] streams h,
  (names-apart (λ s. s.name) stream_names (λ passed s given. (stream-named passed s given).0) (codes "stream") [] streams h).1,
)

pub order-keeps : (inputs : Inputs) → Passes (order_check inputs) → All KeepsOrder inputs.streams
unfolding order_check
order-keeps inputs h =
    each-all (λ _ s. stream_order s) KeepsOrder (λ _ s given. record { partitions = ordered s given }) (codes "stream") [] inputs.streams h where
      ordered : (s : Stream) → Passes (stream_order s) → All (λ p. IsNonDecreasingBy (λ s. s.through) p.segments) s.partitions
      ordered s given =
          each-all (λ _ p. partition_order p) (λ p. IsNonDecreasingBy (λ s. s.through) p.segments) (λ _ p passes. (segments-ascend (codes "segments") [] p.segments passes).1) (codes "partition") [] s.partitions given
