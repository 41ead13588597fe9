-- What was read, where nothing was refused.
use Rattle.std.proofs.Common.{◌≡◌, ℕ, ◌+◌, ◌<◌, ◌≤◌, List, [], ◌∷◌, length, Option, Some, None, Result, Ok, Err, refl, subst, Bool, true, false, nat_le, nat_lt, ◌&&◌, if◌then◌else◌, arith, inl, inr, ◌⊎◌, ℤ, pos, negsuc}
use Rattle.std.proofs.lemmas.Bool.{and_parts}
use Rattle.std.proofs.lemmas.Bool.Decides.{nat_tests}
use Rattle.std.proofs.lemmas.Int.{ints}
use Rattle.std.proofs.lemmas.List.Elements.{All-nil, All-cons}
use Rattle.std.specs.Prelude.{All}
use Rattle.toml.specs.Data.{Data, Items, no_items, item, Members, get_member, as_array, as_table}
use Rattle.input_book.specs.Laws.{IsCountTo, IsSecondsTo}
use Rattle.input_book.specs.Ranges.{sized, some_items, items_to, item_count, seconds_to, ticks_of}
use Rattle.input_book.specs.Readers.{Reader, value_of, table_of, list_of, entries_from, typed, present, needed, optional, read_or}
use Rattle.input_book.specs.Refusals.{◌>>=◌, ok_or, entry_key, read_inside}
use Rattle.input_book.specs.declared.input_err.InputErr.{InputErr}

pub bind-ok : {A B : Type 0} (e : Result A InputErr) (f : A → Result B InputErr) (y : B) → (e >>= f) ≡ Ok y
    → (x : A) × (e ≡ Ok x) × (f x ≡ Ok y)
bind-ok (Ok x) f y h = (x, refl, h)
bind-ok (Err e) f y h = absurd cc

-- the same, for what follows from both steps
pub bind-then : {A B P : Type 0} (e : Result A InputErr) (f : A → Result B InputErr) (y : B) → (e >>= f) ≡ Ok y
    → ((x : A) → e ≡ Ok x → f x ≡ Ok y → P) → P
bind-then e f y h next = let (x, is, given) = bind-ok e f y h in next x is given

pub ok_or-ok : {A : Type 0} (e : InputErr) (o : Option A) (x : A) → ok_or e o ≡ Ok x → o ≡ Some x
ok_or-ok e (Some x) y h = cc
ok_or-ok e None y h = absurd cc

pub read_inside-ok : {A : Type 0} (key : List ℕ) (r : Result A InputErr) (x : A) → read_inside key r ≡ Ok x → r ≡ Ok x
read_inside-ok key (Ok x) y h = h
read_inside-ok key (Err e) y h = absurd cc

-- a value stands for what its range gave
pub value_of-ok : {A B : Type 0} (as_type : Data → Option A) (within : A → Option B) (key : List ℕ) (d : Data) (y : B) → value_of as_type within key d ≡ Ok y
    → (x : A) × (within x ≡ Some y)
value_of-ok as_type within key d y h =
    let (x, is, found) = bind-ok (typed as_type key d) _ y h in
    (x, ok_or-ok _ (within x) y found)

-- what a key was read as, or its default
pub optional-ok : {A : Type 0} (key : List ℕ) (default : A) (read : Reader A) (ms : Members) (x : A) → optional key default read ms ≡ Ok x
    → (default ≡ x) ⊎ ((d : Data) × (read key d ≡ Ok x))
optional-ok key default read ms x h = given (get_member key ms) h where
  given : (o : Option Data) → read_or default (read key) o ≡ Ok x → (default ≡ x) ⊎ ((d : Data) × (read key d ≡ Ok x))
  given None h = inl cc
  given (Some d) h = inr (d, h)

-- each entry was read
pub entries_from-ok : {A : Type 0} (i : ℕ) (read : Reader A) (list : List ℕ) (ds : Items) (xs : List A) → entries_from i read list ds ≡ Ok xs
    → (All (λ x. (key : List ℕ) × (d : Data) × (read key d ≡ Ok x)) xs) × (length xs ≡ item_count ds)
entries_from-ok {A} i read list no_items xs h =
    let P : A → Type 0 = λ x. (key : List ℕ) × (d : Data) × (read key d ≡ Ok x) in
    let e : [] ≡ xs = cc in
    let Q : List A → Type 0 = λ ys. (All P ys) × (length ys ≡ 0) in
    subst Q e (All-nil P, refl)
entries_from-ok {A} i read list (item d ds) xs h =
    let P : A → Type 0 = λ x. (key : List ℕ) × (d : Data) × (read key d ≡ Ok x) in
    let (x, this, rest) = bind-ok (read (entry_key list i) d) _ xs h in
    let (ys, those, whole) = bind-ok (entries_from (i + 1) read list ds) _ xs rest in
    let (all, count) = entries_from-ok (i + 1) read list ds ys those in
    let e : x ∷ ys ≡ xs = cc in
    let Q : List A → Type 0 = λ zs. (All P zs) × (length zs ≡ item_count (item d ds)) in
    subst Q e (All-cons P x ys (entry_key list i, d, this) all, grind arith)

pub if_some : {A : Type 0} (b : Bool) (x y : A) → (if b then Some x else None) ≡ Some y → (b ≡ true) × (x ≡ y)
if_some true x y h = (refl, cc)
if_some false x y h = absurd cc

pub lt-true : (m n : ℕ) → nat_lt m n ≡ true → m < n
lt-true m n h = grind (arith, nat_tests)

pub le-true : (m n : ℕ) → nat_le m n ≡ true → m ≤ n
le-true m n h = grind (arith, nat_tests)

-- a number that is tested from both sides
count-true : (most n : ℕ) → (nat_le 1 n && nat_le n most) ≡ true → IsCountTo most n
count-true most n h =
    let (low, high) = and_parts (nat_le 1 n) (nat_le n most) h in
    (le-true 1 n low, le-true n most high)

pub sized-ok : (most : ℕ) (t u : List ℕ) → sized most t ≡ Some u → IsCountTo most (length u)
sized-ok most t u h =
    let (is, same) = if_some (nat_le 1 (length t) && nat_le (length t) most) t u h in
    let P : List ℕ → Type 0 = λ v. IsCountTo most (length v) in
    subst P same (count-true most (length t) is)

pub some_items-ok : (ds es : Items) → some_items ds ≡ Some es → 1 ≤ item_count es
some_items-ok ds es h =
    let (is, same) = if_some (nat_le 1 (item_count ds)) ds es h in
    let P : Items → Type 0 = λ v. 1 ≤ item_count v in
    subst P same (le-true 1 (item_count ds) is)

pub items_to-ok : (most : ℕ) (ds es : Items) → items_to most ds ≡ Some es → IsCountTo most (item_count es)
items_to-ok most ds es h =
    let (is, same) = if_some (nat_le 1 (item_count ds) && nat_le (item_count ds) most) ds es h in
    let P : Items → Type 0 = λ v. IsCountTo most (item_count v) in
    subst P same (count-true most (item_count ds) is)

pub seconds_to-ok : (most : ℕ) (z ticks : ℤ) → seconds_to most z ≡ Some ticks → IsSecondsTo most ticks
seconds_to-ok most (pos n) ticks h =
    let (is, same) = if_some (nat_le n most) (ticks_of n) ticks h in
    let below : n ≤ most = le-true n most is in
    let P : ℤ → Type 0 = λ v. IsSecondsTo most v in
    subst P same (omega (arith, ints), omega (arith, ints))
seconds_to-ok most (negsuc n) ticks h = absurd cc

pub needed-ok : {A : Type 0} (key : List ℕ) (read : Reader A) (ms : Members) (x : A) → needed key read ms ≡ Ok x → (d : Data) × (read key d ≡ Ok x)
needed-ok key read ms x h = let (d, is, given) = bind-ok (present key ms) _ x h in (d, given)

-- a needed value stands for what its range gave
pub needed_value-ok : {A B : Type 0} (key : List ℕ) (as_type : Data → Option A) (within : A → Option B) (ms : Members) (y : B) → needed key (value_of as_type within) ms ≡ Ok y
    → (x : A) × (within x ≡ Some y)
needed_value-ok key as_type within ms y h =
    let (d, given) = needed-ok key (value_of as_type within) ms y h in
    value_of-ok as_type within key d y given

pub table_of-ok : {A : Type 0} (read : Members → Result A InputErr) (key : List ℕ) (d : Data) (x : A) → table_of read key d ≡ Ok x → (ms : Members) × (read ms ≡ Ok x)
table_of-ok read key d x h =
    let (ms, is, given) = bind-ok (typed as_table key d) _ x h in
    (ms, read_inside-ok key (read ms) x given)

-- a list was within its range, and each entry was read
pub list_of-ok : {A : Type 0} (within : Items → Option Items) (read : Reader A) (key : List ℕ) (d : Data) (xs : List A) → list_of within read key d ≡ Ok xs
    → (All (λ x. (k : List ℕ) × (e : Data) × (read k e ≡ Ok x)) xs) × ((ds : Items) × (es : Items) × (within ds ≡ Some es) × (length xs ≡ item_count es))
list_of-ok within read key d xs h =
    let (es, is, given) = bind-ok (value_of as_array within key d) _ xs h in
    let (ds, found) = value_of-ok as_array within key d es is in
    let (all, count) = entries_from-ok 0 read key es xs given in
    (all, (ds, es, found, count))

-- what holds of each table that is read holds of each entry
pub tables-ok : {A : Type 0} (P : A → Type 0) (read : Members → Result A InputErr) → ((ms : Members) (x : A) → read ms ≡ Ok x → P x)
    → (xs : List A) → All (λ x. (k : List ℕ) × (e : Data) × (table_of read k e ≡ Ok x)) xs → All P xs
tables-ok P read holds xs all k d h =
    let (key, e, given) = all k d h in
    let (ms, is) = table_of-ok read key e _ given in
    holds ms _ is

-- a list of tables that has to be there and to have some
pub parts-ok : {A : Type 0} (P : A → Type 0) (read : Members → Result A InputErr) → ((ms : Members) (x : A) → read ms ≡ Ok x → P x)
    → (key : List ℕ) (ms : Members) (xs : List A) → needed key (list_of some_items (table_of read)) ms ≡ Ok xs → (All P xs) × (1 ≤ length xs)
parts-ok P read holds key ms xs h =
    let (d, given) = needed-ok key (list_of some_items (table_of read)) ms xs h in
    let (all, (ds, es, found, count)) = list_of-ok some_items (table_of read) key d xs given in
    let some : 1 ≤ item_count es = some_items-ok ds es found in
    (tables-ok P read holds xs all, omega arith)
