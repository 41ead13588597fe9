-- Files that are asked for one after the other.
use Rattle.std.proofs.Common.{◌≡◌, ℕ, ◌+◌, ◌<◌, List, [], ◌∷◌, ◌++◌, length, drop, get_or, Option, Some, None, Result, refl, ap, sym, subst, ◌∙◌, append_assoc}
use Rattle.std.proofs.lemmas.List.{append-nil, at_drop_more}
use Rattle.std.specs.List.{flat_map}
use Rattle.std.specs.Option.{option_map}
use Rattle.outside.specs.KnownFiles.{KnownFiles, files_after_asking}
use Rattle.log_reading.specs.Asking.{Asks, AsksAllBut, AsksOnErr, AsksPrefixOf, AsksUntil, AsksUpTo}
use Rattle.log_reading.specs.declared.named_read_err.NamedReadErr.{NamedReadErr}
use Rattle.log_reading.specs.declared.named_read_err.NamedReadErr.TheVariants.{Fault, Memory}

left_in : Option KnownFiles → List ℕ
left_in None = []
left_in (Some files) = files.left

asking-nothing : (known : Option KnownFiles) → known ≡ option_map (files_after_asking [] (left_in known)) known
unfolding left_in
asking-nothing None = refl
asking-nothing (Some files) =
    ap (λ (names : List (List ℕ)). Some (record { holds = files.holds; asked = names; left = files.left })) (sym (append-nil files.asked))

-- nothing was asked for
pub Asks-none : (known : Option KnownFiles) → Asks [] known known
Asks-none known = record { left = left_in known; known = asking-nothing known }

files_after_asking-twice : (first more : List (List ℕ)) (left rest : List ℕ) (known : Option KnownFiles)
    → option_map (files_after_asking more rest) (option_map (files_after_asking first left) known) ≡ option_map (files_after_asking (first ++ more) rest) known
files_after_asking-twice first more left rest None = refl
files_after_asking-twice first more left rest (Some files) =
    ap (λ (names : List (List ℕ)). Some (record { holds = files.holds; asked = names; left = rest })) (append_assoc files.asked first more)

-- these files were asked for, and then those
pub Asks-append : (first more : List (List ℕ)) (old middle new : Option KnownFiles) → Asks first old middle → Asks more middle new → Asks (first ++ more) old new
Asks-append first more old middle new a b = record {
  left = b.left;
  known = b.known ∙ ap (option_map (files_after_asking more b.left)) a.known ∙ files_after_asking-twice first more a.left b.left old;
}

pub AsksPrefixOf-all : (names : List (List ℕ)) (old new : Option KnownFiles) → Asks names old new → AsksPrefixOf names old new
AsksPrefixOf-all names old new a = record { front = names; rest = []; whole = append-nil names; asks = a }

-- the same files, by other words
pub Asks-same : (names others : List (List ℕ)) (old new : Option KnownFiles) → names ≡ others → Asks names old new → Asks others old new
Asks-same names others old new is a = subst (λ (all : List (List ℕ)). Asks all old new) is a

pub AsksOnErr-same : (error : NamedReadErr) (names others : List (List ℕ)) (old new : Option KnownFiles) → names ≡ others → AsksOnErr names error old new → AsksOnErr others error old new
AsksOnErr-same error names others old new is a = subst (λ (all : List (List ℕ)). AsksOnErr all error old new) is a

pub AsksUntil-same : {A : Type 0} (result : Result A NamedReadErr) (names others : List (List ℕ)) (old new : Option KnownFiles) → names ≡ others → AsksUntil names result old new → AsksUntil others result old new
AsksUntil-same result names others old new is a = subst (λ (all : List (List ℕ)). AsksUntil all result old new) is a

pub AsksPrefixOf-none : (names : List (List ℕ)) (known : Option KnownFiles) → AsksPrefixOf names known known
AsksPrefixOf-none names known = record { front = []; rest = names; whole = refl; asks = Asks-none known }

-- behind files that were asked for, and before some that weren't
pub AsksPrefixOf-among : (first more rest names : List (List ℕ)) (old middle new : Option KnownFiles) → first ++ (more ++ rest) ≡ names
    → Asks first old middle → AsksPrefixOf more middle new → AsksPrefixOf names old new
AsksPrefixOf-among first more rest names old middle new e a w = record {
  front = first ++ w.front;
  rest = w.rest ++ rest;
  whole = append_assoc first w.front (w.rest ++ rest)
      ∙ ap (λ (all : List (List ℕ)). first ++ all) (sym (append_assoc w.front w.rest rest) ∙ ap (λ (all : List (List ℕ)). all ++ rest) w.whole) ∙ e;
  asks = Asks-append first w.front old middle new a w.asks;
}

pub AsksUpTo-among : (name : List ℕ) (first more rest names : List (List ℕ)) (old middle new : Option KnownFiles) → first ++ (more ++ rest) ≡ names
    → Asks first old middle → AsksUpTo name more middle new → AsksUpTo name names old new
AsksUpTo-among name first more rest names old middle new e a w = record {
  earlier = first ++ w.earlier;
  later = w.later ++ rest;
  among = append_assoc first w.earlier (name ∷ (w.later ++ rest))
      ∙ ap (λ (all : List (List ℕ)). first ++ all) (sym (append_assoc w.earlier (name ∷ w.later) rest) ∙ ap (λ (all : List (List ℕ)). all ++ rest) w.among) ∙ e;
  asks = subst (λ (all : List (List ℕ)). Asks all old new) (sym (append_assoc first w.earlier (name ∷ [])))
      (Asks-append first (w.earlier ++ name ∷ []) old middle new a w.asks);
}

pub AsksOnErr-among : (error : NamedReadErr) (first more rest names : List (List ℕ)) (old middle new : Option KnownFiles)
    → first ++ (more ++ rest) ≡ names → Asks first old middle
    → AsksOnErr more error middle new → AsksOnErr names error old new
AsksOnErr-among (Fault name) first more rest names old middle new e a w = AsksUpTo-among name first more rest names old middle new e a w
AsksOnErr-among Memory first more rest names old middle new e a w = AsksPrefixOf-among first more rest names old middle new e a w

-- ---- in a loop

pub AsksAllBut-start : (names : List (List ℕ)) (known : Option KnownFiles) → AsksAllBut names names known known
AsksAllBut-start names known = record { done = []; whole = refl; asks = Asks-none known }

pub AsksAllBut-next : (rest more left names : List (List ℕ)) (old middle new : Option KnownFiles) → rest ≡ more ++ left
    → AsksAllBut rest names old middle → Asks more middle new → AsksAllBut left names old new
AsksAllBut-next rest more left names old middle new is w a = record {
  done = w.done ++ more;
  whole = append_assoc w.done more left ∙ ap (λ (all : List (List ℕ)). w.done ++ all) (sym is) ∙ w.whole;
  asks = Asks-append w.done more old middle new w.asks a;
}

pub Asks-from_all_but : (rest names : List (List ℕ)) (old new : Option KnownFiles) → rest ≡ [] → AsksAllBut rest names old new → Asks names old new
Asks-from_all_but rest names old new is w =
    subst (λ (all : List (List ℕ)). Asks all old new) (sym (append-nil w.done) ∙ ap (λ (all : List (List ℕ)). w.done ++ all) (sym is) ∙ w.whole) w.asks

-- an error behind those
pub AsksOnErr-from_all_but : (error : NamedReadErr) (rest more left names : List (List ℕ)) (old middle new : Option KnownFiles)
    → rest ≡ more ++ left → AsksAllBut rest names old middle
    → AsksOnErr more error middle new → AsksOnErr names error old new
AsksOnErr-from_all_but error rest more left names old middle new is w a =
    AsksOnErr-among error w.done more left names old middle new (ap (λ (all : List (List ℕ)). w.done ++ all) (sym is) ∙ w.whole) w.asks a

-- want of memory behind those
pub AsksPrefixOf-from_all_but : (rest names : List (List ℕ)) (old new : Option KnownFiles) → AsksAllBut rest names old new → AsksPrefixOf names old new
AsksPrefixOf-from_all_but rest names old new w = record { front = w.done; rest = rest; whole = w.whole; asks = w.asks }

-- what is to be asked for from a place of a list on
pub flat_map-at : {X : Type 0} (names : X → List (List ℕ)) (xs : List X) (i : ℕ) (x : X) → i < length xs → x ≡ get_or xs i x
    → flat_map names (drop i xs) ≡ names x ++ flat_map names (drop (i + 1) xs)
flat_map-at names xs i x less is =
    at_drop_more (flat_map names) xs i x less ∙ ap (λ y. names y ++ flat_map names (drop (i + 1) xs)) (sym is)
