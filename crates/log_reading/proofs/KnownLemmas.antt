-- Files that were asked for hold what they held, and what is known of some files.
use Rattle.std.proofs.Common.{◌≡◌, ℕ, ◌+◌, ◌<◌, List, [], ◌∷◌, ◌++◌, length, take, get_or, Option, Some, None, subst, sym, ap, ◌∙◌}
use Rattle.std.proofs.lemmas.List.{take_more}
use Rattle.std.specs.Option.{IfSome}
use Rattle.outside.specs.KnownFiles.{KnownFiles, files_after_asking}
use Rattle.log_reading.specs.Asking.{Asks}

pub IfSome-before : (P : KnownFiles → Type 0) (names : List (List ℕ)) (old new : Option KnownFiles)
    → ((known : KnownFiles) (left : List ℕ) → P (files_after_asking names left known) → P known)
    → Asks names old new → IfSome new P → IfSome old P
IfSome-before P names None new same asks h = tt
IfSome-before P names (Some known) new same asks h =
    same known asks.left (subst (λ (files : Option KnownFiles). IfSome files P) asks.known h)

pub both : (files : Option KnownFiles) (P Q R : KnownFiles → Type 0) → ((known : KnownFiles) → P known → Q known → R known)
    → IfSome files P → IfSome files Q → IfSome files R
both None P Q R f p q = tt
both (Some known) P Q R f p q = f known p q

pub at_none : (files : Option KnownFiles) (P : KnownFiles → Type 0) → ((known : KnownFiles) → P known) → IfSome files P
at_none None P p = tt
at_none (Some known) P p = p known

-- the front of a list, with the element behind it
pub take_at : {X : Type 0} (xs : List X) (i : ℕ) (x : X) → i < length xs → x ≡ get_or xs i x → take (i + 1) xs ≡ take i xs ++ x ∷ []
take_at xs i x less is = take_more xs i x less ∙ ap (λ y. take i xs ++ y ∷ []) (sym is)
