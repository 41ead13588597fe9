-- Which texts fit a pattern, by characters: % stands for any of them, _ for one, each other for itself.
use Rattle.std.specs.Prelude.{ℕ, Bool, true, false, ◌&&◌, ◌||◌, ◌==◌, if◌then◌else◌, List, [], ◌∷◌, Some, None}
use Rattle.std.specs.List.{list_any}
use Rattle.std.specs.Str.{chars, is_utf8}
use Prim.Native.Char.{code}
use Rattle.event_value.specs.declared.value.Value.{Value}
use Rattle.event_value.specs.declared.value.Value.TheVariants.{Text}
use Rattle.expr_eval.specs.Truths.{Truth}

-- what is left of a list behind each of its fronts
abbrev pub rests : List ℕ → List (List ℕ)
rests [] = [] ∷ []
rests (c ∷ cs) = (c ∷ cs) ∷ rests cs

abbrev pub is_empty : List ℕ → Bool
is_empty [] = true
is_empty _ = false

-- a character of a pattern other than % fits a character
abbrev pub is_fit : ℕ → ℕ → Bool
is_fit p c = (p == code "_") || (p == c)

-- a character of the pattern fits the first character, and what follows fits what follows
abbrev pub fits_first : ℕ → (List ℕ → Bool) → List ℕ → Bool
fits_first p more [] = false
fits_first p more (c ∷ cs) = is_fit p c && more cs

-- characters fit a pattern
unfoldable pub fits : List ℕ → List ℕ → Bool
fits [] cs = is_empty cs
fits (p ∷ ps) cs = if p == code "%" then list_any (fits ps) (rests cs) else fits_first p (fits ps) cs

-- a text fits a pattern; unknown for another value, and where one of both isn't UTF-8
unfoldable pub like : Value → List ℕ → Truth
like (Text t) pattern = if is_utf8 t && is_utf8 pattern then Some (fits (chars pattern) (chars t)) else None
like _ pattern = None
