-- Which rests of a text fit a pattern, the shortest first, for private clauses: a row of bits per rest of the pattern.
use Rattle.std.specs.Prelude.{ℕ, Bool, true, false, ◌&&◌, ◌||◌, ◌==◌, if◌then◌else◌, List, [], ◌∷◌}
use Prim.Native.Char.{code}
use Rattle.expr_eval.specs.Patterns.{is_fit}

abbrev pub first_bit : List Bool → Bool
first_bit [] = false
first_bit (b ∷ bs) = b

abbrev pub bits_behind : List Bool → List Bool
bits_behind [] = []
bits_behind (b ∷ bs) = bs

abbrev pub last_bit : Bool → List Bool → Bool
last_bit b [] = b
last_bit b (c ∷ cs) = last_bit c cs

-- the empty rest fits a character and what follows it, by whether it fits what follows
abbrev pub empty_fits : ℕ → Bool → Bool
empty_fits p before = (p == code "%") && before

-- a rest with one more character c in front fits a character p and what follows it: by whether the rest fits both,
-- whether it fits what follows, and whether the longer one fits what follows
abbrev pub longer_fits : ℕ → Bool → Bool → ℕ → Bool → Bool
longer_fits p both before c next = if p == code "%" then next || both else is_fit p c && before

-- the bits of the longer rests
abbrev pub bits_from : ℕ → Bool → Bool → List ℕ → List Bool → List Bool
bits_from p both before [] after = []
bits_from p both before (c ∷ cs) after =
    longer_fits p both before c (first_bit after)
    ∷ bits_from p (longer_fits p both before c (first_bit after)) (first_bit after) cs (bits_behind after)

-- the row of a pattern with one more character in front, of a text whose characters are given from its end
unfoldable pub row_before : ℕ → List ℕ → List Bool → List Bool
row_before p cs after =
    empty_fits p (first_bit after)
    ∷ bits_from p (empty_fits p (first_bit after)) (first_bit after) cs (bits_behind after)

-- the row of a pattern with more characters in front, the nearest first
abbrev pub row_behind : List ℕ → List Bool → List ℕ → List Bool
row_behind cs row [] = row
row_behind cs row (p ∷ ps) = row_behind cs (row_before p cs row) ps

-- for each character a rest that isn't empty
abbrev pub no_bits : List ℕ → List Bool
no_bits [] = []
no_bits (c ∷ cs) = false ∷ no_bits cs
