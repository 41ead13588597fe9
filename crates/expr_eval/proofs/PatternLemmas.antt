-- The rows of a pattern say which rests of a text fit.
use Rattle.std.proofs.Common.{◌≡◌, ℕ, Bool, true, false, ◌&&◌, ◌||◌, ◌==◌, cond, List, [], ◌∷◌, ◌++◌, map, reverse, arith, refl, ap, sym, ◌∙◌}
use Prim.Native.Char.{code}
use Rattle.std.proofs.lemmas.Grind.{common_steps}
use Rattle.std.proofs.lemmas.List.{reverse-reverse}
use Rattle.std.specs.List.{list_any}
use Rattle.expr_eval.specs.Patterns.{rests, fits, fits_first, is_fit, is_empty}
use Rattle.expr_eval.specs.Rows.{first_bit, bits_behind, last_bit, empty_fits, longer_fits, bits_from, row_before, row_behind, no_bits}

-- the characters of the second list, each in turn put in front of the first
abbrev onto : List ℕ → List ℕ → List ℕ
onto grown [] = grown
onto grown (c ∷ cs) = onto (c ∷ grown) cs

-- the lists that grow by each character in turn in front
abbrev growths : List ℕ → List ℕ → List (List ℕ)
growths grown [] = []
growths grown (c ∷ cs) = (c ∷ grown) ∷ growths (c ∷ grown) cs

-- the row of a pattern
abbrev row : List ℕ → List ℕ → List Bool
row ps cs = fits ps [] ∷ map (fits ps) (growths [] cs)

empty_step : (p : ℕ) (ps : List ℕ) → empty_fits p (fits ps []) ≡ fits (p ∷ ps) []
unfolding fits
empty_step p ps = cases (p == code "%")
  where
    cases : (b : Bool) → (b && fits ps []) ≡ cond b (fits ps [] || false) false
    cases true = or_false (fits ps [])
      where
        or_false : (b : Bool) → b ≡ (b || false)
        or_false true = refl
        or_false false = refl
    cases false = refl

longer_step : (p c : ℕ) (ps grown : List ℕ) → longer_fits p (fits (p ∷ ps) grown) (fits ps grown) c (fits ps (c ∷ grown)) ≡ fits (p ∷ ps) (c ∷ grown)
unfolding fits
longer_step p c ps grown = cases (p == code "%")
  where
    cases : (b : Bool) → cond b (fits ps (c ∷ grown) || cond b (list_any (fits ps) (rests grown)) (fits_first p (fits ps) grown)) (is_fit p c && fits ps grown) ≡ cond b (fits ps (c ∷ grown) || list_any (fits ps) (rests grown)) (is_fit p c && fits ps grown)
    cases true = refl
    cases false = refl

bits_are : (p : ℕ) (ps grown cs : List ℕ)
    → bits_from p (fits (p ∷ ps) grown) (fits ps grown) cs (map (fits ps) (growths grown cs)) ≡ map (fits (p ∷ ps)) (growths grown cs)
bits_are p ps grown [] = refl
bits_are p ps grown (c ∷ cs) =
    let here = longer_step p c ps grown in
    let more = bits_are p ps (c ∷ grown) cs in
    rw here (ap (λ (bs : List Bool). fits (p ∷ ps) (c ∷ grown) ∷ bs) more)

row_step : (p : ℕ) (ps cs : List ℕ) → row_before p cs (row ps cs) ≡ row (p ∷ ps) cs
unfolding row_before
row_step p ps cs = rw (empty_step p ps) (ap (λ (bs : List Bool). fits (p ∷ ps) [] ∷ bs) (bits_are p ps [] cs))

rows_are : (cs ps more : List ℕ) → row_behind cs (row ps cs) more ≡ row (onto ps more) cs
rows_are cs ps [] = refl
rows_are cs ps (p ∷ more) = rw (row_step p ps cs) (rows_are cs (p ∷ ps) more)

no_bits_are : (grown cs : List ℕ) → no_bits cs ≡ map (fits []) (growths grown cs)
unfolding fits
no_bits_are grown [] = refl
no_bits_are grown (c ∷ cs) = ap (λ (bs : List Bool). false ∷ bs) (no_bits_are (c ∷ grown) cs)

first_row : (cs : List ℕ) → (true ∷ no_bits cs) ≡ row [] cs
unfolding fits
first_row cs = ap (λ (bs : List Bool). true ∷ bs) (no_bits_are [] cs)

last_is : (ps grown cs : List ℕ) → last_bit (fits ps grown) (map (fits ps) (growths grown cs)) ≡ fits ps (onto grown cs)
last_is ps grown [] = refl
last_is ps grown (c ∷ cs) = last_is ps (c ∷ grown) cs

onto_is : (grown cs : List ℕ) → onto grown cs ≡ reverse cs ++ grown
onto_is grown [] = grind (arith, common_steps)
onto_is grown (c ∷ cs) = let more = onto_is (c ∷ grown) cs in grind (arith, common_steps)

onto_reverse : (cs : List ℕ) → onto [] (reverse cs) ≡ cs
onto_reverse cs = let whole = onto_is [] (reverse cs) in let twice = reverse-reverse cs in grind (arith, common_steps)

-- the last bit of a pattern's row, both lists turned round
pub last_bit_fits : (pattern text : List ℕ)
    → last_bit false (row_behind (reverse text) (true ∷ no_bits (reverse text)) (reverse pattern)) ≡ fits pattern text
last_bit_fits pattern text =
    ap (λ (bits : List Bool). last_bit false (row_behind (reverse text) bits (reverse pattern))) (first_row (reverse text))
    ∙ ap (λ (bits : List Bool). last_bit false bits) (rows_are (reverse text) [] (reverse pattern))
    ∙ last_is (onto [] (reverse pattern)) [] (reverse text)
    ∙ ap (λ (ps : List ℕ). fits ps (onto [] (reverse text))) (onto_reverse pattern)
    ∙ ap (λ (cs : List ℕ). fits pattern cs) (onto_reverse text)
