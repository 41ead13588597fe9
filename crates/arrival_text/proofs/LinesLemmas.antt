-- The first line of a text and what follows it.
use Rattle.std.proofs.Common.{◌≡◌, ◌<◌, ◌≤◌, ◌-◌, ◌+◌, ℕ, zero, suc, List, [], ◌∷◌, length, take, drop, Bool, true, false, refl, ap, sym, ◌∙◌, arith, add-one, length-drop}
use Rattle.std.specs.Prelude.{◌==◌, ◌&&◌, slice_index, if◌then◌else◌}
use Rattle.std.proofs.lemmas.List.{take_all}
use Rattle.arrival_text.specs.Lines.{lines, on_first, line_feed, carriage_return}
use Rattle.arrival_text.specs.LineEnds.{without_return}

-- a line without a CR at its end, from the front on
shortened : List ℕ → List ℕ
shortened [] = []
shortened (b ∷ []) = if b == carriage_return then [] else b ∷ []
shortened (b ∷ c ∷ bs) = b ∷ shortened (c ∷ bs)

shortened-if : (t : Bool) (b : ℕ) (front whole : List ℕ) → b ∷ (if t then front else whole) ≡ (if t then b ∷ front else b ∷ whole)
shortened-if true b front whole = refl
shortened-if false b front whole = refl

-- the line cut at this place, where a CR stands there
abbrev cut_at : List ℕ → ℕ → List ℕ
cut_at line n = if slice_index line n == carriage_return then take n line else line

shortened-cut_at : (line : List ℕ) (n : ℕ) → length line ≡ suc n → shortened line ≡ cut_at line n
unfolding shortened
shortened-cut_at [] n e = absurd (omega arith)
shortened-cut_at (b ∷ []) zero e = refl
shortened-cut_at (b ∷ []) (suc n) e = absurd (omega arith)
shortened-cut_at (b ∷ c ∷ bs) zero e = absurd (omega arith)
shortened-cut_at (b ∷ c ∷ bs) (suc n) e =
    let shorter : length (c ∷ bs) ≡ suc n = omega arith in
    ap (λ line. b ∷ line) (shortened-cut_at (c ∷ bs) n shorter) ∙ shortened-if (slice_index (c ∷ bs) n == carriage_return) b (take n (c ∷ bs)) (c ∷ bs)

shortened-without_return : (line : List ℕ) → shortened line ≡ without_return line
unfolding shortened
shortened-without_return [] = refl
shortened-without_return (b ∷ bs) = shortened-cut_at (b ∷ bs) (length (b ∷ bs) - 1) (omega arith)

false_from_not : (t : Bool) → (t ≡ true → ⊥) → t ≡ false
false_from_not true h = absurd (h refl)
false_from_not false h = refl

-- no byte before this place is LF
abbrev NoEndBefore : List ℕ → ℕ → Type 0
NoEndBefore bytes at = (k : ℕ) → 0 ≤ k → k < at → ((slice_index bytes k == line_feed) ≡ true → ⊥)

lines-cons_end : (b : ℕ) (bs : List ℕ) → (b == line_feed) ≡ true → lines (b ∷ bs) ≡ [] ∷ lines bs
unfolding lines
lines-cons_end b bs e =
    ap (λ t. if t then [] ∷ lines bs else (if (b == carriage_return) && (slice_index bs 0 == line_feed) then lines bs else on_first b (lines bs))) e

lines-cons : (b : ℕ) (bs : List ℕ) → (b == line_feed) ≡ false
    → lines (b ∷ bs) ≡ (if (b == carriage_return) && (slice_index bs 0 == line_feed) then lines bs else on_first b (lines bs))
unfolding lines
lines-cons b bs e =
    ap (λ t. if t then [] ∷ lines bs else (if (b == carriage_return) && (slice_index bs 0 == line_feed) then lines bs else on_first b (lines bs))) e

before_end : (t : Bool) (b : ℕ) (rest : List (List ℕ)) → (if t && true then [] ∷ rest else on_first b ([] ∷ rest)) ≡ (if t then [] else b ∷ []) ∷ rest
before_end true b rest = refl
before_end false b rest = refl

within : (t : Bool) (all other : List (List ℕ)) → (if t && false then all else other) ≡ other
within true all other = refl
within false all other = refl

lines-shortened : (bytes : List ℕ) (at : ℕ) → at < length bytes → (slice_index bytes at == line_feed) ≡ true → NoEndBefore bytes at
    → lines bytes ≡ shortened (take at bytes) ∷ lines (drop (suc at) bytes)
unfolding shortened
lines-shortened [] at low e none = absurd (omega arith)
lines-shortened (b ∷ bs) zero low e none = lines-cons_end b bs e
lines-shortened (b ∷ bs) (suc zero) low e none =
    let first = false_from_not (b == line_feed) (none 0 (omega arith) (omega arith)) in
    let rest = lines-shortened bs 0 (omega arith) e (λ k a h. absurd (omega arith)) in
    lines-cons b bs first ∙ ap (λ t. if (b == carriage_return) && t then lines bs else on_first b (lines bs)) e
    ∙ ap (λ ls. if (b == carriage_return) && true then ls else on_first b ls) rest ∙ before_end (b == carriage_return) b (lines (drop 1 bs))
lines-shortened (b ∷ []) (suc (suc at)) low e none = absurd (omega arith)
lines-shortened (b ∷ c ∷ bs) (suc (suc at)) low e none =
    let first = false_from_not (b == line_feed) (none 0 (omega arith) (omega arith)) in
    let second = false_from_not (c == line_feed) (none 1 (omega arith) (omega arith)) in
    let rest = lines-shortened (c ∷ bs) (suc at) (omega arith) e (λ k a h. none (suc k) (omega arith) (omega arith)) in
    lines-cons b (c ∷ bs) first ∙ ap (λ t. if (b == carriage_return) && t then lines (c ∷ bs) else on_first b (lines (c ∷ bs))) second
    ∙ within (b == carriage_return) (lines (c ∷ bs)) (on_first b (lines (c ∷ bs))) ∙ ap (on_first b) rest

-- the text up to its first LF, and what follows
pub lines-first : (bytes line after : List ℕ) (at : ℕ) → at < length bytes → (slice_index bytes at == line_feed) ≡ true → NoEndBefore bytes at
    → line ≡ without_return (take at bytes) → after ≡ take (length bytes - (at + 1)) (drop (at + 1) bytes) → lines bytes ≡ line ∷ lines after
lines-first bytes line after at low e none is behind =
    let whole = take_all (length bytes - (at + 1)) (drop (at + 1) bytes) (omega (arith, length-drop (at + 1) bytes)) in
    lines-shortened bytes at low e none ∙ ap (λ l. l ∷ lines (drop (suc at) bytes)) (shortened-without_return (take at bytes) ∙ sym is)
    ∙ ap (λ n. line ∷ lines (drop n bytes)) (sym (add-one at)) ∙ ap (λ rest. line ∷ lines rest) (sym whole ∙ sym behind)

lines-nil : lines [] ≡ []
unfolding lines
lines-nil = refl

-- a text with no LF is its last line
pub lines-last : (bytes : List ℕ) → 0 < length bytes → NoEndBefore bytes (length bytes) → lines bytes ≡ bytes ∷ lines []
lines-last [] low none = absurd (omega arith)
lines-last (b ∷ []) low none =
    let first = false_from_not (b == line_feed) (none 0 (omega arith) (omega arith)) in
    lines-cons b [] first ∙ within (b == carriage_return) (lines []) (on_first b (lines [])) ∙ ap (on_first b) lines-nil ∙ ap (λ ls. (b ∷ []) ∷ ls) (sym lines-nil)
lines-last (b ∷ c ∷ bs) low none =
    let first = false_from_not (b == line_feed) (none 0 (omega arith) (omega arith)) in
    let second = false_from_not (c == line_feed) (none 1 (omega arith) (omega arith)) in
    lines-cons b (c ∷ bs) first ∙ ap (λ t. if (b == carriage_return) && t then lines (c ∷ bs) else on_first b (lines (c ∷ bs))) second
    ∙ within (b == carriage_return) (lines (c ∷ bs)) (on_first b (lines (c ∷ bs)))
    ∙ ap (on_first b) (lines-last (c ∷ bs) (omega arith) (λ k a h. none (suc k) (omega arith) (omega arith)))

-- an empty text has no lines
pub lines-none : (bytes : List ℕ) → length bytes ≡ 0 → lines bytes ≡ []
lines-none [] e = lines-nil
lines-none (b ∷ bs) e = absurd (omega arith)
