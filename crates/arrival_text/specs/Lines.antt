-- The lines of a file of texts: its bytes split at LF (docs/INPUTS, "Lines").
use Rattle.std.specs.Prelude.{ℕ, ◌==◌, ◌||◌, ◌&&◌, List, [], ◌∷◌, drop, slice_index, Bool, if◌then◌else◌}
use Rattle.std.specs.List.{list_all}

-- LF, CR, space and tab
abbrev pub line_feed : ℕ
line_feed = 10

abbrev pub carriage_return : ℕ
carriage_return = 13

abbrev pub space : ℕ
space = 32

abbrev pub tab : ℕ
tab = 9

-- the byte stands first in the first line
abbrev pub on_first : ℕ → List (List ℕ) → List (List ℕ)
on_first b [] = (b ∷ []) ∷ []
on_first b (line ∷ lines) = (b ∷ line) ∷ lines

-- the lines, each without the LF that ends it and a CR before that LF; the last needs no LF
unfoldable pub lines : List ℕ → List (List ℕ)
lines [] = []
lines (b ∷ bs) =
    if b == line_feed then [] ∷ lines bs
    else (if (b == carriage_return) && (slice_index bs 0 == line_feed) then lines bs
    else on_first b (lines bs))

-- a text without the mark EF BB BF that one in UTF-8 may begin with
abbrev pub without_mark : List ℕ → List ℕ
without_mark bytes =
    if (slice_index bytes 0 == 239) && (slice_index bytes 1 == 187) && (slice_index bytes 2 == 191)
    then drop 3 bytes else bytes

-- a space or a tab
abbrev pub is_blank : ℕ → Bool
is_blank b = (b == space) || (b == tab)

-- a line of spaces and tabs alone
abbrev pub is_line_blank : List ℕ → Bool
is_line_blank line = list_all is_blank line
