-- Lists of parts as they are written one after the other, for private clauses.
use Rattle.std.specs.Prelude.{List, [], ◌∷◌}
use Rattle.query_tokens.specs.declared.symbol.Symbol.{Symbol}
use Rattle.query_print.specs.Words.{Word, Fixed, Written, with_word, with_words}

-- the words of further parts
unfoldable pub all_written : List (List Word) → Written → Written
all_written [] w = w
all_written (words ∷ others) w = all_written others (with_words w words)

-- the words of further parts, each behind a word
unfoldable pub each_written : Symbol → List (List Word) → Written → Written
each_written s [] w = w
each_written s (words ∷ others) w = each_written s others (with_words (with_word w (Fixed s)) words)
