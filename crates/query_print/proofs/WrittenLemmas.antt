-- Words that are written one part after the other.
use Rattle.std.proofs.Common.{◌≡◌, List, [], ◌∷◌, ◌++◌, refl, ◌∙◌}
use Rattle.query_tokens.specs.declared.symbol.Symbol.{Symbol}
use Rattle.query_print.specs.Words.{Word, Fixed, Written, with_word, with_words}
use Rattle.query_print.specs.Expressions.{all_words, each_behind}
use Rattle.query_print.specs.Writing.{all_written, each_written}

-- the words of two parts are written one after the other
pub with_words_append : (w : Written) (xs ys : List Word) → with_words w (xs ++ ys) ≡ with_words (with_words w xs) ys
with_words_append w [] ys = refl
with_words_append w (x ∷ xs) ys = with_words_append (with_word w x) xs ys

pub all_words_written : (parts : List (List Word)) (w : Written) → with_words w (all_words parts) ≡ all_written parts w
unfolding all_written
all_words_written [] w = refl
all_words_written (words ∷ others) w = with_words_append w words (all_words others) ∙ all_words_written others (with_words w words)

pub each_behind_written : (s : Symbol) (parts : List (List Word)) (w : Written) → with_words w (each_behind s parts) ≡ each_written s parts w
unfolding each_written
each_behind_written s [] w = refl
each_behind_written s (words ∷ others) w =
    with_words_append (with_word w (Fixed s)) words (each_behind s others) ∙ each_behind_written s others (with_words (with_word w (Fixed s)) words)
