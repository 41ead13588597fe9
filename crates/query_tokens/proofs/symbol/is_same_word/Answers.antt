use Rattle.std.proofs.lemmas.Bool.Decides.{same_from_decides}
use Rattle.std.proofs.lemmas.Slice.Eq.{bytes_eq-Decides}
use Rattle.query_tokens.specs.Symbols.{is_same_word}
use Rattle.query_tokens.proofs.symbol.is_same_word.Goals as goal

pub returns : goal.returns
unfolding is_same_word
returns c = same_from_decides _ (is_same_word c.args.first.now c.args.second.now) c.eq_ignore_ascii_case.ensures.test (bytes_eq-Decides _ _)
