-- Readers: a tree is read off the front of a list of tokens and the rest is left, or reading stops at a token.
use Rattle.std.proofs.Common.{inl, inr}
use Rattle.std.specs.Prelude.{◌≡◌, ◌⊎◌, ◌+◌, nat_le, ℕ, zero, suc, List, [], ◌∷◌, length, drop, Bool, true, false, if◌then◌else◌, Option, Some, None, Result, Ok, Err}
use Rattle.grammar_rules.specs.declared.stop.Stop.{Stop}
use Rattle.grammar_rules.specs.declared.stop.Stop.TheVariants.{Expected, Deep, Memory}
use Rattle.grammar_rules.specs.Lexemes.{Lexeme, begins_with, first_of, first_place, end_symbol}
use Rattle.grammar_rules.specs.Rules.{cons_of, first_part}

-- what was read with the tokens that are left, or why reading stops with the tokens from there on
abbrev pub Reading : Type 0 → Type 0
Reading A = Result (A × List Lexeme) (Stop × List Lexeme)

abbrev pub Reader : Type 0 → Type 0
Reader A = List Lexeme → Reading A

-- another tree
abbrev pub mapped : {A B : Type 0} → (A → B) → Reading A → Reading B
mapped f (Ok read) = Ok (f read.0, read.1)
mapped f (Err stop) = Err stop

-- one token with a symbol of the set
abbrev pub read_token : List ℕ → Reader Lexeme
read_token set ts = if begins_with set ts then Ok (first_of ts, drop 1 ts) else Err (Expected, ts)

abbrev pub read_nothing : Reader (Unit {0})
read_nothing ts = Ok (tt, ts)

-- one reader and then another
abbrev pub paired : {A B : Type 0} → A → Reading B → Reading (A × B)
paired a (Ok read) = Ok ((a, read.0), read.1)
paired a (Err stop) = Err stop

abbrev pub then_read : {A B : Type 0} → Reading A → Reader B → Reading (A × B)
then_read (Ok read) second = paired read.0 (second read.1)
then_read (Err stop) second = Err stop

abbrev pub read_both : {A B : Type 0} → Reader A → Reader B → Reader (A × B)
read_both first second ts = then_read (first ts) second

abbrev pub read_tree : {A B : Type 0} → (A → B) → Reader A → Reader B
read_tree f read ts = mapped f (read ts)

abbrev pub with_place : {A : Type 0} → ℕ → A → ℕ × A
with_place place a = (place, a)

abbrev pub read_placed : {A : Type 0} → Reader A → Reader (ℕ × A)
read_placed read ts = mapped (with_place (first_place ts)) (read ts)

-- the first reader where its symbols begin the tokens, and else the second
abbrev pub to_left : {A B : Type 0} → A → A ⊎ B
to_left a = inl a

abbrev pub to_right : {A B : Type 0} → B → A ⊎ B
to_right b = inr b

abbrev pub read_choice : {A B : Type 0} → List ℕ → Reader A → Reader B → Reader (A ⊎ B)
read_choice set first second ts = if begins_with set ts then mapped to_left (first ts) else mapped to_right (second ts)

-- the first reader where its symbols begin the tokens, and else the second, of one type of tree
abbrev pub read_or_else : {A : Type 0} → List ℕ → Reader A → Reader A → Reader A
read_or_else set first second ts = if begins_with set ts then first ts else second ts

abbrev pub to_some : {A : Type 0} → A → Option A
to_some a = Some a

-- the reader where its symbols begin the tokens
abbrev pub read_perhaps : {A : Type 0} → List ℕ → Reader A → Reader (Option A)
read_perhaps set read ts = if begins_with set ts then mapped to_some (read ts) else Ok (None, ts)

-- whether a token with a symbol of the set is there
abbrev pub read_flag : List ℕ → Reader Bool
read_flag set ts = if begins_with set ts then Ok (true, drop 1 ts) else Ok (false, ts)

-- a reader at most so many times, as long as its symbols begin the tokens
abbrev pub read_times : {A : Type 0} → ℕ → List ℕ → Reader A → Reader (List A)
read_times zero set read ts = Ok ([], ts)
read_times (suc n) set read ts = if begins_with set ts then mapped cons_of (then_read (read ts) (read_times n set read)) else Ok ([], ts)

abbrev pub read_repeated : {A : Type 0} → List ℕ → Reader A → Reader (List A)
read_repeated set read ts = read_times (length ts) set read ts

-- a token that opens, where something may still be opened
abbrev pub read_open : ℕ → List ℕ → Reader Lexeme
read_open zero set ts = if begins_with set ts then Err (Deep, ts) else Err (Expected, ts)
read_open (suc left) set ts = read_token set ts

abbrev pub read_opened : {A : Type 0} → ℕ → List ℕ → Reader A → Reader (Lexeme × A)
read_opened left set inner = read_both (read_open left set) inner

-- what was read has at most so many tokens, and reading stops at the first one behind them at the latest
abbrev pub within_by : {A : Type 0} → ℕ → List Lexeme → Reading A → Reading A
within_by most ts (Ok read) = if nat_le (length ts) (length read.1 + most) then Ok read else Err (Deep, drop most ts)
within_by most ts (Err stop) = if nat_le (length ts) (length stop.1 + most) then Err stop else Err (Deep, drop most ts)

abbrev pub read_within : {A : Type 0} → ℕ → Reader A → Reader A
read_within most read ts = within_by most ts (read ts)

-- a reader and then the end of the text
abbrev pub read_ended : {A : Type 0} → Reader A → Reader A
read_ended read = read_tree first_part (read_both read (read_token (end_symbol ∷ [])))

-- a call of the code stops as the reader does, with the tokens that are left, or for want of memory
abbrev pub IsStop : {A : Type 0} → Reading A → List Lexeme → Stop → Type 0
IsStop due rest stop = (stop ≡ Memory) ⊎ (due ≡ Err (stop, rest))
