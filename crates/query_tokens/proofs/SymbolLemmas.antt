-- A symbol is known by its number.
use denote.Enum.Bare.{tag_one, sameb, same_true, same_false}
use denote.Enum.Declared.{tag_of}
use Rattle.std.proofs.Common.{◌≡◌, ◌⊎◌, inl, inr, ℕ, Bool, true, false, refl, sym, ap, ◌∙◌, arith}
use Rattle.std.proofs.lemmas.Bool.Decides.{nat_tests}
use Rattle.std.specs.Prelude.{◌==◌}
use Rattle.query_tokens.specs.contracts.symbol.Symbol.{the_type}
use Rattle.query_tokens.specs.declared.symbol.Symbol.{Symbol}
use Rattle.query_tokens.specs.declared.symbol.Symbol.TheVariants.{EndOfText, With, As, Union, Select, Into, From, Where, Group, By, Having, Timestamp, Over, Inner, Left, Outer, Join, On, Partition, Or, And, Not, Between, In, Like, Is, Null, Case, When, Then, Else, End, Cast, TryCast, Distinct, Word, Bracketed, Stamp, Number, Text, Open, Close, Comma, Point, Semicolon, Star, Plus, Minus, Slash, Percent, Equal, Unequal, Less, LessEqual, Greater, GreaterEqual}
use Rattle.query_tokens.specs.Symbols.{symbol_number, is_symbol}

-- the number is the place among the variants
pub number-tag : (symbol : Symbol) → tag_of the_type symbol ≡ symbol_number symbol
number-tag EndOfText = refl
number-tag With = refl
number-tag As = refl
number-tag Union = refl
number-tag Select = refl
number-tag Into = refl
number-tag From = refl
number-tag Where = refl
number-tag Group = refl
number-tag By = refl
number-tag Having = refl
number-tag Timestamp = refl
number-tag Over = refl
number-tag Inner = refl
number-tag Left = refl
number-tag Outer = refl
number-tag Join = refl
number-tag On = refl
number-tag Partition = refl
number-tag Or = refl
number-tag And = refl
number-tag Not = refl
number-tag Between = refl
number-tag In = refl
number-tag Like = refl
number-tag Is = refl
number-tag Null = refl
number-tag Case = refl
number-tag When = refl
number-tag Then = refl
number-tag Else = refl
number-tag End = refl
number-tag Cast = refl
number-tag TryCast = refl
number-tag Distinct = refl
number-tag Word = refl
number-tag Bracketed = refl
number-tag Stamp = refl
number-tag Number = refl
number-tag Text = refl
number-tag Open = refl
number-tag Close = refl
number-tag Comma = refl
number-tag Point = refl
number-tag Semicolon = refl
number-tag Star = refl
number-tag Plus = refl
number-tag Minus = refl
number-tag Slash = refl
number-tag Percent = refl
number-tag Equal = refl
number-tag Unequal = refl
number-tag Less = refl
number-tag LessEqual = refl
number-tag Greater = refl
number-tag GreaterEqual = refl

pub equal_numbers : (m n : ℕ) → (m == n) ≡ true → m ≡ n
equal_numbers m n e = grind (arith, nat_tests)

pub same_number : (m n : ℕ) → m ≡ n → (m == n) ≡ true
same_number m n e = grind arith

pub is_symbol-same : (a b : Symbol) → is_symbol a b ≡ true → a ≡ b
is_symbol-same a b e = tag_one the_type tt a b (number-tag a ∙ equal_numbers (symbol_number a) (symbol_number b) e ∙ sym (number-tag b))

pub is_symbol-refl : (a b : Symbol) → a ≡ b → is_symbol a b ≡ true
is_symbol-refl a b e = same_number (symbol_number a) (symbol_number b) (ap symbol_number e)

pub is_symbol-other : (a b : Symbol) → (a ≡ b → ⊥) → is_symbol a b ≡ false
is_symbol-other a b h = by_cases (is_symbol a b) refl
  where
    by_cases : (t : Bool) → is_symbol a b ≡ t → t ≡ false
    by_cases true e = absurd (h (is_symbol-same a b e))
    by_cases false e = refl

pub decided : (a b : Symbol) → (a ≡ b) ⊎ (a ≡ b → ⊥)
decided a b = by_cases (is_symbol a b) refl
  where
    by_cases : (t : Bool) → is_symbol a b ≡ t → (a ≡ b) ⊎ (a ≡ b → ⊥)
    by_cases true e = inl (is_symbol-same a b e)
    by_cases false e = inr (λ same. let yes' = is_symbol-refl a b same in cc (yes', e))

-- what a comparison of two symbols answers
pub sameb-is_symbol : (a b : Symbol) → sameb the_type a b ≡ is_symbol a b
sameb-is_symbol a b = by_cases (sameb the_type a b) refl
  where
    by_cases : (t : Bool) → sameb the_type a b ≡ t → t ≡ is_symbol a b
    by_cases true e = sym (is_symbol-refl a b (same_true the_type tt a b e))
    by_cases false e = sym (is_symbol-other a b (same_false the_type a b e))
