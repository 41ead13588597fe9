-- What the readers inside an opening are.
use Rattle.std.proofs.Common.{◌≡◌, ◌<◌, ◌-◌, ℕ, zero, suc, List, ap, arith}
use Rattle.grammar_rules.specs.Lexemes.{Lexeme}
use Rattle.query_grammar.specs.Reading.{read_expr, read_not, read_unary, inner_readers, readers}

same : (k : ℕ) → k ≡ suc k - 1
same k = omega arith

pub inner_expr : (left : ℕ) (ts : List Lexeme) → 0 < left → (readers left).expr ts ≡ read_expr (left - 1) ts
unfolding inner_readers
inner_expr zero ts p = absurd (omega arith)
inner_expr (suc k) ts p = ap (λ (n : ℕ). read_expr n ts) (same k)

pub inner_not : (left : ℕ) (ts : List Lexeme) → 0 < left → (readers left).not ts ≡ read_not (readers (left - 1)) ts
unfolding inner_readers
inner_not zero ts p = absurd (omega arith)
inner_not (suc k) ts p = ap (λ (n : ℕ). read_not (readers n) ts) (same k)

pub inner_unary : (left : ℕ) (ts : List Lexeme) → 0 < left → (readers left).unary ts ≡ read_unary (readers (left - 1)) ts
unfolding inner_readers
inner_unary zero ts p = absurd (omega arith)
inner_unary (suc k) ts p = ap (λ (n : ℕ). read_unary (readers n) ts) (same k)
