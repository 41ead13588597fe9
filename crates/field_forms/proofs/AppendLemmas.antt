-- Bytes that are added one part after the other.
use Rattle.std.proofs.Common.{◌≡◌, ℕ, List, ◌++◌, ap, ◌∙◌}
use Rattle.std.proofs.lemmas.List.{append_assoc}

pub added-2 : (o a b m : List ℕ) → m ≡ o ++ a → m ++ b ≡ o ++ (a ++ b)
added-2 o a b m e = ap (λ l. l ++ b) e ∙ append_assoc o a b

pub added-3 : (o a b c m n : List ℕ) → m ≡ o ++ a → n ≡ m ++ b → n ++ c ≡ o ++ (a ++ (b ++ c))
added-3 o a b c m n e f = added-2 m b c n f ∙ added-2 o a (b ++ c) m e

pub added-4 : (o a b c d m n p : List ℕ) → m ≡ o ++ a → n ≡ m ++ b → p ≡ n ++ c → p ++ d ≡ o ++ (a ++ (b ++ (c ++ d)))
added-4 o a b c d m n p e f g = added-3 m b c d n p f g ∙ added-2 o a (b ++ (c ++ d)) m e

pub added-5 : (o a b c d k m n p q : List ℕ) → m ≡ o ++ a → n ≡ m ++ b → p ≡ n ++ c → q ≡ p ++ d → q ++ k ≡ o ++ (a ++ (b ++ (c ++ (d ++ k))))
added-5 o a b c d k m n p q e f g h = added-4 m b c d k n p q f g h ∙ added-2 o a (b ++ (c ++ (d ++ k))) m e

pub added-6 : (o a b c d k l m n p q r : List ℕ) → m ≡ o ++ a → n ≡ m ++ b → p ≡ n ++ c → q ≡ p ++ d → r ≡ q ++ k → r ++ l ≡ o ++ (a ++ (b ++ (c ++ (d ++ (k ++ l)))))
added-6 o a b c d k l m n p q r e f g h j = added-5 m b c d k l n p q r f g h j ∙ added-2 o a (b ++ (c ++ (d ++ (k ++ l)))) m e
