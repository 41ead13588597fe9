-- A grammar and then the end of the text: what is read is all of the text, and each text is read or has a first token
-- that doesn't fit, and not both.
use Rattle.std.proofs.Common.{◌≡◌, ◌⊎◌, inl, inr, ℕ, List, [], ◌∷◌, ◌++◌, length, length-append, Bool, true, false, refl, ap, sym, ◌∙◌, subst, append_assoc, arith}
use Rattle.std.proofs.lemmas.List.{append-nil}
use Rattle.std.specs.Prelude.{◌==◌, ◌||◌, ◌&&◌, if◌then◌else◌, Ok, Err}
use Rattle.grammar_rules.specs.declared.stop.Stop.{Stop}
use Rattle.grammar_rules.specs.Lexemes.{Lexeme, among, disjoint, end_symbol, Ended}
use Rattle.grammar_rules.specs.Rules.{Grammar, token, both, ended, first_part}
use Rattle.grammar_rules.specs.Readers.{Reader, read_token, read_both, read_ended}
use Rattle.grammar_rules.specs.Laws.{Lawful, Under, StopsAt, Reads, Fits}
use Rattle.grammar_rules.proofs.Cuts.{apart_by, Behind, Before, cuts}
use Rattle.grammar_rules.proofs.RuleLaws.{Lawful-token, Lawful-both, Lawful-tree, closed_at}
use Rattle.grammar_rules.proofs.UnderLaws.{Under-same, Under-both, Under-tree}
use Rattle.grammar_rules.proofs.ReaderLaws.{Reads-both, Reads-tree}
use Rattle.grammar_rules.proofs.TokenLaws.{Reads-token}

-- the end stands last
ended_last : (xs ys : List Lexeme) (t : Lexeme) → t.symbol ≡ end_symbol → Ended (xs ++ t ∷ ys) → ys ≡ []
ended_last [] [] t e ended = refl
ended_last [] (y ∷ ys) t e ended = absurd (ended.0 e)
ended_last (x ∷ []) ys t e ended = ended_last [] ys t e ended.1
ended_last (x ∷ z ∷ xs) ys t e ended = ended_last (z ∷ xs) ys t e ended.1

end_is : (t : Lexeme) → among (end_symbol ∷ []) t.symbol ≡ true → t.symbol ≡ end_symbol
end_is t h = by_cases (end_symbol == t.symbol) refl h
  where
    by_cases : (b : Bool) → (end_symbol == t.symbol) ≡ b → (b || false) ≡ true → t.symbol ≡ end_symbol
    by_cases true e h = grind arith
    by_cases false e h = cc

-- the same tokens stand before the same rest
pub same_front : (used used' rest : List Lexeme) → used ++ rest ≡ used' ++ rest → used ≡ used'
same_front used used' rest e = by_cases (cuts used rest used' rest e)
  where
    nothing : (more : List Lexeme) → length rest ≡ length (more ++ rest) → more ≡ []
    nothing [] l = refl
    nothing (m ∷ more) l = absurd (omega (arith, length-append more rest))

    never : (next : Lexeme) (more : List Lexeme) → length rest ≡ length (next ∷ more ++ rest) → ⊥
    never next more l = omega (arith, length-append more rest)

    by_cases : Behind used rest used' rest ⊎ Before used rest used' rest → used ≡ used'
    by_cases (inl b) = b.left_is ∙ ap (λ (xs : List Lexeme). used' ++ xs) (nothing b.more (ap length b.ys_is)) ∙ append-nil used'
    by_cases (inr b) = absurd (never b.next b.more (ap length b.right_is))

module _ (A P : Type 0) (R U : Grammar A) (b c : List ℕ) (n : Bool) (read : Reader A) (fits : Fits A P R U b c n read) (apart : disjoint c (end_symbol ∷ []) ≡ true) where
  pub ended_laws : Lawful A (ended R) (b ++ (if n then (end_symbol ∷ []) else [])) [] (n && false)
  ended_laws =
      Lawful-tree (A × Lexeme) A first_part (both R (token (end_symbol ∷ []))) (b ++ (if n then (end_symbol ∷ []) else [])) [] (n && false)
      (Lawful-both A Lexeme R (token (end_symbol ∷ [])) b c (end_symbol ∷ []) [] n false fits.laws (Lawful-token (end_symbol ∷ [])) (apart_by c (end_symbol ∷ []) apart))

  pub ended_under : Under A (ended R) (ended U)
  ended_under =
      Under-tree (A × Lexeme) A first_part (both R (token (end_symbol ∷ []))) (both U (token (end_symbol ∷ [])))
      (Under-both A Lexeme R U (token (end_symbol ∷ [])) (token (end_symbol ∷ [])) b c (end_symbol ∷ []) [] n false fits.laws fits.wider_laws (Lawful-token (end_symbol ∷ [])) (Lawful-token (end_symbol ∷ []))
      (apart_by c (end_symbol ∷ []) apart) fits.under (Under-same Lexeme (token (end_symbol ∷ []))))

  module _ (differ : P) where
    ended_reads : Reads A (ended R) (ended U) [] (read_ended read)
    ended_reads =
        Reads-tree (A × Lexeme) A first_part (both R (token (end_symbol ∷ []))) (both U (token (end_symbol ∷ []))) [] (read_both read (read_token (end_symbol ∷ [])))
        (Reads-both A Lexeme R U (token (end_symbol ∷ [])) (token (end_symbol ∷ [])) b c (end_symbol ∷ []) [] n false fits.laws fits.wider_laws (Lawful-token (end_symbol ∷ [])) (Lawful-token (end_symbol ∷ []))
        (apart_by c (end_symbol ∷ []) apart) fits.under (Under-same Lexeme (token (end_symbol ∷ []))) read (read_token (end_symbol ∷ [])) (fits.reads differ) (Reads-token (end_symbol ∷ []) refl) fits.keeps)

    -- all tokens are read
    pub sound : (ts rest : List Lexeme) (a : A) → Ended ts → read_ended read ts ≡ Ok (a, rest) → (ended R).whole ts a
    sound ts rest a end e =
        let g = ended_reads.got ts rest a e in
        let last : Lexeme = g.whole.0.1 in
        let w = g.whole.1 in
        let split : ts ≡ w.0 ++ last ∷ rest =
        sym g.all ∙ ap (λ (xs : List Lexeme). xs ++ rest) (sym w.2 ∙ ap (λ (xs : List Lexeme). w.0 ++ xs) w.4.0) ∙ append_assoc w.0 (last ∷ []) rest in
        let none = ended_last w.0 rest last (end_is last w.4.1) (subst Ended split end) in
        let all : g.used ≡ ts = sym (append-nil g.used) ∙ ap (λ (xs : List Lexeme). g.used ++ xs) (sym none) ∙ g.all in
        subst (λ (xs : List Lexeme). (ended R).whole xs a) all g.whole

    pub complete : (ts : List Lexeme) (a : A) → (ended R).whole ts a → read_ended read ts ≡ Ok (a, [])
    complete ts a w = ap (read_ended read) (sym (append-nil ts)) ∙ ended_reads.complete ts [] a w (record { free = λ t more r h. cc })

    pub stops : (ts rest : List Lexeme) (stop : Stop) → Ended ts → read_ended read ts ≡ Err (stop, rest) → StopsAt (ended R).beginning (ended U).beginning ts stop rest
    stops ts rest stop end e = ended_reads.stopped ts rest stop end e

  -- a list of tokens that is whole has no token that doesn't fit
  pub none_unfit : (ts used more : List Lexeme) (t : Lexeme) (a : A) → (ended R).whole ts a → used ++ t ∷ more ≡ ts → ((ended R).beginning (used ++ t ∷ []) → ⊥) → ⊥
  none_unfit ts used more t a w e unfit =
      unfit (closed_at A (ended R) (b ++ (if n then (end_symbol ∷ []) else [])) [] (n && false) ended_laws used t more
      (subst (λ (xs : List Lexeme). (ended R).beginning xs) (sym e) (ended_laws.begun ts a w)))

  -- the first token that doesn't fit is one
  pub unfit_once : (ts used more used' more' : List Lexeme) (t t' : Lexeme) → used ++ t ∷ more ≡ ts → used' ++ t' ∷ more' ≡ ts → (ended R).beginning used → (ended R).beginning used'
      → ((ended R).beginning (used ++ t ∷ []) → ⊥) → ((ended R).beginning (used' ++ t' ∷ []) → ⊥) → (used ≡ used') × (t ≡ t')
  unfit_once ts used more used' more' t t' e e' fits_used fits_used' unfit unfit' = by_cases (cuts used (t ∷ more) used' (t' ∷ more') (e ∙ sym e'))
    where
      cut : (xs : List Lexeme) (u : Lexeme) (ys : List Lexeme) → (ended R).beginning (xs ++ u ∷ ys) → (ended R).beginning (xs ++ u ∷ [])
      cut xs u ys f = closed_at A (ended R) (b ++ (if n then (end_symbol ∷ []) else [])) [] (n && false) ended_laws xs u ys f

      behind : (others : List Lexeme) → used ≡ used' ++ others → t' ∷ more' ≡ others ++ t ∷ more → (used ≡ used') × (t ≡ t')
      behind [] l r = let same : t' ≡ t = cc in (l ∙ append-nil used', sym same)
      behind (m ∷ others) l r =
          let same : m ≡ t' = cc in
          absurd (unfit' (subst (λ (u : Lexeme). (ended R).beginning (used' ++ u ∷ [])) same (cut used' m others (subst (λ (xs : List Lexeme). (ended R).beginning xs) l fits_used))))

      by_cases : Behind used (t ∷ more) used' (t' ∷ more') ⊎ Before used (t ∷ more) used' (t' ∷ more') → (used ≡ used') × (t ≡ t')
      by_cases (inl c) = behind c.more c.left_is c.ys_is
      by_cases (inr c) =
          let right = c.right_is in
          let same : c.next ≡ t = cc (right) in
          absurd (unfit (subst (λ (u : Lexeme). (ended R).beginning (used ++ u ∷ [])) same (cut used c.next c.more (subst (λ (xs : List Lexeme). (ended R).beginning xs) c.xs_is fits_used'))))
