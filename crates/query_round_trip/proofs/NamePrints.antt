-- How names, paths, types, numbers and texts are written.
use Rattle.std.proofs.Common.{◌≡◌, ◌⊎◌, inl, inr, ℕ, List, [], ◌∷◌, ◌++◌, Bool, true, false, refl, ap, sym, ◌∙◌, subst}
use Rattle.std.specs.Prelude.{Option, Some, None, if◌then◌else◌, ◌==◌, ◌||◌}
use Rattle.std.specs.Option.{option_map}
use Rattle.grammar_rules.specs.Lexemes.{Lexeme, among}
use Rattle.grammar_rules.specs.Rules.{token, nothing, choice, perhaps, option_of}
use Rattle.query_tokens.specs.declared.symbol.Symbol.TheVariants as symbol
use Rattle.query_tokens.specs.Symbols.{symbol_number}
use Rattle.query_tokens.proofs.SymbolLemmas.{equal_numbers}
use Rattle.query_tree.specs.declared.name.Name.{Name}
use Rattle.query_tree.specs.declared.name.Path.{Path}
use Rattle.query_tree.specs.declared.name.TypeName.{TypeName}
use Rattle.query_grammar.specs.Leaves.{name_text, name_of}
use Rattle.query_grammar.specs.Lists.{one, fixed, name_symbols, part_symbols, name, name_part, second_name, path, path_from, type_size, size_from, type_name, type_from}
use Rattle.query_print.specs.Words.{Word, Fixed, Named}
use Rattle.query_print.specs.Expressions.{path_words, second_name as second_words, type_words}
use Rattle.query_print.specs.Scripts.{optional}
use Rattle.query_print.specs.Unplaced.{bare_name, bare_path, bare_type}
use Rattle.query_round_trip.proofs.Alike.{word_by, word_other, word_of, words_of, Alike, AllAlike, alike_nil, is_closed, kept_among, is_point, Tidy, done, single, path as path_tidy}
use Rattle.query_round_trip.proofs.Printings.{Again, Printed, OneToken, printed_token, fixed_symbol, printed_tree, printed_line, printed_both, printed_perhaps, printed_opened, printed_fixed}

-- a set of two or more symbols
pub among_cons : (x : ℕ) (xs : List ℕ) (n : ℕ) → among (x ∷ xs) n ≡ true → (n ≡ x) ⊎ (among xs n ≡ true)
among_cons x xs n a = by_cases (x == n) refl a
  where
    by_cases : (t : Bool) → (x == n) ≡ t → (t || among xs n) ≡ true → (n ≡ x) ⊎ (among xs n ≡ true)
    by_cases true e h = inl (sym (equal_numbers x n e))
    by_cases false e h = inr h

-- ---- names

-- the word of a name
pub part_word : (t : Lexeme) → among part_symbols t.symbol ≡ true → word_of t ≡ Named (name_text t.bytes)
part_word t a = ap (λ (b : Bool). if b then Named (name_text t.bytes) else word_other t.symbol t.bytes) a

same_name : (n m : List ℕ) → Named n ≡ Named m → n ≡ m
same_name n m e = cc

name_in_part : (n : ℕ) → among name_symbols n ≡ true → among part_symbols n ≡ true
name_in_part n a = by_cases (among_cons (symbol_number symbol.Word) (one symbol.Bracketed) n a)
  where
    by_cases : (n ≡ symbol_number symbol.Word) ⊎ (among (one symbol.Bracketed) n ≡ true) → among part_symbols n ≡ true
    by_cases (inl e) = subst (λ (x : ℕ). among part_symbols x ≡ true) (sym e) refl
    by_cases (inr e) = subst (λ (x : ℕ). among part_symbols x ≡ true) (sym (fixed_symbol symbol.Bracketed n e)) refl

word_in_part : (n : ℕ) → among (one symbol.Word) n ≡ true → among part_symbols n ≡ true
word_in_part n a = subst (λ (x : ℕ). among part_symbols x ≡ true) (sym (fixed_symbol symbol.Word n a)) refl

abbrev pub lexeme_text : Lexeme → List ℕ
lexeme_text t = name_text t.bytes

abbrev pub lexeme_name : Lexeme → List Word
lexeme_name t = Named (name_text t.bytes) ∷ []

-- names of a set
module _ (set : List ℕ) (closed : is_closed set ≡ true) (within : (n : ℕ) → among set n ≡ true → among part_symbols n ≡ true) where
  pub same_text : (t u : Lexeme) → among set t.symbol ≡ true → Alike t u → name_text u.bytes ≡ name_text t.bytes
  same_text t u a l =
      same_name (name_text u.bytes) (name_text t.bytes)
      (sym (part_word u (within u.symbol (kept_among set t.symbol u.symbol closed l.symbol_kept a))) ∙ l.word_kept ∙ part_word t (within t.symbol a))

  names : OneToken (List ℕ) set lexeme_name lexeme_text
  names = record {
    closed = closed;
    word = λ t a. ap (λ (x : Word). x ∷ []) (part_word t (within t.symbol a));
    no_point = λ t a. ap is_point (part_word t (within t.symbol a));
    same = same_text;
  }

  pub printed_names : Printed Lexeme (List ℕ) (token set) lexeme_name lexeme_text
  printed_names = printed_token (List ℕ) set lexeme_name lexeme_text names

abbrev pub name_words : Name → List Word
name_words n = Named n.text ∷ []

abbrev pub name_with : List ℕ → Name
name_with text = record { place = 0; text = text }

name_kept : (t u : Lexeme) → name_text u.bytes ≡ name_text t.bytes → bare_name (name_of u) ≡ bare_name (name_of t)
name_kept t u e = ap name_with e

pub printed_name : Printed Name Name name name_words bare_name
unfolding name
printed_name = printed_tree name_of (λ t. refl) name_kept (printed_names name_symbols refl name_in_part)

-- ---- paths

-- what stands behind the first name of a path
abbrev pub Behind : List Lexeme → Option Name → Type 0
Behind others second =
    ((others ≡ []) × (second ≡ None))
    ⊎ ((p : Lexeme) × (m : Lexeme) × (others ≡ p ∷ m ∷ []) × (among (one symbol.Point) p.symbol ≡ true) × (among part_symbols m.symbol ≡ true) × (second ≡ Some (name_of m)))

behind_tokens : (right : List Lexeme) (x : Name ⊎ Unit {0}) → (choice second_name nothing).whole right x → Behind right (option_of x)
unfolding second_name name_part
behind_tokens right (inr n) h = inl (h, refl)
behind_tokens right (inl n) w =
    let point = w.1.3 in
    let part = w.1.4 in
    inr (
      w.0.0,
      part.0,
      sym w.1.2 ∙ ap (λ (l : List Lexeme). l ++ w.1.1) point.0 ∙ ap (λ (l : List Lexeme). w.0.0 ∷ l) part.1.0,
      point.1,
      part.1.1,
      ap Some (w.2 ∙ part.2),
    )

tokens_behind : (right : List Lexeme) (second : Option Name) → Behind right second → (perhaps second_name).whole right second
unfolding second_name name_part
tokens_behind right second (inl h) = (inr tt, h.0, h.1)
tokens_behind right second (inr (p, m, e, a, b, n)) =
    (inl (name_of m), ((p, name_of m), (p ∷ [], m ∷ [], sym e, (refl, a), (m, (refl, b), refl)), refl), n)

-- the tokens of a path
pub record PathTokens (ts : List Lexeme) (a : Path) : Type 0 where
  pub first : Lexeme
  pub others : List Lexeme
  pub second : Option Name
  pub all : ts ≡ first ∷ others
  pub is_name : among name_symbols first.symbol ≡ true
  pub behind : Behind others second
  pub tree : a ≡ path_from (name_of first, second)

path_tokens : (ts : List Lexeme) (a : Path) → path.whole ts a → PathTokens ts a
unfolding path name
path_tokens ts a w =
    let named = w.1.3 in
    let further = w.1.4 in
    record {
      first = named.0;
      others = w.1.1;
      second = w.0.1;
      all = sym w.1.2 ∙ ap (λ (l : List Lexeme). l ++ w.1.1) named.1.0;
      is_name = named.1.1;
      behind = subst (λ (o : Option Name). Behind w.1.1 o) (sym further.2) (behind_tokens w.1.1 further.0 further.1);
      tree = w.2 ∙ ap (λ (n : Name). path_from (n, w.0.1)) named.2;
    }

tokens_path : (t : Lexeme) (others : List Lexeme) (second : Option Name) → among name_symbols t.symbol ≡ true → Behind others second → path.whole (t ∷ others) (path_from (name_of t, second))
unfolding path name
tokens_path t others second a b = ((name_of t, second), (t ∷ [], others, refl, (t, (refl, a), refl), tokens_behind others second b), refl)

point_word : (p : Lexeme) → among (one symbol.Point) p.symbol ≡ true → word_of p ≡ Fixed symbol.Point
point_word p a = ap (λ (n : ℕ). word_by n p.bytes) (fixed_symbol symbol.Point p.symbol a)

path_spelt : (t : Lexeme) (others : List Lexeme) (second : Option Name) → among name_symbols t.symbol ≡ true → Behind others second
    → words_of (t ∷ others) ≡ path_words (path_from (name_of t, second))
path_spelt t others second a (inl h) =
    ap (λ (l : List Lexeme). word_of t ∷ words_of l) h.0 ∙ ap (λ (x : Word). x ∷ []) (part_word t (name_in_part t.symbol a))
    ∙ ap (λ (o : Option Name). Named (name_text t.bytes) ∷ second_words o) (sym h.1)
path_spelt t others second a (inr (p, m, e, q, b, n)) =
    ap (λ (l : List Lexeme). word_of t ∷ words_of l) e ∙ ap (λ (x : Word). x ∷ word_of p ∷ word_of m ∷ []) (part_word t (name_in_part t.symbol a))
    ∙ ap (λ (x : Word). Named (name_text t.bytes) ∷ x ∷ word_of m ∷ []) (point_word p q)
    ∙ ap (λ (x : Word). Named (name_text t.bytes) ∷ Fixed symbol.Point ∷ x ∷ []) (part_word m b)
    ∙ ap (λ (o : Option Name). Named (name_text t.bytes) ∷ second_words o) (sym n)

path_tidied : (first : List ℕ) (second : Option Name) → Tidy (Named first ∷ second_words second)
path_tidied first None = single refl done
path_tidied first (Some n) = path_tidy done

bare_second : (second : Option Name) (t u : Lexeme) (o : Option Name) → name_text u.bytes ≡ name_text t.bytes → option_map bare_name o ≡ option_map bare_name second
    → bare_path (path_from (name_of u, o)) ≡ bare_path (path_from (name_of t, second))
bare_second second t u o e f =
    ap (λ (text : List ℕ). record { place = 0; first = name_with text; second = option_map bare_name o }) e
    ∙ ap (λ (x : Option Name). record { place = 0; first = name_with (name_text t.bytes); second = x }) f

path_again : (t : Lexeme) (others us : List Lexeme) (second : Option Name) → among name_symbols t.symbol ≡ true → Behind others second → AllAlike (t ∷ others) us
    → Again Path Path path bare_path (path_from (name_of t, second)) us
path_again t others [] second a b l = absurd l
path_again t others (u ∷ us) second a (inl h) l =
    let none : us ≡ [] = alike_nil us (subst (λ (xs : List Lexeme). AllAlike xs us) h.0 l.1) in
    record {
      found = path_from (name_of u, None);
      whole = tokens_path u us None (kept_among name_symbols t.symbol u.symbol refl l.0.symbol_kept a) (inl (none, refl));
      same = bare_second second t u None (same_text name_symbols refl name_in_part t u a l.0) (ap (option_map bare_name) (sym h.1));
    }
path_again t others (u ∷ us) second a (inr (p, m, e, q, b, n)) l =
    behind us (subst (λ (xs : List Lexeme). AllAlike xs us) e l.1)
  where
    behind : (vs : List Lexeme) → AllAlike (p ∷ m ∷ []) vs → Again Path Path path bare_path (path_from (name_of t, second)) (u ∷ vs)
    behind [] k = absurd k
    behind (v ∷ []) k = absurd k.1
    behind (v ∷ w ∷ []) k = record {
      found = path_from (name_of u, Some (name_of w));
      whole = tokens_path u (v ∷ w ∷ []) (Some (name_of w)) (kept_among name_symbols t.symbol u.symbol refl l.0.symbol_kept a)
          (inr (v, w, refl, kept_among (one symbol.Point) p.symbol v.symbol refl k.0.symbol_kept q, kept_among part_symbols m.symbol w.symbol refl k.1.0.symbol_kept b, refl));
      same = bare_second second t u (Some (name_of w)) (same_text name_symbols refl name_in_part t u a l.0)
          (ap (λ (x : List ℕ). Some (name_with x)) (same_text part_symbols refl (λ x h. h) m w b k.1.0) ∙ ap (option_map bare_name) (sym n));
    }
    behind (v ∷ w ∷ x ∷ vs) k = absurd k.1.1

pub printed_path : Printed Path Path path path_words bare_path
printed_path = record {
  words = λ ts a w.
      let p = path_tokens ts a w in
      ap words_of p.all ∙ path_spelt p.first p.others p.second p.is_name p.behind ∙ ap path_words (sym p.tree);
  tidy = λ ts a w.
      let p = path_tokens ts a w in
      subst (λ (xs : List Lexeme). Tidy (words_of xs)) (sym p.all)
      (subst Tidy (sym (path_spelt p.first p.others p.second p.is_name p.behind)) (path_tidied (name_text p.first.bytes) p.second));
  again = λ ts us a w l.
      let p = path_tokens ts a w in
      subst (λ (x : Path). Again Path Path path bare_path x us) (sym p.tree)
      (path_again p.first p.others us p.second p.is_name p.behind (subst (λ (xs : List Lexeme). AllAlike xs us) p.all l));
}

-- ---- types

printed_word : Printed Lexeme (List ℕ) (fixed symbol.Word) lexeme_name lexeme_text
printed_word = printed_names (one symbol.Word) refl word_in_part

printed_open : Printed Lexeme (Unit {0}) (fixed symbol.Open) (λ t. Fixed symbol.Open ∷ []) (λ t. tt)
printed_open = printed_fixed symbol.Open (λ bytes. refl) refl refl

printed_close : Printed Lexeme (Unit {0}) (fixed symbol.Close) (λ t. Fixed symbol.Close ∷ []) (λ t. tt)
printed_close = printed_fixed symbol.Close (λ bytes. refl) refl refl

abbrev pub in_parentheses : Name → List Word
in_parentheses name = Fixed symbol.Open ∷ Named name.text ∷ Fixed symbol.Close ∷ []

printed_size : (left : ℕ) → Printed Name Name (type_size left) in_parentheses bare_name
unfolding type_size
printed_size left =
    printed_line (printed_opened left symbol.Open printed_open (printed_both printed_word printed_close)) size_from (λ v. name_with v.1.0) (λ a. refl) (λ a. refl)

type_spelt : (a : Lexeme × Option Name) → type_words (type_from a) ≡ lexeme_name a.0 ++ optional in_parentheses a.1
type_spelt (t, None) = refl
type_spelt (t, Some n) = refl

pub printed_type : (left : ℕ) → Printed TypeName TypeName (type_name left) type_words bare_type
unfolding type_name
printed_type left =
    printed_line (printed_both printed_word (printed_perhaps (printed_size left))) type_from (λ v. record { place = 0; word = name_with v.0; size = v.1 }) type_spelt (λ a. refl)
