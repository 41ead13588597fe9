-- A loop over statements, each with the semicolon before it.
use Rattle.std.proofs.Common.{◌≡◌, ℕ, List, [], ◌∷◌, ◌++◌, Bool, true, false, refl, ap, sym, ◌∙◌, Option}
use Rattle.std.specs.Prelude.{is_some, Result, Ok, Err}
use Rattle.grammar_rules.specs.declared.stop.Stop.{Stop}
use Rattle.grammar_rules.specs.Lexemes.{Lexeme, begins_with}
use Rattle.grammar_rules.specs.Readers.{Reading, mapped, paired, with_place, IsStop}
use Rattle.grammar_rules.proofs.Turns.{joined, joined-nil, turn_on, turn_stops, turns_end}
use Rattle.query_tokens.specs.declared.symbol.Symbol.TheVariants as symbol
use Rattle.query_tree.specs.declared.script.MoreStmt.{MoreStmt}
use Rattle.query_tree.specs.declared.script.Script.{Script}
use Rattle.query_tree.specs.declared.script.With.{With}
use Rattle.query_grammar.specs.Lists.{one}
use Rattle.query_grammar.specs.StatementGrammar.{Limits, Closed, stmt_behind, more_stmts, last_semicolon, stmts_behind, script_from}
use Rattle.query_grammar.specs.Reading.{read_closed, read_closeds}
use Rattle.query_grammar.proofs.Takes.{closed_takes}

more_stmts-snoc : (front : List Closed) (before : Option ℕ) (next : Closed) → more_stmts before (front ++ next ∷ []) ≡ more_stmts before front ++ stmt_behind (last_semicolon before front) next.0 ∷ []
more_stmts-snoc [] before next = refl
more_stmts-snoc (first ∷ front) before next = ap (λ (xs : List MoreStmt). stmt_behind before first.0 ∷ xs) (more_stmts-snoc front first.1 next)

last_semicolon-snoc : (front : List Closed) (before : Option ℕ) (next : Closed) → last_semicolon before (front ++ next ∷ []) ≡ next.1
last_semicolon-snoc [] before next = refl
last_semicolon-snoc (first ∷ front) before next = last_semicolon-snoc front first.1 next

-- what was read so far, as these statements, and what is still read are all
pub record SoFar (l : Limits) (before : Option ℕ) (more : List MoreStmt) (last : Option ℕ) (left : List Lexeme) (whole : Reading (List Closed)) : Type 0 where
  pub front : List Closed
  pub more_is : more ≡ more_stmts before front
  pub last_is : last ≡ last_semicolon before front
  pub all : joined front (read_closeds l left) ≡ whole

pub nothing_yet : (l : Limits) (before : Option ℕ) (left : List Lexeme) → SoFar l before [] before left (read_closeds l left)
nothing_yet l before left = record { front = []; more_is = refl; last_is = refl; all = joined-nil (read_closeds l left) }

pub one_more : (l : Limits) (before : Option ℕ) (more next : List MoreStmt) (last later : Option ℕ) (left after : List Lexeme) (closed : Closed) (whole : Reading (List Closed))
    → begins_with (one symbol.Select) left ≡ true → read_closed l left ≡ Ok (closed, after) → next ≡ more ++ stmt_behind last closed.0 ∷ [] → later ≡ closed.1
    → SoFar l before more last left whole → SoFar l before next later after whole
one_more l before more next last later left after closed whole h e n k s = record {
  front = s.front ++ closed ∷ [];
  more_is =
      n ∙ ap (λ (xs : List MoreStmt). xs ++ stmt_behind last closed.0 ∷ []) s.more_is
      ∙ ap (λ (o : Option ℕ). more_stmts before s.front ++ stmt_behind o closed.0 ∷ []) s.last_is
      ∙ sym (more_stmts-snoc s.front before closed);
  last_is = k ∙ sym (last_semicolon-snoc s.front before closed);
  all = turn_on Closed (one symbol.Select) (read_closed l) refl (closed_takes l) s.front (s.front ++ closed ∷ []) left after closed whole h e refl s.all;
}

pub stops_so_far : (l : Limits) (before : Option ℕ) (more : List MoreStmt) (last : Option ℕ) (left after : List Lexeme) (stop : Stop) (whole : Reading (List Closed))
    → begins_with (one symbol.Select) left ≡ true → IsStop (read_closed l left) after stop → SoFar l before more last left whole → IsStop whole after stop
stops_so_far l before more last left after stop whole h e s =
    turn_stops Closed (one symbol.Select) (read_closed l) refl (closed_takes l) s.front left after stop whole h e s.all

pub no_more : (l : Limits) (before : Option ℕ) (more : List MoreStmt) (last : Option ℕ) (left : List Lexeme) (whole : Reading (List Closed))
    → begins_with (one symbol.Select) left ≡ false → SoFar l before more last left whole → mapped (stmts_behind before) whole ≡ Ok ((more, last), left)
no_more l before more last left whole h s =
    ap (mapped (stmts_behind before)) (turns_end Closed (one symbol.Select) (read_closed l) refl (closed_takes l) s.front left whole h s.all)
    ∙ ap (λ (xs : List MoreStmt). let both : (List MoreStmt × Option ℕ) × List Lexeme = ((xs, last_semicolon before s.front), left) in Ok both) (sym s.more_is)
    ∙ ap (λ (o : Option ℕ). let both : (List MoreStmt × Option ℕ) × List Lexeme = ((more, o), left) in Ok both) (sym s.last_is)

-- a whole script from what was read of its statements
pub script_ok : (place : ℕ) (defs : Option With) (closed : Closed) (read : Reading (List Closed)) (more : List MoreStmt) (last : Option ℕ) (rest : List Lexeme)
    → mapped (stmts_behind closed.1) read ≡ Ok ((more, last), rest)
    → mapped script_from (mapped (with_place place) (paired defs (paired closed read))) ≡ Ok (record { place = place; with = defs; first = closed.0; more = more; semicolon = is_some last }, rest)
script_ok place defs closed (Ok (others, end)) more last rest e =
    let Read : Type 0 = (List MoreStmt × Option ℕ) × List Lexeme in
    let found : Read = ((more_stmts closed.1 others, last_semicolon closed.1 others), end) in
    let wanted : Read = ((more, last), rest) in
    let same : found ≡ wanted = cc in
    ap (λ (p : Read). let made : Script × List Lexeme = (record { place = place; with = defs; first = closed.0; more = p.0.0; semicolon = is_some p.0.1 }, p.1) in Ok made) same
script_ok place defs closed (Err stop) more last rest e = absurd (cc (e))
