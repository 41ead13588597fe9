-- The marks of substreams, as they follow from a lane's entries.
use Rattle.std.proofs.Common.{◌≡◌, ℕ, ◌-◌, max, Bool, true, false, cond, List, [], ◌∷◌, ◌++◌, map}
use Rattle.std.proofs.Common.{Option, Some, None, refl, ap, sym, ◌∙◌, arith}
use Rattle.std.specs.Prelude.{unwrap_or, ◌||◌}
use Rattle.std.specs.List.{list_any}
use Rattle.std.proofs.lemmas.List.Folds.{list_any-append}
use Rattle.event_value.specs.declared.record.Rule.{Rule}
use Rattle.event_value.specs.declared.value.Value.{Value}
use Rattle.time_policy.specs.Entry.{Entry, Good, Bad, Mark}
use Rattle.time_policy.specs.Steps.{MarksAfterVerdict}
use Rattle.time_policy.specs.SubstreamMarks.{Marks, mark_in}
use Rattle.time_policy.specs.Substreams.{is_same_substream}
use Rattle.time_policy.specs.Verdicts.{History, entry_mark, greatest, history, is_kept_of, kept_mark, kept_mark_of, mark_of, verdict}
use Rattle.time_policy.specs.declared.rules.Rules.{Rules}
use Rattle.time_policy.specs.declared.verdict.Verdict.{Verdict}
use Rattle.time_policy.specs.declared.verdict.Verdict.TheVariants.{Kept, Dropped}
use Rattle.time_policy.proofs.HistoryLemmas.{greatest-push, history-push, map-push}
use Rattle.time_policy.proofs.SubstreamLemmas.{is_same_substream-exact}

mark_of-push : (r : Rules) (key : List Value) (past : History) (p : Entry × Option Verdict)
    → mark_of r key (past ++ p ∷ []) ≡ max (mark_of r key past) (entry_mark r key p)
mark_of-push r key past p =
    ap greatest (map-push (entry_mark r key) past p) ∙ greatest-push (map (entry_mark r key) past) (entry_mark r key p)

or-true : (b : Bool) → (b || true) ≡ true
or-true true = refl
or-true false = refl

or-false : (b : Bool) → (b || false) ≡ b
or-false true = refl
or-false false = refl

or-left : (a b : Bool) → (a || b) ≡ false → a ≡ false
or-left true b h = h
or-left false b h = refl

or-right : (a b : Bool) → (a || b) ≡ false → b ≡ false
or-right true b h = cc
or-right false b h = h

max-zero : (m : ℕ) → max m 0 ≡ m
max-zero m = omega arith

any-push : (key : List Value) (past : History) (p : Entry × Option Verdict)
    → list_any (is_kept_of key) (past ++ p ∷ []) ≡ (list_any (is_kept_of key) past || is_kept_of key p)
any-push key past p =
    list_any-append (is_kept_of key) past (p ∷ [])
    ∙ ap (λ b. list_any (is_kept_of key) past || b) (or-false (is_kept_of key p))

entry_mark-other : (r : Rules) (key : List Value) (p : Entry × Option Verdict) → is_kept_of key p ≡ false → entry_mark r key p ≡ 0
entry_mark-other r key (Good e t s k, Some (Kept x)) h = rw h refl
entry_mark-other r key (Good e t s k, Some (Dropped rule)) h = refl
entry_mark-other r key (Good e t s k, None) h = refl
entry_mark-other r key (Bad rule, v) h = refl
entry_mark-other r key (Mark t, v) h = refl

mark_of-none : (r : Rules) (key : List Value) (past : History) → list_any (is_kept_of key) past ≡ false → mark_of r key past ≡ 0
mark_of-none r key [] h = refl
mark_of-none r key (p ∷ ps) h =
    let here : is_kept_of key p ≡ false = or-left (is_kept_of key p) (list_any (is_kept_of key) ps) h in
    let rest : list_any (is_kept_of key) ps ≡ false = or-right (is_kept_of key p) (list_any (is_kept_of key) ps) h in
    let a = entry_mark-other r key p here in
    let b = mark_of-none r key ps rest in
    omega (arith, a, b)

-- the mark of a substream with no kept record is 0
pub unwrap_or-kept_mark_of : (r : Rules) (key : List Value) (past : History) → unwrap_or (kept_mark_of r key past) 0 ≡ mark_of r key past
unwrap_or-kept_mark_of r key past = by_any (list_any (is_kept_of key) past) refl
  where
    by_any : (b : Bool) → list_any (is_kept_of key) past ≡ b → unwrap_or (kept_mark_of r key past) 0 ≡ mark_of r key past
    by_any true e = rw (e, kept_mark_of) refl
    by_any false e = rw (e, kept_mark_of) (sym (mark_of-none r key past e))

kept_mark_of-kept : (r : Rules) (key : List Value) (past : History) (p : Entry × Option Verdict) → is_kept_of key p ≡ true
    → kept_mark_of r key (past ++ p ∷ []) ≡ Some (max (mark_of r key past) (entry_mark r key p))
kept_mark_of-kept r key past p h =
    ap (λ b. cond b (Some (mark_of r key (past ++ p ∷ []))) None)
    (any-push key past p ∙ ap (λ b. list_any (is_kept_of key) past || b) h ∙ or-true (list_any (is_kept_of key) past))
    ∙ ap Some (mark_of-push r key past p)

kept_mark_of-other : (r : Rules) (key : List Value) (past : History) (p : Entry × Option Verdict) → is_kept_of key p ≡ false
    → kept_mark_of r key (past ++ p ∷ []) ≡ kept_mark_of r key past
kept_mark_of-other r key past p h =
    ap (λ b. cond b (Some (mark_of r key (past ++ p ∷ []))) None)
    (any-push key past p ∙ ap (λ b. list_any (is_kept_of key) past || b) h ∙ or-false (list_any (is_kept_of key) past))
    ∙ ap (λ m. cond (list_any (is_kept_of key) past) (Some m) None)
    (mark_of-push r key past p ∙ ap (max (mark_of r key past)) (entry_mark-other r key p h) ∙ max-zero (mark_of r key past))

-- the marks after one record more, and as they are kept
pub kept_mark-good : (r : Rules) (front : List Entry) (old new : Marks) (e t : ℕ) (s : Option ℕ) (k key : List Value) (v : Verdict)
    → ((q : List Value) → mark_in old q ≡ kept_mark r q front) → verdict r front (Good e t s k) ≡ Some v
    → MarksAfterVerdict r k (unwrap_or (mark_in old k) 0) v old new
    → mark_in new key ≡ kept_mark r key (front ++ Good e t s k ∷ [])
kept_mark-good r front old new e t s k key (Dropped rule) h is after =
    ap (λ marks. mark_in marks key) after
    ∙ h key
    ∙ sym (kept_mark_of-other r key (history r front) (Good e t s k, Some (Dropped rule)) refl)
    ∙ ap (λ x. kept_mark_of r key (history r front ++ (Good e t s k, x) ∷ [])) (sym is)
    ∙ ap (kept_mark_of r key) (sym (history-push r front (Good e t s k)))
kept_mark-good r front old new e t s k key (Kept x) h is after =
    after key
    ∙ by_key (is_same_substream k key) refl
    ∙ ap (λ y. kept_mark_of r key (history r front ++ (Good e t s k, y) ∷ [])) (sym is)
    ∙ ap (kept_mark_of r key) (sym (history-push r front (Good e t s k)))
  where
    by_key : (b : Bool) → is_same_substream k key ≡ b
        → cond (is_same_substream k key) (Some (max (unwrap_or (mark_in old k) 0) (x - r.disorder))) (mark_in old key)
        ≡ kept_mark_of r key (history r front ++ (Good e t s k, Some (Kept x)) ∷ [])
    by_key true q =
        ap (λ b. cond b (Some (max (unwrap_or (mark_in old k) 0) (x - r.disorder))) (mark_in old key)) q
        ∙ ap (λ o. Some (max (unwrap_or o 0) (x - r.disorder))) (h k)
        ∙ ap (λ m. Some (max m (x - r.disorder))) (unwrap_or-kept_mark_of r k (history r front))
        ∙ ap (λ l. Some (max (mark_of r l (history r front)) (x - r.disorder))) (is_same_substream-exact k key q)
        ∙ ap (λ b. Some (max (mark_of r key (history r front)) (cond b (x - r.disorder) 0))) (sym q)
        ∙ sym (kept_mark_of-kept r key (history r front) (Good e t s k, Some (Kept x)) q)
    by_key false q =
        ap (λ b. cond b (Some (max (unwrap_or (mark_in old k) 0) (x - r.disorder))) (mark_in old key)) q
        ∙ h key
        ∙ sym (kept_mark_of-other r key (history r front) (Good e t s k, Some (Kept x)) q)

-- neither a mark nor an item that is no record changes a substream
pub kept_mark-mark : (r : Rules) (front : List Entry) (key : List Value) (t : ℕ) → kept_mark r key (front ++ Mark t ∷ []) ≡ kept_mark r key front
kept_mark-mark r front key t =
    ap (kept_mark_of r key) (history-push r front (Mark t))
    ∙ kept_mark_of-other r key (history r front) (Mark t, None) refl

pub kept_mark-bad : (r : Rules) (front : List Entry) (key : List Value) (rule : Rule) → kept_mark r key (front ++ Bad rule ∷ []) ≡ kept_mark r key front
kept_mark-bad r front key rule =
    ap (kept_mark_of r key) (history-push r front (Bad rule))
    ∙ kept_mark_of-other r key (history r front) (Bad rule, Some (Dropped rule)) refl
