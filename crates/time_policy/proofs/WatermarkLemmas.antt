-- The watermark never falls, and no record behind it is kept below it.
use Rattle.std.proofs.Common.{◌≡◌, ℕ, ◌-◌, ◌≤◌, min, max, Bool, true, false, cond, List, [], ◌∷◌, ◌++◌}
use Rattle.std.proofs.Common.{Option, Some, None, refl, ap, sym, ◌∙◌, arith, append_assoc, append-nil}
use Rattle.std.proofs.lemmas.Bool.Decides.{nat_tests}
use Rattle.event_value.specs.declared.value.Value.{Value}
use Rattle.time_policy.specs.Entry.{Entry, Good, Bad, Mark}
use Rattle.time_policy.specs.Laws.{IsKeptFromWatermark, NeverFalls}
use Rattle.time_policy.specs.Verdicts.{arrival, earliest_time, history, mark_of, watermark}
use Rattle.time_policy.specs.Verdicts.{verdict_by_rules, verdict_by_stamp}
use Rattle.time_policy.specs.declared.rules.Rules.{Rules}
use Rattle.time_policy.specs.declared.verdict.Verdict.{Verdict}
use Rattle.time_policy.specs.declared.verdict.Verdict.TheVariants.{Kept}
use Rattle.time_policy.proofs.HistoryLemmas.{arrival-push, verdict-good, watermark-push, watermark-unstamped, watermark-over}

-- a record that is kept at t: neither below the mark nor below the arrival less the late tolerance
kept-by_stamp : (r : Rules) (a m : ℕ) (st : Option ℕ) (t : ℕ)
    → verdict_by_stamp r a m st ≡ Kept t → (m ≤ t) × (a - r.late ≤ t)
kept-by_stamp r a m None t h = cc
kept-by_stamp r a m (Some s) t h = grind (arith, nat_tests)

earliest_time-plain : (r : Rules) (k : List Value) (front : List Entry) → r.over ≡ false
    → earliest_time r k (history r front) ≡ watermark r front
earliest_time-plain r k front o = ap (λ b. cond b (mark_of r k (history r front)) (watermark r front)) o

by_rules-stamped : (r : Rules) (a m : ℕ) (st : Option ℕ) → r.stamped ≡ true
    → verdict_by_rules r a m st ≡ verdict_by_stamp r a m st
by_rules-stamped r a m st s = ap (λ b. cond b (verdict_by_stamp r a m st) (Kept a)) s

by_rules-unstamped : (r : Rules) (a m : ℕ) (st : Option ℕ) → r.stamped ≡ false → verdict_by_rules r a m st ≡ Kept a
by_rules-unstamped r a m st s = ap (λ b. cond b (verdict_by_stamp r a m st) (Kept a)) s

some_same : (v w : Verdict) → Some v ≡ Some w → v ≡ w
some_same v w h = cc

kept_same : (a b : ℕ) → Kept a ≡ Kept b → a ≡ b
kept_same a b h = cc

good-kept_from : (r : Rules) (front : List Entry) (a : ℕ) (k : List Value) (st : Option ℕ) (t : ℕ) → arrival front ≤ a
    → (b c : Bool) → r.stamped ≡ b → r.over ≡ c
    → verdict_by_rules r a (earliest_time r k (history r front)) st ≡ Kept t → watermark r front ≤ t
good-kept_from r front a k st t more false c s o is =
    let w = watermark-unstamped r front s in
    let e = kept_same a t (sym (by_rules-unstamped r a (earliest_time r k (history r front)) st s) ∙ is) in
    omega (arith, w, e)
good-kept_from r front a k st t more true false s o is =
    let w = earliest_time-plain r k front o in
    let e = kept-by_stamp r a (earliest_time r k (history r front)) st t (sym (by_rules-stamped r a (earliest_time r k (history r front)) st s) ∙ is) in
    omega (arith, w, e.0)
good-kept_from r front a k st t more true true s o is =
    let w = watermark-over r front s o in
    let e = kept-by_stamp r a (earliest_time r k (history r front)) st t (sym (by_rules-stamped r a (earliest_time r k (history r front)) st s) ∙ is) in
    omega (arith, w, e.1)

pub kept_from_watermark : (r : Rules) → IsKeptFromWatermark r
kept_from_watermark r front (Bad rule) t h = cc
kept_from_watermark r front (Mark through) t h = cc
kept_from_watermark r front (Good e through st k) t h =
    let is : verdict_by_rules r (max (arrival front) (min e through)) (earliest_time r k (history r front)) st ≡ Kept t =
    some_same _ _ (sym (verdict-good r front e through st k) ∙ h) in
    good-kept_from r front (max (arrival front) (min e through)) k st t (omega arith) r.stamped r.over refl refl is

never_falls-by_one : (r : Rules) (front : List Entry) (e : Entry) → watermark r front ≤ watermark r (front ++ e ∷ [])
never_falls-by_one r front e = by_kind r.stamped r.over refl refl
  where
    by_kind : (b c : Bool) → r.stamped ≡ b → r.over ≡ c → watermark r front ≤ watermark r (front ++ e ∷ [])
    by_kind false c s o =
        let a = watermark-unstamped r front s in
        let b = watermark-unstamped r (front ++ e ∷ []) s in
        let p = arrival-push front e in
        omega (arith, a, b, p)
    by_kind true false s o =
        let p = watermark-push r front e s o in
        omega (arith, p)
    by_kind true true s o =
        let a = watermark-over r front s o in
        let b = watermark-over r (front ++ e ∷ []) s o in
        let p = arrival-push front e in
        omega (arith, a, b, p)

pub never_falls : (r : Rules) → NeverFalls r
never_falls r front [] = rw (append-nil front) (omega arith)
never_falls r front (e ∷ es) =
    let a = never_falls-by_one r front e in
    let b = never_falls r (front ++ e ∷ []) es in
    let c = rw append_assoc at b in
    omega (arith, a, c)
