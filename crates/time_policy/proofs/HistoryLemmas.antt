-- How arrival, watermark and verdict follow from those of the entries before the last one.
use Rattle.std.proofs.Common.{◌≡◌, ℕ, ◌-◌, min, max, Bool, true, false, List, [], ◌∷◌, ◌++◌, map}
use Rattle.std.proofs.Common.{Option, Some, refl, ap, sym, ◌∙◌, arith, append_assoc, append-nil}
use Rattle.event_value.specs.declared.record.Rule.{Rule}
use Rattle.event_value.specs.declared.value.Value.{Value}
use Rattle.time_policy.specs.Entry.{Entry, Good, Bad, Mark}
use Rattle.time_policy.specs.Steps.{watermark_after_mark, watermark_after_record, watermark_after_verdict}
use Rattle.time_policy.specs.Verdicts.{History, arrival, earliest_time, entries_of, entry_arrival, entry_watermark}
use Rattle.time_policy.specs.Verdicts.{greatest, history, history_after, verdict, verdict_after, verdict_by_rules}
use Rattle.time_policy.specs.Verdicts.{watermark, watermark_of}
use Rattle.time_policy.specs.declared.rules.Rules.{Rules}
use Rattle.time_policy.specs.declared.verdict.Verdict.{Verdict}
use Rattle.time_policy.specs.declared.verdict.Verdict.TheVariants.{Kept, Dropped}

greatest-append : (a b : List ℕ) → greatest (a ++ b) ≡ max (greatest a) (greatest b)
greatest-append [] b = omega arith
greatest-append (n ∷ ns) b = omega (arith, greatest-append ns b)

pub greatest-push : (a : List ℕ) (n : ℕ) → greatest (a ++ n ∷ []) ≡ max (greatest a) n
greatest-push a n = omega (arith, greatest-append a (n ∷ []))

pub map-push : {A B : Type 0} (f : A → B) (xs : List A) (x : A) → map f (xs ++ x ∷ []) ≡ map f xs ++ f x ∷ []
map-push f [] x = refl
map-push f (y ∷ ys) x = ap (λ rest. f y ∷ rest) (map-push f ys x)

history_after-push : (r : Rules) (past : History) (es : List Entry) (e : Entry)
    → history_after r past (es ++ e ∷ [])
    ≡ history_after r past es ++ (e, verdict_after r (history_after r past es) e) ∷ []
history_after-push r past [] e = refl
history_after-push r past (x ∷ xs) e = history_after-push r (past ++ (x, verdict_after r past x) ∷ []) xs e

-- the history of one entry more
pub history-push : (r : Rules) (front : List Entry) (e : Entry)
    → history r (front ++ e ∷ []) ≡ history r front ++ (e, verdict r front e) ∷ []
history-push r front e = history_after-push r [] front e

entries_of-history_after : (r : Rules) (past : History) (es : List Entry)
    → entries_of (history_after r past es) ≡ entries_of past ++ es
entries_of-history_after r past [] = sym (append-nil (entries_of past))
entries_of-history_after r past (x ∷ xs) =
    entries_of-history_after r (past ++ (x, verdict_after r past x) ∷ []) xs
    ∙ ap (λ l. l ++ xs) (map-push (λ p. p.0) past (x, verdict_after r past x))
    ∙ append_assoc (entries_of past) (x ∷ []) xs

-- a history has the entries that it was made of
pub entries_of-history : (r : Rules) (front : List Entry) → entries_of (history r front) ≡ front
entries_of-history r front = entries_of-history_after r [] front

-- the arrival after one entry more
pub arrival-push : (front : List Entry) (e : Entry) → arrival (front ++ e ∷ []) ≡ max (arrival front) (entry_arrival e)
arrival-push front e =
    ap greatest (map-push entry_arrival front e) ∙ greatest-push (map entry_arrival front) (entry_arrival e)

watermark_of-plain : (r : Rules) (past : History) → r.stamped ≡ true → r.over ≡ false
    → watermark_of r past ≡ greatest (map (entry_watermark r) past)
watermark_of-plain r past s o = rw (s, o) refl

-- the watermark of a lane that is stamped without OVER, after one entry more
pub watermark-push : (r : Rules) (front : List Entry) (e : Entry) → r.stamped ≡ true → r.over ≡ false
    → watermark r (front ++ e ∷ []) ≡ max (watermark r front) (entry_watermark r (e, verdict r front e))
watermark-push r front e s o =
    watermark_of-plain r (history r (front ++ e ∷ [])) s o
    ∙ ap (λ past. greatest (map (entry_watermark r) past)) (history-push r front e)
    ∙ ap greatest (map-push (entry_watermark r) (history r front) (e, verdict r front e))
    ∙ greatest-push (map (entry_watermark r) (history r front)) (entry_watermark r (e, verdict r front e))
    ∙ ap (λ w. max w (entry_watermark r (e, verdict r front e))) (sym (watermark_of-plain r (history r front) s o))

watermark_of-unstamped : (r : Rules) (past : History) → r.stamped ≡ false → watermark_of r past ≡ arrival (entries_of past)
watermark_of-unstamped r past s = rw s refl

watermark_of-over : (r : Rules) (past : History) → r.stamped ≡ true → r.over ≡ true
    → watermark_of r past ≡ arrival (entries_of past) - r.late
watermark_of-over r past s o = rw (s, o) refl

-- without TIMESTAMP BY the watermark is the arrival
pub watermark-unstamped : (r : Rules) (front : List Entry) → r.stamped ≡ false → watermark r front ≡ arrival front
watermark-unstamped r front s =
    watermark_of-unstamped r (history r front) s ∙ ap arrival (entries_of-history r front)

-- with OVER it is the arrival less the late tolerance
pub watermark-over : (r : Rules) (front : List Entry) → r.stamped ≡ true → r.over ≡ true
    → watermark r front ≡ arrival front - r.late
watermark-over r front s o =
    watermark_of-over r (history r front) s o ∙ ap (λ es. arrival es - r.late) (entries_of-history r front)

-- a record's verdict, by the arrival before it and the mark of its substream
pub verdict-good : (r : Rules) (front : List Entry) (e t : ℕ) (s : Option ℕ) (k : List Value)
    → verdict r front (Good e t s k)
    ≡ Some (verdict_by_rules r (max (arrival front) (min e t)) (earliest_time r k (history r front)) s)
verdict-good r front e t s k =
    ap (λ es. Some (verdict_by_rules r (arrival (es ++ Good e t s k ∷ [])) (earliest_time r k (history r front)) s))
    (entries_of-history r front)
    ∙ ap (λ a. Some (verdict_by_rules r a (earliest_time r k (history r front)) s)) (arrival-push front (Good e t s k))

after_record-plain : (r : Rules) (w a : ℕ) (v : Verdict) → r.stamped ≡ true → r.over ≡ false
    → watermark_after_record r w a v ≡ watermark_after_verdict r w v
after_record-plain r w a v s o = rw (s, o) refl

after_record-over : (r : Rules) (w a : ℕ) (v : Verdict) → r.stamped ≡ true → r.over ≡ true
    → watermark_after_record r w a v ≡ max w (a - r.late)
after_record-over r w a v s o = rw (s, o) refl

after_record-unstamped : (r : Rules) (w a : ℕ) (v : Verdict) → r.stamped ≡ false
    → watermark_after_record r w a v ≡ max w a
after_record-unstamped r w a v s = rw s refl

after_mark-plain : (r : Rules) (w a t : ℕ) → r.stamped ≡ true → r.over ≡ false
    → watermark_after_mark r w a t ≡ max w (t - r.late)
after_mark-plain r w a t s o = rw (s, o) refl

after_mark-over : (r : Rules) (w a t : ℕ) → r.stamped ≡ true → r.over ≡ true
    → watermark_after_mark r w a t ≡ max w (a - r.late)
after_mark-over r w a t s o = rw (s, o) refl

after_mark-unstamped : (r : Rules) (w a t : ℕ) → r.stamped ≡ false → watermark_after_mark r w a t ≡ max w a
after_mark-unstamped r w a t s = rw s refl

max-entry_watermark : (r : Rules) (w e t : ℕ) (s : Option ℕ) (k : List Value) (v : Verdict)
    → max w (entry_watermark r (Good e t s k, Some v)) ≡ watermark_after_verdict r w v
max-entry_watermark r w e t s k (Kept x) = refl
max-entry_watermark r w e t s k (Dropped rule) = omega arith

less-max : (w a s d : ℕ) → w ≡ a - d → max a s - d ≡ max w (max a s - d)
less-max w a s d h = omega arith

same-max : (w a s : ℕ) → w ≡ a → max a s ≡ max w (max a s)
same-max w a s h = omega arith

-- the watermark after one record more
pub watermark-good : (r : Rules) (front : List Entry) (e t : ℕ) (s : Option ℕ) (k : List Value) (v : Verdict)
    → verdict r front (Good e t s k) ≡ Some v
    → watermark r (front ++ Good e t s k ∷ [])
    ≡ watermark_after_record r (watermark r front) (max (arrival front) (min e t)) v
watermark-good r front e t s k v is = by_kind r.stamped r.over refl refl
  where
    by_kind : (b c : Bool) → r.stamped ≡ b → r.over ≡ c
        → watermark r (front ++ Good e t s k ∷ [])
        ≡ watermark_after_record r (watermark r front) (max (arrival front) (min e t)) v
    by_kind true false st o =
        watermark-push r front (Good e t s k) st o
        ∙ ap (λ x. max (watermark r front) (entry_watermark r (Good e t s k, x))) is
        ∙ max-entry_watermark r (watermark r front) e t s k v
        ∙ sym (after_record-plain r (watermark r front) (max (arrival front) (min e t)) v st o)
    by_kind true true st o =
        watermark-over r (front ++ Good e t s k ∷ []) st o
        ∙ ap (λ a. a - r.late) (arrival-push front (Good e t s k))
        ∙ less-max (watermark r front) (arrival front) (min e t) r.late (watermark-over r front st o)
        ∙ sym (after_record-over r (watermark r front) (max (arrival front) (min e t)) v st o)
    by_kind false c st o =
        watermark-unstamped r (front ++ Good e t s k ∷ []) st
        ∙ arrival-push front (Good e t s k)
        ∙ same-max (watermark r front) (arrival front) (min e t) (watermark-unstamped r front st)
        ∙ sym (after_record-unstamped r (watermark r front) (max (arrival front) (min e t)) v st)

-- the watermark after one mark more
pub watermark-mark : (r : Rules) (front : List Entry) (t : ℕ)
    → watermark r (front ++ Mark t ∷ []) ≡ watermark_after_mark r (watermark r front) (max (arrival front) t) t
watermark-mark r front t = by_kind r.stamped r.over refl refl
  where
    by_kind : (b c : Bool) → r.stamped ≡ b → r.over ≡ c
        → watermark r (front ++ Mark t ∷ []) ≡ watermark_after_mark r (watermark r front) (max (arrival front) t) t
    by_kind true false st o =
        watermark-push r front (Mark t) st o
        ∙ sym (after_mark-plain r (watermark r front) (max (arrival front) t) t st o)
    by_kind true true st o =
        watermark-over r (front ++ Mark t ∷ []) st o
        ∙ ap (λ a. a - r.late) (arrival-push front (Mark t))
        ∙ less-max (watermark r front) (arrival front) t r.late (watermark-over r front st o)
        ∙ sym (after_mark-over r (watermark r front) (max (arrival front) t) t st o)
    by_kind false c st o =
        watermark-unstamped r (front ++ Mark t ∷ []) st
        ∙ arrival-push front (Mark t)
        ∙ same-max (watermark r front) (arrival front) t (watermark-unstamped r front st)
        ∙ sym (after_mark-unstamped r (watermark r front) (max (arrival front) t) t st)

max-zero : (m : ℕ) → max m 0 ≡ m
max-zero m = omega arith

-- an item that is no record changes nothing
pub arrival-bad : (front : List Entry) (rule : Rule) → arrival (front ++ Bad rule ∷ []) ≡ arrival front
arrival-bad front rule = arrival-push front (Bad rule) ∙ max-zero (arrival front)

pub watermark-bad : (r : Rules) (front : List Entry) (rule : Rule) → watermark r (front ++ Bad rule ∷ []) ≡ watermark r front
watermark-bad r front rule = by_kind r.stamped r.over refl refl
  where
    by_kind : (b c : Bool) → r.stamped ≡ b → r.over ≡ c → watermark r (front ++ Bad rule ∷ []) ≡ watermark r front
    by_kind true false st o = watermark-push r front (Bad rule) st o ∙ max-zero (watermark r front)
    by_kind true true st o =
        watermark-over r (front ++ Bad rule ∷ []) st o
        ∙ ap (λ a. a - r.late) (arrival-bad front rule)
        ∙ sym (watermark-over r front st o)
    by_kind false c st o =
        watermark-unstamped r (front ++ Bad rule ∷ []) st
        ∙ arrival-bad front rule
        ∙ sym (watermark-unstamped r front st)
