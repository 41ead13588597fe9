-- What is held gives what all rows give from the moment on.
use Rattle.std.proofs.Common.{◌≡◌, ℕ, ◌-◌, ◌≤◌, List, [], ◌++◌, refl, sym, ap, ◌∙◌, arith}
use Rattle.std.specs.Prelude.{Option, Some, None, nat_le}
use Rattle.std.proofs.lemmas.List.Elements.{filter-append}
use Rattle.event_value.specs.declared.record.Stamped.{Stamped}
use Rattle.event_value.specs.declared.value.Value.{Value}
use Rattle.row_order.proofs.StretchLemmas.{AllFrom-lower, IsInOrder-filter, rows_below-rows_from, rows_from-all, rows_from-rows_from}
use Rattle.stream_op.specs.Rows.{AreInOrder, AreNext, below, between, from_on, time_of}
use Rattle.window_flow.specs.Groups.{within}
use Rattle.window_flow.specs.PartLaws.{AreSound, DependsWithin, parted-left_out}
use Rattle.window_flow.specs.Parts.{Parting, parted}

pub within-append : (reach : Option ℕ) (w u : ℕ) (old new : List Stamped) → AreNext w u new → within reach w old ++ new ≡ within reach w (old ++ new)
within-append None w u old new a = refl
within-append (Some n) w u old new a =
    sym (filter-append _ old new
    ∙ ap (λ l. from_on (w - n) old ++ l) (rows_from-all time_of (w - n) new (AllFrom-lower time_of (w - n) w new (omega arith) a.from_last)))

pub within-later : (reach : Option ℕ) (w u : ℕ) (rows : List Stamped) → w ≤ u → within reach u (within reach w rows) ≡ within reach u rows
within-later None w u rows le = refl
within-later (Some n) w u rows le = rows_from-rows_from time_of (w - n) (u - n) rows (omega arith)

pub AreInOrder-within : (reach : Option ℕ) (w : ℕ) (rows : List Stamped) → AreInOrder rows → AreInOrder (within reach w rows)
AreInOrder-within None w rows o = o
AreInOrder-within (Some n) w rows o = IsInOrder-filter time_of _ rows o

pub between-within : (p : Parting) (reach : Option ℕ) → AreSound p reach → (w u : ℕ) (rows : List Stamped) → AreInOrder rows
    → between w u (parted p (within reach w rows)) ≡ between w u (parted p rows)
between-within p reach sound w u rows o = by reach sound.nothing sound.within
  where
    by : (n : Option ℕ) → ((part : List Value) → p.rows part [] ≡ []) → DependsWithin n p → between w u (parted p (within n w rows)) ≡ between w u (parted p rows)
    by None nothing h = refl
    by (Some n) nothing h =
        sym (rows_below-rows_from time_of w u (parted p (from_on (w - n) rows)))
        ∙ ap (below u) (sym (parted-left_out p (nat_le w) (nat_le (w - n)) nothing (h w) rows o))
        ∙ rows_below-rows_from time_of w u (parted p rows)
