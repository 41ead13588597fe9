-- What is kept, with new rows; what closes, and what is kept on.
use Rattle.std.proofs.Common.{◌≡◌, ℕ, ◌+◌, ◌<◌, ◌≤◌, Bool, true, List, [], ◌∷◌, ◌++◌, filter, map, take, length, get_or, refl, sym, ap, ◌∙◌, arith}
use Rattle.std.specs.List.{flat_map, fold}
use Rattle.std.specs.List.{AllByRecursion as Each}
use Rattle.std.specs.Ordering.{is_eq}
use Rattle.std.specs.Prelude.{◌&&◌, nat_lt, nat_le}
use Rattle.std.specs.declared.cmp.Ordering.{Ordering}
use Rattle.std.specs.declared.cmp.Ordering.TheVariants.{Less, Equal, Greater}
use Rattle.std.proofs.lemmas.Bool.Decides.{nat_tests}
use Rattle.std.proofs.lemmas.Grind.{flat_map-append}
use Rattle.std.proofs.lemmas.List.{append-nil, map-append, take_more}
use Rattle.std.proofs.lemmas.List.Elements.{filter-append}
use Rattle.event_value.specs.declared.record.Stamped.{Stamped}
use Rattle.event_value.specs.declared.value.Value.{Value}
use Rattle.row_groups.proofs.GroupLemmas.{grouped-append, with_items-append}
use Rattle.row_groups.proofs.TallyLemmas.{tally_values-tallies_of}
use Rattle.row_groups.specs.Distinct.{distinct}
use Rattle.row_groups.specs.Groups.{group, grouped, items_of, keys_of, with_item, with_value}
use Rattle.row_groups.specs.Tallies.{tallies_start, tallies_with}
use Rattle.row_groups.specs.declared.tally.Tally.{Tally}
use Rattle.row_order.proofs.ListLemmas.{Each-all, Each-append, Each-filter, Each-map, Each-weaker, filter-alike, filter-filter, filter-map, filter-passes, filter-within}
use Rattle.row_order.specs.InOrder.{AllFrom}
use Rattle.stream_op.specs.Rows.{between, time_of}
use Rattle.tick_time.specs.Moment.{end_ticks}
use Rattle.window_grid.specs.Panes.{pane_order}
use Rattle.window_grid.specs.State.{Tallied, closed_at, is_kept, is_moment, kept_at, row_of, state, tallies_at, with_pane, with_panes, with_row}
use Rattle.window_grid.specs.WindowLaws.{ends-tied, ends_within, map-agree, pane_order-total, panes-within}
use Rattle.window_grid.specs.Windows.{AreSound, IsEndOnce, Windows, content, pane_at, panes, row_at, windowed}
use Rattle.window_grid.specs.declared.pane.Pane.{Pane}
use Rattle.window_grid.proofs.ContentLemmas.{Each-panes, items_of-content, keys_of-windows, with_windows}

-- the windows of a row that end within a stretch
abbrev in_stretch : (ℕ → Bool) → Pane × Stamped → Bool
in_stretch test x = test x.0.end

abbrev rows_within : (ℕ → Bool) → Windows → List Stamped → List (Pane × Stamped)
rows_within test w rows = filter (in_stretch test) (flat_map (with_windows w) rows)

abbrev state_within : (ℕ → Bool) → Windows → List Stamped → Tallied
state_within test w rows = map (with_value (tallies_at w rows)) (filter (ends_within test) (panes w rows))

abbrev grouped_by : Windows → List (Pane × Stamped) → Tallied
grouped_by w = grouped pane_order (tallies_start w.aggregates) tallies_with

eq_of : (o : Ordering) → is_eq o ≡ true → o ≡ Equal
eq_of Less h = cc
eq_of Equal h = refl
eq_of Greater h = cc

-- what is kept of the windows in a stretch are the groups of the rows that come with them
grouped-state : (test : ℕ → Bool) (w : Windows) → AreSound w → (rows : List Stamped) → grouped_by w (rows_within test w rows) ≡ state_within test w rows
grouped-state test w sound rows =
    ap (map (with_value (group pane_order (tallies_start w.aggregates) tallies_with xs))) keys
    ∙ map-agree (with_value (group pane_order (tallies_start w.aggregates) tallies_with xs)) (with_value (tallies_at w rows)) (filter (ends_within test) (panes w rows)) values
  where
    xs : List (Pane × Stamped)
    xs = rows_within test w rows

    keys : distinct pane_order (keys_of xs) ≡ filter (ends_within test) (panes w rows)
    keys =
        ap (distinct pane_order) (sym (filter-map (ends_within test) (λ (x : Pane × Stamped). x.0) (flat_map (with_windows w) rows)) ∙ ap (filter (ends_within test)) (keys_of-windows w rows))
        ∙ sym (panes-within test w rows)

    pair : Pane → List Tally → Pane × List Tally
    pair p tallies = (p, tallies)

    value : (p : Pane) → test p.end ≡ true → IsEndOnce w p.end → with_value (group pane_order (tallies_start w.aggregates) tallies_with xs) p ≡ with_value (tallies_at w rows) p
    value p h once =
        let tied_too : (x : Pane × Stamped) → is_eq (pane_order p x.0) ≡ true → in_stretch test x ≡ true = λ x t. sym (ap test (ends-tied p x.0 (eq_of _ t))) ∙ h in
        let items : items_of pane_order xs p ≡ content w rows p =
        ap (map (λ (x : Pane × Stamped). x.1)) (filter-within (λ (x : Pane × Stamped). is_eq (pane_order p x.0)) (in_stretch test) tied_too (flat_map (with_windows w) rows))
        ∙ items_of-content w rows p once in
        ap (λ l. pair p (fold tallies_with (tallies_start w.aggregates) l)) items

    values : Each (λ p. with_value (group pane_order (tallies_start w.aggregates) tallies_with xs) p ≡ with_value (tallies_at w rows) p) (filter (ends_within test) (panes w rows))
    values = each_two (filter (ends_within test) (panes w rows)) (filter-passes (ends_within test) (panes w rows)) (Each-filter (λ (p : Pane). IsEndOnce w p.end) (ends_within test) (panes w rows) (Each-panes (IsEndOnce w) w sound.once rows))
      where
        each_two : (ps : List Pane) → Each (λ (p : Pane). test p.end ≡ true) ps → Each (λ (p : Pane). IsEndOnce w p.end) ps → Each (λ p. with_value (group pane_order (tallies_start w.aggregates) tallies_with xs) p ≡ with_value (tallies_at w rows) p) ps
        each_two [] a b = tt
        each_two (p ∷ ps) a b = (value p a.0 b.0, each_two ps a.1 b.1)

-- the windows of new rows end no earlier than the rows
windows-from : (w : Windows) → AreSound w → (u : ℕ) (rows : List Stamped) → AllFrom time_of u rows → Each (λ (x : Pane × Stamped). u ≤ x.0.end) (flat_map (with_windows w) rows)
windows-from w sound u [] k = tt
windows-from w sound u (row ∷ rows) k =
    Each-append _ (with_windows w row) (flat_map (with_windows w) rows)
    (Each-map (λ (x : Pane × Stamped). u ≤ x.0.end) (with_pane w row) (w.ends row.time) (Each-weaker _ _ (w.ends row.time) (λ e l. omega (arith, k.0)) (sound.ends_later row.time)))
    (windows-from w sound u rows k.1)

kept-moment : (u e : ℕ) → u ≤ e → is_kept u e ≡ is_moment e
kept-moment u e h = ap (λ b. b && is_moment e) (true-le u e h)
  where
    true-le : (m n : ℕ) → m ≤ n → nat_le m n ≡ true
    true-le m n h = grind (arith, nat_tests)

-- the windows that end at a moment
with_panes-within : (w : Windows) (rows : List Stamped) → rows_within is_moment w rows ≡ flat_map (with_panes w) rows
with_panes-within w [] = refl
with_panes-within w (row ∷ rows) =
    filter-append (in_stretch is_moment) (with_windows w row) (flat_map (with_windows w) rows)
    ∙ ap (λ l. l ++ rows_within is_moment w rows) (filter-map (in_stretch is_moment) (with_pane w row) (w.ends row.time))
    ∙ ap (λ l. with_panes w row ++ l) (with_panes-within w rows)

-- new rows, each added to the windows that hold it
pub state-more : (w : Windows) → AreSound w → (u : ℕ) (old new : List Stamped) → AllFrom time_of u new
    → with_row w (state w old u) (flat_map (with_panes w) new) ≡ state w (old ++ new) u
state-more w sound u old new k =
    let same : rows_within (is_kept u) w new ≡ flat_map (with_panes w) new =
    filter-alike (in_stretch (is_kept u)) (in_stretch is_moment) (flat_map (with_windows w) new) (Each-weaker _ _ (flat_map (with_windows w) new) (λ x l. kept-moment u x.0.end l) (windows-from w sound u new k))
    ∙ with_panes-within w new in
    let both : rows_within (is_kept u) w old ++ flat_map (with_panes w) new ≡ rows_within (is_kept u) w (old ++ new) =
    ap (λ l. rows_within (is_kept u) w old ++ l) (sym same)
    ∙ sym (filter-append (in_stretch (is_kept u)) (flat_map (with_windows w) old) (flat_map (with_windows w) new))
    ∙ ap (filter (in_stretch (is_kept u))) (sym (flat_map-append (with_windows w) old new)) in
    ap (λ l. with_row w l (flat_map (with_panes w) new)) (sym (grouped-state (is_kept u) w sound old))
    ∙ grouped-append pane_order (tallies_start w.aggregates) tallies_with pane_order-total (rows_within (is_kept u) w old) (flat_map (with_panes w) new)
    ∙ ap (grouped_by w) both
    ∙ grouped-state (is_kept u) w sound (old ++ new)

-- what a window gives is the row of the meaning
row_of-tallies : (w : Windows) (rows : List Stamped) (ps : List Pane) → map row_of (map (with_value (tallies_at w rows)) ps) ≡ map (row_at w rows) ps
row_of-tallies w rows [] = refl
row_of-tallies w rows (p ∷ ps) =
    ap (λ (values : List Value). stamped p values ∷ map row_of (map (with_value (tallies_at w rows)) ps)) (tally_values-tallies_of w.aggregates (content w rows p))
    ∙ ap (λ rest. row_at w rows p ∷ rest) (row_of-tallies w rows ps)
  where
    stamped : Pane → List Value → Stamped
    stamped p values = record { time = p.end; values = p.key ++ values }

closed-test : (w u e : ℕ) → u ≤ end_ticks → (is_kept w e && nat_lt e u) ≡ (nat_le w e && nat_lt e u)
closed-test w u e h = grind (arith, nat_tests)

kept-test : (w u e : ℕ) → w ≤ u → (is_kept w e && nat_le u e) ≡ is_kept u e
kept-test w u e h = grind (arith, nat_tests)

-- the windows that close give the rows of the meaning in the stretch
pub state-closed : (w : Windows) (rows : List Stamped) (v u : ℕ) → u ≤ end_ticks
    → map row_of (closed_at u (state w rows v)) ≡ between v u (windowed w rows)
state-closed w rows v u h =
    let within = λ (e : ℕ). nat_le v e && nat_lt e u in
    ap (map row_of) (filter-map (λ (g : Pane × List Tally). nat_lt g.0.end u) (with_value (tallies_at w rows)) (filter (ends_within (is_kept v)) (panes w rows))
    ∙ ap (map (with_value (tallies_at w rows))) (filter-filter (λ (p : Pane). nat_lt p.end u) (ends_within (is_kept v)) (panes w rows)
    ∙ filter-alike _ (ends_within within) (panes w rows) (Each-all _ (λ (p : Pane). closed-test v u p.end h) (panes w rows))))
    ∙ row_of-tallies w rows (filter (ends_within within) (panes w rows))
    ∙ sym (filter-map (λ (row : Stamped). within row.time) (row_at w rows) (panes w rows))

-- and the others are what is kept
pub state-kept : (w : Windows) (rows : List Stamped) (v u : ℕ) → v ≤ u → kept_at u (state w rows v) ≡ state w rows u
state-kept w rows v u h =
    filter-map (λ (g : Pane × List Tally). nat_le u g.0.end) (with_value (tallies_at w rows)) (filter (ends_within (is_kept v)) (panes w rows))
    ∙ ap (map (with_value (tallies_at w rows))) (filter-filter (λ (p : Pane). nat_le u p.end) (ends_within (is_kept v)) (panes w rows)
    ∙ filter-alike _ (ends_within (is_kept u)) (panes w rows) (Each-all _ (λ (p : Pane). kept-test v u p.end h) (panes w rows)))

-- ---- one more, for loops

-- a row added to one window more
pub with_row-more : (w : Windows) (gs now : Tallied) (row : Stamped) (es : List ℕ) (i e : ℕ) → i < length es → e ≡ get_or es i e
    → now ≡ with_row w gs (map (with_pane w row) (take i es))
    → with_item pane_order (tallies_start w.aggregates) tallies_with now (pane_at w row e) row ≡ with_row w gs (map (with_pane w row) (take (i + 1) es))
with_row-more w gs now row es i e h is same =
    let taken : take (i + 1) es ≡ take i es ++ e ∷ [] = take_more es i e h ∙ ap (λ x. take i es ++ x ∷ []) (sym is) in
    sym (ap (λ l. with_row w gs (map (with_pane w row) l)) taken
    ∙ ap (with_row w gs) (map-append (with_pane w row) (take i es) (e ∷ []))
    ∙ with_items-append pane_order (tallies_start w.aggregates) tallies_with gs (map (with_pane w row) (take i es)) (map (with_pane w row) (e ∷ []))
    ∙ ap (λ l. with_item pane_order (tallies_start w.aggregates) tallies_with l (pane_at w row e) row) (sym same))

-- one row more
pub with_rows-more : (w : Windows) (gs now : Tallied) (rows : List Stamped) (i : ℕ) (row : Stamped) → i < length rows → row ≡ get_or rows i row
    → now ≡ with_row w gs (flat_map (with_panes w) (take i rows))
    → with_row w now (with_panes w row) ≡ with_row w gs (flat_map (with_panes w) (take (i + 1) rows))
with_rows-more w gs now rows i row h is same =
    let taken : take (i + 1) rows ≡ take i rows ++ row ∷ [] = take_more rows i row h ∙ ap (λ r. take i rows ++ r ∷ []) (sym is) in
    sym (ap (λ l. with_row w gs (flat_map (with_panes w) l)) taken
    ∙ ap (with_row w gs) (flat_map-append (with_panes w) (take i rows) (row ∷ []) ∙ ap (λ l. flat_map (with_panes w) (take i rows) ++ l) (append-nil (with_panes w row)))
    ∙ with_items-append pane_order (tallies_start w.aggregates) tallies_with gs (flat_map (with_panes w) (take i rows)) (with_panes w row)
    ∙ ap (λ l. with_row w l (with_panes w row)) (sym same))
