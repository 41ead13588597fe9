-- Sessions as stretches of the places of a list, and one row more.
use Rattle.std.proofs.Common.{◌≡◌, ℕ, ◌+◌, ◌-◌, ◌<◌, ◌≤◌, true, false, cond, List, [], ◌∷◌, ◌++◌, map, take, drop, length, get_or, refl, sym, ap, ◌∙◌, arith, append-nil, append_assoc, length-drop}
use Rattle.std.specs.List.{flat_map}
use Rattle.std.specs.Prelude.{◌&&◌, min, nat_le, nat_lt}
use Rattle.std.proofs.lemmas.Bool.Decides.{nat_tests}
use Rattle.std.proofs.lemmas.List.{drop_all, drop_more, get_or-drop, take_all, take_more}
use Rattle.std.proofs.lemmas.List.Elements.{filter-append}
use Rattle.event_value.specs.declared.record.Stamped.{Stamped}
use Rattle.event_value.specs.declared.value.Value.{Value}
use Rattle.row_groups.specs.Groups.{with_value}
use Rattle.stream_op.specs.Rows.{between}
use Rattle.window_flow.specs.Groups.{aggregated_by, groups_of}
use Rattle.window_flow.specs.Parts.{keys_behind, rows_of_key}
use Rattle.window_flow.specs.SessionLaws.{rows_of_session-times}
use Rattle.window_flow.specs.Sessions.{Session, begun, latest_end, longer, most_of, rows_of_session, session_at, sessions_from, timeout_of}
use Rattle.window_flow.specs.declared.session.SessionSpec.{SessionSpec}

both-le : (t a b : ℕ) → t ≤ min a b → (nat_le t a && nat_le t b) ≡ true
both-le t a b h = grind (arith, nat_tests)

not-both : (t a b : ℕ) → min a b < t → (nat_le t a && nat_le t b) ≡ false
not-both t a b h = grind (arith, nat_tests)

module _ (timeout most : ℕ) (rows : List Stamped) (first place start last : ℕ) (row : Stamped)
    (before : first ≤ place) (inside : place < length rows) (is : row ≡ get_or rows place row) where
  abbrev now : Session
  now = session_at start last (take (place - first) (drop first rows))

  rest-is : drop place rows ≡ row ∷ drop (place + 1) rows
  rest-is = drop_more rows place row inside ∙ ap (λ r. r ∷ drop (place + 1) rows) (sym is)

  more-is : take (place - first) (drop first rows) ++ row ∷ [] ≡ take (place + 1 - first) (drop first rows)
  more-is =
      let place-is : first + (place - first) ≡ place = omega arith in
      let next-is : place + 1 - first ≡ place - first + 1 = omega arith in
      let there : get_or (drop first rows) (place - first) row ≡ row =
      get_or-drop first rows (place - first) row ∙ ap (λ k. get_or rows k row) place-is ∙ sym is in
      sym (ap (λ k. take k (drop first rows)) next-is
      ∙ take_more (drop first rows) (place - first) row (omega (arith, length-drop first rows))
      ∙ ap (λ r. take (place - first) (drop first rows) ++ r ∷ []) there)

  -- a row with which the session goes on
  pub sessions_from-on : row.time ≤ min (last + timeout) (latest_end most start)
      → sessions_from timeout most now (drop place rows)
      ≡ sessions_from timeout most (session_at start row.time (take (place + 1 - first) (drop first rows))) (drop (place + 1) rows)
  sessions_from-on h =
      ap (sessions_from timeout most now) rest-is
      ∙ ap (λ b. cond b (sessions_from timeout most (longer now row) (drop (place + 1) rows)) (now ∷ sessions_from timeout most (begun row) (drop (place + 1) rows))) (both-le row.time (last + timeout) (latest_end most start) h)
      ∙ ap (λ l. sessions_from timeout most (session_at start row.time l) (drop (place + 1) rows)) more-is

  -- a row that begins the next
  pub sessions_from-off : min (last + timeout) (latest_end most start) < row.time
      → sessions_from timeout most now (drop place rows)
      ≡ now ∷ sessions_from timeout most (session_at row.time row.time (take (place + 1 - place) (drop place rows))) (drop (place + 1) rows)
  sessions_from-off h =
      ap (sessions_from timeout most now) rest-is
      ∙ ap (λ b. cond b (sessions_from timeout most (longer now row) (drop (place + 1) rows)) (now ∷ sessions_from timeout most (begun row) (drop (place + 1) rows))) (not-both row.time (last + timeout) (latest_end most start) h)
      ∙ ap (λ l. now ∷ sessions_from timeout most (session_at row.time row.time l) (drop (place + 1) rows)) alone
    where
      alone : row ∷ [] ≡ take (place + 1 - place) (drop place rows)
      alone =
          let one : place + 1 - place ≡ 1 = omega arith in
          sym (ap (λ k. take k (drop place rows)) one ∙ ap (take 1) rest-is)

  -- what was given, with what is to come
  pub so_far-on : (spec : SessionSpec) (v w : ℕ) (given : List Stamped) → row.time ≤ min (last + timeout) (latest_end most start)
      → given ++ between v w (flat_map (rows_of_session spec) (sessions_from timeout most (session_at start row.time (take (place + 1 - first) (drop first rows))) (drop (place + 1) rows)))
      ≡ given ++ between v w (flat_map (rows_of_session spec) (sessions_from timeout most now (drop place rows)))
  so_far-on spec v w given h = ap (λ ss. given ++ between v w (flat_map (rows_of_session spec) ss)) (sym (sessions_from-on h))

  pub so_far-off : (spec : SessionSpec) (v w : ℕ) (given : List Stamped) → min (last + timeout) (latest_end most start) < row.time
      → (given ++ between v w (rows_of_session spec now)) ++ between v w (flat_map (rows_of_session spec) (sessions_from timeout most (session_at row.time row.time (take (place + 1 - place) (drop place rows))) (drop (place + 1) rows)))
      ≡ given ++ between v w (flat_map (rows_of_session spec) (sessions_from timeout most now (drop place rows)))
  so_far-off spec v w given h =
      let next = sessions_from timeout most (session_at row.time row.time (take (place + 1 - place) (drop place rows))) (drop (place + 1) rows) in
      append_assoc given (between v w (rows_of_session spec now)) (between v w (flat_map (rows_of_session spec) next))
      ∙ ap (λ l. given ++ l) (sym (filter-append _ (rows_of_session spec now) (flat_map (rows_of_session spec) next)))
      ∙ ap (λ ss. given ++ between v w (flat_map (rows_of_session spec) ss)) (sym (sessions_from-off h))

map-groups : (f : List Value → List Stamped) (time : ℕ) (spec : SessionSpec) (keys : List (List Value))
    → map (aggregated_by time spec.aggs) (map (with_value f) keys) ≡ map (λ key. aggregated_by time spec.aggs (key, f key)) keys
map-groups f time spec [] = refl
map-groups f time spec (key ∷ keys) = ap (λ l. aggregated_by time spec.aggs (key, f key) ∷ l) (map-groups f time spec keys)

within-true : (v w e : ℕ) → v ≤ e → e < w → (nat_le v e && nat_lt e w) ≡ true
within-true v w e h k = grind (arith, nat_tests)

-- a session that ends in a stretch gives its rows there
pub session-given : (spec : SessionSpec) (start last : ℕ) (rows : List Stamped) (v w e : ℕ) → e ≡ min (last + timeout_of spec) (latest_end (most_of spec) start) → v ≤ e → e < w
    → map (aggregated_by e spec.aggs) (groups_of spec.parts spec.keys rows) ≡ between v w (rows_of_session spec (session_at start last rows))
session-given spec start last rows v w e is h k =
    map-groups (rows_of_key spec.parts spec.keys rows) e spec (keys_behind spec.parts spec.keys rows)
    ∙ ap (λ t. map (λ key. aggregated_by t spec.aggs (key, rows_of_key spec.parts spec.keys rows key)) (keys_behind spec.parts spec.keys rows)) is
    ∙ sym (rows_of_session-times (λ t. nat_le v t && nat_lt t w) spec (session_at start last rows)
    ∙ ap (λ t. cond (nat_le v t && nat_lt t w) (rows_of_session spec (session_at start last rows)) []) (sym is)
    ∙ ap (λ b. cond b (rows_of_session spec (session_at start last rows)) []) (within-true v w e h k))

-- and none in any other
pub session-outside : (spec : SessionSpec) (start last : ℕ) (rows : List Stamped) (v w e : ℕ) → e ≡ min (last + timeout_of spec) (latest_end (most_of spec) start)
    → (nat_le v e && nat_lt e w) ≡ false → between v w (rows_of_session spec (session_at start last rows)) ≡ []
session-outside spec start last rows v w e is h =
    rows_of_session-times (λ t. nat_le v t && nat_lt t w) spec (session_at start last rows)
    ∙ ap (λ t. cond (nat_le v t && nat_lt t w) (rows_of_session spec (session_at start last rows)) []) (sym is)
    ∙ ap (λ b. cond b (rows_of_session spec (session_at start last rows)) []) h

-- the last session: no row is left
pub session-last : (timeout most : ℕ) (spec : SessionSpec) (rows : List Stamped) (first place start last v w : ℕ) (given : List Stamped) → first ≤ place → length rows ≤ place
    → given ++ between v w (rows_of_session spec (session_at start last (take (length rows - first) (drop first rows))))
    ≡ given ++ between v w (flat_map (rows_of_session spec) (sessions_from timeout most (session_at start last (take (place - first) (drop first rows))) (drop place rows)))
session-last timeout most spec rows first place start last v w given before past =
    let all : take (length rows - first) (drop first rows) ≡ take (place - first) (drop first rows) =
    take_all (length rows - first) (drop first rows) (omega (arith, length-drop first rows))
    ∙ sym (take_all (place - first) (drop first rows) (omega (arith, length-drop first rows))) in
    ap (λ l. given ++ between v w (rows_of_session spec (session_at start last l))) all
    ∙ ap (λ l. given ++ between v w l) (sym (append-nil (rows_of_session spec (session_at start last (take (place - first) (drop first rows))))))
    ∙ ap (λ l. given ++ between v w (flat_map (rows_of_session spec) (sessions_from timeout most (session_at start last (take (place - first) (drop first rows))) l))) (sym (drop_all place rows past))
