-- The windows of a snapshot are sound.
use Rattle.std.specs.Prelude.{◌≡◌, ℕ, Bool, true, false, ◌==◌, cond, [], ◌∷◌, refl}
use Rattle.std.proofs.Common.{ap, arith}
use Rattle.std.proofs.lemmas.Bool.{eqb-true}
use Rattle.window_grid.specs.Snapshot.{snapshot_windows}
use Rattle.window_grid.specs.Windows.{AreSound}
use Rattle.window_grid.specs.declared.snapshot.SnapshotSpec.{SnapshotSpec}

pub snapshot_windows-once : (e t : ℕ) → cond (t == e) (t ∷ []) [] ≡ cond (t == e) (e ∷ []) []
snapshot_windows-once e t = by (t == e) refl
  where
    by : (b : Bool) → (t == e) ≡ b → cond b (t ∷ []) [] ≡ cond b (e ∷ []) []
    by true h = ap (λ x. x ∷ []) (eqb-true t e h)
    by false h = refl

pub snapshot_windows-sound : (spec : SnapshotSpec) → AreSound (snapshot_windows spec)
snapshot_windows-sound spec = record {
  ends_later = λ t. (omega arith, tt);
  ends_near = λ t. (omega arith, tt);
  holds_earlier = λ e t h. omega (arith, eqb-true t e h);
  holds_near = λ e t h. omega (arith, eqb-true t e h);
  once = λ t. ((λ u. snapshot_windows-once t u), tt);
}
