use Rattle.std.proofs.Common.{◌≡◌, ◌+◌, filter}
use Rattle.std.specs.Prelude.{nat_lt}
use Rattle.window_grid.specs.Grid.{multiples}
use Rattle.window_grid.specs.State.{is_moment}
use Rattle.window_grid.proofs.grid.ends_of.Given as goal

abbrev pub invariant-loop-place : goal.invariant-loop-place
invariant-loop-place l =
    l.ends ≡ filter is_moment (filter (λ e. nat_lt e (l.time + l.size)) (multiples l.hop l.first l.place))
