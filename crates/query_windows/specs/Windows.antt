-- Windows: calls that stand as groups, with their lengths.
use Rattle.std.specs.Prelude.{ℕ, Bool, ◌&&◌, if◌then◌else◌, Option, Some, None, Ok, List, [], ◌∷◌, codes, ℤ, pos, int_lt, int_le, ◌*ℤ◌}
use Rattle.tick_time.specs.Span.{span_of_units}
use Rattle.tick_time.specs.Unit.{is_name}
use Rattle.query_tree.specs.declared.expr.Args.{Args}
use Rattle.query_forms.specs.declared.fault.Cause.TheVariants as cause
use Rattle.query_forms.specs.Faults.{Checked, refused}
use Rattle.query_windows.specs.declared.arguments.Argument.{Argument}
use Rattle.query_windows.specs.declared.lengths.Length.{Length}
use Rattle.query_windows.specs.declared.lengths.Lengths.{Lengths}
use Rattle.query_windows.specs.declared.lengths.SessionLengths.{SessionLengths}
use Rattle.query_windows.specs.declared.windows.Window.{Window}
use Rattle.query_windows.specs.declared.windows.Window.TheVariants as window
use Rattle.query_windows.specs.declared.windows.WindowName.{WindowName}
use Rattle.query_windows.specs.declared.windows.WindowName.TheVariants as called
use Rattle.query_windows.specs.Arguments.{arguments_in}
use Rattle.query_windows.specs.Lengths.{tumbling_of, hopping_of, sliding_of, session_of}

-- the window that a name names
unfoldable pub window_named : List ℕ → Option WindowName
window_named word =
    if is_name (codes "TumblingWindow") word then Some called.Tumbling
    else (if is_name (codes "HoppingWindow") word then Some called.Hopping
    else (if is_name (codes "SlidingWindow") word then Some called.Sliding
    else (if is_name (codes "SessionWindow") word then Some called.Session
    else (if is_name (codes "SnapshotWindow") word then Some called.Snapshot else None))))

-- how many hops a window may hold
abbrev pub max_hops : ℤ
max_hops = pos 1000

-- above 0, the hop at most the size, and the size at most so many hops
abbrev pub is_grid : ℤ → ℤ → Bool
is_grid size hop =
    int_lt (pos 0) size && int_lt (pos 0) hop && int_le hop size && int_le size (max_hops *ℤ hop)

abbrev pub unless_offset : Option ℕ → Window → Checked Window
unless_offset None w = Ok w
unless_offset (Some at) w = refused at cause.Unsupported

-- a window of a size and a hop; an offset isn't built
abbrev pub grid_of_spans : ℕ → ℤ → ℤ → Option ℕ → Checked Window
grid_of_spans place size hop offset =
    if is_grid size hop then unless_offset offset (window.Grid size hop)
    else refused place cause.Window

abbrev pub grid_with : ℕ → Option ℤ → Option ℤ → Option ℕ → Checked Window
grid_with place (Some size) (Some hop) offset = grid_of_spans place size hop offset
grid_with place (Some size) None offset = refused place cause.Window
grid_with place None hop offset = refused place cause.Window

abbrev pub span_of_length : Length → Option ℤ
span_of_length l = span_of_units l.unit l.count

abbrev pub grid_of : ℕ → Option Lengths → Checked Window
grid_of place None = refused place cause.Window
grid_of place (Some l) = grid_with place (span_of_length l.size) (span_of_length l.hop) l.offset

abbrev pub snapshot_of : ℕ → List Argument → Checked Window
snapshot_of place [] = Ok window.Snapshot
snapshot_of place (a ∷ given) = refused place cause.Window

abbrev pub grid_with_arguments : ℕ → (List Argument → Option Lengths) → Option (List Argument) → Checked Window
grid_with_arguments place f None = refused place cause.Window
grid_with_arguments place f (Some given) = grid_of place (f given)

abbrev pub snapshot_with_arguments : ℕ → Option (List Argument) → Checked Window
snapshot_with_arguments place None = refused place cause.Window
snapshot_with_arguments place (Some given) = snapshot_of place given

-- a length above 0
abbrev pub above_zero : Option ℤ → Option ℤ
above_zero None = None
above_zero (Some z) = if int_lt (pos 0) z then Some z else None

abbrev pub sliding_of_span : ℕ → Option ℤ → Checked Window
sliding_of_span place None = refused place cause.Window
sliding_of_span place (Some size) = Ok (window.Sliding size)

abbrev pub sliding_of_length : ℕ → Option Length → Checked Window
sliding_of_length place None = refused place cause.Window
sliding_of_length place (Some l) = sliding_of_span place (above_zero (span_of_length l))

abbrev pub sliding_with_arguments : ℕ → Option (List Argument) → Checked Window
sliding_with_arguments place None = refused place cause.Window
sliding_with_arguments place (Some given) = sliding_of_length place (sliding_of given)

abbrev pub session_of_spans : ℕ → Option ℤ → Option ℤ → Checked Window
session_of_spans place (Some timeout) (Some most) = Ok (window.Session timeout most)
session_of_spans place (Some timeout) None = refused place cause.Window
session_of_spans place None most = refused place cause.Window

abbrev pub session_of_lengths : ℕ → Option SessionLengths → Checked Window
session_of_lengths place None = refused place cause.Window
session_of_lengths place (Some l) =
    session_of_spans place (above_zero (span_of_length l.timeout)) (above_zero (span_of_length l.most))

abbrev pub session_with_arguments : ℕ → Option (List Argument) → Checked Window
session_with_arguments place None = refused place cause.Window
session_with_arguments place (Some given) = session_of_lengths place (session_of given)

abbrev pub window_with : ℕ → WindowName → Option (List Argument) → Checked Window
window_with place called.Tumbling given = grid_with_arguments place tumbling_of given
window_with place called.Hopping given = grid_with_arguments place hopping_of given
window_with place called.Snapshot given = snapshot_with_arguments place given
window_with place called.Sliding given = sliding_with_arguments place given
window_with place called.Session given = session_with_arguments place given

-- the window of a name with these arguments
unfoldable pub window_of : ℕ → WindowName → Option Args → Checked Window
window_of place name args = window_with place name (arguments_in args)
