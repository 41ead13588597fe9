use Rattle.std.proofs.Common.{◌≡◌, ◌++◌, drop}
use Rattle.std.specs.List.{flat_map}
use Rattle.preview_text.specs.PreviewText.{row_line}
use Rattle.preview_text.proofs.printing.push_rows.Given as goal

abbrev pub invariant-loop-row : goal.invariant-loop-row
invariant-loop-row l =
    l.out ++ flat_map row_line (drop l.row-index l.rows) ≡ l.fn.out ++ flat_map row_line l.rows
