use Rattle.std.proofs.Common.{◌≡◌, ◌++◌, true, take}
use Rattle.std.specs.List.{flat_map, list_all}
use Rattle.field_forms.proofs.lists.append_items.Given as goal

abbrev pub invariant-loop-item : goal.invariant-loop-item
invariant-loop-item g l = record {
  bytes : l.out ≡ l.initial.out ++ flat_map g.F.FormOf.form.spelling (take l.item-index l.items);
  fits : list_all g.F.FormOf.form.fits (take l.item-index l.items) ≡ true;
}
