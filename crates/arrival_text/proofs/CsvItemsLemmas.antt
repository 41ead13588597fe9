-- The items of a list of records, by the places that the header gives, and how many there are.
use Rattle.std.proofs.Common.{◌≡◌, ◌≤◌, ◌+◌, ◌==◌, ℕ, zero, suc, List, [], ◌∷◌, length, map, sum_by, Bool, true, false, Some, None, refl, ap, ap₂, sym, ◌∙◌, arith}
use Rattle.std.specs.List.{list_all}
use Rattle.std.specs.Prelude.{if◌then◌else◌, nat_lt, ◌&&◌}
use Rattle.std.specs.Str.{is_utf8}
use Rattle.std.proofs.lemmas.List.{length-map}
use Rattle.csv.specs.Machine.{next_record}
use Rattle.csv.specs.Reading.{is_bom, records_from, records_next, strip_bom}
use Rattle.csv.specs.declared.parser.Config.{Config}
use Rattle.csv.specs.declared.parser.State.{State}
use Rattle.csv.specs.declared.parser.State.TheVariants as st
use Rattle.event_value.specs.declared.kind.Column.{Column}
use Rattle.event_value.specs.declared.record.Item.{Item}
use Rattle.event_value.specs.declared.record.Item.TheVariants.{Bad}
use Rattle.event_value.specs.declared.record.Rule.TheVariants.{Syntax, Long}
use Rattle.arrival_text.specs.CsvItems.{Fields, config, csv_records, csv_items_of, items_under_header, moment_in, record_item}
use Rattle.arrival_text.specs.CsvPlaces.{column_place, item_at, places_in, value_at}
use Rattle.arrival_text.specs.declared.csv_places.Places.{Places}
use Rattle.arrival_text.specs.Items.{max_record, item_of}
use Rattle.arrival_text.proofs.ValuesLemmas.{values_of-map}

item-at : (columns : List Column) (stamped : Bool) (header fields : Fields) → item_at (places_in columns stamped header) fields ≡ record_item columns stamped header fields
item-at columns stamped header fields =
    ap (λ values. if nat_lt max_record (sum_by length fields) then Bad Long
    else (if (length fields == length header) && list_all is_utf8 fields then item_of (moment_in stamped header fields) values else Bad Syntax))
    (values_of-map (value_at fields) (column_place header) columns)

-- by its places a record has the same item
items-at : (columns : List Column) (stamped : Bool) (header : Fields) (rest : List Fields)
    → map (item_at (places_in columns stamped header)) rest ≡ map (record_item columns stamped header) rest
items-at columns stamped header [] = refl
items-at columns stamped header (fields ∷ rest) = ap₂ (λ item items. item ∷ items) (item-at columns stamped header fields) (items-at columns stamped header rest)

few_from : (cfg : Config) (n : ℕ) (s : State) (xs : List ℕ) → length (records_from cfg n s xs) ≤ n
unfolding records_from
few_from cfg zero s xs = omega arith
few_from cfg (suc n) s xs =
    elim (next_record cfg s [] [] xs) as (λ o. length (records_next (records_from cfg n) o) ≤ suc n) [
      | None ↦ omega arith
      | Some p ↦ let h = few_from cfg n p.1 p.2 in omega arith
    ]

no_longer : (bytes : List ℕ) → length (strip_bom bytes) ≤ length bytes
unfolding strip_bom
no_longer [] = omega arith
no_longer (a ∷ []) = omega arith
no_longer (a ∷ b ∷ []) = omega arith
no_longer (a ∷ b ∷ c ∷ rest) =
    elim (is_bom a b c) as (λ t. length (if t then rest else a ∷ b ∷ c ∷ rest) ≤ length (a ∷ b ∷ c ∷ rest)) [ true ↦ omega arith | false ↦ omega arith ]

few_under : (columns : List Column) (stamped : Bool) (all : List Fields) (n : ℕ) → length all ≤ n + 1 → length (items_under_header columns stamped all) ≤ n
few_under columns stamped [] n h = omega arith
few_under columns stamped (header ∷ rest) n h =
    let same = length-map rest (record_item columns stamped header) in
    omega arith

-- there are no more items than bytes
pub few-items : (columns : List Column) (stamped : Bool) (delimiter : ℕ) (bytes : List ℕ) → length (csv_items_of columns stamped delimiter bytes) ≤ length bytes
few-items columns stamped delimiter bytes =
    let few = few_from (config delimiter) (length (strip_bom bytes) + 1) st.StartRecord (strip_bom bytes) in
    let less = no_longer bytes in
    few_under columns stamped (csv_records delimiter bytes) (length bytes) (omega arith)

-- the items below the header that was read first
pub items-under : (columns : List Column) (stamped : Bool) (delimiter : ℕ) (bytes : List ℕ) (before after : List Fields) (header : Fields) (places : Places) (items : List Item)
    → before ≡ csv_records delimiter bytes → before ≡ header ∷ after → places ≡ places_in columns stamped header → items ≡ map (item_at places) after
    → items ≡ csv_items_of columns stamped delimiter bytes
items-under columns stamped delimiter bytes before after header places items all read at found =
    found ∙ ap (λ p. map (item_at p) after) at ∙ items-at columns stamped header after ∙ ap (items_under_header columns stamped) (sym read ∙ all)
