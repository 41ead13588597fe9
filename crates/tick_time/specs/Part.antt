-- Parts of a date and a time of day, and the words that name them.
use Rattle.std.specs.Prelude.{Bool, ◌||◌, List, ℕ, codes, Option, Some, option_map, if◌then◌else◌}
use Rattle.tick_time.specs.declared.unit.Unit.{Unit}
use Rattle.tick_time.specs.declared.unit.Unit.TheVariants as units
use Rattle.tick_time.specs.declared.part.Part.{Part}
use Rattle.tick_time.specs.declared.part.Part.TheVariants.{Year, Month, Day, Hour, Minute, Second, Millisecond, Microsecond}
use Rattle.tick_time.specs.Unit.{is_name, unit_named}

-- the part that a unit counts
abbrev pub part_of_unit : Unit → Part
part_of_unit units.Day = Day
part_of_unit units.Hour = Hour
part_of_unit units.Minute = Minute
part_of_unit units.Second = Second
part_of_unit units.Millisecond = Millisecond
part_of_unit units.Microsecond = Microsecond

-- the names of the parts that no unit counts
abbrev pub is_year_name : List ℕ → Bool
is_year_name word =
    is_name (codes "year") word || is_name (codes "yyyy") word || is_name (codes "yy") word

abbrev pub is_month_name : List ℕ → Bool
is_month_name word =
    is_name (codes "month") word || is_name (codes "mm") word || is_name (codes "m") word

-- the part that a word names
unfoldable pub part_named : List ℕ → Option Part
part_named word =
    if is_year_name word then Some Year
    else (if is_month_name word then Some Month else option_map part_of_unit (unit_named word))
