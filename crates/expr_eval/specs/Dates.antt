-- Operations on moments.
use Rattle.std.specs.Prelude.{ℕ, pos, Option, Some, None}
use Rattle.tick_time.specs.DateArithmetic.{date_sum, date_difference, date_field}
use Rattle.tick_time.specs.declared.part.Part.{Part}
use Rattle.value_text.specs.Casts.{moment_or_null}
use Rattle.event_value.specs.declared.value.Value.{Value}
use Rattle.event_value.specs.declared.value.Value.TheVariants.{Null, Big, Moment}

-- a moment so many parts later; Null where it is refused
unfoldable pub later : Part → Value → Value → Value
later part (Big n) (Moment m) = moment_or_null (date_sum part n m)
later part _ _ = Null

-- the boundaries of a part from a moment to another
unfoldable pub boundaries : Part → Value → Value → Value
boundaries part (Moment from) (Moment to) = Big (date_difference part from to)
boundaries part _ _ = Null

-- a part of a moment
unfoldable pub field : Part → Value → Value
field part (Moment m) = Big (pos (date_field part m))
field part _ = Null
