use Rattle.tick_time.proofs.CalendarLemmas.{date_number-date_of_number}
use Rattle.tick_time.proofs.laws.dates_have_their_numbers.Goals as goal

pub returns : goal.returns
returns c = date_number-date_of_number
