use Rattle.query_round_trip.proofs.RoundTrip.{read_again}
use Rattle.query_round_trip.proofs.laws.canonical_text_is_read_again.Goals as goal

pub returns : goal.returns
returns c = read_again
