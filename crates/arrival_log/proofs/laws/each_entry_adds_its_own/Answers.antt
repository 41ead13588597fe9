use Rattle.std.proofs.Common.{[]}
use Rattle.arrival_log.specs.Log.{origin}
use Rattle.arrival_log.proofs.EntryLemmas.{place_after-push, events_behind-push, drops_behind-push}
use Rattle.arrival_log.proofs.laws.each_entry_adds_its_own.Goals as goal

pub returns : goal.returns
returns c = λ j front e. record {
  event = λ partition. events_behind-push j partition [] front e;
  drop = λ stream partition. drops_behind-push j stream partition [] front e;
  place = place_after-push origin front e;
}
