use Rattle.serde_json.specs.View.{view}
use Rattle.arrival_text.proofs.JsonLemmas.{member_of-text, member_of-bytes}
use Rattle.arrival_text.proofs.json_values.member_of.Goals as goal

pub returns-in-Ok : goal.returns-in-Ok
returns-in-Ok c = rw (member_of-text c.args.name.now (view c.args.json.now) c.in-Ok.ensures.cases.1, ← c.in-Ok.ensures.cases.0) c.get.ensures

pub returns-in-Err : goal.returns-in-Err
returns-in-Err c = member_of-bytes c.args.name.now (view c.args.json.now) c.in-Err.ensures.cases.0
