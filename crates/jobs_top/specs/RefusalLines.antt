-- The line of a refusal: its name, with the place, the key or the name where it has one (docs/GUIDE, "Printed text").
use Rattle.std.specs.Prelude.{ℕ, List, codes}
use Rattle.std.specs.Fmt.{decimal}
use Rattle.input_book.specs.declared.input_err.InputErr.{InputErr}
use Rattle.input_book.specs.declared.input_err.InputErr.TheVariants as inputs
use Rattle.query_tokens.specs.declared.parse_err.ParseErr.{ParseErr}
use Rattle.query_tokens.specs.declared.parse_err.ParseErr.TheVariants as query
use Rattle.query_type.specs.declared.type_err.TypeErr.{TypeErr}
use Rattle.query_type.specs.declared.type_err.TypeErr.TheVariants as plan
use Rattle.jobs_top.specs.StatusLines.{labelled}

-- a refusal with a place, on a line
abbrev pub placed : List ℕ → ℕ → List ℕ
placed name place = labelled name (decimal place)

-- of a query as a text
abbrev pub query_line : ParseErr → List ℕ
query_line (query.Utf8 place) = placed (codes "error 3 Query.Utf8") place
query_line (query.Token place) = placed (codes "error 3 Query.Token") place
query_line (query.Expected place) = placed (codes "error 3 Query.Expected") place
query_line (query.Deep place) = placed (codes "error 3 Query.Deep") place
query_line query.TooLong = codes "error 3 Query.TooLong\n"
query_line query.Memory = codes "error 3 Query.Memory\n"

-- of an inputs document
abbrev pub inputs_line : InputErr → List ℕ
inputs_line inputs.Toml = codes "error 3 Inputs.Toml\n"
inputs_line (inputs.Missing key) = labelled (codes "error 3 Inputs.Missing") key
inputs_line (inputs.Unknown key) = labelled (codes "error 3 Inputs.Unknown") key
inputs_line (inputs.Shape key) = labelled (codes "error 3 Inputs.Shape") key
inputs_line (inputs.Range key) = labelled (codes "error 3 Inputs.Range") key
inputs_line (inputs.Twice name) = labelled (codes "error 3 Inputs.Twice") name
inputs_line (inputs.ThroughOrder key) = labelled (codes "error 3 Inputs.ThroughOrder") key
inputs_line (inputs.EffectiveOrder key) = labelled (codes "error 3 Inputs.EffectiveOrder") key
inputs_line (inputs.TooMany key) = labelled (codes "error 3 Inputs.TooMany") key
inputs_line inputs.Memory = codes "error 3 Inputs.Memory\n"
inputs_line inputs.TooLong = codes "error 3 Inputs.TooLong\n"

-- of a query over the inputs
abbrev pub plan_line : TypeErr → List ℕ
plan_line (plan.UnknownSource place) = placed (codes "error 3 Query.UnknownSource") place
plan_line (plan.UnknownColumn place) = placed (codes "error 3 Query.UnknownColumn") place
plan_line (plan.Ambiguous place) = placed (codes "error 3 Query.Ambiguous") place
plan_line (plan.Kind place) = placed (codes "error 3 Query.Kind") place
plan_line (plan.Aggregate place) = placed (codes "error 3 Query.Aggregate") place
plan_line (plan.NotGrouped place) = placed (codes "error 3 Query.NotGrouped") place
plan_line (plan.Window place) = placed (codes "error 3 Query.Window") place
plan_line (plan.Bound place) = placed (codes "error 3 Query.Bound") place
plan_line (plan.StampTwice place) = placed (codes "error 3 Query.StampTwice") place
plan_line (plan.NameTwice place) = placed (codes "error 3 Query.NameTwice") place
plan_line (plan.TooMany place) = placed (codes "error 3 Query.TooMany") place
plan_line (plan.Unsupported place) = placed (codes "error 3 Query.Unsupported") place
plan_line plan.Memory = codes "error 3 Query.Memory\n"
