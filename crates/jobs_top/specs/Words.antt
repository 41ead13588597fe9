-- The words of the command line (docs/GUIDE, "Words").
use Rattle.std.specs.Prelude.{ℕ, List, [], ◌∷◌, codes, Option, Some, None, option_map, if◌then◌else◌}
use Rattle.std.specs.Str.{bytes_eq}
use Rattle.jobs_top.specs.declared.words.Action.{Action}
use Rattle.jobs_top.specs.declared.words.Action.TheVariants.{Preview, Check}

-- what is done, and the names of the files of its documents
pub record Command : Type 0 where
  pub action : Action
  pub query : List ℕ
  pub inputs : List ℕ

-- what a word asks for
abbrev pub action_of : List ℕ → Option Action
action_of word =
    if bytes_eq word (codes "preview") then Some Preview else
    (if bytes_eq word (codes "check") then Some Check else None)

abbrev pub command_with : List ℕ → List ℕ → Action → Command
command_with query inputs action = record { action = action; query = query; inputs = inputs }

-- the words `- preview QUERY INPUTS` and `- check QUERY INPUTS`, and no others
abbrev pub command_of : List (List ℕ) → Option Command
command_of [] = None
command_of (store ∷ []) = None
command_of (store ∷ word ∷ []) = None
command_of (store ∷ word ∷ query ∷ []) = None
command_of (store ∷ word ∷ query ∷ inputs ∷ []) =
    if bytes_eq store (codes "-") then option_map (command_with query inputs) (action_of word) else None
command_of (store ∷ word ∷ query ∷ inputs ∷ more ∷ words) = None

-- the files of a command's documents, in order
abbrev pub documents_of : Command → List (List ℕ)
documents_of command = command.query ∷ command.inputs ∷ []
