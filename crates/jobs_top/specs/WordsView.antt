-- What contracts see of the words of a command.
use Rattle.jobs_top.specs.declared.words.CommandWords.{CommandWords}
use Rattle.jobs_top.specs.Words.{Command}

abbrev pub command_in : CommandWords → Command
command_in words = record { action = words.action; query = words.query.now; inputs = words.inputs.now }
