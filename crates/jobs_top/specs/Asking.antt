-- Which files a command has asked for.
use Rattle.std.specs.Prelude.{ℕ, List, Option}
use Rattle.log_reading.specs.Asking.{AsksPrefixOf, AsksUpTo}
use Rattle.outside.specs.KnownFiles.{KnownFiles}
use Rattle.jobs_top.specs.Texts.{MayAsk}
use Rattle.jobs_top.specs.Words.{Command}

-- the first of the files that it may ask for, perhaps none or all, were asked for in order
pub record AsksInOrder (command : Command) (old new : Option KnownFiles) : Type 0 where
  pub names : List (List ℕ)
  pub may : MayAsk old command names
  pub asks : AsksPrefixOf names old new

-- of the files that it may ask for those up to one of this name were asked for
pub record AsksUpToFile (command : Command) (name : List ℕ) (old new : Option KnownFiles) : Type 0 where
  pub names : List (List ℕ)
  pub may : MayAsk old command names
  pub asks : AsksUpTo name names old new
