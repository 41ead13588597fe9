-- A core that is fed the log of its streams, for private clauses.
use Rattle.std.specs.Prelude.{◌≡◌, map, Option, IfSome}
use Rattle.input_types.specs.declared.inputs.Inputs.{Inputs}
use Rattle.job_core.specs.Core.{CoreStands, IsSameCore}
use Rattle.job_core.specs.Fresh.{fresh_heard_of, lane_kinds}
use Rattle.job_core.specs.Lanes.{kind_of}
use Rattle.job_core.specs.declared.job.Core.{Core}
use Rattle.outside.specs.KnownFiles.{KnownFiles}
use Rattle.log_reading.specs.Places.{heard_in}

-- the core is one of these inputs, and has heard nothing
pub record IsFreshCore (inputs : Inputs) (core : Core) : Type 0 where
  pub stands : CoreStands core (fresh_heard_of inputs core.plan.streams) 0
  pub policy_is : core.policy ≡ inputs.policy
  pub lanes_are : map kind_of core.lanes ≡ lane_kinds inputs core.plan.streams

-- the core was fed all that the files of its lanes hold
pub record FeedsCore (files : Option KnownFiles) (inputs : Inputs) (old new : Core) : Type 0 where
  pub same : IsSameCore old new
  pub stands : IfSome files (λ known. CoreStands new (heard_in known inputs old.plan.streams) 0)
