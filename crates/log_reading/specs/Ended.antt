-- Inputs whose partitions all count as ended, as a preview reads them (docs/INPUTS, "Verdicts").
use Rattle.std.specs.Prelude.{true, map}
use Rattle.input_types.specs.declared.inputs.Inputs.{Inputs}
use Rattle.input_types.specs.declared.inputs.Partition.{Partition}
use Rattle.input_types.specs.declared.inputs.Stream.{Stream}

abbrev pub ended_partition : Partition → Partition
ended_partition partition = record { segments = partition.segments; ended = true }

-- a stream of ended partitions
abbrev pub ended_stream : Stream → Stream
ended_stream stream = record {
  name = stream.name;
  format = stream.format;
  columns = stream.columns;
  partitions = map ended_partition stream.partitions;
}

-- the same inputs, each of whose partitions is ended
abbrev pub ended_inputs : Inputs → Inputs
ended_inputs inputs = record {
  streams = map ended_stream inputs.streams;
  references = inputs.references;
  policy = inputs.policy;
}
