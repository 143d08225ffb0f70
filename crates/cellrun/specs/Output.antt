-- The bytes of an output, written or not.
use Rattle.std.specs.Prelude.{ℕ, List, Option, drop}
use Rattle.std.specs.Io.KnownBytes.{append_known}
use Rattle.cellrun.specs.declared.output.Output.{Output}

-- the writer's bytes, if those are known, and then the gathered ones that are not written yet
abbrev pub output_contents : {W : Type 0} → (W → Option (List ℕ)) → Output W → Option (List ℕ)
output_contents contents output =
    append_known (contents output.writer) (drop output.written output.gathered.items)
