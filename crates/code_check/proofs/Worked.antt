-- The examples compute.
use Rattle.std.proofs.Common.{refl}
use Rattle.code_check.specs.Examples.{Examples}

pub examples : Examples
examples = (refl, refl, refl)
