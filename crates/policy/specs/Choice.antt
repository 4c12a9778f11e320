-- Any of the built policies, which answers as the one that was chosen.
-- Assumes nothing.
use Rattle.std.specs.Prelude.{Bool, ℕ}
use Rattle.policy.specs.Answers.{rights_allow, rings_allow}
use Rattle.policy.specs.declared.any.AnyPolicy.{AnyPolicy}
use Rattle.policy.specs.declared.any.AnyPolicy.TheVariants.{Rights, Rings}

abbrev pub any_allows : AnyPolicy → ℕ → ℕ → Bool
any_allows (Rights p) d g = rights_allow p.rows d g
any_allows (Rings p) d g = rings_allow p.domains p.gates d g
