-- What the built policies answer for a calling domain and a gate.
-- row           the rights of one domain: bit g says whether it may call gate g
-- ring          0 to 3; a larger number counts as 3
-- rights_allow  yes where the bit of the gate is set in the row of the domain
-- rings_allow   yes where the ring of the domain is at most the ring of the gate
-- There are eight domains and 32 gates: any other number gets a no.
-- Assumes nothing.
use Rattle.std.specs.Prelude.{Bool, ◌&&◌, List, ℕ, ◌/◌, ◌%◌, ◌^◌, min, eqb, ltb, leb, get_or}

abbrev pub rights_allow : List ℕ → ℕ → ℕ → Bool
rights_allow rows d g = ltb d 8 && (ltb g 32 && eqb (get_or rows d 0 / 2 ^ g % 2) 1)

abbrev pub ring : ℕ → ℕ
ring n = min n 3

abbrev pub rings_allow : List ℕ → List ℕ → ℕ → ℕ → Bool
rings_allow domains gates d g = ltb d 8 && (ltb g 32 && leb (ring (get_or domains d 0)) (ring (get_or gates g 0)))
