-- Worked examples of the check, on windows of 64 bytes. Assumes nothing.
--   0x00108093 is ADDI x1,x1,1; 0x00100073 is EBREAK; 0x0195FDB3 is the mask word AND x27,x11,x25
use Rattle.std.specs.Prelude.{◌≡◌, [], ◌∷◌, ◌++◌, replicate, Ok, Err}
use Rattle.code_check.specs.Verdicts.{checked}

abbrev pub Examples : Type 0
Examples =
    (checked (replicate 15 0x00108093 ++ (0x00100073 ∷ [])) 0 6 ≡ Ok tt)
    × (checked (replicate 16 0x00108093) 0 6 ≡ Err (7 ∷ 15 ∷ 7 ∷ 0 ∷ []))
    × (checked (replicate 15 0x00100073 ++ (0x0195FDB3 ∷ [])) 0 6 ≡ Err (7 ∷ 15 ∷ 5 ∷ 0 ∷ []))
