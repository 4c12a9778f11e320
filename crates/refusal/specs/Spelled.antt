-- Numbers as text. Assumes nothing.
--   spelled_on ns   the decimals of ns, with one blank before each
--   spelled ns     the decimals of ns, with one blank between two
use Rattle.std.specs.Prelude.{ℕ, List, [], ◌∷◌, ◌++◌, decimal}

abbrev pub spelled_on : List ℕ → List ℕ
spelled_on [] = []
spelled_on (n ∷ ns) = 32 ∷ (decimal n ++ spelled_on ns)

abbrev pub spelled : List ℕ → List ℕ
spelled [] = []
spelled (n ∷ ns) = decimal n ++ spelled_on ns
