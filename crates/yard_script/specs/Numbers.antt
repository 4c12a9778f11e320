-- The numbers of a script. Assumes nothing.
--   Worth radix ds r   r is the value of the digits ds, exactly where they are digits of this radix, one or more,
--                      and their value has at most 32 bits
use Rattle.std.specs.Prelude.{◌≡◌, ℕ, ◌^◌, ◌<◌, List, Option, MatchOption}
use Rattle.std.specs.Str.Parse.{IsNumeral, digits_value}

abbrev pub Worth : ℕ → List ℕ → Option ℕ → Type 0
Worth radix ds r = MatchOption r (IsNumeral radix ds → digits_value radix ds < 2 ^ 32 → ⊥) (λ n. IsNumeral radix ds × (n ≡ digits_value radix ds))
