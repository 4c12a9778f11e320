use Rattle.std.proofs.Common.{sym, ◌∙◌, arith, pow_mono}
use Rattle.std.proofs.lemmas.Nat.{one_shl}
use Rattle.code_check.proofs.Framing.{least_bits, most_bits}
use Rattle.code_check.proofs.windows.way_bits.Goals as goal

pub overflow_sub-result : goal.overflow_sub-result
overflow_sub-result c =
    let m = c.args.m in
    let fits = sym c.bits_fit.ensures.is ∙ c.if-not-bits_fit.false in
    let low = least_bits m fits in
    let high = most_bits m fits in
    omega (arith, one_shl m 32 (omega arith), pow_mono {i = 2} {j = m} (omega arith))
