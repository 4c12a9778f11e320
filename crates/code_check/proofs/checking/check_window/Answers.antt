use Rattle.std.proofs.Common.{refl, arith, pow_mono}
use Rattle.code_check.proofs.checking.check_window.Goals as goal

pub check_words-requires : goal.check_words-requires
check_words-requires c =
    let f = c.in_ok-window.ensures.framed _ refl in
    omega (arith, f.whole, pow_mono f.high)
