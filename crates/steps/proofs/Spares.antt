-- A register that is not dedicated may be written at any time.
use Rattle.std.proofs.Common.{◌≡◌, ℕ, ◌%◌, ◌^◌, ◌<◌, ◌≤◌, false, List, get_or, sym, ◌∙◌, subst, inl, inr, ⊎_elim, arith}
use Rattle.segment.specs.Guards.{Inside}
use Rattle.code_check.specs.Registers.{dedicated}
use Rattle.machine.specs.Registers.{written}
use Rattle.domain.specs.Confined.{Domain, InCode, Pointing, Confined}
use Rattle.domain.proofs.Writes.{written_length, written_other, apart}

module _ (d : Domain) (xs : List ℕ) (rd v : ℕ) (e : dedicated rd ≡ false) where
  kept : (r : ℕ) → 22 ≤ r → r ≤ 27 → get_or (written xs rd v) r 0 ≡ get_or xs r 0
  kept r lo hi = written_other xs rd v r (apart rd r e lo hi)

  pub spare_pointing : Pointing d xs → Pointing d (written xs rd v)
  spare_pointing b = (subst (InCode d) (sym (kept 26 (omega arith) (omega arith))) b.0, subst (Inside d.segment) (sym (kept 27 (omega arith) (omega arith))) b.1)

  pub spare_confined : (pc : ℕ) → Confined d xs pc → Confined d (written xs rd v) pc
  spare_confined pc h =
      let y = h.held in
      let k26 = sym (kept 26 (omega arith) (omega arith)) in
      let k27 = sym (kept 27 (omega arith) (omega arith)) in
      record {
        place = h.place;
        held = record {
          long = written_length xs rd v ∙ y.long;
          code_base = kept 22 (omega arith) (omega arith) ∙ y.code_base;
          code_mask = kept 23 (omega arith) (omega arith) ∙ y.code_mask;
          data_base = kept 24 (omega arith) (omega arith) ∙ y.data_base;
          data_mask = kept 25 (omega arith) (omega arith) ∙ y.data_mask;
          code = ⊎_elim (λ p. inl (subst (InCode d) k26 p)) (λ p. inr (p.0, subst (λ x. x < 2 ^ d.m) k26 p.1, subst (λ x. x % 4 ≡ 0) k26 p.2)) y.code;
          store = ⊎_elim (λ p. inl (subst (Inside d.segment) k27 p)) (λ p. inr (p.0, subst (λ x. x < 2 ^ d.segment.bits) k27 p.1)) y.store;
        };
      }
