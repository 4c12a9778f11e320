-- A domain begins confined.
use Rattle.std.proofs.Common.{◌≡◌, ℕ, ◌-◌, ◌^◌, ◌<◌, ◌≤◌, ◌≢◌, List, length, get_or, set, Ok, Result, sym, ap, ◌∙◌, subst, inl, arith, length-set, get_or-set_other, get_or-set_same}
use Rattle.std.proofs.lemmas.Nat.{pow_pos}
use Rattle.std.proofs.lemmas.Bool.Decides.{nat_tests}
use Rattle.segment.specs.Guards.{Row, Inside}
use Rattle.code_check.specs.Verdicts.{and_then}
use Rattle.code_check.specs.Windows.{code_mask_of}
use Rattle.domain.specs.Confined.{Domain, Admitted, InCode, Pointing, Confined, with_dedicated, Starts}
use Rattle.domain.proofs.Places.{quad}

-- the places of what was written, the last write first
last : (xs : List ℕ) (r v : ℕ) → length xs ≡ 32 → r < 32 → get_or (set xs r v) r 0 ≡ v
last xs r v l h = get_or-set_same xs r v 0 (omega arith)

earlier : (xs : List ℕ) (r q v w : ℕ) → r ≢ q → get_or xs r 0 ≡ w → get_or (set xs q v) r 0 ≡ w
earlier xs r q v w n e = get_or-set_other xs q r v 0 n ∙ e

long : (xs : List ℕ) (q v : ℕ) → length xs ≡ 32 → length (set xs q v) ≡ 32
long xs q v l = length-set xs q v ∙ l

fits : (m : ℕ) → 6 ≤ m → m ≤ 14 → code_mask_of m ≡ Ok (2 ^ m - 4)
fits m a b = grind (arith, nat_tests)

module _ (xs : List ℕ) (l : length xs ≡ 32) (b k : ℕ) (s : Row) where
  abbrev l0 : List ℕ
  l0 = set xs 0 0

  abbrev l1 : List ℕ
  l1 = set l0 22 b

  abbrev l2 : List ℕ
  l2 = set l1 23 k

  abbrev l3 : List ℕ
  l3 = set l2 24 s.base

  abbrev l4 : List ℕ
  l4 = set l3 25 (2 ^ s.bits - 1)

  abbrev l5 : List ℕ
  l5 = set l4 26 b

  long0 : length l0 ≡ 32
  long0 = long xs 0 0 l

  long1 : length l1 ≡ 32
  long1 = long l0 22 b long0

  long2 : length l2 ≡ 32
  long2 = long l1 23 k long1

  long3 : length l3 ≡ 32
  long3 = long l2 24 s.base long2

  long4 : length l4 ≡ 32
  long4 = long l3 25 _ long3

  long5 : length l5 ≡ 32
  long5 = long l4 26 b long4

  long6 : length (with_dedicated xs b k s) ≡ 32
  long6 = long l5 27 s.base long5

  at27 : get_or (with_dedicated xs b k s) 27 0 ≡ s.base
  at27 = last l5 27 s.base long5 (omega arith)

  at26 : get_or (with_dedicated xs b k s) 26 0 ≡ b
  at26 = earlier l5 26 27 _ b (λ e. omega (arith, e)) (last l4 26 b long4 (omega arith))

  at25 : get_or (with_dedicated xs b k s) 25 0 ≡ 2 ^ s.bits - 1
  at25 = earlier l5 25 27 _ _ (λ e. omega (arith, e)) (earlier l4 25 26 _ _ (λ e. omega (arith, e)) (last l3 25 _ long3 (omega arith)))

  at24 : get_or (with_dedicated xs b k s) 24 0 ≡ s.base
  at24 =
      earlier l5 24 27 _ _ (λ e. omega (arith, e)) (earlier l4 24 26 _ _ (λ e. omega (arith, e))
      (earlier l3 24 25 _ _ (λ e. omega (arith, e)) (last l2 24 _ long2 (omega arith))))

  at23 : get_or (with_dedicated xs b k s) 23 0 ≡ k
  at23 =
      earlier l5 23 27 _ _ (λ e. omega (arith, e)) (earlier l4 23 26 _ _ (λ e. omega (arith, e))
      (earlier l3 23 25 _ _ (λ e. omega (arith, e)) (earlier l2 23 24 _ _ (λ e. omega (arith, e)) (last l1 23 _ long1 (omega arith)))))

  at22 : get_or (with_dedicated xs b k s) 22 0 ≡ b
  at22 =
      earlier l5 22 27 _ _ (λ e. omega (arith, e)) (earlier l4 22 26 _ _ (λ e. omega (arith, e))
      (earlier l3 22 25 _ _ (λ e. omega (arith, e)) (earlier l2 22 24 _ _ (λ e. omega (arith, e))
      (earlier l1 22 23 _ _ (λ e. omega (arith, e)) (last l0 22 _ long0 (omega arith))))))

same_ok : (xs ys : List ℕ) → ◌≡◌ {A = Result (List ℕ) (List ℕ)} (Ok xs) (Ok ys) → xs ≡ ys
same_ok xs ys e = cc

begins : (d : Domain) (xs : List ℕ) → Admitted d → length xs ≡ 32 →
    Confined d (with_dedicated xs d.base (2 ^ d.m - 4) d.segment) d.base × Pointing d (with_dedicated xs d.base (2 ^ d.m - 4) d.segment)
begins d xs ok l =
    let b = d.base in
    let k = 2 ^ d.m - 4 in
    let s = d.segment in
    let first : InCode d b = (let p = pow_pos d.m in (omega arith, omega arith, quad d ok)) in
    let seg : Inside s s.base = (let p = pow_pos s.bits in (omega arith, omega arith)) in
    let j : InCode d (get_or (with_dedicated xs b k s) 26 0) = subst (InCode d) (sym (at26 xs l b k s)) first in
    let t : Inside s (get_or (with_dedicated xs b k s) 27 0) = subst (Inside s) (sym (at27 xs l b k s)) seg in (
      record {
        place = first;
        held = record {
          long = long6 xs l b k s;
          code_base = at22 xs l b k s;
          code_mask = at23 xs l b k s;
          data_base = at24 xs l b k s;
          data_mask = at25 xs l b k s;
          code = inl j;
          store = inl t;
        };
      },
      (j, t),
    )

pub starts : Starts
starts d xs ys ok l e =
    let s = d.segment in
    let is : with_dedicated xs d.base (2 ^ d.m - 4) s ≡ ys =
    same_ok _ ys (sym (ap (λ c. and_then c (λ k. Ok (with_dedicated xs d.base k s))) (fits d.m ok.low ok.high)) ∙ e)
    in
    subst (λ zs. Confined d zs d.base × Pointing d zs) is (begins d xs ok l)
