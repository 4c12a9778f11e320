-- A yard with one domain changed, or another chain, is whole again.
use Rattle.std.proofs.Common.{◌≡◌, ℕ, ◌<◌, ◌≤◌, Bool, List, length, get_or, sym, ap, ◌∙◌, subst, ⊎_elim, length-set, get_or-set_other, get_or-set_same}
use Rattle.std.proofs.lemmas.Bool.{cases_eq}
use Rattle.segment.specs.Guards.{Row, apart, end}
use Rattle.code_check.specs.Windows.{words_from, Framed}
use Rattle.domain.specs.Confined.{Domain as Placed, Admitted, InCode, Pointing, Confined}
use Rattle.steps.specs.declared.states.State.TheVariants.{Idle}
use Rattle.steps.specs.Model.{Domain, Yard, nobody, at, put}
use Rattle.steps.specs.Steps.{chained}
use Rattle.steps.specs.Whole.{Whole, placed}

-- where a domain stands is not changed: its window and its segment
pub record Same (a b : Domain) : Type 0 where
  pub base : a.base ≡ b.base
  pub m : a.m ≡ b.m
  pub segment : a.segment ≡ b.segment

-- what is known of the domain that is put
pub record Sound (p : Placed) (d : Domain) : Type 0 where
  pub confined : Confined p d.registers d.pc
  pub ready : d.state ≡ Idle → Pointing p d.registers

abbrev placed_as : Yard → Domain → Placed
placed_as y d = record { words = words_from y.store d.base d.m; base = d.base; m = d.m; segment = d.segment }

module _ (y : Yard) (W : Whole y) (c : ℕ) (lt : c < length y.domains) (d : Domain) (same : Same d (at y c)) (s : Sound (placed y c) d)
    (lives : (n : ℕ) → n < length y.chain → get_or y.chain n 0 ≡ c → d.state ≡ Idle → ⊥) where
  here : at (put y c d) c ≡ d
  here = get_or-set_same y.domains c d nobody lt

  there : (k : ℕ) → (k ≡ c → ⊥) → at (put y c d) k ≡ at y k
  there k n = get_or-set_other y.domains c k d nobody n

  long : length (put y c d).domains ≡ length y.domains
  long = length-set y.domains c d

  -- a fact of each domain, from that of the new one and those of the others
  each : (P : Domain → Type 0) → P d → ((k : ℕ) → k < length y.domains → P (at y k)) → (k : ℕ) → k < length (put y c d).domains → P (at (put y c d) k)
  each P new old k l =
      ⊎_elim (λ (e : k ≡ c). subst (λ n. P (at (put y c d) n)) (sym e) (subst P (sym here) new))
      (λ (n : k ≡ c → ⊥). subst P (sym (there k n)) (old k (subst (λ x. k < x) long l)))
      (cases_eq k c)

  placed_same : placed_as y d ≡ placed y c
  placed_same = λ i. record { words = words_from y.store (same.base i) (same.m i); base = same.base i; m = same.m i; segment = same.segment i }

  row_of : (k : ℕ) → (at (put y c d) k).segment ≡ (at y k).segment
  row_of k =
      ⊎_elim (λ (e : k ≡ c). subst (λ n. (at (put y c d) n).segment ≡ (at y n).segment) (sym e) (ap (λ (x : Domain). x.segment) here ∙ same.segment))
      (λ (n : k ≡ c → ⊥). ap (λ (x : Domain). x.segment) (there k n)) (cases_eq k c)

  place_of : (k : ℕ) → placed (put y c d) k ≡ placed y k
  place_of k =
      ⊎_elim (λ (e : k ≡ c). subst (λ n. placed (put y c d) n ≡ placed y n) (sym e) (ap (placed_as y) here ∙ placed_same))
      (λ (n : k ≡ c → ⊥). ap (placed_as y) (there k n)) (cases_eq k c)

  pub put_whole : Whole (put y c d)
  put_whole = record {
    few = subst (λ n. n ≤ 8) (sym long) W.few;
    admitted = λ k l. subst Admitted (sym (place_of k)) (W.admitted k (subst (λ x. k < x) long l));
    framed = each (λ x. Framed y.store x.base x.m (words_from y.store x.base x.m))
        (subst (λ (p : Placed). Framed y.store p.base p.m (words_from y.store p.base p.m)) (sym placed_same) (W.framed c lt)) W.framed;
    fits = each (λ x. end x.segment ≤ y.size) (subst (λ (r : Row). end r ≤ y.size) (sym same.segment) (W.fits c lt)) W.fits;
    spread = λ a b p q n. (λ i. apart (row_of a i) (row_of b i)) ∙ W.spread a b (subst (λ x. a < x) long p) (subst (λ x. b < x) long q) n;
    confined = each (λ x. Confined (placed_as y x) x.registers x.pc) (subst (λ p. Confined p d.registers d.pc) (sym placed_same) s.confined) W.confined;
    ready = each (λ x. x.state ≡ Idle → Pointing (placed_as y x) x.registers) (λ e. subst (λ p. Pointing p d.registers) (sym placed_same) (s.ready e)) W.ready;
    chained = λ n l. subst (λ x. get_or y.chain n 0 < x) (sym long) (W.chained n l);
    lively = λ n l e.
        ⊎_elim (λ (q : get_or y.chain n 0 ≡ c). lives n l q (sym (ap (λ (x : Domain). x.state) here) ∙ (ap (λ k. (at (put y c d) k).state) (sym q) ∙ e)))
        (λ (q : get_or y.chain n 0 ≡ c → ⊥). W.lively n l (sym (ap (λ (x : Domain). x.state) (there (get_or y.chain n 0) q)) ∙ e))
        (cases_eq (get_or y.chain n 0) c);
    distinct = W.distinct;
    entries = λ g e h. let t = W.entries g e h in (subst (λ x. e.domain < x) (sym long) t.0, subst (λ p. InCode p e.pc) (sym (place_of e.domain)) t.1);
  }

-- another chain, of domains of the yard
pub chain_whole : (y : Yard) → Whole y → (cs : List ℕ) (b : Bool) → ((n : ℕ) → n < length cs → get_or cs n 0 < length y.domains) →
    ((n : ℕ) → n < length cs → (at y (get_or cs n 0)).state ≡ Idle → ⊥) → ((i j : ℕ) → i < length cs → j < length cs → get_or cs i 0 ≡ get_or cs j 0 → i ≡ j) → Whole (chained y cs b)
chain_whole y W cs b h l u = record {
  few = W.few;
  admitted = W.admitted;
  framed = W.framed;
  fits = W.fits;
  spread = W.spread;
  confined = W.confined;
  ready = W.ready;
  chained = h;
  lively = l;
  distinct = u;
  entries = W.entries;
}
