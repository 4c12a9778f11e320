-- A yard whose domains or chain have changed is whole again.
--   standing ws x        where a domain stands over a store: its window and its segment
--   Behind ws pc         pc is right behind an ECALL of the store ws
--   Working s            s is the state of a domain on the chain
--   On cs c              c is on the chain cs
--   Linked y             what holds of a whole yard's chain
--   remade               other domains at the same places, and another chain
--   Fit y c xs pc s cs p what is asked of the registers, pc and state of the domain c, of a new chain and of its pending call
--   put_whole            so the yard with that domain put is whole
use Rattle.std.proofs.Common.{◌≡◌, ℕ, ◌+◌, ◌<◌, ◌≤◌, Bool, true, ◌⊎◌, List, length, get_or, set, Ok, sym, refl, ◌∙◌, subst, ⊎_elim, arith, length-set, get_or-set_other, get_or-set_same}
use Rattle.std.proofs.lemmas.Bool.{cases_eq}
use Rattle.rv32i.specs.declared.instructions.Instruction.TheVariants.{Ecall}
use Rattle.segment.specs.Guards.{apart, end}
use Rattle.code_check.specs.Windows.{words_from, Framed}
use Rattle.machine.specs.Executed.{next_of}
use Rattle.domain.specs.Confined.{Domain as Placed, Admitted, InCode, Pointing, Confined}
use Rattle.yard_steps.specs.declared.states.State.{State}
use Rattle.yard_steps.specs.declared.states.State.TheVariants.{Idle, Active, AtHost}
use Rattle.yard_steps.specs.Model.{Domain, Yard, nobody, at, put, chained}
use Rattle.yard_steps.specs.Steps.{fetched}
use Rattle.yard_steps.specs.Whole.{Whole, placed, at_work, Called}

abbrev pub standing : List ℕ → Domain → Placed
standing ws x = record { words = words_from ws x.base x.m; base = x.base; m = x.m; segment = x.segment }

abbrev pub Behind : List ℕ → ℕ → Type 0
Behind ws pc = (a : ℕ) × (pc ≡ next_of a) × (fetched ws a ≡ Ok Ecall)

abbrev pub Working : State → Type 0
Working s = (s ≡ Active) ⊎ (s ≡ AtHost)

abbrev pub On : List ℕ → ℕ → Type 0
On cs c = (n : ℕ) × (n < length cs) × (get_or cs n 0 ≡ c)

pub record Linked (y : Yard) : Type 0 where
  pub chained : (n : ℕ) → n < length y.chain → get_or y.chain n 0 < y.count
  pub works : (n : ℕ) → n < length y.chain → (at y (get_or y.chain n 0)).state ≡ at_work y.pending n
  pub distinct : (i j : ℕ) → i < length y.chain → j < length y.chain → get_or y.chain i 0 ≡ get_or y.chain j 0 → i ≡ j
  pub calling : (n : ℕ) → n + 1 < length y.chain → Called y (get_or y.chain (n + 1) 0)
  pub alone : (c : ℕ) → c < y.count → Working (at y c).state → On y.chain c
  pub asked : y.pending ≡ true → 0 < length y.chain

module _ (y : Yard) (W : Whole y) (ds : List Domain) (cs : List ℕ) (p : Bool) where
  abbrev other : Yard
  other = record { store = y.store; size = y.size; domains = ds; count = y.count; gates = y.gates; chain = cs; pending = p }

  pub remade : length ds ≡ 8 → ((k : ℕ) → k < y.count → standing y.store (get_or ds k nobody) ≡ placed y k) →
      ((k : ℕ) → k < y.count → Confined (placed y k) (get_or ds k nobody).registers (get_or ds k nobody).pc) →
      ((k : ℕ) → k < y.count → (get_or ds k nobody).state ≡ Idle → Pointing (placed y k) (get_or ds k nobody).registers) → Linked other → Whole other
  remade long same held ready L = record {
    eight = long;
    few = W.few;
    admitted = λ k l. subst Admitted (sym (same k l)) (W.admitted k l);
    framed = λ k l. subst (λ (q : Placed). Framed y.store q.base q.m q.words) (sym (same k l)) (W.framed k l);
    fits = λ k l. subst (λ (q : Placed). end q.segment ≤ y.size) (sym (same k l)) (W.fits k l);
    spread = λ a b l m n. (λ i. apart (same a l i).segment (same b m i).segment) ∙ W.spread a b l m n;
    confined = λ k l. subst (λ (q : Placed). Confined q (get_or ds k nobody).registers (get_or ds k nobody).pc) (sym (same k l)) (held k l);
    ready = λ k l e. subst (λ (q : Placed). Pointing q (get_or ds k nobody).registers) (sym (same k l)) (ready k l e);
    chained = L.chained;
    works = L.works;
    distinct = L.distinct;
    calling = L.calling;
    alone = L.alone;
    asked = L.asked;
    entries = λ g e h. let t = W.entries g e h in (t.0, subst (λ (q : Placed). InCode q e.pc) (sym (same e.domain t.0)) t.1);
  }

-- own_works, own_calling and own_alone are of the domain c, and works, calling and alone of the others, which are as they were
pub record Fit (y : Yard) (c : ℕ) (xs : List ℕ) (pc : ℕ) (s : State) (cs : List ℕ) (p : Bool) : Type 0 where
  pub confined : Confined (placed y c) xs pc
  pub ready : s ≡ Idle → Pointing (placed y c) xs
  pub chained : (n : ℕ) → n < length cs → get_or cs n 0 < y.count
  pub own_works : (n : ℕ) → n < length cs → get_or cs n 0 ≡ c → s ≡ at_work p n
  pub works : (n : ℕ) → n < length cs → (get_or cs n 0 ≡ c → ⊥) → (at y (get_or cs n 0)).state ≡ at_work p n
  pub distinct : (i j : ℕ) → i < length cs → j < length cs → get_or cs i 0 ≡ get_or cs j 0 → i ≡ j
  pub own_calling : (n : ℕ) → n + 1 < length cs → get_or cs (n + 1) 0 ≡ c → Behind y.store pc
  pub calling : (n : ℕ) → n + 1 < length cs → (get_or cs (n + 1) 0 ≡ c → ⊥) → Called y (get_or cs (n + 1) 0)
  pub own_alone : Working s → On cs c
  pub alone : (k : ℕ) → k < y.count → (k ≡ c → ⊥) → Working (at y k).state → On cs k
  pub asked : p ≡ true → 0 < length cs

module _ (y : Yard) (W : Whole y) (c : ℕ) (lt : c < y.count) (xs : List ℕ) (pc : ℕ) (s : State) (cs : List ℕ) (p : Bool) where
  abbrev new : Domain
  new = record { registers = xs; pc = pc; state = s; base = (at y c).base; m = (at y c).m; segment = (at y c).segment }

  -- a fact of each domain, from that of the new one and those of the others
  each : (P : ℕ → Domain → Type 0) (k : ℕ) → (k ≡ c → P c new) → ((k ≡ c → ⊥) → P k (at y k)) → P k (at (put y c new) k)
  each P k mine theirs =
      let inside : c < length y.domains = (let e = W.eight in let f = W.few in omega arith) in
      ⊎_elim
      (λ (e : k ≡ c). subst (λ n. P n (at (put y c new) n)) (sym e) (subst (P c) (sym (get_or-set_same y.domains c new nobody inside)) (mine e)))
      (λ (n : k ≡ c → ⊥). subst (P k) (sym (get_or-set_other y.domains c k new nobody n)) (theirs n))
      (cases_eq k c)

  pub put_whole : Fit y c xs pc s cs p → Whole (chained (put y c new) cs p)
  put_whole f =
      remade y W (set y.domains c new) cs p (length-set y.domains c new ∙ W.eight)
      (λ k l. each (λ j x. standing y.store x ≡ placed y j) k (λ _. refl) (λ _. refl))
      (λ k l. each (λ j x. Confined (placed y j) x.registers x.pc) k (λ _. f.confined) (λ _. W.confined k l))
      (λ k l. each (λ j x. x.state ≡ Idle → Pointing (placed y j) x.registers) k (λ _. f.ready) (λ _. W.ready k l))
      (record {
        chained = f.chained;
        works = λ n l. each (λ j x. x.state ≡ at_work p n) (get_or cs n 0) (f.own_works n l) (f.works n l);
        distinct = f.distinct;
        calling = λ n l. each (λ j x. Behind y.store x.pc) (get_or cs (n + 1) 0) (f.own_calling n l) (f.calling n l);
        alone = λ k l. each (λ j x. Working x.state → On cs j) k (λ _. f.own_alone) (f.alone k l);
        asked = f.asked;
      })
