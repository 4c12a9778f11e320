-- The chain as it grows and shrinks.
use Rattle.std.proofs.Common.{◌≡◌, ℕ, ◌+◌, ◌<◌, Bool, List, [], ◌∷◌, length, get_or, sym, refl, ap, ◌∙◌, subst, add-one, arith}
use Rattle.steps.specs.declared.states.State.{State}
use Rattle.steps.specs.declared.states.State.TheVariants.{Idle, Active, AtHost, Stopped}
use Rattle.steps.specs.declared.states.Event.{Event}
use Rattle.steps.specs.declared.states.Event.TheVariants as event
use Rattle.steps.specs.States.{moved}
use Rattle.steps.specs.Model.{Yard, at}
use Rattle.steps.specs.Steps.{rest, chained}
use Rattle.steps.specs.Whole.{Whole}
use Rattle.steps.proofs.Tables.{chain_whole}

pub rest_at : (cs : List ℕ) (n : ℕ) → n < length (rest cs) → (n + 1 < length cs) × (get_or (rest cs) n 0 ≡ get_or cs (n + 1) 0)
rest_at [] n l = absurd (omega arith)
rest_at (c ∷ cs) n l = (omega arith, sym (ap (λ k. get_or (c ∷ cs) k 0) (add-one n)))

-- the chain without its first
pub popped : (y : Yard) → Whole y → (b : Bool) → Whole (chained y (rest y.chain) b)
popped y W b =
    chain_whole y W (rest y.chain) b
    (λ n l. let t = rest_at y.chain n l in subst (λ x. x < length y.domains) (sym t.1) (W.chained (n + 1) t.0))
    (λ n l e. let t = rest_at y.chain n l in W.lively (n + 1) t.0 (ap (λ k. (at y k).state) (sym t.1) ∙ e))
    (λ i j l k e. let t = rest_at y.chain i l in let u = rest_at y.chain j k in let q = W.distinct (i + 1) (j + 1) t.0 u.0 (sym t.1 ∙ e ∙ u.1) in omega arith)

-- the first is not among the rest
pub not_in_rest : (y : Yard) → Whole y → 0 < length y.chain → (n : ℕ) → n < length (rest y.chain) → get_or (rest y.chain) n 0 ≡ get_or y.chain 0 0 → ⊥
not_in_rest y W l n h e = let t = rest_at y.chain n h in let q = W.distinct (n + 1) 0 t.0 l (sym t.1 ∙ e) in omega arith

-- only a return makes a domain idle
pub stays_lively : (e : Event) (s : State) → (e ≡ event.Return → ⊥) → (s ≡ Idle → ⊥) → moved s e ≡ Idle → ⊥
stays_lively e Idle n a h = a refl
stays_lively event.Entered Active n a h = a h
stays_lively event.Host Active n a h = let z : ◌≡◌ {A = ℕ} 0 1 = cc in omega arith
stays_lively event.Reply Active n a h = a h
stays_lively event.Return Active n a h = n refl
stays_lively event.Stop Active n a h = let z : ◌≡◌ {A = ℕ} 0 1 = cc in omega arith
stays_lively event.Cut Active n a h = let z : ◌≡◌ {A = ℕ} 0 1 = cc in omega arith
stays_lively event.Entered AtHost n a h = a h
stays_lively event.Host AtHost n a h = a h
stays_lively event.Reply AtHost n a h = let z : ◌≡◌ {A = ℕ} 0 1 = cc in omega arith
stays_lively event.Return AtHost n a h = a h
stays_lively event.Stop AtHost n a h = a h
stays_lively event.Cut AtHost n a h = a h
stays_lively event.Entered Stopped n a h = a h
stays_lively event.Host Stopped n a h = a h
stays_lively event.Reply Stopped n a h = a h
stays_lively event.Return Stopped n a h = a h
stays_lively event.Stop Stopped n a h = a h
stays_lively event.Cut Stopped n a h = a h
