-- A table, read and changed in one row, and searched.
use Rattle.std.proofs.Common.{◌≡◌, ℕ, zero, suc, ◌+◌, ◌<◌, ◌≤◌, Bool, true, false, ◌||◌, List, [], ◌∷◌, map, length, get_or, set, take, sym, refl, ap, ◌∙◌, arith}
use lib.Seq.{map-set}
use Rattle.std.proofs.lemmas.List.{get_or-map}
use Rattle.std.proofs.lemmas.List.Folds.{list_any_more}
use Rattle.std.specs.List.{list_any}
use Rattle.yard_steps.specs.Model.{Domain as DomainModel, Yard, nobody, at, put, any_below}
use Rattle.yard.specs.declared.domains.Domain.{Domain}
use Rattle.yard.specs.declared.inners.Inner.{Inner}
use Rattle.yard.specs.Shapes.{shape}
use Rattle.yard.specs.Views.{view}

pub read : (ds : List Domain) (i : ℕ) (x : Domain) → i < length ds → shape (get_or ds i x) ≡ get_or (map shape ds) i nobody
read ds i x h = sym (get_or-map shape ds i x nobody h)

-- the yard with another table
abbrev tabled : Yard → List DomainModel → Yard
tabled y ds = record { store = y.store; size = y.size; domains = ds; count = y.count; gates = y.gates; chain = y.chain; pending = y.pending }

pub changed : (y : Inner) (i : ℕ) (x d : Domain) (f : DomainModel → DomainModel) → i < length y.domains → shape d ≡ f (shape (get_or y.domains i x)) →
    tabled (view y) (map shape (set y.domains i d)) ≡ put (view y) i (f (at (view y) i))
changed y i x d f h is =
    ap (tabled (view y)) (map-set shape y.domains i d ∙ ap (set (map shape y.domains) i) (is ∙ ap f (read y.domains i x h)))

or_comm : (a b : Bool) → (a || b) ≡ (b || a)
or_comm true true = refl
or_comm true false = refl
or_comm false true = refl
or_comm false false = refl

-- a test of the first n domains
pub any_row : (q : DomainModel → Bool) (ds : List Domain) (n : ℕ) → n ≤ length ds → list_any (λ d. q (shape d)) (take n ds) ≡ any_below n (λ c. q (get_or (map shape ds) c nobody))
any_row q ds zero le = refl
any_row q [] (suc n) le = absurd (omega arith)
any_row q (d ∷ ds) (suc n) le =
    let xs = d ∷ ds in
    let more : suc n ≡ n + 1 = omega arith in
    ap (λ k. list_any (λ x. q (shape x)) (take k xs)) more
    ∙ (list_any_more (λ x. q (shape x)) xs n d (omega arith)
    ∙ (or_comm (list_any (λ x. q (shape x)) (take n xs)) (q (shape (get_or xs n d)))
    ∙ (ap (λ b. b || list_any (λ x. q (shape x)) (take n xs)) (ap q (read xs n d (omega arith)))
    ∙ ap (λ b. q (get_or (map shape xs) n nobody) || b) (any_row q (d ∷ ds) n (omega arith)))))
