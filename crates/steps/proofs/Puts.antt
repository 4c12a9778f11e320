-- What a store leaves.
use Rattle.std.proofs.Common.{◌≡◌, ℕ, zero, suc, ◌+◌, ◌%◌, ◌<◌, true, ltb, ◌≢◌, List, [], ◌∷◌, length, get_or, set, refl, ◌∙◌, ⊎_elim, arith, get_or-set_other}
use Rattle.std.proofs.lemmas.Bool.{cond_both, or_cases}
use Rattle.machine.specs.declared.widths.Datum.{Datum}
use Rattle.machine.specs.declared.widths.Datum.TheVariants.{U8, U16, U32}
use Rattle.machine.specs.Widths.{bytes_of, width_of}
use Rattle.segment.specs.Guards.{Inside, inside}
use Rattle.segment.proofs.Bounds.{is_inside}
use Rattle.steps.specs.Model.{Domain, nobody, mapped}
use Rattle.steps.specs.Steps.{put_datum}

-- a byte outside the access stays
pub put_elsewhere : (bs : List ℕ) (a : ℕ) (x : Datum) (k : ℕ) → ((j : ℕ) → j < bytes_of (width_of x) → k ≡ a + j → ⊥) → get_or (put_datum bs a x) k 0 ≡ get_or bs k 0
put_elsewhere bs a (U8 b) k n =
    let n0 : k ≢ a = λ e. n 0 (omega arith) (omega (arith, e)) in
    cond_both (ltb a (length bs)) (set bs a b) bs (λ l. get_or l k 0 ≡ get_or bs k 0) (λ _. get_or-set_other bs a k b 0 n0) (λ _. refl)
put_elsewhere bs a (U16 h) k n =
    let n0 : k ≢ a = λ e. n 0 (omega arith) (omega (arith, e)) in
    let n1 : k ≢ a + 1 = λ e. n 1 (omega arith) (omega (arith, e)) in
    cond_both (ltb (a + 1) (length bs)) _ bs (λ l. get_or l k 0 ≡ get_or bs k 0)
    (λ _. get_or-set_other (set bs a (h % 256)) (a + 1) k _ 0 n1 ∙ get_or-set_other bs a k _ 0 n0) (λ _. refl)
put_elsewhere bs a (U32 w) k n =
    let n0 : k ≢ a = λ e. n 0 (omega arith) (omega (arith, e)) in
    let n1 : k ≢ a + 1 = λ e. n 1 (omega arith) (omega (arith, e)) in
    let n2 : k ≢ a + 2 = λ e. n 2 (omega arith) (omega (arith, e)) in
    let n3 : k ≢ a + 3 = λ e. n 3 (omega arith) (omega (arith, e)) in
    cond_both (ltb (a + 3) (length bs)) _ bs (λ l. get_or l k 0 ≡ get_or bs k 0)
    (λ _. get_or-set_other _ (a + 3) k _ 0 n3 ∙ (get_or-set_other _ (a + 2) k _ 0 n2 ∙ (get_or-set_other _ (a + 1) k _ 0 n1 ∙ get_or-set_other bs a k _ 0 n0)))
    (λ _. refl)

-- a mapped address lies in some domain's segment
pub mapped_in : (ds : List Domain) (a : ℕ) → mapped ds a ≡ true → (j : ℕ) × (j < length ds) × Inside (get_or ds j nobody).segment a
mapped_in [] a e = absurd (let z : ◌≡◌ {A = ℕ} 0 1 = cc in omega arith)
mapped_in (d ∷ ds) a e =
    ⊎_elim (λ h. (zero, omega arith, is_inside d.segment a h)) (λ h. let t = mapped_in ds a h in (suc t.0, omega (arith, t.1), t.2)) (or_cases (inside d.segment a) (mapped ds a) e)
