-- What a lender learns of its buffers from the bytes of the memory and from what stayed lent.
use Rattle.std.proofs.Common.{◌≡◌, ℕ, zero, suc, ◌<◌, List, [], ◌∷◌, ◌++◌, drop, sym, ap, ◌∙◌, lit<, take-append-drop}
use Rattle.memory.specs.Loans.{Loan}
use Rattle.memories.specs.Layout.{limit, counted, uncounted, lane, depth, woven, column}
use Rattle.memories.specs.Lending.{lanes_bytes, lanes_lent, lanes_depth, LanesLender}
use Rattle.memories.specs.declared.flat.Flat.{Flat}
use Rattle.memories.specs.declared.lanes.Lanes.{Lanes}
use Rattle.memories.proofs.Weave.{lane_whole}

abbrev nth : ℕ → List Loan → Loan
nth k [] = record { name = 0; spare = [] }
nth zero (l ∷ ls) = l
nth (suc k) (l ∷ ls) = nth k ls

pub flat_lender : (old new : Flat) (bs : List ℕ) → counted new.buffer.now ≡ bs
    → ◌≡◌ {A = List Loan} (record { name = new.buffer.ghost_name; spare = uncounted new.buffer.now } ∷ []) (record { name = old.buffer.ghost_name; spare = uncounted old.buffer.now } ∷ [])
    → (new.buffer.ghost_name ≡ old.buffer.ghost_name) × (new.buffer.now ≡ bs ++ uncounted old.buffer.now)
unfolding counted uncounted
flat_lender old new bs is lent =
    let loan = ap (nth 0) lent in (
      ap (λ l. l.name) loan,
      sym (take-append-drop limit new.buffer.now) ∙ ap (λ l. l ++ uncounted new.buffer.now) is
          ∙ ap (λ l. bs ++ l) (ap (λ l. l.spare) loan),
    )

lane_lender : (p q r s bs cs : List ℕ) (k : ℕ) → k < 4 → woven p q r s ≡ bs
    → drop (depth p q r s) (lane p q r s k) ≡ cs → lane p q r s k ≡ column k bs ++ cs
lane_lender p q r s bs cs k h is rest =
    lane_whole p q r s k h ∙ ap (λ l. column k l ++ drop (depth p q r s) (lane p q r s k)) is
    ∙ ap (λ l. column k bs ++ l) rest

pub lanes_lender : (old new : Lanes) (bs : List ℕ) → lanes_bytes new ≡ bs → lanes_lent new ≡ lanes_lent old
    → LanesLender old new bs
lanes_lender old new bs is lent =
    let at : (k : ℕ) → nth k (lanes_lent new) ≡ nth k (lanes_lent old) = λ k. ap (nth k) lent in
    let back : (cs : List ℕ) (k : ℕ) → k < 4 → drop (lanes_depth new) (lane new.lane0.now new.lane1.now new.lane2.now new.lane3.now k) ≡ cs → lane new.lane0.now new.lane1.now new.lane2.now new.lane3.now k ≡ column k bs ++ cs
    = λ cs k h e. lane_lender new.lane0.now new.lane1.now new.lane2.now new.lane3.now bs cs k h is e in
    record {
      name0 = ap (λ l. l.name) (at 0);
      name1 = ap (λ l. l.name) (at 1);
      name2 = ap (λ l. l.name) (at 2);
      name3 = ap (λ l. l.name) (at 3);
      now0 = back _ 0 (lit< tt) (ap (λ l. l.spare) (at 0));
      now1 = back _ 1 (lit< tt) (ap (λ l. l.spare) (at 1));
      now2 = back _ 2 (lit< tt) (ap (λ l. l.spare) (at 2));
      now3 = back _ 3 (lit< tt) (ap (λ l. l.spare) (at 3));
    }
