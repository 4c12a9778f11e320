-- The table, from an operation to its codes and back.
use Rattle.std.proofs.Common.{◌≡◌, ℕ, Some, None, Ok, Err, Option, refl, arith}
use Rattle.std.proofs.lemmas.Bool.Decides.{nat_tests}
use Rattle.rv32i.specs.declared.causes.Cause.{Cause}
use Rattle.rv32i.specs.declared.operations.BranchOp.{BranchOp}
use Rattle.rv32i.specs.declared.operations.LoadOp.{LoadOp}
use Rattle.rv32i.specs.declared.operations.StoreOp.{StoreOp}
use Rattle.rv32i.specs.declared.operations.ImmOp.{ImmOp}
use Rattle.rv32i.specs.declared.operations.ShiftOp.{ShiftOp}
use Rattle.rv32i.specs.declared.operations.RegOp.{RegOp}
use Rattle.rv32i.specs.declared.operations.RegOp.TheVariants.{Add, Sub, Sll, Slt, Sltu, Xor, Srl, Sra, Or, And}
use Rattle.rv32i.specs.declared.instructions.Instruction.{Instruction}
use Rattle.rv32i.specs.Fields.{opcode_of}
use Rattle.rv32i.specs.Table.{Major, major7, major_at, branch3, branch_at, load3, load_at, store3, store_at, imm3, imm_at, shift3, shift7, shift_at, reg3, reg7, reg_at}
use Rattle.rv32i.specs.Decoded.{named, decoded_by, decoded, decoded_as}

pub some_not_none : {A : Type 0} {B : Type 0} (o : Option A) (a : A) → o ≡ Some a → o ≡ None → B
some_not_none o a p q = absurd (grind arith)

pub branch_at-branch3 : (k : BranchOp) → branch_at (branch3 k) ≡ Some k
branch_at-branch3 k = search arith

pub load_at-load3 : (k : LoadOp) → load_at (load3 k) ≡ Some k
load_at-load3 k = search arith

pub store_at-store3 : (k : StoreOp) → store_at (store3 k) ≡ Some k
store_at-store3 k = search arith

pub imm_at-imm3 : (k : ImmOp) → imm_at (imm3 k) ≡ Some k
imm_at-imm3 k = search arith

pub shift_at-shift3 : (k : ShiftOp) → shift_at (shift3 k) (shift7 k) ≡ Some k
shift_at-shift3 k = search arith

pub shift_not_imm : (k : ShiftOp) → imm_at (shift3 k) ≡ None
shift_not_imm k = search arith

pub reg_at-reg3 : (k : RegOp) → reg_at (reg3 k) (reg7 k) ≡ Some k
reg_at-reg3 Add = refl
reg_at-reg3 Sub = refl
reg_at-reg3 Sll = refl
reg_at-reg3 Slt = refl
reg_at-reg3 Sltu = refl
reg_at-reg3 Xor = refl
reg_at-reg3 Srl = refl
reg_at-reg3 Sra = refl
reg_at-reg3 Or = refl
reg_at-reg3 And = refl

pub major_from : (f : ℕ) (m : Major) → major_at f ≡ Some m → f ≡ major7 m
major_from f m e = grind (arith, nat_tests)

pub branch_from : (f : ℕ) (k : BranchOp) → branch_at f ≡ Some k → f ≡ branch3 k
branch_from f k e = grind (arith, nat_tests)

pub load_from : (f : ℕ) (k : LoadOp) → load_at f ≡ Some k → f ≡ load3 k
load_from f k e = grind (arith, nat_tests)

pub store_from : (f : ℕ) (k : StoreOp) → store_at f ≡ Some k → f ≡ store3 k
store_from f k e = grind (arith, nat_tests)

pub imm_from : (f : ℕ) (k : ImmOp) → imm_at f ≡ Some k → f ≡ imm3 k
imm_from f k e = grind (arith, nat_tests)

pub shift_from : (f g : ℕ) (k : ShiftOp) → shift_at f g ≡ Some k → (f ≡ shift3 k) × (g ≡ shift7 k)
shift_from f g k e = grind (arith, nat_tests)

pub reg_from : (f g : ℕ) (k : RegOp) → reg_at f g ≡ Some k → (f ≡ reg3 k) × (g ≡ reg7 k)
reg_from f g k e = grind (arith, nat_tests)

pub named_at : {A : Type 0} (c : Cause) (o : Option A) (a : A) (make : A → Instruction) → o ≡ Some a → named c o make ≡ Ok (make a)
named_at c o a make e = rw e refl

pub named_from : {A : Type 0} (c : Cause) (o : Option A) (make : A → Instruction) (i : Instruction) → named c o make ≡ Ok i → (a : A) × (o ≡ Some a) × (i ≡ make a)
named_from c (Some a) make i e = (a, refl, cc)
named_from c None make i e = absurd (grind arith)

-- a refusal by a name that is not there
pub named_none : {A : Type 0} (c d : Cause) (o : Option A) (make : A → Instruction) → named c o make ≡ Err d → (o ≡ None) × (c ≡ d)
named_none c d (Some a) make e = absurd (grind arith)
named_none c d None make e = (refl, cc)

pub decoded_at : (m : Major) (w : ℕ) → opcode_of w ≡ major7 m → decoded w ≡ decoded_as m w
decoded_at m w e = search (arith, nat_tests)

by_from : (o : Option Major) (w : ℕ) (i : Instruction) → decoded_by o w ≡ Ok i → (m : Major) × (o ≡ Some m) × (decoded_as m w ≡ Ok i)
by_from (Some m) w i e = (m, refl, e)
by_from None w i e = absurd (grind arith)

pub decoded_from : (w : ℕ) (i : Instruction) → decoded w ≡ Ok i → (m : Major) × (opcode_of w ≡ major7 m) × (decoded_as m w ≡ Ok i)
decoded_from w i e =
    let h = by_from (major_at (opcode_of w)) w i e in
    (h.0, major_from (opcode_of w) h.0 h.1, h.2)
