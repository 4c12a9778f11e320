-- Every effect is aligned.
use Rattle.std.proofs.Common.{◌≡◌, ℕ, ◌%◌, Bool, true, false, cond, eqb, List, refl}
use Rattle.std.proofs.lemmas.Bool.{eqb-true}
use Rattle.rv32i.specs.declared.operations.StoreOp.{StoreOp}
use Rattle.rv32i.specs.declared.operations.StoreOp.TheVariants.{Sb, Sh, Sw}
use Rattle.rv32i.specs.declared.operations.LoadOp.{LoadOp}
use Rattle.rv32i.specs.declared.instructions.Instruction.{Instruction}
use Rattle.rv32i.specs.declared.instructions.Instruction.TheVariants.{Lui, Auipc, Jal, Jalr, Branch, Load, Store, OpImm, ShiftImm, Op, Fence, Ecall, Ebreak}
use Rattle.machine.specs.declared.effects.Effect.{Effect}
use Rattle.machine.specs.Registers.{value_of}
use Rattle.machine.specs.Arithmetic.{plus}
use Rattle.machine.specs.Branches.{is_taken}
use Rattle.machine.specs.Widths.{bytes_of}
use Rattle.machine.specs.Accesses.{load_width}
use Rattle.machine.specs.Executed.{next_of, even, linked, branched, loads, stores, executed}
use Rattle.machine.specs.Laws.{Aligned}

-- an effect under a test that says what it needs
tested : (b : Bool) (x y : Effect) → (b ≡ true → Aligned x) → Aligned y → Aligned (cond b x y)
tested true x y f h = f refl
tested false x y f h = h

linked_aligned : (rd n t : ℕ) → Aligned (linked rd n t)
linked_aligned rd n t = tested (eqb (t % 4) 0) _ _ (λ h. eqb-true (t % 4) 0 h) tt

branched_aligned : (b : Bool) (t : ℕ) → Aligned (branched b t)
branched_aligned true t = tested (eqb (t % 4) 0) _ _ (λ h. eqb-true (t % 4) 0 h) tt
branched_aligned false t = tt

loads_aligned : (op : LoadOp) (rd a : ℕ) → Aligned (loads op rd a)
loads_aligned op rd a = tested (eqb (a % bytes_of (load_width op)) 0) _ _ (λ h. eqb-true (a % bytes_of (load_width op)) 0 h) tt

stores_aligned : (op : StoreOp) (a v : ℕ) → Aligned (stores op a v)
stores_aligned Sb a v = tested (eqb (a % 1) 0) _ _ (λ h. eqb-true (a % 1) 0 h) tt
stores_aligned Sh a v = tested (eqb (a % 2) 0) _ _ (λ h. eqb-true (a % 2) 0 h) tt
stores_aligned Sw a v = tested (eqb (a % 4) 0) _ _ (λ h. eqb-true (a % 4) 0 h) tt

pub executed_aligned : (i : Instruction) (xs : List ℕ) (pc : ℕ) → Aligned (executed i xs pc)
executed_aligned (Lui rd imm) xs pc = tt
executed_aligned (Auipc rd imm) xs pc = tt
executed_aligned (Jal rd offset) xs pc = linked_aligned rd (next_of pc) (plus pc offset)
executed_aligned (Jalr rd rs1 offset) xs pc = linked_aligned rd (next_of pc) (even (plus (value_of xs rs1) offset))
executed_aligned (Branch op rs1 rs2 offset) xs pc = branched_aligned (is_taken op (value_of xs rs1) (value_of xs rs2)) (plus pc offset)
executed_aligned (Load op rd rs1 offset) xs pc = loads_aligned op rd (plus (value_of xs rs1) offset)
executed_aligned (Store op rs1 rs2 offset) xs pc = stores_aligned op (plus (value_of xs rs1) offset) (value_of xs rs2)
executed_aligned (OpImm op rd rs1 imm) xs pc = tt
executed_aligned (ShiftImm op rd rs1 shamt) xs pc = tt
executed_aligned (Op op rd rs1 rs2) xs pc = tt
executed_aligned Fence xs pc = tt
executed_aligned Ecall xs pc = tt
executed_aligned Ebreak xs pc = tt
