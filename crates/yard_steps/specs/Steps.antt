-- One step of a yard, and a run of steps. Assumes nothing.
--   After                the yard and the memory's bytes after a step, and how it ended the run, if it did
--   went y bs            the run goes on
--   fetched ws pc        the instruction at pc of the store ws, or the stop
--   loaded op bs a       the word that a load gives
--   put_datum bs a x     the bytes after a store
--   halted s c y bs      the domain c stops with s: it leaves the chain, and its caller, if any, gets 0xFFFFFFFF and the cause
--   called A c y bs      what an ECALL of the domain c does
--   stepped A y bs       one step of the current domain, under the policy A
--   ran A k n y bs       a run of at most k steps more, after n
use Rattle.std.specs.Prelude.{ℕ, zero, suc, ◌+◌, ◌/◌, ◌%◌, Bool, true, false, cond, ◌&&◌, List, [], ◌∷◌, Some, None, Ok, Err, Option, Result, ◌==◌, nat_lt, slice_index}
use Rattle.rv32i.specs.declared.operations.LoadOp.{LoadOp}
use Rattle.rv32i.specs.declared.instructions.Instruction.{Instruction}
use Rattle.rv32i.specs.Decoded.{Decoding, decoded}
use Rattle.code_check.specs.Windows.{counted}
use Rattle.machine.specs.declared.widths.Width.{Width}
use Rattle.machine.specs.declared.widths.Width.TheVariants.{Byte, Half, Word}
use Rattle.machine.specs.declared.widths.Datum.{Datum}
use Rattle.machine.specs.declared.widths.Datum.TheVariants.{U8, U16, U32}
use Rattle.machine.specs.declared.stops.Stop.{Stop}
use Rattle.machine.specs.declared.stops.Stop.TheVariants.{Fetch, Illegal, Unmapped, NoGate, Forbidden, Busy}
use Rattle.machine.specs.declared.effects.Effect.{Effect}
use Rattle.machine.specs.declared.effects.Effect.TheVariants as effect
use Rattle.machine.specs.Stops.{stop_row}
use Rattle.machine.specs.Registers.{value_of, written}
use Rattle.machine.specs.Accesses.{load_width, extended}
use Rattle.machine.specs.Executed.{next_of, executed}
use Rattle.memory.specs.Bytes.{byte_at, half_at, word_at, byte_put, half_put, word_put}
use Rattle.yard_steps.specs.declared.states.Event.{Event}
use Rattle.yard_steps.specs.declared.states.Event.TheVariants as event
use Rattle.yard_steps.specs.declared.reports.Reason.{Reason}
use Rattle.yard_steps.specs.declared.reports.Reason.TheVariants as reason
use Rattle.yard_steps.specs.declared.reports.Report.{Report}
use Rattle.yard_steps.specs.declared.reports.Ending.{Ending}
use Rattle.yard_steps.specs.States.{moved, is_idle}
use Rattle.yard_steps.specs.Model.{Domain, Entry, Yard, at, put, chained, current, gate_at, mapped}

pub record After : Type 0 where
  pub yard : Yard
  pub bytes : List ℕ
  pub ended : Option Ending

abbrev pub went : Yard → List ℕ → After
went y bs = record { yard = y; bytes = bs; ended = None }

-- a domain with other registers and pc; with another state
abbrev pub turned : Domain → List ℕ → ℕ → Domain
turned d xs pc = record { registers = xs; pc = pc; state = d.state; base = d.base; m = d.m; segment = d.segment }

abbrev pub after : Event → Domain → Domain
after e d = record { registers = d.registers; pc = d.pc; state = moved d.state e; base = d.base; m = d.m; segment = d.segment }

abbrev pub found : ℕ → Decoding → Result Instruction Stop
found w (Ok i) = Ok i
found w (Err c) = Err (Illegal w)

abbrev pub fetched : List ℕ → ℕ → Result Instruction Stop
fetched ws pc =
    cond (pc % 4 == 0 && nat_lt (pc / 4) (counted ws)) (found (slice_index ws (pc / 4)) (decoded (slice_index ws (pc / 4)))) (Err (Fetch pc))

-- what a memory answers, where it is asked within its size
abbrev pub given : Option ℕ → ℕ
given (Some n) = n
given None = 0

-- the number that the bytes from a on hold, the low byte first
abbrev pub raw : Width → List ℕ → ℕ → ℕ
raw Byte bs a = given (byte_at bs a)
raw Half bs a = given (half_at bs a)
raw Word bs a = given (word_at bs a)

abbrev pub loaded : LoadOp → List ℕ → ℕ → ℕ
loaded op bs a = extended op (raw (load_width op) bs a)

abbrev pub put_datum : List ℕ → ℕ → Datum → List ℕ
put_datum bs a (U8 b) = byte_put bs a b
put_datum bs a (U16 h) = half_put bs a h
put_datum bs a (U32 w) = word_put bs a w

-- the next domain of the chain, if any, gets two numbers in x10 and x11
abbrev pub told : List ℕ → (a b : ℕ) → Yard → Yard
told [] a b y = y
told (c ∷ cs) a b y = put y c (turned (at y c) (written (written (at y c).registers 10 a) 11 b) (at y c).pc)

-- the chain without its first
abbrev pub rest : List ℕ → List ℕ
rest [] = []
rest (c ∷ cs) = cs

abbrev pub halted : Stop → ℕ → Yard → List ℕ → After
halted s c y bs = record {
  yard = told (rest y.chain) 0xFFFFFFFF (stop_row s).0 (chained (put y c (after event.Stop (at y c))) (rest y.chain) false);
  bytes = bs;
  ended = Some (record { reason = reason.Stopped; domain = c; pc = (at y c).pc; first = (stop_row s).0; second = (stop_row s).1 });
}

-- the domain c goes on behind its ECALL
abbrev pub behind : ℕ → Yard → Domain
behind c y = turned (at y c) (at y c).registers (next_of (at y c).pc)

abbrev pub ending : Reason → ℕ → Yard → Ending
ending r c y = record { reason = r; domain = c; pc = (at y c).pc; first = value_of (at y c).registers 10; second = value_of (at y c).registers 11 }

abbrev pub hosted : ℕ → Yard → List ℕ → After
hosted c y bs = record {
  yard = chained (put y c (after event.Host (behind c y))) y.chain true;
  bytes = bs;
  ended = Some (ending reason.Host c y);
}

-- back to the caller, which gets x10 and x11, or to the host
abbrev pub returned_to : List ℕ → ℕ → Yard → List ℕ → After
returned_to [] c y bs = record {
  yard = chained (put y c (after event.Return (behind c y))) [] false;
  bytes = bs;
  ended = Some (ending reason.Finished c y);
}
returned_to (k ∷ ks) c y bs =
    went (told (k ∷ ks) (value_of (at y c).registers 10) (value_of (at y c).registers 11) (chained (put y c (after event.Return (behind c y))) (k ∷ ks) false)) bs

-- the seven numbers in x10 to x16
abbrev pub arguments : List ℕ → List ℕ
arguments xs = value_of xs 10 ∷ value_of xs 11 ∷ value_of xs 12 ∷ value_of xs 13 ∷ value_of xs 14 ∷ value_of xs 15 ∷ value_of xs 16 ∷ []

-- seven numbers put into x10 to x16
abbrev pub handed : (vs xs : List ℕ) → List ℕ
handed vs xs =
    written (written (written (written (written (written (written xs 10 (slice_index vs 0)) 11 (slice_index vs 1)) 12 (slice_index vs 2)) 13 (slice_index vs 3)) 14 (slice_index vs 4)) 15 (slice_index vs 5)) 16
    (slice_index vs 6)

-- the domain d entered with seven numbers
abbrev pub entered : List ℕ → Entry → Domain → Domain
entered vs e d = after event.Entered (turned d (handed vs d.registers) e.pc)

abbrev pub gated : (ℕ → ℕ → Bool) → Option Entry → (g c : ℕ) → Yard → List ℕ → After
gated A None g c y bs = halted (NoGate g) c y bs
gated A (Some e) g c y bs =
    cond (A c g)
    (cond (is_idle (at y e.domain).state)
    (went (chained (put (put y c (behind c y)) e.domain (entered (arguments (at y c).registers) e (at y e.domain))) (e.domain ∷ y.chain) false) bs)
    (halted (Busy g) c y bs))
    (halted (Forbidden g) c y bs)

abbrev pub called : (ℕ → ℕ → Bool) → ℕ → Yard → List ℕ → After
called A c y bs =
    let g = value_of (at y c).registers 17 in
    cond (g == 0) (hosted c y bs) (cond (g == 31) (returned_to (rest y.chain) c y bs) (cond (nat_lt g 31) (gated A (gate_at y g) g c y bs) (halted (NoGate g) c y bs)))

-- what an effect of the domain c does
abbrev pub done : (ℕ → ℕ → Bool) → ℕ → Effect → Yard → List ℕ → After
done A c (effect.Set rd v) y bs = went (put y c (turned (at y c) (written (at y c).registers rd v) (next_of (at y c).pc))) bs
done A c (effect.Read op rd a) y bs =
    cond (mapped y a) (went (put y c (turned (at y c) (written (at y c).registers rd (loaded op bs a)) (next_of (at y c).pc))) bs) (halted (Unmapped a) c y bs)
done A c (effect.Write a x) y bs = cond (mapped y a) (went (put y c (behind c y)) (put_datum bs a x)) (halted (Unmapped a) c y bs)
done A c (effect.Link rd n t) y bs = went (put y c (turned (at y c) (written (at y c).registers rd n) t)) bs
done A c (effect.Jump t) y bs = went (put y c (turned (at y c) (at y c).registers t)) bs
done A c effect.Next y bs = went (put y c (behind c y)) bs
done A c effect.Call y bs = called A c y bs
done A c (effect.Stop s) y bs = halted s c y bs

abbrev pub performed : (ℕ → ℕ → Bool) → ℕ → Result Instruction Stop → Yard → List ℕ → After
performed A c (Ok i) y bs = done A c (executed i (at y c).registers (at y c).pc) y bs
performed A c (Err s) y bs = halted s c y bs

abbrev pub stepped : (ℕ → ℕ → Bool) → Yard → List ℕ → After
stepped A y bs = performed A (current y) (fetched y.store (at y (current y)).pc) y bs

pub record Ran : Type 0 where
  pub report : Report
  pub yard : Yard
  pub bytes : List ℕ

abbrev pub spent : ℕ → Yard → List ℕ → Ran
spent n y bs = record {
  report = record { reason = reason.Spent; count = n; domain = current y; pc = (at y (current y)).pc; first = 0; second = 0 };
  yard = y;
  bytes = bs;
}

abbrev pub on : After → ℕ → (ℕ → Yard → List ℕ → Ran) → Ran
on a n go = on_end a.ended
  where
    on_end : Option Ending → Ran
    on_end None = go n a.yard a.bytes
    on_end (Some e) = record {
      report = record { reason = e.reason; count = n; domain = e.domain; pc = e.pc; first = e.first; second = e.second };
      yard = a.yard;
      bytes = a.bytes;
    }

abbrev pub ran : (ℕ → ℕ → Bool) → (k n : ℕ) → Yard → List ℕ → Ran
ran A zero n y bs = spent n y bs
ran A (suc k) n y bs = on (stepped A y bs) (n + 1) (ran A k)
