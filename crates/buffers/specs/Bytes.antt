-- The memory over kept buffers. Assumes nothing.
--   bytes_of b          the bytes of the memory over the buffers b
--   peeked bs a n      what stands at the n addresses from a on, with none at or above the size
--   zeros n            that many bytes 0, of which no more than a memory counts
use Rattle.std.specs.Prelude.{ℕ, ◌+◌, min, List, map, replicate, vec_items, Option}
use Rattle.std.specs.List.{range_with_len}
use Rattle.memory.specs.Bytes.{byte_at}
use Rattle.memories.specs.Layout.{limit, counted, woven}
use Rattle.buffers.specs.declared.Buffers.{Buffers}
use Rattle.buffers.specs.declared.Buffers.TheVariants as held

abbrev pub bytes_of : Buffers → List ℕ
bytes_of (held.Flat v) = counted (vec_items v)
bytes_of (held.Lanes p q r s) = woven (vec_items p) (vec_items q) (vec_items r) (vec_items s)

abbrev pub peeked : List ℕ → (address count : ℕ) → List (Option ℕ)
peeked bs address count = map (λ i. byte_at bs (address + i)) (range_with_len 0 count)

abbrev pub zeros : ℕ → List ℕ
zeros n = replicate (min n limit) 0
