-- What is asked of a memory, over the list of its bytes, address 0 first.
-- size        how many bytes there are: length bs
-- byte_at     the byte at an address below the size; none at or above it
-- half_at     two bytes from an address on as one number, the low byte first; none unless both lie below the size
-- word_at     four bytes likewise
-- byte_put    the bytes with one of them replaced; as they were where it lies at or above the size
-- half_put    two bytes replaced by the parts of a number, the low byte first; as they were unless both lie below the size
-- word_put    four bytes likewise
-- Assumes nothing.
use Rattle.std.specs.Prelude.{ℕ, ◌+◌, ◌*◌, ◌/◌, ◌%◌, cond, List, length, Some, None, Option, nat_lt, slice_index, slice_set}

abbrev pub byte_at : List ℕ → ℕ → Option ℕ
byte_at bs a = cond (nat_lt a (length bs)) (Some (slice_index bs a)) None

abbrev pub half_at : List ℕ → ℕ → Option ℕ
half_at bs a = cond (nat_lt (a + 1) (length bs)) (Some (slice_index bs a + slice_index bs (a + 1) * 256)) None

abbrev pub word_at : List ℕ → ℕ → Option ℕ
word_at bs a =
    cond (nat_lt (a + 3) (length bs))
    (Some (slice_index bs a + slice_index bs (a + 1) * 256 + slice_index bs (a + 2) * 65536 + slice_index bs (a + 3) * 16777216)) None

abbrev pub byte_put : List ℕ → ℕ → ℕ → List ℕ
byte_put bs a b = cond (nat_lt a (length bs)) (slice_set bs a b) bs

abbrev pub half_put : List ℕ → ℕ → ℕ → List ℕ
half_put bs a h = cond (nat_lt (a + 1) (length bs)) (slice_set (slice_set bs a (h % 256)) (a + 1) (h / 256 % 256)) bs

abbrev pub word_put : List ℕ → ℕ → ℕ → List ℕ
word_put bs a w =
    cond (nat_lt (a + 3) (length bs))
    (slice_set (slice_set (slice_set (slice_set bs a (w % 256)) (a + 1) (w / 256 % 256)) (a + 2) (w / 65536 % 256)) (a + 3) (w / 16777216 % 256))
    bs
