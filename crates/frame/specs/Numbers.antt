-- The numbers that the bytes of a frame write.
use Rattle.std.specs.Prelude.{ℕ, zero, suc, ◌+◌, ◌*◌, ◌^◌, List, get_or}

-- The number that n bytes from a place on write, the lowest first. A byte beyond the end counts as 0.
unfoldable pub little_endian : ℕ → List ℕ → ℕ → ℕ
little_endian zero s at = 0
little_endian (suc n) s at = little_endian n s at + 256 ^ n * get_or s (at + n) 0
