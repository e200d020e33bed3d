-- Little-endian numbers in a list of bytes, and the float of eight bytes. Clients cite le16, le32, le64 and float_at.
-- A byte past the end counts as 0.
use Rattle.std.specs.Prelude.{ℕ, ◌+◌, ◌*◌, List, get_or, Float}
use Rattle.std.specs.Float.{binary64}
use Rattle.std.specs.Float.Ieee.{of_bits}

abbrev pub le16 : List ℕ → ℕ → ℕ
le16 s at = get_or s at 0 + 256 * get_or s (at + 1) 0

unfoldable pub le32 : List ℕ → ℕ → ℕ
le32 s at = le16 s at + 65536 * le16 s (at + 2)

unfoldable pub le64 : List ℕ → ℕ → ℕ
le64 s at = le32 s at + 4294967296 * le32 s (at + 4)

-- the float whose bits stand at `at`; every pattern of a NaN is the one `nan`
unfoldable pub float_at : List ℕ → ℕ → Float
float_at s at = of_bits binary64 (le64 s at)
