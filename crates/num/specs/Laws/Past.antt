-- Past the end of a list every byte reads as 0, and so does every number. Clients cite past16, last16, past32, past64.
use Rattle.std.specs.Prelude.{◌≡◌, List, ℕ, ◌+◌, ◌*◌, ◌≤◌, length, get_or}
use Rattle.std.proofs.Common.{mul-zero, arith}
use Rattle.std.proofs.Math.ListN.{get_or-eq_default}
use Rattle.num.specs.Le.{le16, le32, le64}

-- past the end this reads 0
abbrev pub ZeroPast : (List ℕ → ℕ → ℕ) → Type 0
ZeroPast read = (s : List ℕ) (at : ℕ) → length s ≤ at → read s at ≡ 0

byte : ZeroPast (λ (s : List ℕ) (at : ℕ). get_or s at 0)
byte s at h = get_or-eq_default s 0 {n = at} h

-- one law for every width: a number of two halves, the later one w bytes on and counted b times, is 0 where its halves are
halves : (half : List ℕ → ℕ → ℕ) (b w : ℕ) → ZeroPast half → ZeroPast (λ (s : List ℕ) (at : ℕ). half s at + b * half s (at + w))
halves half b w z s at h = rw (z s at h, z s (at + w) (omega arith), mul-zero)

pub past16 : ZeroPast le16
past16 = halves (λ (s : List ℕ) (at : ℕ). get_or s at 0) 256 1 byte

pub past32 : ZeroPast le32
unfolding le32
past32 = halves le16 65536 2 past16

pub past64 : ZeroPast le64
unfolding le64
past64 = halves le32 4294967296 4 past32

-- the last byte by itself
pub last16 : (s : List ℕ) (at : ℕ) → length s ≤ at + 1 → le16 s at ≡ get_or s at 0
last16 s at h = omega (arith, byte s (at + 1) h)
