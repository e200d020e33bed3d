-- A record decoded by a caller that knows its kind byte, and where that byte stands in the sheet. Clients cite decode_own and first_byte. Assumes nothing.
use Rattle.std.specs.Prelude.{ℕ, ◌+◌, ◌*◌, ◌≡◌, List, get_or, drop}
use Rattle.std.proofs.Common.{ap, ◌∙◌, arith, get_or-take, get_or-drop}
use Rattle.sheet.specs.Record.{record_at, kind_at, decode_of, decode_as}

-- as its own kind a record is what it is
pub decode_own : (kind : ℕ) (r : List ℕ) → kind ≡ get_or r 0 0 → decode_as kind r ≡ decode_of r
unfolding decode_as decode_of
decode_own kind r e = rw e

-- the kind byte of record i stands at 40 times i
pub first_byte : (sheet : List ℕ) (i : ℕ) → kind_at sheet i ≡ get_or sheet (40 * i) 0
unfolding record_at
first_byte sheet i =
    get_or-take 40 (drop (40 * i) sheet) 0 0 (omega arith)
    ∙ (get_or-drop (40 * i) sheet 0 0 ∙ ap (λ (k : ℕ). get_or sheet k 0) (let e : 40 * i + 0 ≡ 40 * i = omega arith in e))
