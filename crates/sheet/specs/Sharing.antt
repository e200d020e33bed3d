-- Refusal 9 between two records: an inductor has its source number to itself. Clients cite shares, alone and inductor_among.
use Rattle.std.specs.Prelude.{ℕ, zero, suc, ◌<◌, ◌≡◌, Bool, true, false, not, ◌&&◌, ◌||◌, List, get_or, eqb}
use Rattle.numbers.specs.Kinds.{inductor}
use Rattle.num.specs.Le.{le16}
use Rattle.sheet.specs.Record.{record_at, kind_at, uses_of}

-- a record's kind is the inductor's
abbrev pub is_inductor : List ℕ → Bool
is_inductor r = eqb (get_or r 0 0) inductor

-- its kind has a source number, which stands at 10
abbrev pub has_source : List ℕ → Bool
has_source r = (uses_of (get_or r 0 0)).source

-- two records share a source number and one of them is an inductor; without an inductor two records may share one
unfoldable pub shares : List ℕ → List ℕ → Bool
shares r q = (is_inductor r || is_inductor q) && (has_source r && has_source q) && eqb (le16 r 10) (le16 q 10)

-- none of the first k records shares one with r
unfoldable pub none_shares : List ℕ → ℕ → List ℕ → Bool
none_shares sheet zero r = true
none_shares sheet (suc k) r = not (shares (record_at sheet k) r) && none_shares sheet k r

-- record i shares none with an earlier record: 9 is given at the later of two
abbrev pub alone : List ℕ → ℕ → Bool
alone sheet i = none_shares sheet i (record_at sheet i)

-- one of the first k records has an inductor's kind
unfoldable pub inductor_among : List ℕ → ℕ → Bool
inductor_among sheet zero = false
inductor_among sheet (suc k) = inductor_among sheet k || eqb (kind_at sheet k) inductor

-- for the contracts of inner functions: p is the first of so many records that shares one, or past them all
pub record FirstShared (sheet : List ℕ) (count p : ℕ) : Type 0 where
  pub before : (i : ℕ) → i < p → i < count → alone sheet i ≡ true
  pub there : p < count → alone sheet p ≡ false
