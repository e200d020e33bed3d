-- What is told by records that share no source number, and where none can. Clients cite each_apart, none_shares_lem, without_inductor, none_among, sourceless, below and apart. Assumes nothing.
use Rattle.std.specs.Prelude.{ℕ, zero, suc, ◌<◌, ◌≡◌, refl, Bool, true, false, not, ◌||◌, List, eqb, ltb}
use Rattle.std.proofs.Common.{subst, arith, ltb-true, ltb-false}
use Rattle.std.proofs.Math.Bool.{and-false, and-eq-true_iff as both}
use mathlib.Mathlib.Data.Bool.Basic.{or-eq-false-eq-eq-false-and-eq-false as nor}
use Rattle.std.proofs.lemmas.Bool.{eqb-false, not-true}
use Rattle.numbers.specs.Kinds.{inductor}
use Rattle.num.specs.Le.{le16}
use Rattle.sheet.specs.Record.{record_at, kind_at}
use Rattle.sheet.specs.Sharing.{is_inductor, has_source, shares, none_shares, inductor_among}

-- ---- none of the first k records shares one with r: each of them shares none

-- what holds at k and below k holds below suc k
pub below : (P : ℕ → Type 0) (k j : ℕ) (b : Bool) → ltb j k ≡ b → P k → (j < k → P j) → j < suc k → P j
below P k j true t x f h = f (ltb-true j k t)
below P k j false t x f h = let e : k ≡ j = omega (arith, ltb-false j k t) in subst P e x

pub each_apart : (s : List ℕ) (k : ℕ) (r : List ℕ) → none_shares s k r ≡ true → (j : ℕ) → j < k → shares (record_at s j) r ≡ false
unfolding none_shares
each_apart s zero r h j m = absurd (omega arith)
each_apart s (suc k) r h j m =
    let b = (both (not (shares (record_at s k) r)) (none_shares s k r)).0 h in
    below (λ (j : ℕ). shares (record_at s j) r ≡ false) k j (ltb j k) refl (not-true _ b.0) (each_apart s k r b.1 j) m

pub none_shares_lem : (s : List ℕ) (k : ℕ) (r : List ℕ) → ((j : ℕ) → j < k → shares (record_at s j) r ≡ false) → none_shares s k r ≡ true
unfolding none_shares
none_shares_lem s zero r h = refl
none_shares_lem s (suc k) r h = rw (h k (omega arith)) (none_shares_lem s k r (λ j m. h j (omega arith)))

-- ---- two records share none: neither is an inductor, or one has no source number

neither : (r q : List ℕ) → is_inductor r ≡ false → is_inductor q ≡ false → shares r q ≡ false
unfolding shares
neither r q g h = rw (g, h)

pub without_inductor : (s : List ℕ) (k : ℕ) (r : List ℕ) → ((j : ℕ) → j < k → is_inductor (record_at s j) ≡ false) → is_inductor r ≡ false → none_shares s k r ≡ true
without_inductor s k r g h = none_shares_lem s k r (λ j m. neither (record_at s j) r (g j m) h)

-- none of so many records is an inductor
pub none_among : (s : List ℕ) (k : ℕ) → inductor_among s k ≡ false → (j : ℕ) → j < k → is_inductor (record_at s j) ≡ false
unfolding inductor_among
none_among s zero h j m = absurd (omega arith)
none_among s (suc k) h j m =
    let n = (nor (inductor_among s k) (eqb (kind_at s k) inductor)).0 h in
    below (λ (j : ℕ). is_inductor (record_at s j) ≡ false) k j (ltb j k) refl n.1 (none_among s k n.0 j) m

no_source : (r q : List ℕ) → has_source q ≡ false → shares r q ≡ false
unfolding shares
no_source r q h = rw (h, and-false (has_source r), and-false (is_inductor r || is_inductor q))

pub sourceless : (s : List ℕ) (k : ℕ) (r : List ℕ) → has_source r ≡ false → none_shares s k r ≡ true
sourceless s k r h = none_shares_lem s k r (λ j m. no_source (record_at s j) r h)

-- ---- two records with source numbers that share none, one of them an inductor, have different ones

pub apart : (r q : List ℕ) → (is_inductor r || is_inductor q) ≡ true → has_source r ≡ true → has_source q ≡ true → shares r q ≡ false → le16 r 10 ≡ le16 q 10 → ⊥
unfolding shares
apart r q i g h n e = eqb-false (le16 r 10) (le16 q 10) (rw (i, g, h) at n) e
