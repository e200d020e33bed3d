-- Two searches, of some of the rows each, and the search of all: it ends where the first of the two largest stands. Assumes nothing.
use mathlib.Core.Path.{◌≡◌, refl, sym, ap, ◌∙◌}
use mathlib.Core.Logic.{◌⊎◌, inl, inr, ⊎_elim}
use mathlib.Core.Bool.{Bool, true, false, cond}
use mathlib.Core.List.{List}
use Prim.Native.Nat.{ℕ, ◌+◌, ◌*◌, ◌≤◌}
use native.Mathlib.Nat.{add_assoc}
use native.Mathlib.Numerals.{add-one}
use native.Mathlib.Omega.{arith}
use borrow.Author.Tests.{ltb-true, ltb-false, le-ltb, lt-ltb}
use lib.Dec.{ltb}
use lib.IntN.{ℤ, pos}
use lib.Ieee.{Float, nan, inf, fin, up, down, lt, of_bits}
use lib.Ieee.Fits.{down_pos}
use lib.Ieee.Positive.{through}
use Rattle.num.specs.Floats.{nought, absolute_of}
use Rattle.loops.specs.Loop.{turns}
use Rattle.loops.specs.Laws.Loop.{le_or_lt}
use Rattle.num.specs.Lists.{«at»}
use Rattle.solve.specs.Solve.{larger}
use Rattle.solve.specs.Inner.{unsigned_of, pick, first_of}
use Rattle.solve.proofs.Search.{never, picked}

is_false : (t : Bool) → (t ≡ true → false ≡ true) → t ≡ false
is_false true h = sym (h refl)
is_false false h = refl

-- a size: a number or infinity, with no sign
pub data Plain : Float → Type 0 where
  unbounded : Plain (inf false)
  number : (m : ℕ) (e : ℤ) → Plain (fin false m e)

zero_plain : Plain nought
unfolding of_bits
zero_plain = number 0 (pos 0)

-- what exceeds something is a size
exceeds_plain : (b w : Float) → lt b (absolute_of w) ≡ true → Plain (absolute_of w)
unfolding lt absolute_of
exceeds_plain nan nan h = never h
exceeds_plain (inf s) nan h = never h
exceeds_plain (fin s m e) nan h = never h
exceeds_plain b (inf s) h = unbounded
exceeds_plain b (fin s m e) h = number m e

pub plain_above : {x : Float} → Plain x → lt x nought ≡ false
unfolding lt of_bits
plain_above unbounded = refl
plain_above (number m e) = le-ltb (m * up e * 1) (0 * down e) (omega arith)

not_self : {x : Float} → Plain x → lt x x ≡ false
unfolding lt
not_self unbounded = refl
not_self (number m e) = le-ltb (m * up e * down e) (m * up e * down e) (omega arith)

one_way : {x y : Float} → Plain x → Plain y → lt x y ≡ true → lt y x ≡ false
unfolding lt
one_way unbounded unbounded h = never h
one_way unbounded (number n d) h = never h
one_way (number m e) unbounded h = refl
one_way (number m e) (number n d) h = le-ltb (n * up d * down e) (m * up e * down d) (omega (arith, ltb-true (m * up e * down d) (n * up d * down e) h))

-- what is above x is above y too, or y is above x
between : {x y z : Float} → Plain x → Plain y → Plain z → lt x z ≡ true → (lt x y ≡ true) ⊎ (lt y z ≡ true)
unfolding lt
between unbounded py unbounded h = never h
between unbounded py (number p c) h = never h
between (number m e) unbounded pz h = inl refl
between (number m e) (number n d) unbounded h = inr refl
between (number m e) (number n d) (number p c) h =
    ⊎_elim
    (λ l. ⊎_elim
    (λ g. absurd (omega (arith, through (p * up c) (n * up d) (m * up e) (down c) (down d) (down e) (down_pos d) g l, ltb-true (m * up e * down c) (p * up c * down e) h)))
    (λ g. inr (lt-ltb (n * up d * down c) (p * up c * down d) g))
    (le_or_lt (p * up c * down d) (n * up d * down c)))
    (λ l. inl (lt-ltb (m * up e * down d) (n * up d * down e) l))
    (le_or_lt (n * up d * down e) (m * up e * down d))

-- ---- two searches

-- s is the best of a and b: as large as each, and the earlier on a tie
pub record Joined (a b s : Float × ℕ) : Type 0 where
  pub plain_a : Plain a.0
  pub plain_b : Plain b.0
  pub which : (s ≡ a) ⊎ (s ≡ b)
  pub over_a : lt s.0 a.0 ≡ false
  pub over_b : lt s.0 b.0 ≡ false
  pub early_a : lt a.0 s.0 ≡ false → s.1 ≤ a.1
  pub early_b : lt b.0 s.0 ≡ false → s.1 ≤ b.1

pub started : (k : ℕ) → Joined (nought, k) (nought, k) (nought, k)
started k =
    record {
      plain_a = zero_plain;
      plain_b = zero_plain;
      which = inl refl;
      over_a = not_self zero_plain;
      over_b = not_self zero_plain;
      early_a = λ h. omega arith;
      early_b = λ h. omega arith;
    }

-- either search may come first
pub turned : {a b s : Float × ℕ} → Joined a b s → Joined b a s
turned j =
    record {
      plain_a = j.plain_b;
      plain_b = j.plain_a;
      which = ⊎_elim (λ e. inr e) (λ e. inl e) j.which;
      over_a = j.over_b;
      over_b = j.over_a;
      early_a = j.early_b;
      early_b = j.early_a;
    }

module _ {a b s : Float × ℕ} (j : Joined a b s) where
  pub plain_s : Plain s.0
  plain_s = ⊎_elim (λ e. rw e j.plain_a) (λ e. rw e j.plain_b) j.which

  -- one row more in the first search
  pub one_more_lem : (r : ℕ) (w : Float) → s.1 ≤ r → Joined (pick r (absolute_of w) a) b (pick r (absolute_of w) s)
  one_more_lem r w l = go (lt s.0 v) refl (lt a.0 v) refl
    where
      v : Float
      v = absolute_of w

      go : (p : Bool) → lt s.0 v ≡ p → (q : Bool) → lt a.0 v ≡ q → Joined (cond q (v, r) a) b (cond p (v, r) s)
      go true e true d =
          let pv = exceeds_plain s.0 w e in
          record {
            plain_a = pv;
            plain_b = j.plain_b;
            which = inl refl;
            over_a = not_self pv;
            over_b = is_false (lt v b.0) (λ t. ⊎_elim (λ g. never (sym (one_way plain_s pv e) ∙ g)) (λ g. never (sym j.over_b ∙ g)) (between pv plain_s j.plain_b t));
            early_a = λ h. omega arith;
            early_b = λ h. ⊎_elim (λ g. never (sym j.over_b ∙ g)) (λ g. never (sym h ∙ g)) (between plain_s j.plain_b pv e);
          }
      go true e false d = ⊎_elim (λ g. never (sym j.over_a ∙ g)) (λ g. never (sym d ∙ g)) (between plain_s j.plain_a (exceeds_plain s.0 w e) e)
      go false e true d =
          record {
            plain_a = exceeds_plain a.0 w d;
            plain_b = j.plain_b;
            which = ⊎_elim (λ u. never (sym e ∙ ap (λ (x : Float × ℕ). lt x.0 v) u ∙ d)) (λ u. inr u) j.which;
            over_a = e;
            over_b = j.over_b;
            early_a = λ h. l;
            early_b = j.early_b;
          }
      go false e false d = j

  -- where the search of all ends
  pub first_of_lem : first_of a b ≡ s.1
  unfolding first_of
  first_of_lem = go (lt a.0 b.0) refl (lt b.0 a.0) refl
    where
      -- the row of s, where each is as large as the other
      tie : lt a.0 b.0 ≡ false → lt b.0 a.0 ≡ false → (s.1 ≤ a.1) × (s.1 ≤ b.1) × ((s.1 ≡ a.1) ⊎ (s.1 ≡ b.1))
      tie p q = ⊎_elim
          (λ e. (omega (arith, ap (λ (x : Float × ℕ). x.1) e), j.early_b (ap (λ (x : Float × ℕ). lt b.0 x.0) e ∙ q), inl (ap (λ (x : Float × ℕ). x.1) e)))
          (λ e. (j.early_a (ap (λ (x : Float × ℕ). lt a.0 x.0) e ∙ p), omega (arith, ap (λ (x : Float × ℕ). x.1) e), inr (ap (λ (x : Float × ℕ). x.1) e)))
          j.which

      least : (t : Bool) → ltb b.1 a.1 ≡ t → (s.1 ≤ a.1) × (s.1 ≤ b.1) × ((s.1 ≡ a.1) ⊎ (s.1 ≡ b.1)) → cond t b.1 a.1 ≡ s.1
      least true e h = ⊎_elim (λ g. omega (arith, h.1, ltb-true b.1 a.1 e)) (λ g. sym g) h.2
      least false e h = ⊎_elim (λ g. sym g) (λ g. omega (arith, h.0, ltb-false b.1 a.1 e)) h.2

      go : (p : Bool) → lt a.0 b.0 ≡ p → (q : Bool) → lt b.0 a.0 ≡ q → cond p b.1 (cond q a.1 (cond (ltb b.1 a.1) b.1 a.1)) ≡ s.1
      go true e q d = ⊎_elim (λ u. never (sym j.over_b ∙ ap (λ (x : Float × ℕ). lt x.0 b.0) u ∙ e)) (λ u. sym (ap (λ (x : Float × ℕ). x.1) u)) j.which
      go false e true d = ⊎_elim (λ u. sym (ap (λ (x : Float × ℕ). x.1) u)) (λ u. never (sym j.over_a ∙ ap (λ (x : Float × ℕ). lt x.0 a.0) u ∙ d)) j.which
      go false e false d = least (ltb b.1 a.1) refl (tie e d)

-- ---- rows of a column

-- s is at or before row r, as both searches are
pub before : {a b s : Float × ℕ} (r : ℕ) → Joined a b s → a.1 ≤ r → b.1 ≤ r → s.1 ≤ r
before r j p q = ⊎_elim (λ e. rw e p) (λ e. rw e q) j.which

pick_before : (r : ℕ) (v : Float) (s : Float × ℕ) → s.1 ≤ r → (pick r v s).1 ≤ r
pick_before r v s h = go (lt s.0 v)
  where
    go : (t : Bool) → (cond {A = Float × ℕ} t (v, r) s).1 ≤ r
    go true = omega arith
    go false = h

module _ (row : ℕ → ℕ) (k i : ℕ) (m : List Float) (a b : Float × ℕ) (j : Joined a b (turns i (larger row k m) (nought, k))) (p : a.1 ≤ k + i) (q : b.1 ≤ k + i) where
  -- row k + i in the first search: its entry without the sign is u
  pub one_row : (u : Float) → u ≡ unsigned_of («at» m (row (k + i) + k)) → Joined (pick (k + i) u a) b (turns (i + 1) (larger row k m) (nought, k))
  one_row u e =
      rw (picked (k + i) («at» m (row (k + i) + k)) u a e (plain_above j.plain_a), add-one i) (one_more_lem j (k + i) («at» m (row (k + i) + k)) (before (k + i) j p q))

-- and row k + i + 1 in the second
pub two_rows : (row : ℕ → ℕ) (k i : ℕ) (m : List Float) (a b : Float × ℕ) → Joined a b (turns i (larger row k m) (nought, k)) → a.1 ≤ k + i → b.1 ≤ k + i → (u v : Float) → u ≡ unsigned_of («at» m (row (k + i) + k)) → v ≡ unsigned_of («at» m (row (k + i + 1) + k)) → Joined (pick (k + i) u a) (pick (k + i + 1) v b) (turns (i + 2) (larger row k m) (nought, k))
two_rows row k i m a b j p q u v e f =
    let c = pick (k + i) u a in
    let one : Joined c b (turns (i + 1) (larger row k m) (nought, k)) = one_row row k i m a b j p q u e in
    let low : c.1 ≤ k + i = pick_before (k + i) u a p in
    let two = one_row row k (i + 1) m b c (turned one) (omega arith) (omega arith) v (rw add_assoc at f) in
    let z : i + 1 + 1 ≡ i + 2 = omega arith in
    turned (rw (← add_assoc k i 1, z) at two)
