-- The search for the pivot: an absolute value that keeps a zero's sign finds the same row, and rows that are zero change nothing; and the list of the others. Assumes nothing.
use mathlib.Core.Path.{◌≡◌, refl, sym, ap, ◌∙◌, subst}
use mathlib.Core.Logic.{◌⊎◌, inl, inr, ⊎_elim}
use mathlib.Core.Bool.{Bool, true, false, cond}
use mathlib.Core.List.{List}
use Prim.Native.Nat.{ℕ, ◌+◌, ◌-◌, ◌*◌, ◌<◌, ◌≤◌}
use native.Mathlib.Nat.{eq-or-lt_of_le}
use native.Mathlib.Numerals.{add-one}
use native.Mathlib.Omega.{arith}
use borrow.Author.Tests.{not-false, ltb-false, le-ltb, lt-ltb, eq-eqb}
use denote.Floats.{passes}
use lib.Dec.{T, eqb, eqb→eq}
use lib.Ieee.Fits.{and_l}
use lib.IntN.{ℤ}
use lib.ListN.{length, get_or, set}
use lib.Seq.{get_or-set_same, get_or-set_other}
use lib.Ieee.{Float, nan, inf, fin, up, down, neg, lt, eq, ne, of_bits}
use Rattle.num.specs.Floats.{nought, absolute_of}
use Rattle.loops.specs.Loop.{turns}
use Rattle.loops.specs.Laws.Loop.{turns_inv, turns_idle, le_or_lt}
use Rattle.num.specs.Lists.{«at»}
use Rattle.solve.specs.Solve.{larger, index_of_next_abs}
use Rattle.solve.specs.Inner.{unsigned_of, pick, Rows}

pub never : {A : Type 0} → false ≡ true → A
never e = absurd (subst T (sym e) tt)

-- ---- floats

-- an absolute value is not below zero
above : (x : Float) → lt (absolute_of x) nought ≡ false
unfolding lt absolute_of of_bits
above nan = refl
above (inf s) = refl
above (fin s m e) = le-ltb (m * up e * 1) (0 * down e) (omega arith)

-- without its sign x is its absolute value, or a zero
unsigned_cases : (x : Float) → (unsigned_of x ≡ absolute_of x) ⊎ ((unsigned_of x ≡ x) × (eq x nought ≡ true))
unfolding unsigned_of lt eq neg absolute_of of_bits
unsigned_cases nan = inl refl
unsigned_cases (inf true) = inl refl
unsigned_cases (inf false) = inl refl
unsigned_cases (fin false m e) = inl (rw (le-ltb (m * up e * 1) (0 * down e) (omega arith)))
unsigned_cases (fin true m e) =
    let a = m * up e * 1 in
    let b = 0 * down e in
    ⊎_elim
    (λ h. let z : a ≡ 0 = omega arith in inr (rw (le-ltb 0 (a + b) (omega arith)), rw (eq-eqb a b (omega arith), eq-eqb a 0 z)))
    (λ h. inl (rw (lt-ltb 0 (a + b) (omega arith))))
    (le_or_lt a 0)

-- m * 2 ^ e is zero
pub none : (s : Bool) (m : ℕ) (e : ℤ) → eq (fin s m e) nought ≡ true → m * up e ≡ 0
unfolding eq of_bits
none s m e z = omega (arith, eqb→eq (m * up e * 1) (0 * down e) (and_l (eqb (m * up e * 1) (0 * down e)) _ (passes _ z)))

scaled : (a b : ℕ) → a ≡ 0 → a * b ≡ 0
scaled a b h = rw h (omega arith)

-- a zero exceeds nothing that is not below zero
zero_least : (b x : Float) → lt b nought ≡ false → eq x nought ≡ true → (lt b x ≡ false) × (lt b (absolute_of x) ≡ false)
unfolding lt eq absolute_of of_bits
zero_least b nan h z = never z
zero_least b (inf s) h z = never z
zero_least nan (fin s m e) h z = (refl, refl)
zero_least (inf t) (fin s m e) h z = (h, h)
zero_least (fin false k d) (fin true m e) h z =
    (refl, le-ltb (k * up d * down e) (m * up e * down d) (omega (arith, scaled (m * up e) (down d) (none true m e z))))
zero_least (fin false k d) (fin false m e) h z =
    let l = le-ltb (k * up d * down e) (m * up e * down d) (omega (arith, scaled (m * up e) (down d) (none false m e z))) in
    (l, l)
zero_least (fin true k d) (fin true m e) h z =
    let a : k * up d ≡ 0 = omega (arith, ltb-false 0 (k * up d * 1 + 0 * down d) h) in
    let b : m * up e ≡ 0 = none true m e z in
    (le-ltb (m * up e * down d) (k * up d * down e) (omega (arith, scaled (k * up d) (down e) a)), le-ltb 0 (k * up d * down e + m * up e * down d) (omega (arith, scaled (k * up d) (down e) a, scaled (m * up e) (down d) b)))
zero_least (fin true k d) (fin false m e) h z =
    let a : k * up d ≡ 0 = omega (arith, ltb-false 0 (k * up d * 1 + 0 * down d) h) in
    let b : m * up e ≡ 0 = none false m e z in
    let l = le-ltb 0 (k * up d * down e + m * up e * down d) (omega (arith, scaled (k * up d) (down e) a, scaled (m * up e) (down d) b)) in
    (l, l)

pub not_ne : (x : Float) → ne x nought ≡ false → eq x nought ≡ true
unfolding ne
not_ne x h = not-false (eq x nought) h

-- ---- the search

-- the largest so far is not below zero
pub largest_above : (row : ℕ → ℕ) (k n : ℕ) (m : List Float) → lt (turns n (larger row k m) (nought, k)).0 nought ≡ false
unfolding lt of_bits
largest_above row k n m =
    turns_inv (λ (s : Float × ℕ). lt s.0 nought ≡ false) (larger row k m) n (nought, k) refl
    (λ i l s h. pick (lt s.0 (absolute_of («at» m (row (k + i) + k)))) s (k + i) («at» m (row (k + i) + k)) h)
  where
    pick : (t : Bool) (s : Float × ℕ) (r : ℕ) (x : Float) → lt s.0 nought ≡ false → lt (cond t (absolute_of x, r) s).0 nought ≡ false
    pick true s r x h = above x
    pick false s r x h = h

-- a is x without its sign: it is picked where the absolute value is
pub picked : (r : ℕ) (x a : Float) (s : Float × ℕ) → a ≡ unsigned_of x → lt s.0 nought ≡ false → pick r a s ≡ pick r (absolute_of x) s
picked r x a s e h =
    ⊎_elim
    (λ u. let v : a ≡ absolute_of x = e ∙ u in rw v)
    (λ u. let v : a ≡ x = e ∙ u.0 in rw (v, (zero_least s.0 x h u.1).0, (zero_least s.0 x h u.1).1))
    (unsigned_cases x)

-- rows from r on that are zero in column k are not needed
pub search_idle : (row : ℕ → ℕ) (n k r : ℕ) (m : List Float) → r ≤ n → ((q : ℕ) → r ≤ q → q < n → eq («at» m (row q + k)) nought ≡ true) → index_of_next_abs row n k m ≡ (turns (r - k) (larger row k m) (nought, k)).1
unfolding index_of_next_abs
search_idle row n k r m h z =
    ap (λ (s : Float × ℕ). s.1)
    (turns_idle (larger row k m) (nought, k) (r - k) (n - k) (omega arith)
    (λ i p q. rw (zero_least _ («at» m (row (k + i) + k)) (largest_above row k (r - k) m) (z (k + i) (omega arith) (omega arith))).1))

-- the best of the rows from k up to r, and row r
module _ (row : ℕ → ℕ) (k r : ℕ) (m : List Float) (s : Float × ℕ) (kr : k ≤ r) (h : s ≡ turns (r - k) (larger row k m) (nought, k)) where
  one_turn : (b : Float × ℕ) → b ≡ pick r (absolute_of («at» m (row r + k))) s → b ≡ turns (r + 1 - k) (larger row k m) (nought, k)
  one_turn b e =
      let u : k + (r - k) ≡ r = omega arith in
      let v : r + 1 - k ≡ r - k + 1 = omega arith in
      rw (v, add-one (r - k), u) (e ∙ ap (pick r (absolute_of («at» m (row r + k)))) h)

  above_zero : lt s.0 nought ≡ false
  above_zero = rw h (largest_above row k (r - k) m)

  pub best_next : (b : Float × ℕ) → b ≡ pick r (unsigned_of («at» m (row r + k))) s → b ≡ turns (r + 1 - k) (larger row k m) (nought, k)
  best_next b e = one_turn b (e ∙ picked r («at» m (row r + k)) _ s refl above_zero)

  -- a row that is zero changes nothing
  pub best_same : eq («at» m (row r + k)) nought ≡ true → s ≡ turns (r + 1 - k) (larger row k m) (nought, k)
  best_same z = one_turn s (rw (zero_least s.0 («at» m (row r + k)) above_zero z).1)

pub best_first : (row : ℕ → ℕ) (k : ℕ) (m : List Float) (b : Float × ℕ) → b ≡ pick k (unsigned_of («at» m (row k + k))) (nought, k) → b ≡ turns (k + 1 - k) (larger row k m) (nought, k)
best_first row k m b e =
    let z : k - k ≡ 0 = omega arith in
    best_next row k k m (nought, k) (omega arith) (sym (ap (λ (d : ℕ). turns d (larger row k m) (nought, k)) z)) b e

-- the best row is one of the rows
pub best_row : (n r : ℕ) (v : Float) (s b : Float × ℕ) → b ≡ pick r v s → s.1 < n → r < n → b.1 < n
best_row n r v s b e p q = rw e (go (lt s.0 v))
  where
    go : (t : Bool) → (cond {A = Float × ℕ} t (v, r) s).1 < n
    go true = q
    go false = p

-- ---- the list of rows

pub rows_longer : (n c r : ℕ) (list : List ℕ) → Rows n c list → c < length list → r < n → Rows n (c + 1) (set list c r)
rows_longer n c r list h p q i l =
    ⊎_elim (λ e. subst (λ (j : ℕ). get_or (set list c r) j 0 < n) (sym e) (rw (get_or-set_same list c r 0 p) q)) (λ g. rw (get_or-set_other list c i r 0 (λ e. omega arith)) (h i g)) (eq-or-lt_of_le (below i c l))
  where
    below : (i c : ℕ) → i < c + 1 → i ≤ c
    below i c l = omega arith
