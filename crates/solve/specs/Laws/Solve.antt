-- What clients cite of solve_of: when it runs, what it then leaves, and how long. Assumes nothing.
use Rattle.std.specs.Prelude.{◌≡◌, refl, Bool, true, false, cond, ◌&&◌, List, [], ◌++◌, ℕ, ◌+◌, ◌-◌, ◌*◌, ◌≤◌, leb, eqb, length, set, take, drop, replicate, Float}
use Rattle.std.proofs.Common.{◌∙◌, append-nil, arith, le-leb, leb-true, eqb-true, length-set, length-append, length-take, length-drop, drop_of_length-le, take_all}
use Rattle.std.proofs.lemmas.List.{length-replicate}
use Rattle.std.specs.Float.{binary64}
use Rattle.std.specs.Float.Ieee.{div, eq}
use Rattle.numbers.specs.Limits.{most_unknowns}
use Rattle.num.specs.Floats.{nought}
use Rattle.loops.specs.Loop.{turns}
use Rattle.loops.specs.Laws.Loop.{turns_inv, down_inv}
use Rattle.num.specs.Lists.{«at»}
use Rattle.solve.specs.Solve.{row_start, less_one, less_scaled, swap_one, swapped, reduced, clear_one, cleared, index_of_next_abs, column, column_next, eliminated, unknown, last_unknown, back_one, substituted, solution, solve_refusal, Solved, solved_as, solve_of}

-- ---- lengths

-- a loop whose turns keep a list's length keeps it
turns-length : (f : ℕ → List Float → List Float) (n : ℕ) (m : List Float) → ((i : ℕ) (x : List Float) → length (f i x) ≡ length x) → length (turns n f m) ≡ length m
turns-length f n m h = turns_inv (λ (x : List Float). length x ≡ length m) f n m refl (λ i l x e. h i x ∙ e)

swapped-length : (a b len : ℕ) (m : List Float) → length (swapped a b len m) ≡ length m
unfolding swapped
swapped-length a b len m = turns-length (swap_one a b) len m (λ i x. length-set (set x (a + i) («at» x (b + i))) (b + i) («at» x (a + i)) ∙ length-set x (a + i) («at» x (b + i)))

less_length : (from to len : ℕ) (ratio : Float) (m : List Float) → length (less_scaled from to len ratio m) ≡ length m
unfolding less_scaled
less_length from to len ratio m = turns-length (less_one from to ratio) len m (λ i x. simp length-set)

reduced-length : (from to len : ℕ) (m : List Float) → length (reduced from to len m) ≡ length m
unfolding reduced
reduced-length from to len m = go (eq («at» m to) nought)
  where
    go : (b : Bool) → length (cond b m (less_scaled from to len (div binary64 («at» m to) («at» m from)) m)) ≡ length m
    go true = refl
    go false = less_length from to len (div binary64 («at» m to) («at» m from)) m

cleared-length : (row : ℕ → ℕ) (n k : ℕ) (m : List Float) → length (cleared row n k m) ≡ length m
unfolding cleared
cleared-length row n k m = turns-length (clear_one row n k) (n - (k + 1)) m (λ i x. reduced-length _ _ _ x)

column-length : (row : ℕ → ℕ) (n k : ℕ) (m : List Float) → length (column row n k m).1 ≡ length m
unfolding column
column-length row n k m = go (index_of_next_abs row n k m) (eq («at» m (row (index_of_next_abs row n k m) + k)) nought)
  where
    go : (p : ℕ) (b : Bool) → length (cond {A = Bool × List Float} b (false, m) (true, cleared row n k (swapped (row p) (row k) (n + 1) m))).1 ≡ length m
    go p true = refl
    go p false = cleared-length row n k (swapped (row p) (row k) (n + 1) m) ∙ swapped-length (row p) (row k) (n + 1) m

-- elimination keeps the matrix's length
pub eliminated-length : (n : ℕ) (m : List Float) → length (eliminated n m) ≡ length m
unfolding eliminated
eliminated-length n m = turns_inv (λ (s : Bool × List Float). length s.1 ≡ length m) (column_next (row_start n) n) (n - 2) (true, m) refl (λ i l s e. go s.0 i s.1 e)
  where
    go : (b : Bool) (i : ℕ) (x : List Float) → length x ≡ length m → length (column_next (row_start n) n i (b, x)).1 ≡ length m
    go true i x e = column-length (row_start n) n (i + 1) x ∙ e
    go false i x e = e

-- n rows have n unknowns
pub solution-length : (n : ℕ) (m : List Float) → length (solution n m) ≡ n
unfolding solution substituted
solution-length n m =
    down_inv (λ (x : List Float). length x ≡ n) (back_one (row_start n) n (eliminated n m)) (n - 2) _
    (length-set (replicate n nought) (n - 1) (last_unknown (row_start n) n (eliminated n m)) ∙ length-replicate n nought)
    (λ i l x e. length-set x (i + 1) (unknown (row_start n) n (eliminated n m) x (i + 1)) ∙ e)

-- ---- it runs

module _ (n : ℕ) (m x : List Float) (low : 1 ≤ n) (high : n ≤ most_unknowns) where
  -- with one row at least and at most 48, and buffers that are long enough
  pub runs : n * (n + 1) ≤ length m → n ≤ length x → solve_refusal n (length m) (length x) ≡ 0
  runs p q = rw (le-leb 1 n low, le-leb n 48 high, le-leb (n * (n + 1)) (length m) p, le-leb n (length x) q)

  -- the solution then stands in front
  pub solves : n * (n + 1) ≤ length m → n ≤ length x → solve_of n m x ≡ solved_as 0 (eliminated n (take (n * (n + 1)) m) ++ drop (n * (n + 1)) m) (solution n (take (n * (n + 1)) m) ++ drop n x)
  unfolding solve_of
  solves p q = rw (runs p q)

  -- in buffers of the very lengths nothing else stands
  pub solves_whole : length m ≡ n * (n + 1) → length x ≡ n → solve_of n m x ≡ solved_as 0 (eliminated n m) (solution n m)
  solves_whole p q =
      let a : take (n * (n + 1)) m ≡ m = take_all (n * (n + 1)) m (omega arith) in
      let b : drop (n * (n + 1)) m ≡ [] = drop_of_length-le m {i = n * (n + 1)} (omega arith) in
      let c : drop n x ≡ [] = drop_of_length-le x {i = n} (omega arith) in
      solves (omega arith) (omega arith) ∙ rw (a, b, c, append-nil (eliminated n m), append-nil (solution n m))

-- ---- what refusal 0 says of the lengths

pub record Fit (n matrix vector : ℕ) : Type 0 where
  pub low : 1 ≤ n
  pub high : n ≤ most_unknowns
  pub rows : n * (n + 1) ≤ matrix
  pub unknowns : n ≤ vector

pub fit : (n matrix vector : ℕ) → solve_refusal n matrix vector ≡ 0 → Fit n matrix vector
fit n matrix vector e = go (leb 1 n) refl (leb n most_unknowns) refl (leb (n * (n + 1)) matrix) refl (leb n vector) refl e
  where
    go : (a : Bool) → leb 1 n ≡ a → (b : Bool) → leb n most_unknowns ≡ b → (c : Bool) → leb (n * (n + 1)) matrix ≡ c → (d : Bool) → leb n vector ≡ d → ◌≡◌ {A = ℕ} (cond (a && b) (cond (c && d) 0 5) 1) 0 → Fit n matrix vector
    go true p true q true r true s z =
        record { low = leb-true 1 n p; high = leb-true n most_unknowns q; rows = leb-true (n * (n + 1)) matrix r; unknowns = leb-true n vector s }
    go true p true q true r false s z = absurd (omega arith)
    go true p true q false r d s z = absurd (omega arith)
    go true p false q c r d s z = absurd (omega arith)
    go false p b q c r d s z = absurd (omega arith)

-- a call keeps both lengths
pub solve_lengths : (n : ℕ) (m x : List Float) → (length (solve_of n m x).matrix ≡ length m) × (length (solve_of n m x).vector ≡ length x)
unfolding solve_of
solve_lengths n m x = go (eqb r 0) refl
  where
    size : ℕ
    size = n * (n + 1)

    r : ℕ
    r = solve_refusal n (length m) (length x)

    ran : Solved
    ran = solved_as 0 (eliminated n (take size m) ++ drop size m) (solution n (take size m) ++ drop n x)

    go : (b : Bool) → eqb r 0 ≡ b → (length (cond b ran (solved_as r m x)).matrix ≡ length m) × (length (cond b ran (solved_as r m x)).vector ≡ length x)
    go true e =
        let f = fit n (length m) (length x) (eqb-true r 0 e) in
        (simp (length-append, eliminated-length, length-take, length-drop) (omega (arith, f.rows)), simp (length-append, solution-length, length-drop) (omega (arith, f.unknowns)))
    go false e = (refl, refl)
