-- Back substitution writes every unknown before it reads it, so that only unknown 0 and the last need to be set beforehand; and which unknowns are finite. Assumes nothing.
use mathlib.Core.Path.{◌≡◌, refl, sym, ap, ◌∙◌, subst}
use mathlib.Core.Logic.{⊎_elim}
use mathlib.Core.Bool.{Bool, true, false, cond}
use mathlib.Core.List.{List}
use Prim.Native.Nat.{ℕ, suc, ◌+◌, ◌-◌, ◌<◌, ◌≤◌}
use native.Mathlib.Nat.{eq-or-lt_of_le}
use native.Mathlib.Numerals.{add-one}
use native.Mathlib.Omega.{arith}
use lib.ListN.{length, set, replicate, length-set, length-replicate, get_or-replicate}
use lib.Seq.{get_or-set_same, get_or-set_other, ext_get_or}
use lib.Ieee.{Float, nan, binary64, add, mul, div, sub, of_bits}
use lib.Ieee.Scale.{finite}
use Rattle.num.specs.Floats.{nought}
use Rattle.loops.specs.Loop.{down}
use Rattle.loops.specs.Laws.Loop.{turns_ext, down_rel, three}
use Rattle.num.specs.Lists.{«at»}
use Rattle.solve.specs.Solve.{add_one, dot, unknown, last_unknown, back_one, substituted}
use Rattle.solve.specs.Inner.{AllFinite}

-- two vectors of n unknowns that agree on unknown 0 and on all after i
pub record Agree (n i : ℕ) (x y : List Float) : Type 0 where
  pub left : length x ≡ n
  pub right : length y ≡ n
  pub ground : «at» x 0 ≡ «at» y 0
  pub later : (j : ℕ) → i < j → j < n → «at» x j ≡ «at» y j

module _ (row : ℕ → ℕ) (n : ℕ) (m : List Float) where
  -- they give the same unknown i
  same_unknown : (i : ℕ) (x y : List Float) → Agree n i x y → unknown row n m x i ≡ unknown row n m y i
  unfolding unknown dot
  same_unknown i x y a =
      ap (λ (s : Float). div binary64 (sub binary64 («at» m (row i + n)) s) («at» m (row i + i)))
      (turns_ext (add_one row m x i) (add_one row m y i) (n - (i + 1)) nought
      (λ j l s. ap (λ (v : Float). add binary64 s (mul binary64 («at» m (row i + (i + 1 + j))) v)) (a.later (i + 1 + j) (omega arith) (omega arith))))

  turn : (i : ℕ) (x y : List Float) → i + 1 < n → Agree n (suc i) x y → Agree n i (back_one row n m i x) (back_one row n m i y)
  turn i x y h a =
      let u = unknown row n m x (i + 1) in
      let v = unknown row n m y (i + 1) in
      let e : u ≡ v = same_unknown (i + 1) x y (rw (← add-one i) at a) in
      record {
        left = length-set x (i + 1) u ∙ a.left;
        right = length-set y (i + 1) v ∙ a.right;
        ground = get_or-set_other x (i + 1) 0 u nan (λ q. omega arith) ∙ a.ground ∙ sym (get_or-set_other y (i + 1) 0 v nan (λ q. omega arith));
        later = λ j p q. ⊎_elim
            (λ d. rw (← d) (get_or-set_same x (i + 1) u nan (omega (arith, a.left)) ∙ e ∙ sym (get_or-set_same y (i + 1) v nan (omega (arith, a.right)))))
            (λ d. get_or-set_other x (i + 1) j u nan (λ g. omega arith) ∙ a.later j (omega arith) q ∙ sym (get_or-set_other y (i + 1) j v nan (λ g. omega arith)))
            (eq-or-lt_of_le (below i j p));
      }
    where
      below : (i j : ℕ) → i < j → i + 1 ≤ j
      below i j p = omega arith

  pub same_unknowns : (d : ℕ) (x y : List Float) → d + 1 ≤ n → Agree n d x y → down d (back_one row n m) x ≡ down d (back_one row n m) y
  same_unknowns d x y h a =
      let r : Agree n 0 (down d (back_one row n m) x) (down d (back_one row n m) y) = down_rel (Agree n) (back_one row n m) (back_one row n m) d x y a (λ i l s t b. turn i s t (omega arith) b) in
      ext_get_or nan _ _ (r.left ∙ sym r.right) (λ j p. ⊎_elim (λ e. rw e r.ground) (⊎_elim (λ l. absurd (omega arith)) (λ l. r.later j l (omega (arith, r.left)))) (three j 0))

-- zeros with the last unknown set, and any vector with unknown 0 and the last set
started : (n : ℕ) (x : List Float) (v : Float) → 1 ≤ n → length x ≡ n → Agree n (n - 2) (set (set x 0 nought) (n - 1) v) (set (replicate n nought) (n - 1) v)
started n x v h e =
    let y = set x 0 nought in
    let z = replicate n nought in
    let ly : length y ≡ n = length-set x 0 nought ∙ e in
    let lz : length z ≡ n = length-replicate n nought in
    let last : «at» (set y (n - 1) v) (n - 1) ≡ «at» (set z (n - 1) v) (n - 1) = get_or-set_same y (n - 1) v nan (omega arith) ∙ sym (get_or-set_same z (n - 1) v nan (omega arith)) in
    record {
      left = length-set y (n - 1) v ∙ ly;
      right = length-set z (n - 1) v ∙ lz;
      ground = ⊎_elim
          (λ d. subst (λ (i : ℕ). «at» (set y (n - 1) v) i ≡ «at» (set z (n - 1) v) i) (sym d) last)
          (⊎_elim (λ d. get_or-set_other y (n - 1) 0 v nan (λ g. omega arith) ∙ get_or-set_same x 0 nought nan (omega arith) ∙ sym (get_or-replicate n 0 nought nan h) ∙ sym (get_or-set_other z (n - 1) 0 v nan (λ g. omega arith))) (λ d. absurd (omega arith)))
          (three 0 (n - 1));
      later = λ j p q. let g : j ≡ n - 1 = omega arith in rw g last;
    }

-- the vector may hold anything
pub any_vector : (row : ℕ → ℕ) (n : ℕ) (m x : List Float) → 1 ≤ n → length x ≡ n → down (n - 2) (back_one row n m) (set (set x 0 nought) (n - 1) (last_unknown row n m)) ≡ substituted row n m
unfolding substituted
any_vector row n m x h e = same_unknowns row n m (n - 2) _ _ (omega arith) (started n x (last_unknown row n m) h e)

-- ---- finite unknowns

pub last_finite : (row : ℕ → ℕ) (n : ℕ) (m : List Float) → finite (last_unknown row n m) ≡ true
unfolding last_unknown of_bits
last_finite row n m = go (div binary64 («at» m (row (n - 1) + n)) («at» m (row (n - 1) + (n - 1)))) _ refl
  where
    go : (q : Float) (b : Bool) → finite q ≡ b → finite (cond b q nought) ≡ true
    go q true e = e
    go q false e = refl

-- one more before those from i + 1 on
pub more_finite : (i n : ℕ) (x : List Float) (v : Float) → i < length x → finite v ≡ true → AllFinite (i + 1) n x → AllFinite i n (set x i v)
more_finite i n x v h e a j p q =
    ⊎_elim (λ d. rw (← d, get_or-set_same x i v nan h) e) (λ d. rw (get_or-set_other x i j v nan (λ g. omega arith)) (a j (omega arith) q)) (eq-or-lt_of_le p)
