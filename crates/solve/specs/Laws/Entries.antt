-- What the row update, the swap and the clearing of a column leave at each entry, for rows that do not overlap. Assumes nothing.
use Rattle.std.specs.Prelude.{◌≡◌, refl, ◌⊎◌, Bool, true, false, cond, List, ℕ, zero, suc, ◌+◌, ◌-◌, ◌*◌, ◌<◌, ◌≤◌, length, set, Float}
use Rattle.std.proofs.Common.{sym, ap, ◌∙◌, inl, inr, ⊎_elim, not-suc-le-zero, le_of_suc-le-suc, eq-or-lt_of_le, mul-le-mul_right, suc-mul, add_assoc, arith, length-set, get_or-set_same, get_or-set_other, set-set}
use Rattle.std.proofs.lemmas.List.{set-get_or}
use Rattle.std.specs.Float.{nan, binary64}
use Rattle.std.specs.Float.Ieee.{sub, mul, div, eq}
use Rattle.num.specs.Floats.{nought}
use Rattle.loops.specs.Loop.{turns}
use Rattle.loops.specs.Laws.Loop.{three, turns_ext, turns-add}
use Rattle.num.specs.Lists.{«at»}
use Rattle.solve.specs.Solve.{row_start, less_one, less_scaled, swap_one, swapped, reduced, clear_one}

-- ---- rows

-- row r ends where row r + 1 starts, at most
pub row_end : (r n w : ℕ) → r < n → r * w + w ≤ n * w
row_end r n w h = omega (arith, mul-le-mul_right w h, suc-mul r w)

-- parts of len entries from a and from b on that have none in common
abbrev pub Apart : ℕ → ℕ → ℕ → Type 0
Apart a b len = (a + len ≤ b) ⊎ (b + len ≤ a)

-- an entry x that is not among len entries from a on
abbrev pub Outside : ℕ → ℕ → ℕ → Type 0
Outside a len x = (x < a) ⊎ (a + len ≤ x)

-- what holds below n, and at n, holds below suc n
one_more_lem : (P : ℕ → Type 0) (n : ℕ) → ((k : ℕ) → k < n → P k) → P n → (k : ℕ) → k < suc n → P k
one_more_lem P n all here k h = ⊎_elim (λ e. rw e here) (λ l. all k l) (eq-or-lt_of_le (le_of_suc-le-suc h))

-- ---- the row update

pub record Less (from to len : ℕ) (ratio : Float) (m r : List Float) : Type 0 where
  pub long : length r ≡ length m
  pub changed : (i : ℕ) → i < len → «at» r (to + i) ≡ sub binary64 («at» m (to + i)) (mul binary64 («at» m (from + i)) ratio)
  pub same : (x : ℕ) → Outside to len x → «at» r x ≡ «at» m x

less_turns : (from to len : ℕ) (ratio : Float) (m : List Float) → Apart from to len → to + len ≤ length m → Less from to len ratio m (turns len (less_one from to ratio) m)
less_turns from to zero ratio m d f = record { long = refl; changed = λ i h. absurd (not-suc-le-zero h); same = λ x h. refl }
less_turns from to (suc n) ratio m d f =
    let t = turns n (less_one from to ratio) m in
    let v = sub binary64 («at» t (to + n)) (mul binary64 («at» t (from + n)) ratio) in
    let e : Less from to n ratio m t = less_turns from to n ratio m (⊎_elim (λ h. inl (omega arith)) (λ h. inr (omega arith)) d) (omega arith) in
    record {
      long = length-set t (to + n) v ∙ e.long;
      changed =
          one_more_lem _ n (λ i h. get_or-set_other t (to + n) (to + i) v nan (λ q. omega arith) ∙ e.changed i h)
          (get_or-set_same t (to + n) v nan (omega (arith, e.long))
          ∙ ap (λ (x : Float). sub binary64 x (mul binary64 («at» t (from + n)) ratio)) (e.same (to + n) (inr (omega arith)))
          ∙ ap (λ (x : Float). sub binary64 («at» m (to + n)) (mul binary64 x ratio))
          (e.same (from + n) (⊎_elim (λ h. inl (omega arith)) (λ h. inr (omega arith)) d)));
      same = λ x h. get_or-set_other t (to + n) x v nan (λ q. ⊎_elim (λ l. omega arith) (λ l. omega arith) h)
          ∙ e.same x (⊎_elim (λ l. inl l) (λ l. inr (omega arith)) h);
    }

pub less_scaled_lem : (from to len : ℕ) (ratio : Float) (m : List Float) → Apart from to len → to + len ≤ length m → Less from to len ratio m (less_scaled from to len ratio m)
unfolding less_scaled
less_scaled_lem from to len ratio m a f = less_turns from to len ratio m a f

-- the first a entries, and then b more
less_split : (from to a b : ℕ) (ratio : Float) (m : List Float) → less_scaled (from + a) (to + a) b ratio (less_scaled from to a ratio m) ≡ less_scaled from to (a + b) ratio m
unfolding less_scaled
less_split from to a b ratio m =
    turns_ext (less_one (from + a) (to + a) ratio) (λ (i : ℕ). less_one from to ratio (a + i)) b (turns a (less_one from to ratio) m) (λ i l x. rw (add_assoc from a i, add_assoc to a i)) ∙ sym (turns-add (less_one from to ratio) m a b)

pub less_join : (from to a b len : ℕ) (ratio : Float) (m m₁ m₂ : List Float) → a + b ≡ len → m₁ ≡ less_scaled from to a ratio m → m₂ ≡ less_scaled (from + a) (to + a) b ratio m₁ → m₂ ≡ less_scaled from to len ratio m
less_join from to a b len ratio m m₁ m₂ e e₁ e₂ = rw (← e) (e₂ ∙ ap (less_scaled (from + a) (to + a) b ratio) e₁ ∙ less_split from to a b ratio m)

-- ---- the swap

pub record Swap (a b len : ℕ) (m r : List Float) : Type 0 where
  pub long : length r ≡ length m
  pub left : (i : ℕ) → i < len → «at» r (a + i) ≡ «at» m (b + i)
  pub right : (i : ℕ) → i < len → «at» r (b + i) ≡ «at» m (a + i)
  pub same : (x : ℕ) → Outside a len x → Outside b len x → «at» r x ≡ «at» m x

swap_turns : (a b len : ℕ) (m : List Float) → Apart a b len → a + len ≤ length m → b + len ≤ length m → Swap a b len m (turns len (swap_one a b) m)
swap_turns a b zero m d f g =
    record { long = refl; left = λ i h. absurd (not-suc-le-zero h); right = λ i h. absurd (not-suc-le-zero h); same = λ x h k. refl }
swap_turns a b (suc n) m d f g =
    let t = turns n (swap_one a b) m in
    let x = «at» t (a + n) in
    let y = «at» t (b + n) in
    let t₁ = set t (a + n) y in
    let ab : a + n ≡ b + n → ⊥ = λ q. ⊎_elim (λ h. omega arith) (λ h. omega arith) d in
    let e : Swap a b n m t = swap_turns a b n m (⊎_elim (λ h. inl (omega arith)) (λ h. inr (omega arith)) d) (omega arith) (omega arith) in
    let l₁ : length t₁ ≡ length t = length-set t (a + n) y in
    record {
      long = length-set t₁ (b + n) x ∙ l₁ ∙ e.long;
      left =
          one_more_lem _ n
          (λ i h. get_or-set_other t₁ (b + n) (a + i) x nan (λ q. ⊎_elim (λ l. omega arith) (λ l. omega arith) d)
          ∙ get_or-set_other t (a + n) (a + i) y nan (λ q. omega arith)
          ∙ e.left i h)
          (get_or-set_other t₁ (b + n) (a + n) x nan ab
          ∙ get_or-set_same t (a + n) y nan (omega (arith, e.long))
          ∙ e.same (b + n) (⊎_elim (λ l. inr (omega arith)) (λ l. inl (omega arith)) d) (inr (omega arith)));
      right =
          one_more_lem _ n
          (λ i h. get_or-set_other t₁ (b + n) (b + i) x nan (λ q. omega arith)
          ∙ get_or-set_other t (a + n) (b + i) y nan (λ q. ⊎_elim (λ l. omega arith) (λ l. omega arith) d)
          ∙ e.right i h)
          (get_or-set_same t₁ (b + n) x nan (omega (arith, e.long))
          ∙ e.same (a + n) (inr (omega arith)) (⊎_elim (λ l. inl (omega arith)) (λ l. inr (omega arith)) d));
      same = λ z h k. get_or-set_other t₁ (b + n) z x nan (λ q. ⊎_elim (λ l. omega arith) (λ l. omega arith) k)
          ∙ get_or-set_other t (a + n) z y nan (λ q. ⊎_elim (λ l. omega arith) (λ l. omega arith) h)
          ∙ e.same z (⊎_elim (λ l. inl l) (λ l. inr (omega arith)) h) (⊎_elim (λ l. inl l) (λ l. inr (omega arith)) k);
    }

pub swap_apart : (a b len : ℕ) (m : List Float) → Apart a b len → a + len ≤ length m → b + len ≤ length m → Swap a b len m (swapped a b len m)
unfolding swapped
swap_apart a b len m p f g = swap_turns a b len m p f g

swap_same_turns : (a len : ℕ) (m : List Float) → turns len (swap_one a a) m ≡ m
swap_same_turns a zero m = refl
swap_same_turns a (suc n) m =
    let t = turns n (swap_one a a) m in
    set-set t (a + n) («at» t (a + n)) («at» t (a + n)) ∙ set-get_or t (a + n) nan ∙ swap_same_turns a n m

-- a row that changes places with itself stays
pub swap_same : (a len : ℕ) (m : List Float) → swapped a a len m ≡ m
unfolding swapped
swap_same a len m = swap_same_turns a len m

-- ---- one row cleared by another, and a column

-- entry c of a row that is cleared: e is the row's entry in the pivot's column, p the pivot
abbrev pub cleared_entry : Float → Float → Float → Float → Float
cleared_entry e p x y = cond (eq e nought) x (sub binary64 x (mul binary64 y (div binary64 e p)))

pub record Reduced (from to len : ℕ) (m r : List Float) : Type 0 where
  pub long : length r ≡ length m
  pub changed : (i : ℕ) → i < len → «at» r (to + i) ≡ cleared_entry («at» m to) («at» m from) («at» m (to + i)) («at» m (from + i))
  pub same : (x : ℕ) → Outside to len x → «at» r x ≡ «at» m x

skipped_or_not : (from to len : ℕ) (m : List Float) → Apart from to len → to + len ≤ length m → (b : Bool) → eq («at» m to) nought ≡ b → Reduced from to len m (cond b m (less_scaled from to len (div binary64 («at» m to) («at» m from)) m))
skipped_or_not from to len m d f true e = record { long = refl; changed = λ i h. rw e; same = λ x h. refl }
skipped_or_not from to len m d f false e =
    let l = less_scaled_lem from to len (div binary64 («at» m to) («at» m from)) m d f in
    record { long = l.long; changed = λ i h. rw e (l.changed i h); same = l.same }

pub reduced_apart : (from to len : ℕ) (m : List Float) → Apart from to len → to + len ≤ length m → Reduced from to len m (reduced from to len m)
unfolding reduced
reduced_apart from to len m d f = skipped_or_not from to len m d f _ refl

-- an entry that d rows from row k + 1 on, cleared from column k on, leave: row q is not among them, or column c is before
abbrev pub Kept : ℕ → ℕ → ℕ → ℕ → Type 0
Kept k d q c = (q ≤ k) ⊎ ((k + 1 + d ≤ q) ⊎ (c < k))

-- r is m with the d rows below row k cleared in column k
pub record Clear (n k d : ℕ) (m r : List Float) : Type 0 where
  pub long : length r ≡ length m
  pub changed : (i c : ℕ) → i < d → k ≤ c → c ≤ n → «at» r (row_start n (k + 1 + i) + c) ≡ cleared_entry («at» m (row_start n (k + 1 + i) + k)) («at» m (row_start n k + k)) («at» m (row_start n (k + 1 + i) + c)) («at» m (row_start n k + c))
  pub same : (q c : ℕ) → c ≤ n → Kept k d q c → «at» r (row_start n q + c) ≡ «at» m (row_start n q + c)

module _ (n : ℕ) where
  -- entry c of row q against the entries of another row r from column k on
  before : (k q r c : ℕ) → c ≤ n → q < r → Outside (r * (n + 1) + k) (n + 1 - k) (q * (n + 1) + c)
  before k q r c u h = inl (omega (arith, row_end q r (n + 1) h))

  after : (k q r c : ℕ) → k ≤ n → r < q → Outside (r * (n + 1) + k) (n + 1 - k) (q * (n + 1) + c)
  after k q r c u h = inr (omega (arith, row_end r q (n + 1) h))

  left_of_lem : (k q r c : ℕ) → k ≤ n → c < k → Outside (r * (n + 1) + k) (n + 1 - k) (q * (n + 1) + c)
  left_of_lem k q r c u h =
      ⊎_elim (λ e. inl (omega (arith, ap (λ (z : ℕ). z * (n + 1)) e))) (⊎_elim (λ l. before k q r c (omega arith) l) (λ l. after k q r c u l)) (three q r)

  pub rows_apart : (k p q : ℕ) → k ≤ n → p < q → Apart (p * (n + 1) + k) (q * (n + 1) + k) (n + 1 - k)
  rows_apart k p q h l = inl (omega (arith, row_end p q (n + 1) l))

pub clear_turns : (n k d : ℕ) (m : List Float) → k ≤ n → k + 1 + d ≤ n → n * (n + 1) ≤ length m → Clear n k d m (turns d (clear_one (row_start n) n k) m)
clear_turns n k zero m h f l = record { long = refl; changed = λ i c u. absurd (not-suc-le-zero u); same = λ q c u v. refl }
clear_turns n k (suc d) m h f l =
    let t = turns d (clear_one (row_start n) n k) m in
    let r = k + 1 + d in
    let e : Clear n k d m t = clear_turns n k d m h (omega arith) l in
    let s : Reduced (k * (n + 1) + k) (r * (n + 1) + k) (n + 1 - k) t (reduced (k * (n + 1) + k) (r * (n + 1) + k) (n + 1 - k) t)
    = reduced_apart _ _ _ t (rows_apart n k k r h (omega arith)) (omega (arith, e.long, row_end r n (n + 1) (omega arith))) in
    let old : (c : ℕ) → c ≤ n → «at» t (r * (n + 1) + c) ≡ «at» m (r * (n + 1) + c) = λ c u. e.same r c u (inr (inl (omega arith))) in
    let piv : (c : ℕ) → c ≤ n → «at» t (k * (n + 1) + c) ≡ «at» m (k * (n + 1) + c) = λ c u. e.same k c u (inl (omega arith)) in
    record {
      long = s.long ∙ e.long;
      changed = λ i c u v w.
          let a : r * (n + 1) + k + (c - k) ≡ r * (n + 1) + c = omega arith in
          let b : k * (n + 1) + k + (c - k) ≡ k * (n + 1) + c = omega arith in
          one_more_lem _ d (λ j g. s.same _ (before n k (k + 1 + j) r c w (omega arith)) ∙ e.changed j c g v w)
          (rw (a, b, old k h, piv k h, old c w, piv c w) at (s.changed (c - k) (omega arith)))
          i u;
      same = λ q c u v. s.same _ (⊎_elim (λ g. before n k q r c u (omega arith)) (⊎_elim (λ g. after n k q r c h (omega arith)) (λ g. left_of_lem n k q r c h g)) v)
          ∙ e.same q c u (⊎_elim (λ g. inl g) (⊎_elim (λ g. inr (inl (omega arith))) (λ g. inr (inr g))) v);
    }
