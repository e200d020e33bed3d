-- The nearest whole number to a quarter of a fraction, from the fraction's whole part and a mark for what is left. Assumes nothing.
use Rattle.std.proofs.Common.{◌≡◌, ℕ, suc, ◌+◌, ◌*◌, ◌/◌, ◌%◌, ◌<◌, ◌≤◌, Bool, true, false, not, T, eqb, sym, refl, ap, ◌∙◌, subst, mul-le-mul_right, mod-lt, mul_comm, le_antisymm, lt_of_not-le, div-add-mod', arith, lit<, eqb→eq, leb→le, eqb-true}
use Prim.Native.Nat.{compare, Ordering}
use native.Mathlib.Nat.{div-div-eq-div-mul}
use borrow.Author.Tests.{eqb-false}
use lib.Dec.{is_le, compare_is_eq, nleb→lt, eqb_refl}
use lib.Arith.{lt_of_le-ne, mod-mul}
use lib.Ieee.{nearest}
use lib.Ieee.Nearest.{closest}
use Rattle.mean.specs.Leading.{marked, nearest_fourth}

-- what `compare` says
abbrev pub Compared : Ordering → ℕ → ℕ → Type 0
Compared Ordering.lt a b = a < b
Compared Ordering.eq a b = a ≡ b
Compared Ordering.gt a b = b < a

pub compared : (a b : ℕ) → Compared (compare a b) a b
compared a b = go (compare a b) (leb→le a b) (nleb→lt a b) (eqb→eq a b) (λ (e : a ≡ b). subst (λ (x : ℕ). T (eqb a x)) e (eqb_refl a))
  where
    go : (o : Ordering) → (T (is_le o) → a ≤ b) → (T (not (is_le o)) → b < a) → (T (compare_is_eq o) → a ≡ b) → (a ≡ b → T (compare_is_eq o)) → Compared o a b
    go Ordering.lt h k e n = lt_of_le-ne (h tt) n
    go Ordering.eq h k e n = e tt
    go Ordering.gt h k e n = k tt

-- w quarters and d more of C, with r left: d and r decide
module _ (w d r C : ℕ) (R : r < C) (D : d < 4) (t : Bool) (e : eqb r 0 ≡ t) where
  lower : (n : ℕ) → ((n * C + r) * 2 < 4 * C) → n < 2
  lower n h = lt_of_not-le (λ (g : 2 ≤ n). no (n * C) h (mul-le-mul_right C g))
    where
      no : (m : ℕ) → (m + r) * 2 < 4 * C → 2 * C ≤ m → ⊥
      no m f k = omega arith

  few : (u : Bool) → d < 2 → w ≡ nearest_fourth (marked u (w * 4 + d))
  few true h = omega arith
  few false h = omega arith

  middle : (n : ℕ) → (n * C + r) * 2 ≡ 4 * C → n ≡ 2
  middle n h = le_antisymm (under (lt_of_not-le (λ (g : 3 ≤ n). over (n * C) h (mul-le-mul_right C g)))) (lt_of_not-le (λ (g : n ≤ 1). short (n * C) h (mul-le-mul_right C g)))
    where
      under : n < 3 → n ≤ 2
      under k = omega arith

      over : (m : ℕ) → (m + r) * 2 ≡ 4 * C → 3 * C ≤ m → ⊥
      over m f k = omega arith

      short : (m : ℕ) → (m + r) * 2 ≡ 4 * C → m ≤ 1 * C → ⊥
      short m f k = omega arith

  none : d ≡ 2 → (d * C + r) * 2 ≡ 4 * C → r ≡ 0
  none f h = go (d * C) (ap (λ (n : ℕ). n * C) f) h
    where
      go : (m : ℕ) → m ≡ 2 * C → (m + r) * 2 ≡ 4 * C → r ≡ 0
      go m g k = omega arith

  even : (u : Bool) → eqb r 0 ≡ u → r ≡ 0 → d ≡ 2 → w + w % 2 ≡ nearest_fourth (marked u (w * 4 + d))
  even true f g h = go (w % 2) ((w * 4 + d) / 4 % 2) (mod-lt w (lit< tt)) (ap (λ (n : ℕ). n % 2) whole)
    where
      whole : (w * 4 + d) / 4 ≡ w
      whole = omega arith

      go : (b x : ℕ) → b < 2 → x ≡ b → w + b ≡ (w * 4 + d + 1 + x) / 4
      go b x k u = omega arith
  even false f g h = absurd (eqb-false r 0 f g)

  above : (n k : ℕ) → 4 * C < (n * C + r) * 2 → r * 2 + 2 * (k * C) ≤ 4 * C → k < n
  above n k h f = lt_of_not-le (λ (g : n ≤ k). no (n * C) (k * C) h f (mul-le-mul_right C g))
    where
      no : (m p : ℕ) → 4 * C < (m + r) * 2 → r * 2 + 2 * p ≤ 4 * C → m ≤ p → ⊥
      no m p a b c = omega arith

  more : (u : Bool) → eqb r 0 ≡ u → 4 * C < (d * C + r) * 2 → suc w ≡ nearest_fourth (marked u (w * 4 + d))
  more true f h = go (above d 2 h (room (eqb-true r 0 f)))
    where
      room : r ≡ 0 → r * 2 + 2 * (2 * C) ≤ 4 * C
      room k = omega arith

      go : 2 < d → suc w ≡ nearest_fourth (w * 4 + d)
      go k = omega arith
  more false f h = go (above d 1 h (room R))
    where
      room : r < C → r * 2 + 2 * (1 * C) ≤ 4 * C
      room k = omega arith

      go : 1 < d → suc w ≡ nearest_fourth ((w * 4 + d) / 2 * 2 + 1)
      go k = omega arith

  pub by_order_lem : (o : Ordering) → Compared o ((d * C + r) * 2) (4 * C) → nearest w o ≡ nearest_fourth (marked t (w * 4 + d))
  by_order_lem Ordering.lt h = few t (lower d h)
  by_order_lem Ordering.eq h = let m = middle d h in even t e (none m h) m
  by_order_lem Ordering.gt h = more t e h

-- a fraction S / C over 4
pub sticky : (S C : ℕ) → 0 < C → closest S (4 * C) ≡ nearest_fourth (marked (eqb (S % C) 0) (S / C))
sticky S C h =
    let o = compare (S % (4 * C) * 2) (4 * C) in
    let m : S % (4 * C) ≡ S / C % 4 * C + S % C = mod-mul S {m = 4} {c = C} (lit< tt) h in
    ap (λ (n : ℕ). nearest n o) (ap (λ (n : ℕ). S / n) (mul_comm 4 C) ∙ sym (div-div-eq-div-mul S C 4))
    ∙ by_order_lem (S / C / 4) (S / C % 4) (S % C) C (mod-lt S h) (mod-lt (S / C) (lit< tt)) (eqb (S % C) 0) refl o (subst (λ (n : ℕ). Compared o (n * 2) (4 * C)) m (compared (S % (4 * C) * 2) (4 * C)))
    ∙ ap (λ (n : ℕ). nearest_fourth (marked (eqb (S % C) 0) n)) (div-add-mod' (S / C) 4)
