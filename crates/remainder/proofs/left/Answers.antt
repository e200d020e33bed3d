-- A common power of two goes through the division.
use Rattle.std.proofs.Common.{◌≡◌, ℕ, ◌-◌, ◌*◌, ◌%◌, ◌^◌, ◌<◌, ◌≤◌, sym, ap, ◌∙◌, arith, pow_pos, mul-pos, mul_assoc, sub-add_cancel, mod-lt, le_of_lt, lt_of_lt_of_le, lt_of_le_of_lt}
use Rattle.std.proofs.Math.Nat.{min-eq_left, min-eq_right, mod-le}
use Rattle.std.proofs.lemmas.Nat.{mul-mod_first}
use lib.Pow.{pow-add}
use Rattle.remainder.proofs.Remains.{scaled}
use Rattle.remainder.proofs.left.Goals as goal

parted : (p q : ℕ) → q ≤ p → 2 ^ (p - q) * 2 ^ q ≡ 2 ^ p
parted p q h = sym (pow-add 2 (p - q) q) ∙ ap (λ (z : ℕ). 2 ^ z) (sub-add_cancel h)

above : (m p n q : ℕ) → 0 < n → q ≤ p → (m % n * 2 ^ (p - q)) % n * 2 ^ q ≡ (m * 2 ^ p) % (n * 2 ^ q)
above m p n q s h =
    ap (λ (z : ℕ). z * 2 ^ q) (mul-mod_first m (2 ^ (p - q)) n)
    ∙ scaled (m * 2 ^ (p - q)) n (2 ^ q) s (pow_pos q)
    ∙ ap (λ (z : ℕ). z % (n * 2 ^ q)) (mul_assoc m (2 ^ (p - q)) (2 ^ q) ∙ ap (λ (z : ℕ). m * z) (parted p q h))

below : (m p n q : ℕ) → 0 < n → p ≤ q → m % (n * 2 ^ (q - p)) * 2 ^ p ≡ (m * 2 ^ p) % (n * 2 ^ q)
below m p n q s h =
    scaled m (n * 2 ^ (q - p)) (2 ^ p) (mul-pos s (pow_pos (q - p))) (pow_pos p)
    ∙ ap (λ (z : ℕ). (m * 2 ^ p) % z) (mul_assoc n (2 ^ (q - p)) (2 ^ p) ∙ ap (λ (z : ℕ). n * z) (parted q p h))

pub returns-then-b-a : goal.returns-then-b-a
returns-then-b-a c =
    let a = c.args.a in
    let b = c.args.b in
    let h : b.place ≤ a.place = omega arith in
    let e = c.doubled.ensures in
    record {
      value = rw (min-eq_right h, e) (above a.digits a.place b.digits b.place c.requires.some h);
      few = rw e (lt_of_lt_of_le (mod-lt _ c.requires.some) (le_of_lt c.requires.others));
    }

pub returns : goal.returns
returns c =
    let a = c.args.a in
    let b = c.args.b in
    let h : a.place ≤ b.place = omega arith in
    let e = c.short.ensures in
    record {
      value = rw (min-eq_left h, e) (below a.digits a.place b.digits b.place c.requires.some h);
      few = rw e (lt_of_le_of_lt (mod-le _ _) c.requires.digits);
    }
