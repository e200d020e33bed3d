-- What holds of the decimal unit at every exponent's field: a quarter of the step is ten to a hundred and one units, and no number on the way to them has more than 1,090 bits. Clients cite quarter_facts.
use Rattle.std.specs.Prelude.{◌≡◌, refl, Bool, true, false, ◌&&◌, ℕ, zero, suc, ◌-◌, ◌*◌, ◌^◌, ◌≤◌, ◌<◌, T, leb, ltb}
use Rattle.std.proofs.Common.{subst, arith, ltb-true, ltb-false, leb→le, ltb→lt}
use Rattle.std.specs.Float.Ieee.Fits.{and_l, and_r}
use Rattle.decimal.specs.Scale.{place_of, top, bottom}
use Rattle.decimal.specs.Laws.Units.{Quarter}

-- each of the three, as a test that computes
test : ℕ → Bool
unfolding top bottom
test b = leb (10 * bottom b) (top b) && (ltb (top b) (101 * bottom b) && leb (2 ^ (b - 1077) * 10 ^ (326 - place_of b)) (2 ^ 1090))

-- the test passes at each of the n numbers from 1 on
every : (ℕ → Bool) → ℕ → Bool
every p zero = true
every p (suc n) = p (suc n) && every p n

every_at : (p : ℕ → Bool) (n i : ℕ) → T (every p n) → 0 < i → i ≤ n → T (p i)
unfolding every
every_at p zero i t h k = absurd (none i h k)
  where
    none : (a : ℕ) → 0 < a → a ≤ 0 → ⊥
    none a q r = omega arith
every_at p (suc n) i t h k = go (ltb i (suc n)) refl (λ l. every_at p n i (and_r (p (suc n)) (every p n) t) h l)
  where
    below : (a b : ℕ) → a < suc b → a ≤ b
    below a b q = omega arith

    last : (a b : ℕ) → a ≤ suc b → suc b ≤ a → suc b ≡ a
    last a b q r = omega arith

    go : (c : Bool) → ltb i (suc n) ≡ c → (i ≤ n → T (p i)) → T (p i)
    go true e f = f (below i n (ltb-true i (suc n) e))
    go false e f = subst (λ (m : ℕ). T (p m)) (last i n k (ltb-false i (suc n) e)) (and_l (p (suc n)) (every p n) t)

all_fields : T (every test 2046)
unfolding every test top bottom
all_fields = tt

pub quarter_facts : (b : ℕ) → 0 < b → b < 2047 → Quarter b
unfolding test
quarter_facts b h k =
    let t = every_at test 2046 b all_fields h (below b k) in
    let u = and_r (leb (10 * bottom b) (top b)) (ltb (top b) (101 * bottom b) && leb (2 ^ (b - 1077) * 10 ^ (326 - place_of b)) (2 ^ 1090)) t in
    record {
      least = leb→le _ _ (and_l (leb (10 * bottom b) (top b)) (ltb (top b) (101 * bottom b) && leb (2 ^ (b - 1077) * 10 ^ (326 - place_of b)) (2 ^ 1090)) t);
      most = ltb→lt _ _ (and_l (ltb (top b) (101 * bottom b)) (leb (2 ^ (b - 1077) * 10 ^ (326 - place_of b)) (2 ^ 1090)) u);
      short = leb→le _ _ (and_r (ltb (top b) (101 * bottom b)) (leb (2 ^ (b - 1077) * 10 ^ (326 - place_of b)) (2 ^ 1090)) u);
    }
  where
    below : (a : ℕ) → a < 2047 → a ≤ 2046
    below a q = omega arith
