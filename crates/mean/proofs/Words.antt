-- One limb less another, and one limb over a small number by its halves. Assumes nothing.
use Rattle.std.proofs.Common.{◌≡◌, ℕ, suc, ◌+◌, ◌*◌, ◌/◌, ◌%◌, ◌^◌, ◌<◌, ◌≤◌, Bool, true, false, cond, ltb, refl, mul-le-mul_right, div-lt_iff_lt-mul, div-add-mod', arith, ltb-false, ltb-true}

-- a wrapping difference, with what it borrows: nothing is lost
wrapped : (a b r x : ℕ) → b < 2 ^ 64 → r < 2 ^ 64 → (r + b) % 2 ^ 64 ≡ a → x ≡ cond (ltb a b) 1 0 → (r + b ≡ a + x * 2 ^ 64) × (x ≤ 1)
wrapped a b r x B R e f = go (ltb a b) refl f
  where
    go : (t : Bool) → ltb a b ≡ t → x ≡ cond t 1 0 → (r + b ≡ a + x * 2 ^ 64) × (x ≤ 1)
    go true g k = let l : a < b = ltb-true a b g in (omega arith, omega arith)
    go false g k = let l : b ≤ a = ltb-false a b g in (omega arith, omega arith)

-- two of them, one after the other
pub lessened : (a b c first word x y : ℕ) → b < 2 ^ 64 → c ≤ 1 → first < 2 ^ 64 → word < 2 ^ 64 → (first + b) % 2 ^ 64 ≡ a → (word + c) % 2 ^ 64 ≡ first
    → x ≡ cond (ltb a b) 1 0 → y ≡ cond (ltb first c) 1 0 → (word + b + c ≡ a + (x + y) * 2 ^ 64) × (x + y ≤ 1)
lessened a b c first word x y B C F W e f g h =
    let p = wrapped a b first x B F e g in
    let q = wrapped first c word y (small c C) W f h in
    go p.0 p.1 q.0 q.1
  where
    small : (n : ℕ) → n ≤ 1 → n < 2 ^ 64
    small n u = omega arith

    go : first + b ≡ a + x * 2 ^ 64 → x ≤ 1 → word + c ≡ first + y * 2 ^ 64 → y ≤ 1 → (word + b + c ≡ a + (x + y) * 2 ^ 64) × (x + y ≤ 1)
    go s t u v = (omega arith, omega arith)

-- ---- a limb x under left, over d

abbrev pub half : ℕ
half = 4294967296

-- a quotient of what is left and a half limb is a half limb
pub quotient_few : (r x d : ℕ) → r < d → x < half → (r * half + x) / d < half
quotient_few r x d p q = (div-lt_iff_lt-mul (some r d p)).1 (go r x d p q (mul-le-mul_right half p))
  where
    some : (a b : ℕ) → a < b → 0 < b
    some a b u = omega arith

    go : (a y b : ℕ) → a < b → y < half → suc a * half ≤ b * half → a * half + y < half * b
    go a y b u v w = omega arith

pub dividend_fits : (r x d : ℕ) → r < d → d < 2 ^ 32 → x < half → r * half + x < 2 ^ 64
dividend_fits r x d p h q = omega arith

-- the two steps together
pub joined : (left x d : ℕ) → (let high = left * half + x / half in let low = high % d * half + x % half in (high / d * half + low / d) * d + low % d) ≡ left * 2 ^ 64 + x
joined left x d = go (left * half + x / half) ((left * half + x / half) % d) ((left * half + x / half) / d) ((left * half + x / half) % d * half + x % half) _ _ refl (div-add-mod' (left * half + x / half) d) refl (div-add-mod' ((left * half + x / half) % d * half + x % half) d)
  where
    go : (h m q w n p : ℕ) → h ≡ left * half + x / half → q * d + m ≡ h → w ≡ m * half + x % half → p * d + n ≡ w → (q * half + p) * d + n ≡ left * 2 ^ 64 + x
    go h m q w n p e f g k = omega arith
