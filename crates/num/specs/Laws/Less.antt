-- The order `<` of floats, infinities and NaN included: it holds of no number and itself, from step to step, and of a finite number with one of any two that it parts. Clients cite no, le_or_lt, lt_self, lt_trans and lt_either. Assumes nothing.
use Rattle.std.specs.Prelude.{ℕ, ◌+◌, ◌*◌, ◌<◌, ◌≤◌, ◌≡◌, refl, ◌⊎◌, Bool, true, false, cond, T, leb, Float}
use Rattle.std.proofs.Common.{ap, ◌∙◌, inl, inr, ⊎_elim, mul-lt-mul_of_pos_right, lt_of_mul-lt-mul_right, mul-le-mul_right, mul-pos, zero-mul, arith, ltb-true, lt-ltb, le-ltb, leb-true, leb-false}
use Rattle.std.specs.Float.{nan, inf, fin}
use Rattle.std.specs.Float.Ieee.{lt, below, up, down}
use Rattle.std.specs.Float.Ieee.Fits.{down_pos}
use Rattle.std.specs.Float.Ieee.Scale.{finite}

-- no test is both
pub no : {A : Type 0} → false ≡ true → A
no e = absurd (let z : ◌≡◌ {A = ℕ} 0 1 = ap (λ (b : Bool). cond b 1 0) e in omega arith)

-- at most, or above
pub le_or_lt : (a b : ℕ) → (a ≤ b) ⊎ (b < a)
le_or_lt a b = go (leb a b) refl
  where
    go : (t : Bool) → leb a b ≡ t → (a ≤ b) ⊎ (b < a)
    go true e = inl (leb-true a b e)
    go false e = inr (leb-false a b e)

pub lt_self : (x : Float) → lt x x ≡ false
unfolding lt
lt_self nan = refl
lt_self (inf true) = refl
lt_self (inf false) = refl
lt_self (fin true m e) = le-ltb (m * up e * down e) (m * up e * down e) (omega arith)
lt_self (fin false m e) = le-ltb (m * up e * down e) (m * up e * down e) (omega arith)

-- fractions a / d, b / e, c / f
module _ (a d b e c f : ℕ) (hd : 0 < d) (he : 0 < e) (hf : 0 < f) where
  chain : a * e < b * d → b * f < c * e → a * f < c * d
  chain p q = lt_of_mul-lt-mul_right e (join (mul-lt-mul_of_pos_right p hf) (mul-lt-mul_of_pos_right q hd))
    where
      join : a * e * f < b * d * f → b * f * d < c * e * d → a * f * e < c * d * e
      join u v = omega arith

  some : (x y : ℕ) → y < x * e → 0 < x
  some x y h = lt_of_mul-lt-mul_right e (less (zero-mul e) h)
    where
      less : 0 * e ≡ 0 → y < x * e → 0 * e < x * e
      less z u = omega arith

  below_trans : (s t u : Bool) → below s (a * e) t (b * d) ≡ true → below t (b * f) u (c * e) ≡ true → below s (a * f) u (c * d) ≡ true
  below_trans false false false p q = lt-ltb _ _ (chain (ltb-true _ _ p) (ltb-true _ _ q))
  below_trans false false true p q = no q
  below_trans false true u p q = no p
  below_trans true false false p q = lt-ltb _ _ (more (mul-pos (some c (b * f) (ltb-true _ _ q)) hd))
    where
      more : 0 < c * d → 0 < a * f + c * d
      more h = omega arith
  below_trans true false true p q = no q
  below_trans true true false p q = lt-ltb _ _ (more (mul-pos (some a (b * d) (ltb-true _ _ p)) hf))
    where
      more : 0 < a * f → 0 < a * f + c * d
      more h = omega arith
  below_trans true true true p q = lt-ltb _ _ (back (ltb-true _ _ p) (ltb-true _ _ q))
    where
      back : b * d < a * e → c * e < b * f → c * d < a * f
      back u v = lt_of_mul-lt-mul_right e (join (mul-lt-mul_of_pos_right u hf) (mul-lt-mul_of_pos_right v hd))
        where
          join : b * d * f < a * e * f → c * e * d < b * f * d → c * d * e < a * f * e
          join x y = omega arith

-- a fraction c / f beside two of which one is below the other
module _ (a d b e c f : ℕ) (hd : 0 < d) (he : 0 < e) (hf : 0 < f) where
  zero_of : (x w : ℕ) → x ≤ 0 → x * w ≡ 0
  zero_of x w h = let z : x ≡ 0 = omega arith in ap (λ (k : ℕ). k * w) z ∙ zero-mul w

  -- a / d below b / e: a / d is below c / f, or c / f below b / e
  beside : a * e < b * d → (a * f < c * d) ⊎ (c * e < b * f)
  beside p =
      ⊎_elim
      (λ (g : c * d ≤ a * f). inr (lt_of_mul-lt-mul_right d (join (mul-le-mul_right e g) (mul-lt-mul_of_pos_right p hf))))
      (λ (g : a * f < c * d). inl g)
      (le_or_lt (c * d) (a * f))
    where
      join : c * d * e ≤ a * f * e → a * e * f < b * d * f → c * e * d < b * f * d
      join u v = omega arith

  -- one of two is above zero
  either_some : 0 < a * e + b * d → (0 < a) ⊎ (0 < b)
  either_some p =
      ⊎_elim
      (λ (g : a ≤ 0). inr (lt_of_mul-lt-mul_right d (less (zero_of a e g) (zero-mul d) p)))
      (λ (g : 0 < a). inl g)
      (le_or_lt a 0)
    where
      less : a * e ≡ 0 → 0 * d ≡ 0 → 0 < a * e + b * d → 0 * d < b * d
      less u v w = omega arith

  below_either : (s t u : Bool) → below s (a * e) t (b * d) ≡ true → (below s (a * f) u (c * d) ≡ true) ⊎ (below u (c * e) t (b * f) ≡ true)
  below_either false false false p = ⊎_elim (λ g. inl (lt-ltb _ _ g)) (λ g. inr (lt-ltb _ _ g)) (beside (ltb-true _ _ p))
  below_either false false true p = inr (lt-ltb _ _ (more (mul-pos (some a e b d c f he hd hf b (a * e) (ltb-true _ _ p)) hf)))
    where
      more : 0 < b * f → 0 < c * e + b * f
      more h = omega arith
  below_either false true u p = no p
  below_either true false false p =
      ⊎_elim
      (λ (g : c ≤ 0). ⊎_elim (λ (h : 0 < a). inl (lt-ltb _ _ (first (mul-pos h hf)))) (λ (h : 0 < b). inr (lt-ltb _ _ (third (zero_of c e g) (mul-pos h hf)))) (either_some (ltb-true _ _ p)))
      (λ (g : 0 < c). inl (lt-ltb _ _ (second (mul-pos g hd))))
      (le_or_lt c 0)
    where
      first : 0 < a * f → 0 < a * f + c * d
      first h = omega arith

      second : 0 < c * d → 0 < a * f + c * d
      second h = omega arith

      third : c * e ≡ 0 → 0 < b * f → c * e < b * f
      third h g = omega arith
  below_either true false true p =
      ⊎_elim
      (λ (g : c ≤ 0). ⊎_elim (λ (h : 0 < a). inl (lt-ltb _ _ (third (zero_of c d g) (mul-pos h hf)))) (λ (h : 0 < b). inr (lt-ltb _ _ (second (mul-pos h hf)))) (either_some (ltb-true _ _ p)))
      (λ (g : 0 < c). inr (lt-ltb _ _ (first (mul-pos g he))))
      (le_or_lt c 0)
    where
      first : 0 < c * e → 0 < c * e + b * f
      first h = omega arith

      second : 0 < b * f → 0 < c * e + b * f
      second h = omega arith

      third : c * d ≡ 0 → 0 < a * f → c * d < a * f
      third h g = omega arith
  below_either true true false p = inl (lt-ltb _ _ (more (mul-pos (some a d b e c f hd he hf a (b * d) (ltb-true _ _ p)) hf)))
    where
      more : 0 < a * f → 0 < a * f + c * d
      more h = omega arith
  below_either true true true p =
      ⊎_elim
      (λ (g : a * f ≤ c * d). inr (lt-ltb _ _ (lt_of_mul-lt-mul_right d (join (mul-le-mul_right e g) (mul-lt-mul_of_pos_right (ltb-true _ _ p) hf)))))
      (λ (g : c * d < a * f). inl (lt-ltb _ _ g))
      (le_or_lt (a * f) (c * d))
    where
      join : a * f * e ≤ c * d * e → b * d * f < a * e * f → b * f * d < c * e * d
      join u v = omega arith

pub lt_trans : (x y z : Float) → lt x y ≡ true → lt y z ≡ true → lt x z ≡ true
unfolding lt
lt_trans nan y z p q = no p
lt_trans (inf s) nan z p q = no p
lt_trans (inf false) (inf t) z p q = no p
lt_trans (inf true) (inf false) nan p q = no q
lt_trans (inf true) (inf false) (inf u) p q = no q
lt_trans (inf true) (inf false) (fin u k g) p q = no q
lt_trans (inf true) (inf true) z p q = no p
lt_trans (inf false) (fin t n d) z p q = no p
lt_trans (inf true) (fin t n d) nan p q = no q
lt_trans (inf true) (fin t n d) (inf u) p q = q
lt_trans (inf true) (fin t n d) (fin u k g) p q = refl
lt_trans (fin s m e) nan z p q = no p
lt_trans (fin s m e) (inf true) z p q = no p
lt_trans (fin s m e) (inf false) nan p q = no q
lt_trans (fin s m e) (inf false) (inf u) p q = no q
lt_trans (fin s m e) (inf false) (fin u k g) p q = no q
lt_trans (fin s m e) (fin t n d) nan p q = no q
lt_trans (fin s m e) (fin t n d) (inf u) p q = q
lt_trans (fin s m e) (fin t n d) (fin u k g) p q = below_trans (m * up e) (down e) (n * up d) (down d) (k * up g) (down g) (down_pos e) (down_pos d) (down_pos g) s t u p q

-- a finite number beside two of which one is below the other: it is above the one, or below the other
pub lt_either : (x y v : Float) → T (finite v) → lt x y ≡ true → (lt x v ≡ true) ⊎ (lt v y ≡ true)
unfolding lt
lt_either x y nan f p = absurd f
lt_either x y (inf u) f p = absurd f
lt_either nan y (fin u k g) f p = no p
lt_either (inf true) y (fin u k g) f p = inl refl
lt_either (inf false) nan (fin u k g) f p = no p
lt_either (inf false) (inf t) (fin u k g) f p = no p
lt_either (inf false) (fin t n d) (fin u k g) f p = no p
lt_either (fin s m e) nan (fin u k g) f p = no p
lt_either (fin s m e) (inf t) (fin u k g) f p = inr p
lt_either (fin s m e) (fin t n d) (fin u k g) f p = below_either (m * up e) (down e) (n * up d) (down d) (k * up g) (down g) (down_pos e) (down_pos d) (down_pos g) s t u p
