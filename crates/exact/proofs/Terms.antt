-- A product goes to the side of its sign, and the other side stays; what the check found, and the rows that are left. Assumes nothing.
use Rattle.std.proofs.Common.{◌≡◌, ℕ, ◌+◌, ◌*◌, ◌^◌, ◌<◌, Bool, true, false, cond, not, ◌&&◌, T, List, length, get_or, Ok, Err, refl, ap, ◌∙◌, arith, ltb-true, eqb-true}
use Rattle.std.specs.Bool.{⊤}
use mathlib.Core.Bool.{beq, and-eq-true_iff as both}
use denote.Floats.{passes}
use lib.Ieee.{Float, unlike}
use lib.Ieee.Scale.{finite}
use Rattle.exact.specs.Limbs.{value, limbs_of}
use Rattle.exact.specs.Laws.Limbs.{limbs_are}
use Rattle.num.specs.Floats.{sign}
use Rattle.exact.specs.Exact.{units, times}
use Rattle.exact.specs.Rows.{Room, Sum, Adds}
use Rattle.exact.specs.Kept.{is_row, has_room, rows_of, check_of, kept_of}
use Rattle.exact.specs.declared.Unkept.TheVariants.{NotFinite, NoRoom, WrongLength}

unchanged : (l : List ℕ) → Sum l 0 l
unchanged l = record { limbs = refl; sum = omega arith }

module _ (x y : Float) (s t : Bool) (d p e q : ℕ) (l l' m : List ℕ) (f : s ≡ sign x) (g : t ≡ sign y) (h : d * 2 ^ p ≡ units x) (k : e * 2 ^ q ≡ units y) (a : Sum l (d * 2 ^ p * (e * 2 ^ q)) l') where
  product : Sum l (units x * units y) l'
  product = rw (h, k) at a

  -- signs alike: to the plus side
  pub alike : beq s t ≡ true → Adds l m (times x y) l' m
  alike b =
      let u : unlike (sign x) (sign y) ≡ false = rw (← f, ← g) (ap not b) in
      rw u (record { plus = product; minus = unchanged m })

  -- signs that differ: to the minus side
  pub different : beq s t ≡ false → Adds m l (times x y) m l'
  different b =
      let u : unlike (sign x) (sign y) ≡ true = rw (← f, ← g) (ap not b) in
      rw u (record { plus = unchanged m; minus = product })

-- ---- the check
pub record MayAdd (p m : List ℕ) (x y : Float) : Type 0 where
  pub plus : Room p
  pub minus : Room m
  pub first : T (finite x)
  pub second : T (finite y)

only_added : (a b c : Bool) (t : ⊤) → cond a (cond b (cond c (Ok tt) (Err NoRoom)) (Err NotFinite)) (Err WrongLength) ≡ Ok t → (a ≡ true) × (b ≡ true) × (c ≡ true)
only_added true true true t e = (refl, refl, refl)
only_added true true false t e = absurd (cc)
only_added true false c t e = absurd (cc)
only_added false b c t e = absurd (cc)

pub may_add : (p m : List ℕ) (x y : Float) → check_of p m x y ≡ Ok tt → MayAdd p m x y
unfolding check_of
may_add p m x y e =
    let a = only_added (is_row p && is_row m) (finite x && finite y) (has_room p && has_room m) tt e in
    let r = (both (is_row p) (is_row m)).0 a.0 in
    let f = (both (finite x) (finite y)).0 a.1 in
    let h = (both (has_room p) (has_room m)).0 a.2 in
    record {
      plus = record { limbs = eqb-true (length p) 66 r.0; room = ltb-true (value p) (2 ^ 4223) h.0 };
      minus = record { limbs = eqb-true (length m) 66 r.1; room = ltb-true (value m) (2 ^ 4223) h.1 };
      first = passes _ f.0;
      second = passes _ f.1;
    }

-- words that keep a sum are its limbs
limbs_of_lem : (l l' : List ℕ) (n : ℕ) → length l ≡ 66 → Sum l n l' → ((j : ℕ) → get_or l' j 0 < 2 ^ 64) → l' ≡ limbs_of 66 (value l + n)
limbs_of_lem l l' n e s w = limbs_are l' w ∙ (λ i. limbs_of ((s.limbs ∙ e) i) (s.sum i))

pub added_rows : (p m p' m' : List ℕ) (x y : Float) → check_of p m x y ≡ Ok tt → Adds p m (times x y) p' m' → ((j : ℕ) → get_or p' j 0 < 2 ^ 64) → ((j : ℕ) → get_or m' j 0 < 2 ^ 64)
    → rows_of (Ok tt) p' m' ≡ kept_of p m x y
unfolding kept_of
added_rows p m p' m' x y e a v w =
    let h = may_add p m x y e in
    rw e (λ i. rows_of (Ok tt) (limbs_of_lem p p' _ h.plus.limbs a.plus v i) (limbs_of_lem m m' _ h.minus.limbs a.minus w i))
