-- What is no number first; else the units are divided at the lower place.
use Rattle.std.proofs.Common.{◌≡◌, ℕ, ◌*◌, ◌^◌, ◌<◌, ◌≤◌, Bool, true, refl, T, sym, ap, ◌∙◌, subst, arith, zero-mul, mul-pos, pow_pos, le_trans}
use Rattle.std.proofs.Math.Nat.{min-le_left}
use Rattle.std.specs.Float.{nan, binary64}
use Rattle.std.specs.Float.Ieee.{of_bits, round}
use denote.Floats.{passes}
use Rattle.remainder.proofs.Remains.{blank, past, none, alike, remains}
use Rattle.remainder.proofs.remainder.Goals as goal

-- a test that held
holds : (b : Bool) → b ≡ true → T b
holds b e = subst T (sym e) tt

no_number : of_bits binary64 9221120237041090560 ≡ nan
unfolding of_bits
no_number = refl

pub returns-then-not-finite : goal.returns-then-not-finite
returns-then-not-finite c = no_number ∙ blank _ _ (sym c.finite.ensures ∙ c.if-not-finite.true)

pub returns-then-y : goal.returns-then-y
returns-then-y c = past _ _ (sym c.finite.ensures ∙ c.if-not-finite.false) (sym c.finite-2.ensures ∙ c.if-not-finite-2.true) c.if-y.true

pub returns-else-y : goal.returns-else-y
returns-else-y c = none _ _ (sym c.finite.ensures ∙ c.if-not-finite.false) (sym c.finite-2.ensures ∙ c.if-not-finite-2.true) c.if-y.false

pub returns-then-b-eq0 : goal.returns-then-b-eq0
returns-then-b-eq0 c =
    let k = sym c.finite-2.ensures ∙ c.if-not-finite-2.false in
    let b = c.digits_of-b.result in
    let z : b.digits * 2 ^ b.place ≡ 0 = ap (λ (d : ℕ). d * 2 ^ b.place) c.if-b-eq0.true ∙ zero-mul (2 ^ b.place) in
    no_number
    ∙ alike _ _ (passes _ c.well_formed.1.0.1) (sym c.finite.ensures ∙ c.if-not-finite.false) k (sym (c.digits_of-b.ensures (holds _ k)).0 ∙ z)

pub left-requires-clause-digits : goal.left-requires-clause-digits
left-requires-clause-digits c = (c.digits_of-a.ensures (holds _ (sym c.finite.ensures ∙ c.if-not-finite.false))).1.few

pub left-requires-clause-others : goal.left-requires-clause-others
left-requires-clause-others c = (c.digits_of-b.ensures (holds _ (sym c.finite-2.ensures ∙ c.if-not-finite-2.false))).1.few

pub put-requires-clause-low : goal.put-requires-clause-low
put-requires-clause-low c =
    let l : c.digits_of-a.result.place ≤ 2045 = (c.digits_of-a.ensures (holds _ (sym c.finite.ensures ∙ c.if-not-finite.false))).1.low in
    let m = min-le_left c.digits_of-a.result.place c.digits_of-b.result.place in
    rw c.min.ensures (le_trans m l)

pub returns : goal.returns
returns c =
    let h = sym c.finite.ensures ∙ c.if-not-finite.false in
    let k = sym c.finite-2.ensures ∙ c.if-not-finite-2.false in
    let a = c.digits_of-a.result in
    let b = c.digits_of-b.result in
    let x = c.digits_of-a.ensures (holds _ h) in
    let y = c.digits_of-b.ensures (holds _ k) in
    let some : 0 < b.digits * 2 ^ b.place = mul-pos (omega arith) (pow_pos b.place) in
    c.put.ensures
    ∙ ap (λ (n : ℕ). round binary64 a.minus n (2 ^ 1074)) (ap (λ (n : ℕ). c.left.result * 2 ^ n) c.min.ensures ∙ c.left.ensures.value)
    ∙ rw (x.0, y.0, x.2) (sym (remains c.args.x c.args.y (passes _ c.well_formed.0.1) (passes _ c.well_formed.1.0.1) h k (subst (λ (n : ℕ). 0 < n) y.0 some)))
