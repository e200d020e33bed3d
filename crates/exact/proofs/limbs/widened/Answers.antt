-- `exact::limbs::widened` meets its contract.
use Rattle.std.proofs.Common.{◌≡◌, ℕ, zero, suc, ◌+◌, ◌*◌, ◌^◌, ◌<◌, List, [], ◌∷◌, ◌++◌, length, get_or, take, drop, set, replicate, refl, ap, ◌∙◌, le_of_suc-le-suc, not-suc-le-zero, add-one, arith, length-append, take_all, rules}
use Rattle.exact.specs.Limbs.{value}
use Rattle.exact.specs.Rows.{Wide}
use Rattle.exact.proofs.limbs.widened.Goals as goal

-- one limb more is copied
copied_more : (t d : List ℕ) (i : ℕ) → i < length t → i < length d → set (take i t ++ drop i d) i (get_or t i 0) ≡ take (suc i) t ++ drop (suc i) d
copied_more [] d i l m = absurd (not-suc-le-zero l)
copied_more (x ∷ t) [] i l m = absurd (not-suc-le-zero m)
copied_more (x ∷ t) (y ∷ d) zero l m = refl
copied_more (x ∷ t) (y ∷ d) (suc i) l m = ap (λ (r : List ℕ). x ∷ r) (copied_more t d i (le_of_suc-le-suc l) (le_of_suc-le-suc m))

-- a limb of 0 above does not count
none_above : (l : List ℕ) → value (l ++ 0 ∷ []) ≡ value l
unfolding value
none_above [] = refl
none_above (x ∷ l) = ap (λ (n : ℕ). x + 2 ^ 64 * n) (none_above l)

one_above : (l : List ℕ) → length l ≡ 66 → Wide l (l ++ 0 ∷ [])
one_above l h = record { limbs = length-append l (0 ∷ []) ∙ ap (λ (n : ℕ). n + 1) h; same = none_above l }

all : (l r : List ℕ) (i : ℕ) → length l ≡ 66 → i ≡ 66 → r ≡ take i l ++ drop i (replicate 67 0) → Wide l r
all l r i h e f = rw (f, e, take_all 66 l (omega arith)) (one_above l h)

pub loop-i-preserved : goal.loop-i-preserved
loop-i-preserved c =
    let l = c.loop-i in
    (search rules, search rules, rw (add-one, l.invariant.2) (copied_more c.args.l.now (replicate 67 0) l.i (omega arith) (omega arith)))

pub returns : goal.returns
returns c = let l = c.loop-i in all c.args.l.now l.r l.i c.requires (omega arith) l.invariant.2
