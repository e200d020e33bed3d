-- `mean::leading::blank` meets its contract.
use Rattle.std.proofs.Common.{◌≡◌, ℕ, zero, suc, ◌<◌, Bool, true, false, eqb, List, [], ◌∷◌, length, get_or, take, MatchBool, refl, sym, arith, rules, tests, eq-eqb, ne_eqb}
use Rattle.std.specs.List.{HoldsAt, AllWithin}
use Rattle.std.proofs.lemmas.Iterator.{cases_from_all, YieldsList-from_slice}
use Rattle.exact.specs.Limbs.{value}
use Rattle.mean.proofs.leading.blank.Goals as goal

all_zero : (l : List ℕ) → AllWithin (λ x. x ≡ 0) l 0 (length l) → value l ≡ 0
unfolding value
all_zero [] h = refl
all_zero (x ∷ l) h = let a : x ≡ 0 = h 0 0 (omega arith) (omega arith) in let b = all_zero l (λ k d p q. h (suc k) d (omega arith) (omega arith)) in omega arith

some_not : (l : List ℕ) (k : ℕ) → k < length l → (get_or l k 0 ≡ 0 → ⊥) → value l ≡ 0 → ⊥
unfolding value
some_not [] k p h e = absurd (omega arith)
some_not (x ∷ l) zero p h e = h (omega arith)
some_not (x ∷ l) (suc k) p h e = some_not l k (omega arith) h (omega arith)

says : (r : Bool) (l : List ℕ) → MatchBool r (AllWithin (λ x. x ≡ 0) l 0 (length l)) ((k : ℕ) × (k < length l) × HoldsAt (λ x. x ≡ 0 → ⊥) l k) → r ≡ eqb (value l) 0
says true l h = sym (eq-eqb _ _ (all_zero l h))
says false l h = sym (ne_eqb _ _ (some_not l h.0 h.1 (h.2 0)))

pub returns : goal.returns
returns c =
    let l = take c.args.n c.args.l.now in
    says _ l (cases_from_all _ _ _ (λ x. x ≡ 0) (λ x. x ≡ 0 → ⊥) c.all.ensures.ran (YieldsList-from_slice l cc) (λ x q k. search (rules, tests)) (λ x q k. search (rules, tests)))
