-- `decimal::shortest::shortest` meets its contract.
use Rattle.std.proofs.Common.{◌≡◌, ◌-◌, ◌<◌, ℕ, Option, refl, sym, ap, ◌∙◌, arith, rules}
use Rattle.std.specs.Prelude.{unwrap_or}
use Rattle.std.proofs.lemmas.Grind.{common_steps}
use Rattle.decimal.specs.Shortest.{number_of}
use Rattle.decimal.proofs.Digits.{ten_pos, ten_few, ten_less, number_found, number_next}
use Rattle.decimal.proofs.shortest.shortest.Goals as goal
use Rattle.decimal.proofs.shortest.shortest.Goals.{in_default-via-in-None-1, in_default-via-in-Some+else-digits-gt0}

pub loop-k-init : goal.loop-k-init
loop-k-init c = (search rules, refl, refl)

pub candidate-requires : goal.candidate-requires
candidate-requires c =
    let l = c.loop-k in
    (c.requires.0, ten_pos _ (l.k - 1) l.invariant.1, ten_few _ (l.k - 1) (omega arith) l.invariant.1)

pub returns-in-loop-k : goal.returns-in-loop-k
returns-in-loop-k c =
    let l = c.loop-k in
    let h : 0 < l.k - 1 = omega arith in
    let d = ap (λ (o : Option ℕ). unwrap_or o 0) (sym c.in-Some.is) ∙ c.candidate.ensures in
    sym (number_found _ _ (l.k - 1) l.t _ h l.invariant.1 d (λ z. omega arith)) ∙ l.invariant.2

pub loop-k-preserved : goal.loop-k-preserved
loop-k-preserved c =
    let l = c.loop-k in
    let h : 0 < l.k - 1 = omega arith in
    let z : unwrap_or c.candidate.result 0 ≡ 0
    = elim c.in_default.branch [
      | in_default-via-in-None-1 w ↦ grind (arith, common_steps)
      | in_default-via-in-Some+else-digits-gt0 w ↦ grind (arith, common_steps)
    ] in
    (search rules, ten_less _ (l.k - 1) h l.invariant.1, sym (number_next _ _ (l.k - 1) l.t _ h l.invariant.1 c.candidate.ensures z) ∙ l.invariant.2)

pub returns : goal.returns
unfolding number_of
returns c =
    let l = c.loop-k in
    let z : l.k - 1 ≡ 0 = omega arith in
    rw z at l.invariant.2
