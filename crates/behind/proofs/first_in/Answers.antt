-- `behind::first_in` meets its contract: `find` answers the first, as the definition does. Assumes nothing.
use Rattle.std.proofs.Common.{◌≡◌, sym, ap, ◌∙◌, ℕ, ◌≤◌, ◌<◌, List, Float, Option, Some, None, MatchOption, true, false, arith, rules, tests}
use Rattle.std.proofs.lemmas.Iterator.{first_from_Range}
use Rattle.sheet.specs.Check.{records_of}
use Rattle.behind.specs.Behind.{behind_at, first_in}
use Rattle.behind.proofs.Laws.First.{at_first, behind_none}
use Rattle.behind.proofs.first_in.Goals as goal

module _ (r v : Float) (s : List ℕ) (x m : List Float) where
  first : (n : ℕ) (o : Option ℕ) → n ≡ records_of s
      → MatchOption o ((k : ℕ) → 0 ≤ k → k < n → behind_at r v s x m k ≡ false) (λ i. (0 ≤ i) × (i < n) × (behind_at r v s x m i ≡ true) × ((k : ℕ) → 0 ≤ k → k < i → behind_at r v s x m k ≡ false))
      → o ≡ first_in r v s x m
  first n None e h = sym (behind_none r v s x m (λ k l. h k (omega arith) (omega arith)))
  first n (Some i) e h = sym (at_first r v s x m i (record { from = h.0; place = omega (arith, h.1); holds = h.2; earlier = h.3 }))

pub returns : goal.returns
returns c =
    let a = c.args in
    let test = behind_at a.reltol a.vntol a.sheet.now a.vector.now a.memory.now in
    first a.reltol a.vntol a.sheet.now a.vector.now a.memory.now c.records.result c.find.result c.records.ensures
    (first_from_Range _ _ _ c.find.result (λ i. test i ≡ true) (λ i. test i ≡ false) c.find.ensures.ran (λ x q k. search (rules, tests)) (λ x q k. (search rules, search (rules, tests))))
