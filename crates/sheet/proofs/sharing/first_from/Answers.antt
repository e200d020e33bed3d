-- `sheet::sharing::first_from` meets its contract. Assumes nothing.
use Rattle.std.proofs.Common.{◌≡◌, ℕ, ◌≤◌, ◌<◌, List, true, false, arith, rules, tests, Option, Some, None, MatchOption}
use Rattle.std.specs.Option.{unwrap_or}
use Rattle.std.proofs.lemmas.Iterator.{first_from_Range}
use Rattle.sheet.specs.Sharing.{alone, FirstShared}
use Rattle.sheet.proofs.sharing.first_from.Goals as goal

first : (s : List ℕ) (n : ℕ) (r : Option ℕ) → MatchOption r ((k : ℕ) → 0 ≤ k → k < n → alone s k ≡ true) (λ i. (0 ≤ i) × (i < n) × (alone s i ≡ false) × ((k : ℕ) → 0 ≤ k → k < i → alone s k ≡ true)) → FirstShared s n (unwrap_or r n)
first s n None h = record { before = λ i m l. h i (omega arith) l; there = λ m. absurd (omega arith) }
first s n (Some i) h = record { before = λ j m l. h.3 j (omega arith) m; there = λ m. h.2 }

pub returns : goal.returns
returns c =
    let s = c.args.sheet.now in
    rw c.unwrap_or.ensures
    (first s c.args.count c.find.result (first_from_Range _ _ _ c.find.result (λ i. alone s i ≡ false) (λ i. alone s i ≡ true) c.find.ensures.ran (λ x q k. search (rules, tests)) (λ x q k. (search rules, search (rules, tests)))))
