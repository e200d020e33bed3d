-- `num::bytes_at` meets its contract where fewer than N bytes are there: they stand before zeros, which is what is past the end.
use Rattle.std.proofs.Common.{◌≡◌, ℕ, ◌++◌, List, ◌∙◌, length, get_or, drop, replicate, arith}
use Rattle.std.proofs.lemmas.Grind.{common_steps}
use Rattle.num.proofs.bytes_at.Goals as goal

padded : (xs : List ℕ) (n k : ℕ) → get_or (xs ++ drop (length xs) (replicate n 0)) k 0 ≡ get_or xs k 0
padded xs n k = grind (arith, common_steps)

pub returns : goal.returns
returns g c = λ k h. rw c.copy_from_slice.ensures.after (padded c.in-Some.rest.now g.row.N k ∙ grind (arith, common_steps))
