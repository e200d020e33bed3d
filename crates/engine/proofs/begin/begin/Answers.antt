-- `engine::begin::begin` meets its contract.
use borrow.Author.Rules.{rules}
use Rattle.engine.proofs.begin.begin.Goals as goal

pub returns : goal.returns
returns c = record { all = rw (c.fill.ensures.after (λ y e. e), c.fill-2.ensures.after (λ y e. e), c.fill-3.ensures.after (λ y e. e), c.forget.ensures); kept = search rules }
