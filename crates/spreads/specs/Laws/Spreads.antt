-- A call that is refused, and one that runs. Clients cite call_refused and call_done. Assumes nothing.
use Rattle.std.specs.Prelude.{ℕ, ◌≡◌}
use borrow.Author.Tests.{ne_eqb}
use Rattle.spreads.specs.declared.Spread.TheVariants.{Refused}
use Rattle.spreads.specs.Spreads.{Batch, batch_refusal, batch_result_of, ran_left, spreads_of}

module _ (c : Batch) where
  -- a refused call
  pub call_refused : (k : ℕ) → k ≡ batch_refusal c → (k ≡ 0 → ⊥) → batch_result_of (Refused k) c.lent ≡ spreads_of c
  unfolding spreads_of
  call_refused k e h = rw (← e, ne_eqb k 0 h)

  -- a call that runs
  pub call_done : batch_refusal c ≡ 0 → spreads_of c ≡ ran_left c
  unfolding spreads_of
  call_done e = rw e
