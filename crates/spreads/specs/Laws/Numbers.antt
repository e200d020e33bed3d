-- The refusal that a call tells is the call's own, and 0 exactly where nothing is refused. Clients cite refusal_number. Assumes nothing.
use Rattle.std.specs.Prelude.{◌≡◌, refl, Bool, true, false, cond, eqb}
use Rattle.std.proofs.Common.{sym, eqb-true}
use Rattle.spreads.specs.declared.Spread.TheVariants.{Refused}
use Rattle.spreads.specs.Spreads.{Batch, batch_refusal, batch_result_of, ran_left, spreads_of}
use Rattle.spreads.specs.Numbers.{numbers_of}

pub refusal_number : (c : Batch) → (numbers_of (spreads_of c).answer).refusal ≡ batch_refusal c
unfolding spreads_of
refusal_number c = go (eqb (batch_refusal c) 0) refl
  where
    go : (b : Bool) → eqb (batch_refusal c) 0 ≡ b → (numbers_of (cond b (ran_left c) (batch_result_of (Refused (batch_refusal c)) c.lent)).answer).refusal ≡ batch_refusal c
    go true e = sym (eqb-true (batch_refusal c) 0 e)
    go false e = refl
