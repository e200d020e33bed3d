-- What a call tells in numbers: a refused one its refusal and its place, one that runs how it ended. Clients cite refused_numbers, ended_numbers and one_number. Assumes nothing.
use Rattle.std.specs.Prelude.{ℕ, ◌≡◌, refl, ◌⊎◌}
use Rattle.std.proofs.Common.{inl, inr}
use Rattle.num.specs.Floats.{nought}
use Rattle.std.specs.declared.result.Result.TheVariants.{Ok, Err}
use Rattle.numbers.specs.Refusals as Refusals
use Rattle.numbers.specs.Verdicts as verdicts
use Rattle.sheet.specs.declared.Fault.{Fault}
use Rattle.steps.specs.Counters.{verdict_of, dc_verdict_of}
use Rattle.engine.specs.declared.Outcome.{Outcome}
use Rattle.engine.specs.declared.Outcome.TheVariants.{Refused, Ended}
use Rattle.engine.specs.Engine.{Call, checked_call, ending_of, refused_of, last_of, run_of}
use Rattle.engine.specs.Work.{behind_in}
use Rattle.engine.specs.Numbers.{numbers_of, number_of}

module _ (c : Call) where
  -- where the check finds a fault, no verdict counts
  pub refused_numbers : (f : Fault) → checked_call c ≡ Err f → numbers_of (run_of c).outcome ≡ record { refusal = Refusals.number_of f.refusal; place = f.place; verdict = 0; dc = 0; passes = 0; rows = 0; end = nought; behind = 0 }
  unfolding run_of refused_of
  refused_numbers f e = rw e

  -- and where it finds nothing, no refusal does
  pub ended_numbers : checked_call c ≡ Ok tt → numbers_of (run_of c).outcome
      ≡ record { refusal = 0; place = 0; verdict = verdicts.number_of (verdict_of (last_of c).counters); dc = verdicts.number_of (dc_verdict_of (last_of c).counters); passes = (last_of c).counters.passes; rows = (last_of c).counters.rows; end = (last_of c).counters.time; behind = behind_in c.job.options c.sheet (last_of c).buffers }
  unfolding run_of ending_of
  ended_numbers e = rw e

-- at most one of refusal and verdict is not 0, and that is the number
pub one_number : (r : Outcome) → (((numbers_of r).refusal ≡ 0) × (number_of r ≡ (numbers_of r).verdict)) ⊎ (((numbers_of r).verdict ≡ 0) × (number_of r ≡ (numbers_of r).refusal))
one_number (Refused k i) = inr (refl, refl)
one_number (Ended e) = inl (refl, refl)
