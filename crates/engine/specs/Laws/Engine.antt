-- A call from its parts: refused, or from what its work leaves. Clients cite run_by_check, run_refused and run_ended. Assumes nothing.
use Rattle.std.specs.Prelude.{ℕ, ◌≡◌, refl}
use Rattle.std.proofs.Common.{ap}
use Rattle.sheet.specs.Check.{Checked}
use Rattle.sheet.specs.declared.Fault.{Fault}
use Rattle.std.specs.declared.result.Result.TheVariants.{Ok, Err}
use Rattle.steps.specs.declared.Counters.{Counters}
use Rattle.machine.specs.State.{Buffers}
use Rattle.engine.specs.declared.Outcome.{Outcome}
use Rattle.engine.specs.Work.{Handover, handover_of, handover}
use Rattle.engine.specs.Engine.{Call, sizes, checked_call, Result, result_of, ending_of, refused_of, circuit, last_of, last_ending, laid, unless, run_of}

-- what holds of a refused call and of one that runs holds of every call
pub run_by_check : (c : Call) (P : Result → Type 0) → (checked_call c ≡ Ok tt → P (result_of (last_ending c) (laid (sizes c) (last_of c).buffers c.lent)))
    → ((f : Fault) → checked_call c ≡ Err f → P (result_of (refused_of (Err f)) c.lent)) → P (run_of c)
unfolding run_of
run_by_check c P f g = go (checked_call c) refl
  where
    go : (x : Checked) → checked_call c ≡ x → P (unless x (result_of (last_ending c) (laid (sizes c) (last_of c).buffers c.lent)) (result_of (refused_of x) c.lent))
    go (Ok u) e = f e
    go (Err h) e = g h e

module _ (c : Call) where
  -- a refused call
  pub run_refused : (f : Fault) (r : Outcome) → checked_call c ≡ Err f → r ≡ refused_of (Err f) → result_of r c.lent ≡ run_of c
  unfolding run_of
  run_refused f r e q = rw (e, q)

  -- a call that runs, from what its work leaves
  pub run_ended : (r : Outcome) (n : Counters) (b : ℕ) (x : Buffers) → checked_call c ≡ Ok tt → r ≡ ending_of n b → handover_of n b x ≡ handover (circuit c) (last_of c) → result_of r (laid (sizes c) x c.lent) ≡ run_of c
  unfolding run_of
  run_ended r n b x e q t = rw (e, q) (ap (λ (l : Handover). result_of (ending_of l.counters l.behind) (laid (sizes c) l.buffers c.lent)) t)
