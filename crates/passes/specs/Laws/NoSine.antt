-- An attempt in DC refuses no sine: the sources have their levels at time 0.0. Clients cite sine_free. Assumes nothing.
use Rattle.std.specs.Prelude.{◌≡◌, refl, ◌⊎◌, Bool, true, false, cond, eqb}
use Rattle.std.proofs.Common.{inl}
use Rattle.numbers.specs.Verdicts.{diode_current}
use Rattle.groups.specs.Stamping.{stamp_of}
use Rattle.groups.specs.Laws.SineAtZero.{stamp_in_dc}
use Rattle.machine.specs.State.{Solved}
use Rattle.machine.proofs.Laws.NoSine.{SineFree}
use Rattle.passes.specs.Attempt.{Circuit, pass_of, attempt_of}

-- solved, or ended as the stamping was
pub sine_free : (k : Circuit) → SineFree (attempt_of k)
unfolding attempt_of
sine_free k c a x h =
    let p = pass_of k.job k.order c in
    go (eqb (stamp_of k.job.options p k.sheet k.points x.base a x.vector x.memory x.base).code 0) _ _ refl
    (stamp_in_dc p (rw h) k.sheet k.points x.base a k.job.options x.vector x.memory x.base)
  where
    go : (b : Bool) (y z : Solved) → y.fault ≡ 0 → (z.fault ≡ 0) ⊎ (z.fault ≡ diode_current) → ((cond b y z).fault ≡ 0) ⊎ ((cond b y z).fault ≡ diode_current)
    go true y z p q = inl p
    go false y z p q = q
