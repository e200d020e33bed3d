-- Whether a job is sound, and if not why. Clients cite cause_of, numbers_of, with_cause and with_causes. Definitions only.
use Rattle.std.specs.Prelude.{ℕ, ◌-◌, cond, List, eqb, length, Float, Result, Ok, Err}
use Rattle.numbers.specs.Verdicts.{settled}
use Rattle.numbers.specs.Causes.{behind, rejected}
use Rattle.numbers.specs.Refusals.{number_of}
use Rattle.numbers.specs.declared.refusal.Refusal.{Refusal}
use Rattle.judge.specs.declared.Judged.{Judged}
use Rattle.judge.specs.declared.Judged.TheVariants as judge
use Rattle.judge.specs.Judge.{judge_of}
use Rattle.single.specs.Single.{Single, single_of}
use Rattle.sound.specs.declared.causes.Cause.{Cause}
use Rattle.sound.specs.declared.causes.Cause.TheVariants.{Sound, Own, Behind, Unjudged, Rejected}
use Rattle.sound.specs.declared.causes.Numbers.{Numbers}

-- what the judge's word makes of a job that is settled with no diode behind
abbrev pub heard : Result Judged Refusal → Cause
heard (Ok judge.Accepted) = Sound
heard (Ok (judge.Rejected row)) = Rejected row
heard (Err k) = Unjudged k

-- the cause of a job of n unknowns, asked in this order: its run's own number, a diode behind, and, where there are tolerances, the judge on the vector and the system that it left
unfoldable pub cause_of : Single → List Float → ℕ → Cause
cause_of x tolerances n =
    cond (eqb x.mark.number settled)
    (cond (eqb x.mark.behind 0)
    (cond (eqb (length tolerances) 0) Sound (heard (judge_of n x.system x.vector tolerances)))
    (Behind (x.mark.behind - 1)))
    (Own x.mark.number x.mark.place)

-- a cause as a number, 0 where the job is sound, and its place: the record of a refusal or of a diode behind, the row that the judge names, and else 0
abbrev pub numbers_of : Cause → Numbers
numbers_of Sound = record { cause = 0; place = 0 }
numbers_of (Own number place) = record { cause = number; place = place }
numbers_of (Behind place) = record { cause = behind; place = place }
numbers_of (Unjudged k) = record { cause = number_of k; place = 0 }
numbers_of (Rejected row) = record { cause = rejected; place = row }

-- a job with its cause in place of its own number, so that 0 says "sound"
abbrev pub with_cause : List Float → ℕ → Single → Single
with_cause tolerances n x =
    let c = numbers_of (cause_of x tolerances n) in
    single_of (record { number = c.cause; place = c.place; passes = x.mark.passes; behind = x.mark.behind }) x.vector x.system

-- every job so
abbrev pub with_causes : List Float → ℕ → (ℕ → Single) → ℕ → Single
with_causes tolerances n job j = with_cause tolerances n (job j)
