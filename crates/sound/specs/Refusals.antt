-- The refusals of the whole call: those of `spreads` in their order, and what else is too short. Clients cite sound_refusal; Laws/Refusals.antt has what holds where nothing is refused.
use Rattle.std.specs.Prelude.{ℕ, Bool, cond, not, ◌&&◌, ◌||◌, eqb, ltb}
use Rattle.numbers.specs.Limits.{job_causes, sum_limbs}
use Rattle.numbers.specs.Refusals.{by_room}
use Rattle.options.specs.declared.Options.{Options}
use Rattle.spreads.specs.declared.refusals.Lent.{Lent}
use Rattle.spreads.specs.Refusals.{order, call_refusal}
use Rattle.sound.specs.declared.refusals.More.{More}

-- tolerances, but not one for each row
abbrev pub short_tolerances : ℕ → ℕ → Bool
short_tolerances tolerances n = not (eqb tolerances 0) && ltb tolerances n

-- fewer than 29 counts, too few tolerances, or two rows of fewer than 66 limbs
unfoldable pub short_more : Lent → More → Bool
short_more z y = ltb z.counts job_causes || short_tolerances y.tolerances (order z) || ltb y.plus sum_limbs || ltb y.minus sum_limbs

-- 13 first, then 1 to 5 as in `spreads`, and 5 for these too; 0 where there is none
unfoldable pub sound_refusal : Options → Lent → More → ℕ
sound_refusal o z y = cond (eqb (call_refusal o z) 0) (cond (short_more z y) by_room 0) (call_refusal o z)
