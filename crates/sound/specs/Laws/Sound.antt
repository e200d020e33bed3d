-- A call that is refused, and one that runs. Clients cite call_refused and call_done. Assumes nothing.
use Rattle.std.specs.Prelude.{ℕ, ◌≡◌}
use borrow.Author.Tests.{ne_eqb}
use Rattle.sound.specs.declared.Soundings.TheVariants.{Refused}
use Rattle.sound.specs.Sound.{Call, refusal_of, sound_result_of, ran_left, sound_of}

module _ (c : Call) where
  -- a refused call
  pub call_refused : (k : ℕ) → k ≡ refusal_of c → (k ≡ 0 → ⊥) → sound_result_of (Refused k) c.lent ≡ sound_of c
  unfolding sound_of
  call_refused k e h = rw (← e, ne_eqb k 0 h)

  -- a call that runs
  pub call_done : refusal_of c ≡ 0 → sound_of c ≡ ran_left c
  unfolding sound_of
  call_done e = rw e
