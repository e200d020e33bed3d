-- The refusal that a call tells is the call's own, and 0 exactly where nothing is refused. Clients cite refusal_number. Assumes nothing.
use Rattle.std.specs.Prelude.{◌≡◌, refl, Bool, true, false, cond, eqb}
use Rattle.std.proofs.Common.{sym, eqb-true}
use Rattle.sound.specs.declared.Soundings.TheVariants.{Refused}
use Rattle.sound.specs.Sound.{Call, refusal_of, sound_result_of, ran_left, sound_of}
use Rattle.sound.specs.Numbers.{numbers_of}

pub refusal_number : (c : Call) → (numbers_of (sound_of c).answer).refusal ≡ refusal_of c
unfolding sound_of
refusal_number c = go (eqb (refusal_of c) 0) refl
  where
    go : (b : Bool) → eqb (refusal_of c) 0 ≡ b → (numbers_of (cond b (ran_left c) (sound_result_of (Refused (refusal_of c)) c.lent)).answer).refusal ≡ refusal_of c
    go true e = sym (eqb-true (refusal_of c) 0 e)
    go false e = refl
