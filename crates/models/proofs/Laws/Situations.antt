-- The limiting rule by its situations: exactly one holds, whatever the numbers, and its formula is the rule. Assumes nothing; NaN, infinities and thermal voltages
-- of zero or below are numbers like any other here.
use Rattle.std.specs.Prelude.{◌≡◌, refl, Bool, true, false, cond, None, Float}
use Rattle.std.proofs.Common.{sym, ap, ◌∙◌}
use Rattle.std.specs.Float.{nan}
use Rattle.std.specs.Float.Ieee.{div}
use Rattle.options.specs.declared.Options.{Options}
use Rattle.functions.specs.Ln.{ln_of}
use Rattle.functions.specs.Laws.Values.{ln_nan}
use Rattle.models.specs.Signs.{◌⊕◌, ◌⊗◌, ◌⊘◌}
use Rattle.models.specs.Diode.{limited, linearized, critical, thermal}
use Rattle.models.specs.Situation.{small, below, resting, argument, falling, situation_of, limited_in}
use Rattle.models.specs.Laws.Situations.{Holds, times_nan, plus_nan, nan_asked, nan_model}
use Rattle.models.specs.declared.diode.Situation.{Situation}
use Rattle.models.specs.declared.diode.Situation.TheVariants.{SmallStep, BelowCritical, TurnOn, FallBack, Climb}

-- ---- the five cover every input

-- for every input a situation holds: the one that is chosen
pub chosen_holds : (vt vcrit v last : Float) → Holds (situation_of vt vcrit v last) vt vcrit v last
unfolding situation_of
chosen_holds vt vcrit v last = go (small vt v last) (below vcrit v) (resting last) (falling vt v last) refl refl refl refl
  where
    go : (s b r f : Bool) → small vt v last ≡ s → below vcrit v ≡ b → resting last ≡ r → falling vt v last ≡ f
        → Holds (cond s SmallStep (cond b BelowCritical (cond r TurnOn (cond f (FallBack vcrit) (Climb (argument vt v last)))))) vt vcrit v last
    go true b r f hs hb hr hf = hs
    go false true r f hs hb hr hf = (hs, hb)
    go false false true f hs hb hr hf = (hs, hb, hr)
    go false false false true hs hb hr hf = (hs, hb, hr, hf, refl)
    go false false false false hs hb hr hf = (hs, hb, hr, hf, refl)

-- and no other: what holds is the one that is chosen
pub only_chosen : (s : Situation) (vt vcrit v last : Float) → Holds s vt vcrit v last → situation_of vt vcrit v last ≡ s
unfolding situation_of
only_chosen SmallStep vt vcrit v last h = rw h
only_chosen BelowCritical vt vcrit v last (hs, hb) = rw (hs, hb)
only_chosen TurnOn vt vcrit v last (hs, hb, hr) = rw (hs, hb, hr)
only_chosen (FallBack c) vt vcrit v last (hs, hb, hr, hf, e) = rw (hs, hb, hr, hf, e)
only_chosen (Climb a) vt vcrit v last (hs, hb, hr, hf, e) = rw (hs, hb, hr, hf, e)

-- so two that hold are one
pub exactly_one : (s t : Situation) (vt vcrit v last : Float) → Holds s vt vcrit v last → Holds t vt vcrit v last → s ≡ t
exactly_one s t vt vcrit v last h k = sym (only_chosen s vt vcrit v last h) ∙ only_chosen t vt vcrit v last k

-- ---- the chosen formula is the rule

-- the rule as it stood, in the Rust's order, is the formula of the chosen situation
pub limited_chosen : (vt vcrit v last : Float) → limited vt vcrit v last ≡ limited_in (situation_of vt vcrit v last) vt v last
unfolding limited situation_of limited_in
limited_chosen vt vcrit v last = go (small vt v last) (below vcrit v) (resting last) (falling vt v last)
  where
    go : (s b r f : Bool)
        → cond b v (cond s v (cond r (vt ⊗ ln_of (v ⊘ vt)) (cond f vcrit (last ⊕ vt ⊗ ln_of (argument vt v last)))))
        ≡ limited_in (cond s SmallStep (cond b BelowCritical (cond r TurnOn (cond f (FallBack vcrit) (Climb (argument vt v last)))))) vt v last
    go true true r f = refl
    go true false r f = refl
    go false true r f = refl
    go false false true f = refl
    go false false false true = refl
    go false false false false = refl

-- so it is the formula of whichever situation holds
pub limited_where : (s : Situation) (vt vcrit v last : Float) → Holds s vt vcrit v last → limited vt vcrit v last ≡ limited_in s vt v last
limited_where s vt vcrit v last h = rw (← only_chosen s vt vcrit v last h) (limited_chosen vt vcrit v last)

-- ---- NaN

-- and is limited to a NaN
pub nan_limited : (vt vcrit last : Float) → limited vt vcrit nan last ≡ nan
unfolding limited_in div
nan_limited vt vcrit last = limited_chosen vt vcrit nan last ∙ ap (λ (s : Situation). limited_in s vt nan last) (nan_asked vt vcrit last) ∙ go (resting last)
  where
    go : (r : Bool) → limited_in (cond r TurnOn (Climb nan)) vt nan last ≡ nan
    go true = ap (λ (x : Float). vt ⊗ x) ln_nan ∙ times_nan vt
    go false = ap (λ (x : Float). last ⊕ vt ⊗ x) ln_nan ∙ ap (λ (x : Float). last ⊕ x) (times_nan vt) ∙ plus_nan last

-- so a diode that is asked to stand at a NaN has no model, which is 22, whatever it remembers
pub nan_ends : (o : Options) (isat tdegc last : Float) → linearized o isat tdegc nan last ≡ None
unfolding linearized
nan_ends o isat tdegc last = rw (nan_limited (thermal o tdegc) (critical (thermal o tdegc) isat) last) (nan_model o.gmin isat (thermal o tdegc))
