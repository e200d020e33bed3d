-- Which phase a question names, and that no two phases are one. Clients cite all that is `pub`. Assumes nothing.
use Rattle.std.proofs.Math.Path.{◌≡◌, refl, ap}
use Rattle.std.proofs.Common.{true≢false, sym}
use Rattle.std.proofs.Math.Bool.{true, false}
use Rattle.steps.specs.declared.Phase.{Phase}
use Rattle.steps.specs.declared.Phase.TheVariants.{Dc, Transient, Ended}
use Rattle.steps.specs.Phases.{is_dc, is_transient, is_live}

-- ---- no two are one

pub ended_not_transient : Ended ≡ Transient → ⊥
ended_not_transient e = true≢false (sym (ap is_transient e))

pub ended_not_dc : Ended ≡ Dc → ⊥
ended_not_dc e = true≢false (sym (ap is_dc e))

pub transient_not_dc : Transient ≡ Dc → ⊥
transient_not_dc e = true≢false (sym (ap is_dc e))

-- ---- which phase it is

pub dc_phase : (p : Phase) → is_dc p ≡ true → p ≡ Dc
dc_phase Dc h = refl
dc_phase Transient h = absurd (true≢false (sym h))
dc_phase Ended h = absurd (true≢false (sym h))

pub transient_phase : (p : Phase) → is_transient p ≡ true → p ≡ Transient
transient_phase Dc h = absurd (true≢false (sym h))
transient_phase Transient h = refl
transient_phase Ended h = absurd (true≢false (sym h))

pub ended_phase : (p : Phase) → is_live p ≡ false → p ≡ Ended
ended_phase Dc h = absurd (true≢false h)
ended_phase Transient h = absurd (true≢false h)
ended_phase Ended h = refl

-- ---- which phase it is not

pub not_dc : (p : Phase) → (p ≡ Dc → ⊥) → is_dc p ≡ false
not_dc Dc n = absurd (n refl)
not_dc Transient n = refl
not_dc Ended n = refl

pub not_transient : (p : Phase) → (p ≡ Transient → ⊥) → is_transient p ≡ false
not_transient Dc n = refl
not_transient Transient n = absurd (n refl)
not_transient Ended n = refl

-- a live run that is not in DC is in its transient
pub stepping : (p : Phase) → is_live p ≡ true → (p ≡ Dc → ⊥) → p ≡ Transient
stepping Dc g n = absurd (n refl)
stepping Transient g n = refl
stepping Ended g n = absurd (true≢false (sym g))

pub neither_phase : (p : Phase) → is_live p ≡ true → is_dc p ≡ false → is_transient p ≡ false → ⊥
neither_phase Dc g x y = true≢false x
neither_phase Transient g x y = true≢false y
neither_phase Ended g x y = true≢false (sym g)
