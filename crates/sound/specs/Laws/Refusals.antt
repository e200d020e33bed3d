-- What holds of a call that is not refused, that nothing else is refused, and which refusals there are. Clients cite Enough, SoundFine, sound_fine, fine_none and refused_by. Assumes nothing.
use Rattle.std.specs.Prelude.{ℕ, ◌≤◌, ◌≡◌, Bool, not, ◌&&◌, ◌||◌, ◌⊎◌}
use Rattle.std.proofs.Math.Path.{refl}
use Rattle.std.proofs.Math.Bool.{true, false, cond}
use Rattle.std.proofs.Common.{inl, ⊎_elim}
use Rattle.std.proofs.Math.Logic.{inr}
use mathlib.Mathlib.Data.Bool.Basic.{or-eq-false-eq-eq-false-and-eq-false as neither}
use native.Mathlib.Omega.{arith}
use borrow.Author.Tests.{eqb-true, eqb-false, eq-eqb, ltb-false, le-ltb}
use Rattle.std.proofs.Math.Dec.{eqb, ltb}
use Rattle.numbers.specs.Limits.{job_causes, sum_limbs}
use Rattle.options.specs.declared.Options.{Options}
use Rattle.checks.specs.Laws.Checks.{cond_none}
use Rattle.spreads.specs.declared.refusals.Lent.{Lent}
use Rattle.spreads.specs.Refusals.{order, call_refusal}
use Rattle.spreads.specs.Laws.Refusals as spreads
use Rattle.spreads.specs.Laws.Refusals.{CallFine, call_fine, RefusedBy}
use Rattle.sound.specs.declared.refusals.More.{More}
use Rattle.sound.specs.Refusals.{short_tolerances, short_more, sound_refusal}

-- no tolerance, or one for each of n rows
abbrev pub Enough : ℕ → ℕ → Type 0
Enough tolerances n = (tolerances ≡ 0) ⊎ (n ≤ tolerances)

-- none of the conditions of 13 and 1 to 5 holds: none of those of `spreads`, and the rest has its room
pub record SoundFine (o : Options) (z : Lent) (y : More) : Type 0 where
  pub call : CallFine o z
  pub «count_room» : job_causes ≤ z.counts
  pub tolerances : Enough y.tolerances (order z)
  pub «plus-room» : sum_limbs ≤ y.plus
  pub «minus-room» : sum_limbs ≤ y.minus

enough : (t n : ℕ) → short_tolerances t n ≡ false → Enough t n
enough t n e = go (eqb t 0) (ltb t n) refl refl e
  where
    go : (a b : Bool) → eqb t 0 ≡ a → ltb t n ≡ b → (not a && b) ≡ false → Enough t n
    go true b p q h = inl (eqb-true _ _ p)
    go false false p q h = inr (ltb-false _ _ q)
    go false true p q h = absurd (true_false h)
      where
        true_false : true ≡ false → ⊥
        true_false u = let z : ◌≡◌ {A = ℕ} 1 0 = cc in omega arith

enough_tolerances : (t n : ℕ) → Enough t n → short_tolerances t n ≡ false
enough_tolerances t n h = ⊎_elim (λ (e : t ≡ 0). rw (eq-eqb t 0 e)) (λ (l : n ≤ t). rw (le-ltb t n l) (go (eqb t 0))) h
  where
    go : (b : Bool) → (not b && false) ≡ false
    go true = refl
    go false = refl

-- the last two tests
last_none : (k : ℕ) (b : Bool) → cond (eqb k 0) (cond b 5 0) k ≡ 0 → (k ≡ 0) × (b ≡ false)
last_none k b e = go (eqb k 0) refl e
  where
    go : (t : Bool) → eqb k 0 ≡ t → cond t (cond b 5 0) k ≡ 0 → (k ≡ 0) × (b ≡ false)
    go true t h = (eqb-true k 0 t, (cond_none b 4 0 h).0)
    go false t h = absurd (eqb-false k 0 t h)

module _ (o : Options) (z : Lent) (y : More) where
  pub sound_fine : sound_refusal o z y ≡ 0 → SoundFine o z y
  unfolding sound_refusal short_more
  sound_fine e =
      let l = last_none (call_refusal o z) (short_more z y) e in
      let m = (neither (ltb z.counts 29 || short_tolerances y.tolerances (order z) || ltb y.plus 66) (ltb y.minus 66)).0 l.1 in
      let p = (neither (ltb z.counts 29 || short_tolerances y.tolerances (order z)) (ltb y.plus 66)).0 m.0 in
      let t = (neither (ltb z.counts 29) (short_tolerances y.tolerances (order z))).0 p.0 in
      record {
        call = call_fine o z l.0;
        «count_room» = ltb-false _ _ t.0;
        tolerances = enough _ _ t.1;
        «plus-room» = ltb-false _ _ p.1;
        «minus-room» = ltb-false _ _ m.1;
      }

  -- and nothing else is refused
  pub fine_none : SoundFine o z y → sound_refusal o z y ≡ 0
  unfolding sound_refusal short_more
  fine_none f =
      rw (
        spreads.fine_none o z f.call,
        le-ltb z.counts 29 f.count_room,
        enough_tolerances y.tolerances (order z) f.tolerances,
        le-ltb y.plus 66 f.plus-room,
        le-ltb y.minus 66 f.minus-room,
      )

  -- what `spreads` refuses is refused by the same number
  pub same_refusal : (call_refusal o z ≡ 0 → ⊥) → sound_refusal o z y ≡ call_refusal o z
  unfolding sound_refusal
  same_refusal h = go (eqb (call_refusal o z) 0) refl
    where
      go : (b : Bool) → eqb (call_refusal o z) 0 ≡ b → cond b (cond (short_more z y) 5 0) (call_refusal o z) ≡ call_refusal o z
      go true e = absurd (h (eqb-true _ _ e))
      go false e = refl

  -- 13, or 1 to 5
  pub refused_by : (sound_refusal o z y ≡ 0 → ⊥) → RefusedBy (sound_refusal o z y)
  unfolding sound_refusal
  refused_by h = go (eqb (call_refusal o z) 0) (short_more z y) refl h
    where
      go : (a b : Bool) → eqb (call_refusal o z) 0 ≡ a → (cond a (cond b 5 0) (call_refusal o z) ≡ 0 → ⊥) → RefusedBy (cond a (cond b 5 0) (call_refusal o z))
      go true true e n = inr (omega arith, omega arith)
      go true false e n = absurd (n refl)
      go false b e n = spreads.refused_by o z n
