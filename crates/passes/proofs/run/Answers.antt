-- `passes::run` meets its contract: where the lengths fit, with diodes or without, and where they do not. Assumes nothing.
use Prim.Native.Nat.{ℕ, ◌+◌, ◌*◌, ◌≤◌}
use mathlib.Core.Path.{◌≡◌, refl, sym, ◌∙◌}
use mathlib.Core.Bool.{Bool, true, false, ◌&&◌, false≢true, and-eq-true_iff as both}
use borrow.Author.Tests.{eqb-true, leb-true}
use lib.Dec.{eqb, leb}
use borrow.Author.Rules.{rules}
use lib.Seq.{length-take-le}
use native.Mathlib.Omega.{arith}
use native.Mathlib.Nat.{mul-le-mul}
use Rattle.groups.specs.Laws.Listed.{list_bounded, list_lists, listed_front}
use Rattle.passes.specs.Laws.Sized.{sized}
use Rattle.passes.specs.Run.{run_on}
use Rattle.passes.proofs.run.Goals as goal

-- the list is as long after it was written as before
within : (n n₀ d : ℕ) → d ≤ n₀ → n ≡ n₀ → d ≤ n
within n n₀ d h e = rw e h

-- a matrix of some order fits one of the largest
largest : (n s : ℕ) → n ≤ 48 → s ≡ n * (n + 1) → s ≤ 2352
largest n s h e =
    let p : n + 1 ≤ 49 = omega arith in
    rw e (mul-le-mul h p)

-- no diode, and every record was looked at
free : (l d r n : ℕ) → l ≡ d → r ≡ n → (eqb d 0 && leb r 256) ≡ true → (l ≡ 0) × (n ≤ 256)
free l d r n e q t =
    let b = (both (eqb d 0) (leb r 256)).0 t in
    (e ∙ eqb-true d 0 b.0, rw (← q) (leb-true r 256 b.1))

-- where the lengths fit, nothing is said of the elimination matrix
unfit : {b : Bool} {T : Type 0} → b ≡ true → b ≡ false → T
unfit f e = absurd (false≢true (sym e ∙ f))

pub returns-then-not-fits : goal.returns-then-not-fits
unfolding run_on
returns-then-not-fits c = record { runs = rw (sym c.fits.ensures ∙ c.if-not-fits.true); scratch = record { kept = λ e. refl }; kept = search rules }

pub slice_bounds-list-end : goal.slice_bounds-list-end
slice_bounds-list-end c = let l = c.list_diodes-d in within _ _ _ (list_bounded _ _ _ _ l.ensures) l.auto.places

pub slice_bounds-places-end : goal.slice_bounds-places-end
slice_bounds-places-end c = let l = c.list_diodes-d in sym (length-take-le _ _ (within _ _ _ (list_bounded _ _ _ _ l.ensures) l.auto.places))

pub run_passes-requires : goal.run_passes-requires
run_passes-requires c =
    let l = c.list_diodes-d in
    let w = within _ _ _ (list_bounded _ _ _ _ l.ensures) l.auto.places in
    record {
      sized = sized _ _ _ _ _ (sym c.fits.ensures ∙ c.if-not-fits.false);
      holder = record {
        listed = listed_front _ _ _ w (list_lists _ _ _ _ l.ensures (omega arith));
        none = λ _. free _ _ _ _ (length-take-le _ _ w) c.records.ensures c.if-d-records.true;
        long = λ h. absurd (false≢true (sym h));
      };
    }

pub returns-then-d-records : goal.returns-then-d-records
unfolding run_on
returns-then-d-records c =
    let f = sym c.fits.ensures ∙ c.if-not-fits.false in
    record { runs = rw f c.run_passes.ensures.runs; scratch = record { kept = unfit f }; kept = c.run_passes.ensures.kept }

pub run_held-requires : goal.run_held-requires
run_held-requires c =
    let l = c.list_diodes-d in
    let z = sized _ _ _ _ _ (sym c.fits.ensures ∙ c.if-not-fits.false) in
    record {
      sized = z;
      listed = listed_front _ _ _ (within _ _ _ (list_bounded _ _ _ _ l.ensures) l.auto.places) (list_lists _ _ _ _ l.ensures (omega arith));
      room = (largest _ _ z.small z.bases, omega arith);
    }

pub returns-then-w-gt-SMALL : goal.returns-then-w-gt-SMALL
unfolding run_on
returns-then-w-gt-SMALL c =
    let f = sym c.fits.ensures ∙ c.if-not-fits.false in
    record { runs = rw f c.run_held.ensures.runs; scratch = record { kept = unfit f }; kept = c.run_held.ensures.kept }

pub run_held-requires-2 : goal.run_held-requires-2
run_held-requires-2 c =
    let l = c.list_diodes-d in
    record {
      sized = sized _ _ _ _ _ (sym c.fits.ensures ∙ c.if-not-fits.false);
      listed = listed_front _ _ _ (within _ _ _ (list_bounded _ _ _ _ l.ensures) l.auto.places) (list_lists _ _ _ _ l.ensures (omega arith));
      room = (c.if-w-gt-SMALL.false, omega arith);
    }

pub returns : goal.returns
unfolding run_on
returns c =
    let f = sym c.fits.ensures ∙ c.if-not-fits.false in
    record { runs = rw f c.run_held-2.ensures.runs; scratch = record { kept = unfit f }; kept = c.run_held-2.ensures.kept }
