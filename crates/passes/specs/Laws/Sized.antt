-- The test of the lengths and the facts that it stands for. Clients cite resized, sized and sized_fits. Assumes nothing.
use Rattle.std.specs.Prelude.{ℕ, ◌+◌, ◌*◌, ◌≡◌, true, eqb, leb}
use Rattle.std.proofs.Math.Bool.{and-eq-true_iff as both}
use borrow.Author.Tests.{eqb-true, leb-true, eq-eqb, le-leb}
use Rattle.passes.specs.Sized.{Sized, fits}

-- buffers that are as long fit as well
pub resized : (n a b e s n' a' e' s' : ℕ) → Sized n a b e s → n' ≡ n → a' ≡ a → e' ≡ e → s' ≡ s → Sized n' a' b e' s'
resized n a b e s n' a' e' s' z p q r t = rw (p, q, r, t) z

module _ (n accepted base elimination system : ℕ) where
  pub sized : fits n accepted base elimination system ≡ true → Sized n accepted base elimination system
  unfolding fits
  sized e =
      let a = (both (leb 1 n) _).0 e in
      let b = (both (leb n 48) _).0 a.1 in
      let c = (both (eqb accepted n) _).0 b.1 in
      let d = (both (eqb base (n * (n + 1))) _).0 c.1 in
      let w = (both (eqb elimination (n * (n + 1))) _).0 d.1 in
      record {
        some = leb-true 1 n a.0;
        small = leb-true n 48 b.0;
        vectors = eqb-true _ _ c.0;
        bases = eqb-true _ _ d.0;
        works = eqb-true _ _ w.0;
        systems = eqb-true _ _ w.1;
      }

  pub sized_fits : Sized n accepted base elimination system → fits n accepted base elimination system ≡ true
  unfolding fits
  sized_fits z = rw (le-leb 1 n z.some, le-leb n 48 z.small, eq-eqb accepted n z.vectors, eq-eqb base (n * (n + 1)) z.bases, eq-eqb elimination (n * (n + 1)) z.works, eq-eqb system (n * (n + 1)) z.systems)
