-- Whether a diode is behind is asked of the diodes' floats of the memory alone. Clients cite number_same. Assumes nothing.
use Rattle.std.specs.Prelude.{ℕ, zero, suc, ◌+◌, ◌≡◌, Bool, List, get_or, Float}
use Rattle.std.proofs.Math.Path.{refl, sym, ap}
use Rattle.std.proofs.Common.{◌∙◌}
use Rattle.std.proofs.Math.Bool.{true, false}
use borrow.Author.Tests.{eqb-true, eqb-false}
use Rattle.std.proofs.Math.Dec.{eqb}
use Rattle.std.specs.Float.{nan}
use Rattle.numbers.specs.Kinds.{diode}
use Rattle.options.specs.declared.Options.{Options}
use Rattle.sheet.specs.Record.{kind_at}
use Rattle.sheet.specs.Check.{records_of}
use Rattle.behind.specs.Behind.{behind_at, first_from, first_in, number_of, behind_number}
use Rattle.behind.specs.Laws.Quiet.{other_kind}

-- two tests with the same answers find the same
first_same : (f g : ℕ → Bool) → ((i : ℕ) → f i ≡ g i) → (n i : ℕ) → first_from f n i ≡ first_from g n i
unfolding first_from
first_same f g h zero i = refl
first_same f g h (suc n) i = simp (h, first_same f g h n (i + 1))

module _ (sheet : List ℕ) (x y z : List Float) (same : (i : ℕ) → kind_at sheet i ≡ diode → get_or y i nan ≡ get_or z i nan) where
  at_same : (reltol vntol : Float) (i : ℕ) → behind_at reltol vntol sheet x y i ≡ behind_at reltol vntol sheet x z i
  unfolding behind_at
  at_same reltol vntol i = by_kind_lem (eqb (kind_at sheet i) diode) refl
    where
      by_kind_lem : (b : Bool) → eqb (kind_at sheet i) diode ≡ b → behind_at reltol vntol sheet x y i ≡ behind_at reltol vntol sheet x z i
      by_kind_lem true e = rw (same i (eqb-true _ _ e))
      by_kind_lem false e =
          let n = eqb-false _ _ e in
          other_kind reltol vntol sheet x y i n ∙ sym (other_kind reltol vntol sheet x z i n)

  pub number_same : (o : Options) → behind_number o sheet x y ≡ behind_number o sheet x z
  unfolding behind_number first_in
  number_same o = ap number_of (first_same (behind_at o.reltol o.vntol sheet x y) (behind_at o.reltol o.vntol sheet x z) (at_same o.reltol o.vntol) (records_of sheet) 0)
