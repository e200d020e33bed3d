-- The voltages told of a record whose diode is behind are the very two by which it is: they are not within tolerance of each other. Clients cite quiet_across and volts_behind. Assumes nothing.
use Rattle.std.specs.Prelude.{◌≡◌, ℕ, Bool, true, false, not, List, from_bits, slice_index_or, refl, Result, Float}
use Rattle.std.proofs.lemmas.Bool.{false≢true}
use Rattle.std.specs.Float.{nan, binary64}
use borrow.Author.Tests.{not-true}
use Rattle.numbers.specs.Kinds.{diode}
use Rattle.sheet.specs.declared.Element.{Element}
use Rattle.sheet.specs.declared.Element.TheVariants.{R, I, «V», D, Isin, Vsin, Vpwl, C, Vcvs, Vccs, L}
use Rattle.std.specs.declared.result.Result.TheVariants.{Ok, Err}
use Rattle.sheet.specs.Kind.{kind_of}
use Rattle.groups.specs.Records.{record_in, on_record}
use Rattle.groups.specs.Laws.Passing.{Quiet}
use Rattle.behind.specs.Behind.{caught_up_of, diode_behind, behind_at}
use Rattle.files.specs.Volts.{across_in, volts_of}

-- an element that is no diode has none across it
pub quiet_across : (x : List Float) → Quiet diode diode (across_in x) (from_bits binary64 0)
unfolding kind_of
quiet_across x (R p q a) h = refl
quiet_across x (I p q a) h = refl
quiet_across x («V» p q a s) h = refl
quiet_across x (D p q a b) h = absurd (false≢true h)
quiet_across x (Isin p q a b z) h = refl
quiet_across x (Vsin p q a b z s) h = refl
quiet_across x (Vpwl p q a b f k s) h = refl
quiet_across x (C p q a) h = refl
quiet_across x (Vcvs p q cp cq a s) h = refl
quiet_across x (Vccs p q cp cq a) h = refl
quiet_across x (L p q a s) h = refl

module _ (reltol vntol : Float) (x : List Float) (y : Float) where
  of_element : (e : Element) → diode_behind reltol vntol x y e ≡ true → caught_up_of reltol vntol (across_in x e) y ≡ false
  unfolding diode_behind
  of_element (D p q isat tdegc) h = not-true _ h
  of_element (R a b v) h = absurd (false≢true h)
  of_element (I p q v) h = absurd (false≢true h)
  of_element («V» p q v s) h = absurd (false≢true h)
  of_element (Isin p q v w z) h = absurd (false≢true h)
  of_element (Vsin p q v w z s) h = absurd (false≢true h)
  of_element (Vpwl p q v w f k s) h = absurd (false≢true h)
  of_element (C a b v) h = absurd (false≢true h)
  of_element (Vcvs p q cp cq k s) h = absurd (false≢true h)
  of_element (Vccs p q cp cq k) h = absurd (false≢true h)
  of_element (L a b v s) h = absurd (false≢true h)

  of_record : {E : Type 0} (d : Result Element E) → on_record (diode_behind reltol vntol x y) false d ≡ true → caught_up_of reltol vntol (on_record (across_in x) (from_bits binary64 0) d) y ≡ false
  of_record (Ok e) h = of_element e h
  of_record (Err k) h = absurd (false≢true h)

-- Where record i's diode is behind, what is told of it is why.
pub volts_behind :
    (reltol vntol : Float) (sheet : List ℕ) (x memory : List Float) (i : ℕ) → behind_at reltol vntol sheet x memory i ≡ true
    → caught_up_of reltol vntol (volts_of sheet i x memory).across (volts_of sheet i x memory).limited ≡ false
unfolding behind_at
volts_behind reltol vntol sheet x memory i h = of_record reltol vntol x (slice_index_or memory i nan) (record_in diode diode sheet i) h
