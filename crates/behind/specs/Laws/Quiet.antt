-- Only a diode can be behind. Assumes nothing.
use Rattle.std.specs.Prelude.{ℕ, ◌≡◌, refl, false, List, Float}
use Rattle.std.proofs.lemmas.Bool.{false≢true}
use Rattle.numbers.specs.Kinds.{diode}
use Rattle.sheet.specs.declared.Element.TheVariants.{R, I, «V», D, Isin, Vsin, Vpwl, C, Vcvs, Vccs, L}
use Rattle.sheet.specs.Kind.{kind_of}
use Rattle.sheet.specs.Record.{kind_at}
use Rattle.groups.specs.Records.{record_in}
use Rattle.groups.specs.Laws.Passing.{apart, Quiet}
use Rattle.behind.specs.Behind.{diode_behind, behind_at}

pub quiet_behind : (reltol vntol : Float) (x : List Float) (y : Float) → Quiet diode diode (diode_behind reltol vntol x y) false
unfolding kind_of diode_behind
quiet_behind reltol vntol x y (R p q a) h = refl
quiet_behind reltol vntol x y (I p q a) h = refl
quiet_behind reltol vntol x y («V» p q a s) h = refl
quiet_behind reltol vntol x y (D p q a b) h = absurd (false≢true h)
quiet_behind reltol vntol x y (Isin p q a b z) h = refl
quiet_behind reltol vntol x y (Vsin p q a b z s) h = refl
quiet_behind reltol vntol x y (Vpwl p q a b f k s) h = refl
quiet_behind reltol vntol x y (C p q a) h = refl
quiet_behind reltol vntol x y (Vcvs p q cp cq a s) h = refl
quiet_behind reltol vntol x y (Vccs p q cp cq a) h = refl
quiet_behind reltol vntol x y (L p q a s) h = refl

-- a record of another kind is not behind
pub other_kind : (reltol vntol : Float) (sheet : List ℕ) (x memory : List Float) (i : ℕ) → (kind_at sheet i ≡ diode → ⊥) → behind_at reltol vntol sheet x memory i ≡ false
unfolding behind_at record_in
other_kind reltol vntol sheet x memory i h = rw (apart diode (kind_at sheet i) h)
