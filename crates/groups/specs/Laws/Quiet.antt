-- What each group makes of an element of another kind: nothing. Assumes nothing.
use Rattle.std.specs.Prelude.{ℕ, ◌≡◌, refl, Bool, true, false, List, [], Float}
use Rattle.std.proofs.lemmas.Bool.{false≢true}
use Rattle.numbers.specs.Kinds.{resistor, voltage, diode, isin, vpwl, capacitor, vcvs, vccs, inductor}
use Rattle.options.specs.declared.Options.{Options}
use Rattle.sheet.specs.declared.Element.TheVariants.{R, I, «V», D, Isin, Vsin, Vpwl, C, Vcvs, Vccs, L}
use Rattle.sheet.specs.Kind.{kind_of}
use Rattle.groups.specs.declared.Pass.{Pass}
use Rattle.groups.specs.Laws.Passing.{Silent, Quiet}
use Rattle.groups.specs.Plain.{base_writes, dependent_writes}
use Rattle.groups.specs.Storage.{capacitor_in, storage_writes, unstored, with_current}
use Rattle.groups.specs.Sources.{driven, driven_of}
use Rattle.groups.specs.Diodes.{biased, stamped_of}

pub quiet_base : (nodes n : ℕ) → Quiet resistor voltage (base_writes nodes n) []
unfolding kind_of base_writes
quiet_base nodes n (R p q x) h = absurd (false≢true h)
quiet_base nodes n (I p q x) h = absurd (false≢true h)
quiet_base nodes n («V» p q x s) h = absurd (false≢true h)
quiet_base nodes n (D p q x y) h = refl
quiet_base nodes n (Isin p q x y z) h = refl
quiet_base nodes n (Vsin p q x y z s) h = refl
quiet_base nodes n (Vpwl p q x y f k s) h = refl
quiet_base nodes n (C p q x) h = refl
quiet_base nodes n (Vcvs p q cp cq x s) h = refl
quiet_base nodes n (Vccs p q cp cq x) h = refl
quiet_base nodes n (L p q x s) h = refl

pub quiet_dependent : (nodes n : ℕ) → Quiet vcvs vccs (dependent_writes nodes n) []
unfolding kind_of dependent_writes
quiet_dependent nodes n (R p q x) h = refl
quiet_dependent nodes n (I p q x) h = refl
quiet_dependent nodes n («V» p q x s) h = refl
quiet_dependent nodes n (D p q x y) h = refl
quiet_dependent nodes n (Isin p q x y z) h = refl
quiet_dependent nodes n (Vsin p q x y z s) h = refl
quiet_dependent nodes n (Vpwl p q x y f k s) h = refl
quiet_dependent nodes n (C p q x) h = refl
quiet_dependent nodes n (Vcvs p q cp cq x s) h = absurd (false≢true h)
quiet_dependent nodes n (Vccs p q cp cq x) h = absurd (false≢true h)
quiet_dependent nodes n (L p q x s) h = refl

-- a capacitor is open at DC
open_at_dc : (p : Pass) (x : List Float) (a b : ℕ) (value : Float) (t : Bool) → p.transient ≡ t → unstored t capacitor ≡ true → capacitor_in p x a b value ≡ []
unfolding capacitor_in
open_at_dc p x a b value true e h = absurd (false≢true h)
open_at_dc p x a b value false e h = rw e

pub silent_storage : (p : Pass) (x y : List Float) (i : ℕ) → Silent (unstored p.transient) (storage_writes p x y i) []
unfolding kind_of storage_writes
silent_storage p x y i (R a b z) h = refl
silent_storage p x y i (I a b z) h = refl
silent_storage p x y i («V» a b z s) h = refl
silent_storage p x y i (D a b z w) h = refl
silent_storage p x y i (Isin a b z w f) h = refl
silent_storage p x y i (Vsin a b z w f s) h = refl
silent_storage p x y i (Vpwl a b z w f k s) h = refl
silent_storage p x y i (C a b value) h = open_at_dc p x a.0 b.0 value p.transient refl h
silent_storage p x y i (Vcvs a b ca cb k s) h = refl
silent_storage p x y i (Vccs a b ca cb k) h = refl
silent_storage p x y i (L a b z s) h = absurd (false≢true h)

pub quiet_currents : (p : Pass) (v : List Float) (i : ℕ) (y : List Float) → Quiet inductor inductor (with_current p v i y) y
unfolding kind_of with_current
quiet_currents p v i y (R a b z) h = refl
quiet_currents p v i y (I a b z) h = refl
quiet_currents p v i y («V» a b z s) h = refl
quiet_currents p v i y (D a b z w) h = refl
quiet_currents p v i y (Isin a b z w f) h = refl
quiet_currents p v i y (Vsin a b z w f s) h = refl
quiet_currents p v i y (Vpwl a b z w f k s) h = refl
quiet_currents p v i y (C a b z) h = refl
quiet_currents p v i y (Vcvs a b ca cb k s) h = refl
quiet_currents p v i y (Vccs a b ca cb k) h = refl
quiet_currents p v i y (L a b z s) h = absurd (false≢true h)

pub quiet_driven : (w : Pass) (points : List ℕ) (m : List Float) → Quiet isin vpwl (driven w points m) (driven_of 0 m)
unfolding kind_of driven
quiet_driven w points m (R p q x) h = refl
quiet_driven w points m (I p q x) h = refl
quiet_driven w points m («V» p q x s) h = refl
quiet_driven w points m (D p q x y) h = refl
quiet_driven w points m (Isin p q x y z) h = absurd (false≢true h)
quiet_driven w points m (Vsin p q x y z s) h = absurd (false≢true h)
quiet_driven w points m (Vpwl p q x y f k s) h = absurd (false≢true h)
quiet_driven w points m (C p q x) h = refl
quiet_driven w points m (Vcvs p q cp cq x s) h = refl
quiet_driven w points m (Vccs p q cp cq x) h = refl
quiet_driven w points m (L p q x s) h = refl

pub quiet_biased : (o : Options) (n : ℕ) (v : List Float) (i : ℕ) (m w : List Float) → Quiet diode diode (biased o n v i m w) (stamped_of 0 m w)
unfolding kind_of biased
quiet_biased o n v i m w (R p q x) h = refl
quiet_biased o n v i m w (I p q x) h = refl
quiet_biased o n v i m w («V» p q x s) h = refl
quiet_biased o n v i m w (D p q x y) h = absurd (false≢true h)
quiet_biased o n v i m w (Isin p q x y z) h = refl
quiet_biased o n v i m w (Vsin p q x y z s) h = refl
quiet_biased o n v i m w (Vpwl p q x y f k s) h = refl
quiet_biased o n v i m w (C p q x) h = refl
quiet_biased o n v i m w (Vcvs p q cp cq x s) h = refl
quiet_biased o n v i m w (Vccs p q cp cq x) h = refl
quiet_biased o n v i m w (L p q x s) h = refl
