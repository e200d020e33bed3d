-- The arm for all other kinds of a match on an element: what it says of each kind before it, said of the kind byte. Assumes nothing.
use Prim.Native.Nat.{ℕ}
use mathlib.Core.Path.{◌≡◌, refl}
use mathlib.Core.Bool.{Bool, true}
use lib.Ieee.{Float}
use Rattle.sheet.specs.declared.NodeId.{NodeId}
use Rattle.sheet.specs.declared.SourceId.{SourceId}
use Rattle.sheet.specs.declared.Element.{Element}
use Rattle.sheet.specs.declared.Element.TheVariants.{R, I, «V», D, Isin, Vsin, Vpwl, C, Vcvs, Vccs, L}
use Rattle.sheet.specs.Kind.{kind_of}
use Rattle.groups.specs.Records.{outside}
use Rattle.groups.specs.Storage.{unstored}

-- no resistor, current or voltage
pub not_base : (element : Element) → ((a b : NodeId) (c : Float) → element ≡ R a b c → ⊥) → ((a b : NodeId) (c : Float) → element ≡ I a b c → ⊥) → ((a b : NodeId) (c : Float) (d : SourceId) → element ≡ «V» a b c d → ⊥) → outside 1 3 (kind_of element) ≡ true
unfolding kind_of
not_base (R a b c) h1 h2 h3 = absurd (h1 a b c refl)
not_base (I a b c) h1 h2 h3 = absurd (h2 a b c refl)
not_base («V» a b c d) h1 h2 h3 = absurd (h3 a b c d refl)
not_base (D a b c d) h1 h2 h3 = refl
not_base (Isin a b c d e) h1 h2 h3 = refl
not_base (Vsin a b c d e f) h1 h2 h3 = refl
not_base (Vpwl a b c d e f g) h1 h2 h3 = refl
not_base (C a b c) h1 h2 h3 = refl
not_base (Vcvs a b c d e f) h1 h2 h3 = refl
not_base (Vccs a b c d e) h1 h2 h3 = refl
not_base (L a b c d) h1 h2 h3 = refl

-- no dependent source
pub not_dependent : (element : Element) → ((a b c d : NodeId) (e : Float) (f : SourceId) → element ≡ Vcvs a b c d e f → ⊥) → ((a b c d : NodeId) (e : Float) → element ≡ Vccs a b c d e → ⊥) → outside 9 10 (kind_of element) ≡ true
unfolding kind_of
not_dependent (R a b c) h1 h2 = refl
not_dependent (I a b c) h1 h2 = refl
not_dependent («V» a b c d) h1 h2 = refl
not_dependent (D a b c d) h1 h2 = refl
not_dependent (Isin a b c d e) h1 h2 = refl
not_dependent (Vsin a b c d e f) h1 h2 = refl
not_dependent (Vpwl a b c d e f g) h1 h2 = refl
not_dependent (C a b c) h1 h2 = refl
not_dependent (Vcvs a b c d e f) h1 h2 = absurd (h1 a b c d e f refl)
not_dependent (Vccs a b c d e) h1 h2 = absurd (h2 a b c d e refl)
not_dependent (L a b c d) h1 h2 = refl

-- no independent source
pub not_source : (element : Element) → ((a b : NodeId) (c d e : Float) → element ≡ Isin a b c d e → ⊥) → ((a b : NodeId) (c d e : Float) (f : SourceId) → element ≡ Vsin a b c d e f → ⊥) → ((a b : NodeId) (c d : Float) (e f : ℕ) (g : SourceId) → element ≡ Vpwl a b c d e f g → ⊥) → outside 5 7 (kind_of element) ≡ true
unfolding kind_of
not_source (R a b c) h1 h2 h3 = refl
not_source (I a b c) h1 h2 h3 = refl
not_source («V» a b c d) h1 h2 h3 = refl
not_source (D a b c d) h1 h2 h3 = refl
not_source (Isin a b c d e) h1 h2 h3 = absurd (h1 a b c d e refl)
not_source (Vsin a b c d e f) h1 h2 h3 = absurd (h2 a b c d e f refl)
not_source (Vpwl a b c d e f g) h1 h2 h3 = absurd (h3 a b c d e f g refl)
not_source (C a b c) h1 h2 h3 = refl
not_source (Vcvs a b c d e f) h1 h2 h3 = refl
not_source (Vccs a b c d e) h1 h2 h3 = refl
not_source (L a b c d) h1 h2 h3 = refl

-- no diode
pub not_diode : (element : Element) → ((a b : NodeId) (c d : Float) → element ≡ D a b c d → ⊥) → outside 4 4 (kind_of element) ≡ true
unfolding kind_of
not_diode (R a b c) h = refl
not_diode (I a b c) h = refl
not_diode («V» a b c d) h = refl
not_diode (D a b c d) h = absurd (h a b c d refl)
not_diode (Isin a b c d e) h = refl
not_diode (Vsin a b c d e f) h = refl
not_diode (Vpwl a b c d e f g) h = refl
not_diode (C a b c) h = refl
not_diode (Vcvs a b c d e f) h = refl
not_diode (Vccs a b c d e) h = refl
not_diode (L a b c d) h = refl

-- no inductor
pub not_inductor : (element : Element) → ((a b : NodeId) (c : Float) (d : SourceId) → element ≡ L a b c d → ⊥) → outside 11 11 (kind_of element) ≡ true
unfolding kind_of
not_inductor (R a b c) h = refl
not_inductor (I a b c) h = refl
not_inductor («V» a b c d) h = refl
not_inductor (D a b c d) h = refl
not_inductor (Isin a b c d e) h = refl
not_inductor (Vsin a b c d e f) h = refl
not_inductor (Vpwl a b c d e f g) h = refl
not_inductor (C a b c) h = refl
not_inductor (Vcvs a b c d e f) h = refl
not_inductor (Vccs a b c d e) h = refl
not_inductor (L a b c d) h = absurd (h a b c d refl)

-- no capacitor and no inductor
pub not_stored : (t : Bool) (element : Element) → ((a b : NodeId) (c : Float) → element ≡ C a b c → ⊥) → ((a b : NodeId) (c : Float) (d : SourceId) → element ≡ L a b c d → ⊥) → unstored t (kind_of element) ≡ true
unfolding kind_of
not_stored t (R a b c) h1 h2 = refl
not_stored t (I a b c) h1 h2 = refl
not_stored t («V» a b c d) h1 h2 = refl
not_stored t (D a b c d) h1 h2 = refl
not_stored t (Isin a b c d e) h1 h2 = refl
not_stored t (Vsin a b c d e f) h1 h2 = refl
not_stored t (Vpwl a b c d e f g) h1 h2 = refl
not_stored t (C a b c) h1 h2 = absurd (h1 a b c refl)
not_stored t (Vcvs a b c d e f) h1 h2 = refl
not_stored t (Vccs a b c d e) h1 h2 = refl
not_stored t (L a b c d) h1 h2 = absurd (h2 a b c d refl)
