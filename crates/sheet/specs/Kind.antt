-- The kind number of an element. Clients cite kind_of.
use Rattle.std.specs.Prelude.{ℕ}
use Rattle.numbers.specs.Kinds.{resistor, current, voltage, diode, isin, vsin, vpwl, capacitor, vcvs, vccs, inductor}
use Rattle.sheet.specs.declared.Element.{Element}
use Rattle.sheet.specs.declared.Element.TheVariants.{R, I, «V», D, Isin, Vsin, Vpwl, C, Vcvs, Vccs, L}

unfoldable pub kind_of : Element → ℕ
kind_of (R p q x) = resistor
kind_of (I p q x) = current
kind_of («V» p q x s) = voltage
kind_of (D p q x y) = diode
kind_of (Isin p q x y z) = isin
kind_of (Vsin p q x y z s) = vsin
kind_of (Vpwl p q x y f k s) = vpwl
kind_of (C p q x) = capacitor
kind_of (Vcvs p q cp cq x s) = vcvs
kind_of (Vccs p q cp cq x) = vccs
kind_of (L p q x s) = inductor
