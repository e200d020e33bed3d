-- Two groups that need the sheet alone: the base and the dependent sources. Clients cite based_on and dependent_of.
use Rattle.std.specs.Prelude.{ℕ, List, [], Float}
use Rattle.sheet.specs.declared.Element.{Element}
use Rattle.sheet.specs.declared.Element.TheVariants.{R, I, «V», D, Isin, Vsin, Vpwl, C, Vcvs, Vccs, L}
use Rattle.sheet.specs.Row.{row_of}
use Rattle.sheet.specs.Check.{records_of}
use Rattle.stamps.specs.Write.{Write, stamped}
use Rattle.stamps.specs.Kinds.{current_writes, resistor_writes, voltage_writes, vcvs_writes, vccs_writes}
use Rattle.groups.specs.Records.{writes_of}

-- Base: I, R, V
unfoldable pub base_writes : ℕ → ℕ → Element → List Write
base_writes nodes n (R a b value) = resistor_writes a.0 b.0 value
base_writes nodes n (I p q value) = current_writes n p.0 q.0 value
base_writes nodes n («V» p q value s) = voltage_writes n (row_of nodes s) p.0 q.0 value
base_writes nodes n (D p q x y) = []
base_writes nodes n (Isin p q x y z) = []
base_writes nodes n (Vsin p q x y z s) = []
base_writes nodes n (Vpwl p q x y f k s) = []
base_writes nodes n (C a b x) = []
base_writes nodes n (Vcvs p q cp cq k s) = []
base_writes nodes n (Vccs p q cp cq k) = []
base_writes nodes n (L a b x s) = []

-- dependent: Vcvs, Vccs
unfoldable pub dependent_writes : ℕ → ℕ → Element → List Write
dependent_writes nodes n (R a b x) = []
dependent_writes nodes n (I p q x) = []
dependent_writes nodes n («V» p q x s) = []
dependent_writes nodes n (D p q x y) = []
dependent_writes nodes n (Isin p q x y z) = []
dependent_writes nodes n (Vsin p q x y z s) = []
dependent_writes nodes n (Vpwl p q x y f k s) = []
dependent_writes nodes n (C a b x) = []
dependent_writes nodes n (Vcvs p q cp cq k s) = vcvs_writes (row_of nodes s) p.0 q.0 cp.0 cq.0 k
dependent_writes nodes n (Vccs p q cp cq k) = vccs_writes p.0 q.0 cp.0 cq.0 k
dependent_writes nodes n (L a b x s) = []

-- a matrix after each group, stamped in list order
unfoldable pub based_on : ℕ → ℕ → List ℕ → List Float → List Float
based_on nodes n sheet m = stamped n (writes_of (λ _. base_writes nodes n) sheet (records_of sheet)) m

unfoldable pub dependent_of : ℕ → ℕ → List ℕ → List Float → List Float
dependent_of nodes n sheet m = stamped n (writes_of (λ _. dependent_writes nodes n) sheet (records_of sheet)) m
