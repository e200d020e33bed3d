-- What each kind of stamp writes, in the Rust's order. Clients cite these lists and never open them.
-- a, b are the first and the second node, ca, cb the controls, s a source's row; n is the order and the right side's column.
use Rattle.std.specs.Prelude.{ℕ, List, [], ◌∷◌, ◌++◌, Float}
use Rattle.std.specs.Float.Ieee as Ieee
use Rattle.std.specs.Float.{binary64}
use Rattle.std.specs.Float.Ieee.{neg}
use Rattle.num.specs.Floats.{nought}
use Rattle.num.specs.Literals.{one}
use Rattle.stamps.specs.Write.{Write, adds, puts}

-- -1.0, as the Rust's minus sign makes it
abbrev pub neg_one : Float
neg_one = neg one

-- Current: first node's right side minus the current, second's plus
unfoldable pub current_writes : ℕ → ℕ → ℕ → Float → List Write
current_writes n a b i = adds a n (neg i) ∷ adds b n i ∷ []

-- what a conductance g writes into the row of its end a
abbrev pub end_writes : ℕ → ℕ → Float → List Write
end_writes a b g = adds a a g ∷ adds a b (neg g) ∷ []

-- own diagonals plus g, cross entries minus g, Rust order
unfoldable pub conductance_writes : ℕ → ℕ → Float → List Write
conductance_writes a b g = end_writes a b g ++ end_writes b a g

-- Resistor: g = 1/value
abbrev pub resistor_writes : ℕ → ℕ → Float → List Write
resistor_writes a b value = conductance_writes a b (Ieee.div binary64 one value)

-- V, Vsin, Vpwl assign: right side of their row, then 1.0 at the first node, then -1.0 at the second, both in row and column
unfoldable pub voltage_writes : ℕ → ℕ → ℕ → ℕ → Float → List Write
voltage_writes n s a b v = puts s n v ∷ puts s a one ∷ puts a s one ∷ puts s b neg_one ∷ puts b s neg_one ∷ []

-- Vcvs adds its branch current to the nodes, then its gain at the controls, then its nodes to its own row
unfoldable pub vcvs_writes : ℕ → ℕ → ℕ → ℕ → ℕ → Float → List Write
vcvs_writes s a b ca cb k = adds a s one ∷ adds b s neg_one ∷ adds s ca k ∷ adds s cb (neg k) ∷ adds s a neg_one ∷ adds s b one ∷ []

-- Vccs adds its gain at the controls, in the rows of its nodes
unfoldable pub vccs_writes : ℕ → ℕ → ℕ → ℕ → Float → List Write
vccs_writes a b ca cb k = adds a ca k ∷ adds a cb (neg k) ∷ adds b ca (neg k) ∷ adds b cb k ∷ []

-- C: current i from second to first node; resistor 1/g, so g is inverted twice
unfoldable pub capacitor_writes : ℕ → ℕ → ℕ → Float → Float → List Write
capacitor_writes n a b g i = current_writes n b a i ++ resistor_writes a b (Ieee.div binary64 one g)

-- D: current i from first to second node; resistor 1/g likewise
unfoldable pub diode_writes : ℕ → ℕ → ℕ → Float → Float → List Write
diode_writes n a b g i = current_writes n a b i ++ resistor_writes a b (Ieee.div binary64 one g)

-- L in the transient: the conductance g, added without inverting; current i from first to second node; 1.0 on the diagonal of its own row, which holds nothing else
unfoldable pub inductor_writes : ℕ → ℕ → ℕ → ℕ → Float → Float → List Write
inductor_writes n s a b g i = conductance_writes a b g ++ (current_writes n a b i ++ (puts s s one ∷ []))

-- L at DC: "a short, stamped as a V of 0 with a source number"
abbrev pub short_writes : ℕ → ℕ → ℕ → ℕ → List Write
short_writes n s a b = voltage_writes n s a b nought
