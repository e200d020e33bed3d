-- Refusals 8, 9 and 10: the numbers of an element against the counts of a call. Clients cite nodes_of, sources_of, points_of and element_fault.
use Rattle.std.specs.Prelude.{ℕ, ◌+◌, Bool, true, false, ◌&&◌, List, [], ◌∷◌, leb, ltb, Result, Ok, Err, ⊤}
use Rattle.numbers.specs.declared.refusal.Refusal.{Refusal}
use Rattle.num.specs.Lists.{every}
use Rattle.sheet.specs.declared.NodeId.{NodeId}
use Rattle.sheet.specs.declared.SourceId.{SourceId}
use Rattle.sheet.specs.declared.Limits.{Limits}
use Rattle.sheet.specs.declared.Element.{Element}
use Rattle.sheet.specs.declared.Element.TheVariants.{R, I, «V», D, Isin, Vsin, Vpwl, C, Vcvs, Vccs, L}

-- the nodes of an element, its control nodes too
unfoldable pub nodes_of : Element → List NodeId
nodes_of (R p q x) = p ∷ q ∷ []
nodes_of (I p q x) = p ∷ q ∷ []
nodes_of («V» p q x s) = p ∷ q ∷ []
nodes_of (D p q x y) = p ∷ q ∷ []
nodes_of (Isin p q x y z) = p ∷ q ∷ []
nodes_of (Vsin p q x y z s) = p ∷ q ∷ []
nodes_of (Vpwl p q x y f k s) = p ∷ q ∷ []
nodes_of (C p q x) = p ∷ q ∷ []
nodes_of (Vcvs p q cp cq x s) = p ∷ q ∷ cp ∷ cq ∷ []
nodes_of (Vccs p q cp cq x) = p ∷ q ∷ cp ∷ cq ∷ []
nodes_of (L p q x s) = p ∷ q ∷ []

-- its source number, where its kind has one
unfoldable pub sources_of : Element → List SourceId
sources_of (R p q x) = []
sources_of (I p q x) = []
sources_of («V» p q x s) = s ∷ []
sources_of (D p q x y) = []
sources_of (Isin p q x y z) = []
sources_of (Vsin p q x y z s) = s ∷ []
sources_of (Vpwl p q x y f k s) = s ∷ []
sources_of (C p q x) = []
sources_of (Vcvs p q cp cq x s) = s ∷ []
sources_of (Vccs p q cp cq x) = []
sources_of (L p q x s) = s ∷ []

-- first point plus count: how many of the points given it takes to hold its own
unfoldable pub points_of : Element → ℕ
points_of (R p q x) = 0
points_of (I p q x) = 0
points_of («V» p q x s) = 0
points_of (D p q x y) = 0
points_of (Isin p q x y z) = 0
points_of (Vsin p q x y z s) = 0
points_of (Vpwl p q x y first count s) = first + count
points_of (C p q x) = 0
points_of (Vcvs p q cp cq x s) = 0
points_of (Vccs p q cp cq x) = 0
points_of (L p q x s) = 0

abbrev pub node_below : ℕ → NodeId → Bool
node_below nodes p = ltb p.0 nodes

abbrev pub source_below : ℕ → SourceId → Bool
source_below sources s = ltb s.0 sources

-- 8: a node is not below the node count
unfoldable pub nodes_fit : ℕ → Element → Bool
nodes_fit nodes e = every (node_below nodes) (nodes_of e)

-- 9: a source number is not below the source count
unfoldable pub sources_fit : ℕ → Element → Bool
sources_fit sources e = every (source_below sources) (sources_of e)

-- 10: first point plus count is above the points given
unfoldable pub points_fit : ℕ → Element → Bool
points_fit points e = leb (points_of e) points

-- of a record's refusals the one with the lowest number, 8, 9 or 10; none where its nodes, its source and its points fit
abbrev pub lowest : (nodes sources points : Bool) → Result ⊤ Refusal
lowest false sources points = Err Refusal.Node
lowest true false points = Err Refusal.Source
lowest true true false = Err Refusal.Pattern
lowest true true true = Ok tt

-- so of an element, told whether its source number is its own (Sharing)
unfoldable pub element_fault : Limits → (own : Bool) → Element → Result ⊤ Refusal
element_fault l own e = lowest (nodes_fit l.nodes e) (own && sources_fit l.sources e) (points_fit l.points e)
