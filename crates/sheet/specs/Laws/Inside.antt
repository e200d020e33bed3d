-- An element without a fault has its numbers in range, and its source number is its own. Clients cite Inside and inside_of_lem.
use Rattle.std.specs.Prelude.{ℕ, ◌<◌, ◌≤◌, ◌≡◌, refl, Bool, true, false, ◌&&◌, List, [], ◌∷◌, Ok}
use Rattle.std.proofs.Math.Bool.{and-eq-true_iff as both}
use Rattle.std.proofs.Common.{arith, ltb-true, leb-true}
use Rattle.sheet.specs.declared.NodeId.{NodeId}
use Rattle.sheet.specs.declared.SourceId.{SourceId}
use Rattle.sheet.specs.declared.Limits.{Limits}
use Rattle.sheet.specs.declared.Element.{Element}
use Rattle.sheet.specs.Range.{nodes_of, sources_of, points_of, node_below, source_below, nodes_fit, sources_fit, points_fit, lowest, element_fault}
use Rattle.num.specs.Lists.{every}

-- P holds of each entry of a list
abbrev pub Each : {A : Type 0} → (A → Type 0) → List A → Type 0
Each P [] = Unit {0}
Each P (x ∷ xs) = P x × Each P xs

-- each node is below the node count, each source number below the source count, and the points are among those given
pub record Inside (l : Limits) (e : Element) : Type 0 where
  pub nodes : Each (λ (p : NodeId). p.0 < l.nodes) (nodes_of e)
  pub sources : Each (λ (s : SourceId). s.0 < l.sources) (sources_of e)
  pub points : points_of e ≤ l.points

each : {A : Type 0} (t : A → Bool) (P : A → Type 0) → ((x : A) → t x ≡ true → P x) → (xs : List A) → every t xs ≡ true → Each P xs
each t P f [] h = tt
each t P f (x ∷ xs) h = let k = (both (t x) (every t xs)).0 h in (f x k.0, each t P f xs k.1)

none : (a b c : Bool) → lowest a b c ≡ Ok tt → (a ≡ true) × (b ≡ true) × (c ≡ true)
none false b c h = absurd (let z : ◌≡◌ {A = ℕ} 0 1 = cc in omega arith)
none true false c h = absurd (let z : ◌≡◌ {A = ℕ} 0 1 = cc in omega arith)
none true true false h = absurd (let z : ◌≡◌ {A = ℕ} 0 1 = cc in omega arith)
none true true true h = (refl, refl, refl)

pub inside_of_lem : (l : Limits) (own : Bool) (e : Element) → element_fault l own e ≡ Ok tt → (own ≡ true) × Inside l e
unfolding element_fault nodes_fit sources_fit points_fit
inside_of_lem l own e h =
    let k = none (nodes_fit l.nodes e) (own && sources_fit l.sources e) (points_fit l.points e) h in
    let s = (both own (sources_fit l.sources e)).0 k.1 in (
      s.0,
      record {
        nodes = each (node_below l.nodes) _ (λ p. ltb-true _ _) (nodes_of e) k.0;
        sources = each (source_below l.sources) _ (λ s. ltb-true _ _) (sources_of e) s.1;
        points = leb-true _ _ k.2;
      },
    )
