-- `sheet::range::nodes_fit` meets its contract. Assumes nothing.
use Rattle.std.proofs.Common.{◌≡◌, ◌∙◌, ap, refl, ℕ, Bool, true, false, ◌&&◌, ◌++◌, take, rules, tests}
use Rattle.std.specs.List.{list_all}
use Rattle.std.proofs.lemmas.Iterator.{YieldsList-from_slice}
use Rattle.std.proofs.lemmas.Iterator.Search.{all_from_yields_List}
use Rattle.sheet.specs.declared.Element.{Element}
use Rattle.sheet.specs.declared.Element.TheVariants.{R, I, «V», D, Isin, Vsin, Vpwl, C, Vcvs, Vccs, L}
use Rattle.sheet.specs.Range.{nodes_fit, nodes_of, node_below}
use Rattle.sheet.proofs.range.nodes_fit.Goals as goal

twice : (a b : Bool) → (a && (b && (a && (b && true)))) ≡ (a && (b && true))
twice true true = refl
twice true false = refl
twice false b = refl

-- the four places ask what the nodes do
asked : (n : ℕ) (e : Element) → list_all (node_below n) (take 4 (nodes_of e ++ nodes_of e)) ≡ nodes_fit n e
unfolding nodes_fit nodes_of
asked n (R p q x) = twice (node_below n p) (node_below n q)
asked n (I p q x) = twice (node_below n p) (node_below n q)
asked n («V» p q x s) = twice (node_below n p) (node_below n q)
asked n (D p q x y) = twice (node_below n p) (node_below n q)
asked n (Isin p q x y z) = twice (node_below n p) (node_below n q)
asked n (Vsin p q x y z s) = twice (node_below n p) (node_below n q)
asked n (Vpwl p q x y f k s) = twice (node_below n p) (node_below n q)
asked n (C p q x) = twice (node_below n p) (node_below n q)
asked n (Vcvs p q cp cq x s) = refl
asked n (Vccs p q cp cq x) = refl
asked n (L p q x s) = twice (node_below n p) (node_below n q)

pub returns : goal.returns
returns c =
    let n = c.args.nodes in
    all_from_yields_List (node_below n) _ _ _ c.all.ensures.ran (YieldsList-from_slice c.nodes.result cc) (λ x b q k. search (rules, tests))
    ∙ (ap (list_all (node_below n)) c.nodes.ensures ∙ asked n c.args.e)
