-- `decimal::shortest::span_of` meets its contract.
use mathlib.Core.Path.{sym, ap, subst, ◌∙◌}
use Prim.Native.Nat.{ℕ, ◌+◌, ◌*◌, ◌%◌, ◌^◌, ◌<◌}
use native.Mathlib.Omega.{arith}
use lib.Dec.{eqb}
use Rattle.decimal.specs.declared.scale.Cut.{Cut}
use Rattle.decimal.specs.Scale.{cut_of}
use Rattle.decimal.specs.Shortest.{span_of, least_of, most_of}
use Rattle.decimal.proofs.Units.{whole_few, whole_many}
use Rattle.decimal.proofs.Digits.{edge_few, positive}
use Rattle.decimal.proofs.shortest.span_of.Goals as goal

pub cut_at-below-requires : goal.cut_at-below-requires
cut_at-below-requires c = (c.requires.0, c.requires.1, subst (λ (n : ℕ). n < 2 ^ 56) (sym c.low_edge.ensures) (edge_few _ c.args.narrow c.requires.3))

pub least_of-requires : goal.least_of-requires
least_of-requires c =
    let p = c.requires in
    subst (λ (z : Cut). z.whole < 2 ^ 63) (sym c.cut_at-below.ensures) (whole_few _ _ p.0 p.1 (subst (λ (n : ℕ). n < 2 ^ 56) (sym c.low_edge.ensures) (edge_few _ c.args.narrow p.3)))

pub most_of-requires : goal.most_of-requires
most_of-requires c =
    let p = c.requires in
    subst (λ (z : Cut). 0 < z.whole) (sym c.cut_at-above.ensures) (positive (4 * c.args.m + 2) _ (omega arith) (whole_many _ _ p.0 p.1 (omega arith)))

pub returns : goal.returns
unfolding span_of
returns c =
    let even = eqb (c.args.m % 2) 0 in
    let b = c.args.b in
    λ i. record {
      whole = ap (λ (z : Cut). z.whole) c.cut_at-middle.ensures i;
      even = ap (λ (z : Cut). z.even) c.cut_at-middle.ensures i;
      least = (c.least_of.ensures ∙ ap (λ (z : Cut). least_of z even) (c.cut_at-below.ensures ∙ ap (λ (n : ℕ). cut_of b n) c.low_edge.ensures)) i;
      most = (c.most_of.ensures ∙ ap (λ (z : Cut). most_of z even) c.cut_at-above.ensures) i;
    }
