-- `decimal::of_steps` meets its contract.
use mathlib.Core.Path.{sym, ap, subst, ◌∙◌}
use Prim.Native.Nat.{◌^◌, ◌<◌}
use native.Mathlib.Omega.{arith}
use Rattle.decimal.specs.declared.shortest.Span.{Span}
use Rattle.decimal.specs.declared.shortest.Number.{Number}
use Rattle.decimal.specs.Shortest.{number_of}
use Rattle.decimal.specs.Decimal.{signed}
use Rattle.decimal.proofs.Digits.{span_few}
use Rattle.decimal.proofs.of_steps.Goals as goal

pub shortest-n-requires : goal.shortest-n-requires
shortest-n-requires c =
    (record { few = subst (λ (z : Span). z.whole < 2 ^ 63) (sym c.span_of.ensures) (span_few c.args.b c.args.m c.args.narrow c.requires.0 c.requires.1 (omega arith)) }, omega arith)

pub returns : goal.returns
returns c =
    ap (λ (n : Number). signed c.args.minus n) (c.shortest-n.ensures ∙ (λ i. number_of (c.span_of.ensures i) (c.place_of.ensures i) 18))
