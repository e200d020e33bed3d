-- `mean::leading::leading` meets its contract.
use Rattle.std.proofs.Common.{ℕ, ◌+◌, ◌/◌, ◌%◌, ◌^◌, ◌<◌, ◌≡◌, ◌&&◌, eqb, sym, ◌∙◌, subst, arith}
use Rattle.std.proofs.lemmas.Bool.Decides.{nat_tests}
use Rattle.exact.specs.Limbs.{value}
use Rattle.mean.specs.Leading.{marked}
use Rattle.mean.proofs.Places.{kept_short, marked_short}
use Rattle.mean.proofs.leading.leading.Goals as goal

wide : (n : ℕ) → n < 2 ^ 55 → n < 2 ^ 63
wide n h = omega arith

pub window-requires : goal.window-requires
window-requires c = let k = c.dropped-places.ensures in (omega arith, wide _ (kept_short (value c.args.l.now) c.dropped-places.result k.0))

pub returns : goal.returns
returns c =
    let k = c.dropped-places.ensures in
    let l = c.args.l.now in
    let b : c.if-even.clear ≡ (c.args.even && eqb (value l % 2 ^ (1072 + c.dropped-places.result)) 0) = grind (arith, nat_tests) in
    let w = c.mark.ensures ∙ (λ j. marked (b j) (c.window.ensures j)) in
    record { places = k.0; few = k.1; word = w; short = subst (λ (n : ℕ). n < 2 ^ 55) (sym w) (marked_short (c.args.even && eqb (value l % 2 ^ (1072 + c.dropped-places.result)) 0) (value l / 2 ^ (1072 + c.dropped-places.result)) (kept_short (value l) c.dropped-places.result k.0)) }
