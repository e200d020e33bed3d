use Rattle.std.proofs.Common.{◌≡◌, arith}
use Rattle.say.proofs.Laws.Totals.{total_more}
use Rattle.say.proofs.spread.total.Goals as goal

pub loop-k-preserved : goal.loop-k-preserved
loop-k-preserved c = total_more c.args.counts.now c.loop-k.k _ c.loop-k.sum c.loop-k.invariant c.word_in-sum.ensures

pub returns : goal.returns
returns c =
    let u : c.loop-k.k ≡ 29 = omega (arith, c.loop-k.auto, c.loop-k-test.false) in
    rw u at c.loop-k.invariant
