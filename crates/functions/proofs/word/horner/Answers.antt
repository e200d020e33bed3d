-- `functions::word::horner` meets its contract: what is left of the words, worked out from here on, is the whole sum. Assumes nothing.
use Rattle.std.proofs.Common.{◌≡◌, sym, ◌∙◌, arith}
use Rattle.functions.proofs.Back.{added, back-push, back_none, back_horner, falls_to_zero, last_falls}
use Rattle.functions.proofs.word.horner.Goals as goal

pub loop-c-init : goal.loop-c-init
loop-c-init g c =
    let e : c.into_iter-c-iterator.result.iter.rest.now ≡ c.args.words.now = cc in
    rw e (back_horner _ _, falls_to_zero _ _ c.requires.falls)

pub next-a-requires : goal.next-a-requires
next-a-requires g c = ((last_falls _ _ _ 0 (rw c.in-Some.ensures.steps at c.loop-c.invariant.1)).1, c.requires.within)

pub loop-c-preserved : goal.loop-c-preserved
loop-c-preserved g c =
    let i = c.loop-c.invariant in (
      rw c.next-a.ensures (sym (back-push (added c.args.y) c.next.new.self.iter.rest.now c.in-Some.field-0.now c.loop-c.a) ∙ (rw c.in-Some.ensures.steps at i.0)),
      (last_falls _ _ _ 0 (rw c.in-Some.ensures.steps at i.1)).2 0 (omega arith),
    )

pub returns : goal.returns
returns g c = sym (back_none (added c.args.y) _ _ c.in-None.ensures.steps.0) ∙ c.loop-c.invariant.0
