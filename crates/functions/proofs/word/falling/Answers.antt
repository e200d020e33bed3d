-- `functions::word::falling` meets its contract: what is left of the words, worked out from here on, is the whole sum. Assumes nothing.
use Rattle.std.proofs.Common.{◌≡◌, sym, ◌∙◌}
use Rattle.functions.proofs.Back.{taken, back-push, back_none, back_falling, falls_to_zero, last_falls}
use Rattle.functions.proofs.word.falling.Goals as goal

pub loop-c-init : goal.loop-c-init
loop-c-init g c =
    let e : c.into_iter-c-iterator.result.iter.rest.now ≡ c.args.words.now = cc in
    rw e (back_falling _ _, falls_to_zero _ _ c.requires)

pub less-a-requires : goal.less-a-requires
less-a-requires g c = (last_falls _ _ _ _ (rw c.in-Some.ensures.steps at c.loop-c.invariant.1)).0

pub loop-c-preserved : goal.loop-c-preserved
loop-c-preserved g c =
    let i = c.loop-c.invariant in (
      rw c.less-a.ensures.0 (sym (back-push (taken c.args.y) c.next.new.self.iter.rest.now c.in-Some.field-0.now c.loop-c.a) ∙ (rw c.in-Some.ensures.steps at i.0)),
      (last_falls _ _ _ _ (rw c.in-Some.ensures.steps at i.1)).2 c.less-a.result c.less-a.ensures.1,
    )

pub returns : goal.returns
returns g c = sym (back_none (taken c.args.y) _ _ c.in-None.ensures.steps.0) ∙ c.loop-c.invariant.0
