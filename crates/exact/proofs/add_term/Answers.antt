-- `exact::add_term` meets its contract.
use Rattle.exact.proofs.Room.{roomy}
use Rattle.exact.proofs.Terms.{alike, different}
use Rattle.exact.proofs.add_term.Goals as goal

pub add_size-requires : goal.add_size-requires
add_size-requires c = (c.parts_of-p.ensures.1, c.parts_of-q.ensures.1, roomy c.args.plus.now c.requires.2)

pub add_size-requires-else-p-q : goal.add_size-requires-else-p-q
add_size-requires-else-p-q c = (c.parts_of-p.ensures.1, c.parts_of-q.ensures.1, roomy c.args.minus.now c.requires.3)

pub returns-then-p-q : goal.returns-then-p-q
returns-then-p-q c =
    let p = c.parts_of-p.ensures in
    let q = c.parts_of-q.ensures in
    alike c.args.x c.args.y _ _ _ _ _ _ _ _ c.args.minus.now p.2 q.2 p.0 q.0 c.add_size.ensures c.if-p-q.true

pub returns-else-p-q : goal.returns-else-p-q
returns-else-p-q c =
    let p = c.parts_of-p.ensures in
    let q = c.parts_of-q.ensures in
    different c.args.x c.args.y _ _ _ _ _ _ _ _ c.args.plus.now p.2 q.2 p.0 q.0 c.add_size-else-p-q.ensures c.if-p-q.false
