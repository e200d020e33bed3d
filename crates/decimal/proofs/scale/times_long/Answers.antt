-- `decimal::scale::times_long` meets its contract.
use Rattle.decimal.proofs.Powers.{big_pos, long_room, long_rest, times_both}
use Rattle.decimal.proofs.scale.times_long.Goals as goal

pub times_power-requires : goal.times_power-requires
times_power-requires c =
    (big_pos c.args.k c.args.big c.args.size c.args.n c.requires.2 c.requires.0, c.requires.3, c.requires.5, long_room c.args.k c.args.big c.args.size c.args.n c.requires.2 c.requires.0 _ _ c.requires.6)

pub times_power-requires-2 : goal.times_power-requires-2
times_power-requires-2 c =
    let t = c.times_power in
    (c.requires.0, c.requires.1, t.ensures.few, long_rest c.args.k c.args.big c.args.size c.args.n c.requires.2 c.requires.0 _ _ _ t.ensures c.requires.6)

pub returns : goal.returns
returns c =
    times_both c.args.k c.args.big c.args.size c.args.n c.requires.2 c.requires.0 _ _ _ _ c.times_power.ensures c.times_power-2.ensures
