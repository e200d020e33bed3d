-- `decimal::scale::over_long` meets its contract.
use Rattle.std.proofs.Common.{refl}
use Rattle.decimal.proofs.Powers.{big_pos, over_both, even_both}
use Rattle.decimal.proofs.scale.over_long.Goals as goal

pub over_power-first-requires : goal.over_power-first-requires
over_power-first-requires c =
    (big_pos c.args.k c.args.big c.args.size c.args.n c.requires.2 c.requires.0, c.requires.3, c.requires.5)

pub returns : goal.returns
returns c =
    let s = c.over_power-first.ensures in
    let t = c.over_power-second.ensures in
    (over_both c.args.k c.args.big c.args.size c.args.n c.requires.2 c.requires.0 _ _ _ _ s.0 t.0, even_both c.args.k c.args.big c.args.size c.args.n c.requires.2 c.requires.0 _ _ _ _ _ _ s.0 s.1 t.1 refl)
