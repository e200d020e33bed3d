-- Why a settled job is not sound, where its run's own number does not say it: these go on after the verdicts.
use Rattle.std.specs.Prelude.{ℕ}

-- a diode is behind
abbrev pub behind : ℕ
behind = 27

-- the judge rejects its vector
abbrev pub rejected : ℕ
rejected = 28
