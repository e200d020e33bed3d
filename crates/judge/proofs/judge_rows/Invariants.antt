-- The invariant of `judge::judge_rows`: the rows that are left say the same as all of them.
use mathlib.Core.Path.{◌≡◌}
use Prim.Native.Nat.{◌-◌, ◌≤◌}
use Rattle.judge.specs.Judge.{holds, named}
use Rattle.judge.proofs.judge_rows.Given as goal

abbrev pub invariant-loop-i : goal.invariant-loop-i
invariant-loop-i l = (l.i ≤ l.n) × (named (holds l.n l.m l.x l.t) (l.n - l.i) l.i ≡ named (holds l.n l.m l.x l.t) l.n 0)
