-- `groups::storage::take_currents` meets its contract: the records passed have taken their currents. Assumes nothing.
use borrow.Author.Rules.{rules}
use Prim.Native.Nat.{ℕ}
use mathlib.Core.Path.{ap, ◌∙◌}
use Rattle.numbers.specs.Kinds.{inductor}
use Rattle.loops.specs.Loop.{turns}
use Rattle.loops.specs.Laws.Loop.{more, done}
use Rattle.groups.specs.Records.{on_record}
use Rattle.groups.specs.Storage.{with_current, with_current_at, taken_of}
use Rattle.groups.specs.Laws.Passing.{in_group}
use Rattle.groups.specs.Laws.Quiet.{quiet_currents}
use Rattle.groups.proofs.storage.take_currents.Goals as goal

pub loop-i-preserved : goal.loop-i-preserved
loop-i-preserved c =
    let a = c.args in
    let l = c.loop-i in
    let f = with_current a.p a.v.now l.i l.memory in
    let g = in_group inductor inductor a.sheet.now l.i f l.memory (quiet_currents a.p a.v.now l.i l.memory) in
    (search rules, search rules, c.take_one.ensures ∙ (ap (on_record f l.memory) (rw c.number.ensures at c.record_of-d.ensures) ∙ (g ∙ more _ _ _ l.i l.invariant.2)))

pub returns : goal.returns
unfolding taken_of
returns c =
    let a = c.args in
    let l = c.loop-i in
    done _ _ _ l.i _ l.invariant.0 c.loop-i-test.false l.invariant.2 ∙ ap (λ (k : ℕ). turns k (with_current_at a.p a.sheet.now a.v.now) a.memory.now) c.records-count.ensures
