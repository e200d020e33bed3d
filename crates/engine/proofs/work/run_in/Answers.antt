-- `engine::work::run_in` meets its contract.
use Prim.Native.Nat.{ℕ, ◌≤◌}
use mathlib.Core.Path.{◌≡◌, sym, ap, ◌∙◌}
use mathlib.Core.List.{List}
use native.Mathlib.Omega.{arith}
use borrow.Author.Rules.{rules}
use lib.ListN.{length, take}
use lib.Seq.{length-take-le}
use lib.Ieee.{Float}
use Rattle.steps.specs.declared.Counters.{Counters}
use Rattle.machine.specs.State.{buffers_of, State, state_of}
use Rattle.passes.specs.Attempt.{Circuit, circuit_of}
use Rattle.passes.specs.declared.Buffers.{Buffers as Lent}
use Rattle.passes.specs.Lent.{buffers_in}
use Rattle.engine.specs.Work.{behind_in, handover_of, handover}
use Rattle.engine.proofs.Whole.{based}
use Rattle.engine.proofs.work.run_in.Goals as goal

part : (a : List Float) (n : ℕ) → n ≤ 48 → length a ≡ 48 → length (take n a) ≡ n
part a n h l = length-take-le n a (omega arith)

-- what is handed over, from the state in which the run ends
handed : (k : Circuit) (c : Counters) (b : ℕ) (a : List Float) (w : Lent) (base system vector memory rows : List Float) (s : State)
    → base ≡ w.base.now → system ≡ w.system.now → vector ≡ w.vector.now → memory ≡ w.memory.now
    → b ≡ behind_in k.job.options k.sheet (buffers_in w rows) → state_of c a (buffers_in w rows) ≡ s → handover_of c b (buffers_of base system vector memory rows) ≡ handover k s
handed k c b a w base system vector memory rows s p q r t h e = rw (p, q, r, t) (ap (λ (n : ℕ). handover_of c n (buffers_in w rows)) h ∙ ap (handover k) e)

pub slice_bounds-work-end : goal.slice_bounds-work-end
slice_bounds-work-end c = sym (part _ _ c.requires.small c.cells-a.ensures.0)

pub work-counters-requires : goal.work-counters-requires
work-counters-requires c = record { fit = rw c.stamp_base.auto.base c.requires; accepted_len = part _ _ c.requires.small c.cells-a.ensures.0; stamped = c.stamp_base.ensures ∙ based _ _ _ _ c.requires.bases }

pub returns : goal.returns
returns c =
    let a = c.args in
    let k = circuit_of a.k.job (length a.vector.now) a.k.sheet.now a.k.points.now in
    handed k _ _ _ c.work-counters.new.w _ _ _ _ _ _ (search rules) (search rules) (search rules) (search rules) c.behind_in-behind.ensures c.work-counters.ensures.all
