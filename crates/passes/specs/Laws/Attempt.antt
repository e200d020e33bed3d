-- N unknowns stay N, whatever is stamped; and an attempt leaves the memory that was stamped, solved or not. Clients cite steady, solved_memory and attempt_memory. Assumes nothing.
use Rattle.std.specs.Prelude.{ℕ, ◌≡◌, refl, Bool, true, false, cond, eqb, List, length, Float}
use Rattle.groups.specs.Diodes.{Stamped}
use Rattle.groups.specs.Stamping.{stamp_of}
use Rattle.solve.specs.Laws.Solve.{solution-length}
use Rattle.machine.specs.State.{Solved, Buffers}
use Rattle.machine.proofs.Laws.Rows.{Steady}
use Rattle.steps.specs.declared.Counters.{Counters}
use Rattle.passes.specs.Attempt.{Circuit, pass_of, solved_from, attempt_of}

pub steady : (k : Circuit) → Steady k.order (attempt_of k)
unfolding attempt_of
steady k c a x h =
    go (eqb (stamp_of k.job.options (pass_of k.job k.order c) k.sheet k.points x.base a x.vector x.memory x.base).code 0) _ _ (solution-length k.order _) h
  where
    go : (b : Bool) (y z : Solved) → length y.vector ≡ k.order → length z.vector ≡ k.order → length (cond b y z).vector ≡ k.order
    go true y z p q = p
    go false y z p q = q

pub solved_memory : (n : ℕ) (t : Stamped) (system vector : List Float) → (solved_from n t system vector).memory ≡ t.memory
solved_memory n t system vector = go (eqb t.code 0) _ _ refl refl
  where
    go : (b : Bool) (y z : Solved) → y.memory ≡ t.memory → z.memory ≡ t.memory → (cond b y z).memory ≡ t.memory
    go true y z p q = p
    go false y z p q = q

pub attempt_memory : (k : Circuit) (c : Counters) (a : List Float) (x : Buffers)
    → (attempt_of k c a x).memory ≡ (stamp_of k.job.options (pass_of k.job k.order c) k.sheet k.points x.base a x.vector x.memory x.base).memory
unfolding attempt_of
attempt_memory k c a x =
    solved_memory k.order (stamp_of k.job.options (pass_of k.job k.order c) k.sheet k.points x.base a x.vector x.memory x.base) x.system x.vector
