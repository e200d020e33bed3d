-- A pass from its parts, over plain variables: what each call ensures is one hypothesis, and the definitions of stamping and solving stay shut. Assumes nothing.
use Prim.Native.Nat.{ℕ}
use mathlib.Core.Path.{◌≡◌, refl, sym, ap, ◌∙◌, subst}
use mathlib.Core.Bool.{Bool, true, false, cond, false≢true}
use mathlib.Core.List.{List, []}
use lib.ListN.{length, get_or}
use lib.Ieee.{Float, nan}
use borrow.Author.Tests.{ne_eqb, eqb-true, eqb-false, ltb-true}
use native.Mathlib.Omega.{arith}
use lib.Dec.{eqb, ltb}
use Rattle.loops.specs.Laws.Loop.{copied_same}
use Rattle.loops.specs.Loop.{copied}
use Rattle.convergence.specs.declared.Convergence.{Convergence}
use Rattle.convergence.specs.Convergence.{convergence_of}
use Rattle.steps.specs.declared.Counters.{Counters}
use Rattle.steps.specs.declared.Job.{Job}
use Rattle.steps.specs.declared.Report.{Report}
use Rattle.steps.specs.declared.Phase.TheVariants.{Dc}
use Rattle.steps.specs.Phases.{is_dc, is_transient}
use Rattle.steps.specs.Laws.Phases.{dc_phase, stepping}
use Rattle.steps.specs.Counters.{going}
use Rattle.steps.specs.Control.{report_of, waited, step_after}
use Rattle.behind.specs.Behind.{behind_number}
use Rattle.machine.specs.Laws.Budget.{pass_dc, pass_step}
use Rattle.groups.specs.declared.Pass.{Pass}
use Rattle.groups.specs.Sources.{Driven, driven_of}
use Rattle.groups.specs.Diodes.{stamped_of, diodes_of}
use Rattle.groups.specs.Storage.{taken_of}
use Rattle.groups.specs.Listed.{Listed}
use Rattle.groups.specs.Stamping.{linear_of, stamp_of}
use Rattle.groups.specs.Laws.Listed.{no_diodes}
use Rattle.groups.specs.Laws.Stamping.{diodes_leave}
use Rattle.groups.specs.Laws.Storage.{Currents, linear_same, no_diode}
use Rattle.solve.specs.Solve.{Solved, solved_as, solution, solve_of}
use Rattle.solve.specs.Laws.Solve.{solution-length, solves_whole}
use Rattle.machine.specs.State.{State, buffers_of, state_of, Tried, tried_of, Written, written_of}
use Rattle.machine.specs.Machine.{before, compared, tried, takes, took, landed, after, accepts, dc_pass, step_pass, pass}
use Rattle.passes.specs.Attempt.{Circuit, pass_of, attempt_of}
use Rattle.passes.specs.Laws.Attempt.{solved_memory}
use Rattle.passes.specs.Sized.{Square}
use Rattle.passes.specs.Again.{linear_at, failure_of, finished, bare, Holder, Holds, memory_after}
use Rattle.passes.specs.Done.{dc_done, step_done, Aftermath, aftermath_of, aftermath}
use Rattle.passes.specs.Run.{Renewed, renewed_of, renewed}

-- ---- solving, from its calls

module _ (j : Job) (r : ℕ) (first : Bool) (m x v m' x' v₁ v₂ : List Float) (q : Convergence) (p : Report) (z : Square (length v) (length m)) (lx : length x ≡ length v) where
  pub renews : solved_as r m' x' ≡ solve_of (length v) m x → v₁ ≡ before first v → length v₁ ≡ length v → q ≡ convergence_of x' v₁ j.nodes j.options → v₂ ≡ copied x' v₁ → p ≡ report_of q
      → renewed_of p v₂ ≡ renewed j first m v
  unfolding renewed
  renews solves cleared l checks copies reports =
      let w : x' ≡ solution (length v) m = ap (λ (s : Solved). s.vector) (solves ∙ solves_whole (length v) m x z.some z.small z.cells lx) in
      let s : copied x' v₁ ≡ x' = copied_same x' v₁ (ap length w ∙ (solution-length (length v) m ∙ sym l)) in
      rw (reports, checks, copies, s, cleared, w)

-- ---- an attempt, from its calls

-- stamping starts from a copy of the base, whatever stood in the matrix
pub linear_anew : (p : Pass) (sheet points : List ℕ) (base x y m : List Float) → length base ≡ length m → linear_of p sheet points base x y m ≡ linear_of p sheet points base x y base
unfolding linear_of
linear_anew p sheet points base x y m h = rw (copied_same base m h, copied_same base base refl)

-- a code that is 0
pub whole_code : (k : ℕ) (m : List Float) (l : Driven) → k ≡ 0 → driven_of k m ≡ l → driven_of 0 m ≡ l
whole_code k m l z e = ap (λ (n : ℕ). driven_of n m) (sym z) ∙ e

-- what an attempt leaves does not depend on the rows
any_rows : (k : Circuit) (j : Job) (c : Counters) (a b s v m w w' : List Float) → took (attempt_of k) j c a (buffers_of b s v m w) ≡ took (attempt_of k) j c a (buffers_of b s v m w')
unfolding took tried compared attempt_of
any_rows k j c a b s v m w w' = refl

module _ (k : Circuit) (c : Counters) (acc base sys vec mem : List Float) where
  abbrev whole : Tried
  whole = compared (attempt_of k) k.job c acc (buffers_of base sys vec mem [])

  -- the report on it, once it has waited
  pub waits : (r q : Report) (s v y : List Float) → tried_of r s v y ≡ whole → q ≡ waited k.job.options (behind_number k.job.options k.sheet v y) r
      → tried_of q s v y ≡ tried (attempt_of k) k.job c acc (buffers_of base sys vec mem [])
  unfolding tried compared attempt_of
  waits r q s v y e w =
      let o = k.job.options in
      rw w (ap (λ (t : Tried). tried_of (waited o (behind_number o k.sheet t.vector t.memory) t.report) t.system t.vector t.memory) e)

  -- once its vector is taken, or not
  pub takes_over : (r : Report) (s v y u : List Float) → k.order ≡ length v → tried_of r s v y ≡ tried (attempt_of k) k.job c acc (buffers_of base sys vec mem []) → u ≡ memory_after k.job r c k.sheet v y
      → tried_of r s v u ≡ took (attempt_of k) k.job c acc (buffers_of base sys vec mem [])
  unfolding took tried compared attempt_of memory_after
  takes_over r s v y u l e m =
      rw (m, ← l)
      (ap (λ (t : Tried). tried_of t.report t.system t.vector (cond (takes k.job c t.report) (taken_of (pass_of k.job k.order c) k.sheet t.vector t.memory) t.memory)) e)

  -- a sine ended it before the diodes
  pub unstamped : (code : ℕ) (m : List Float) → driven_of code m ≡ linear_at k c acc base mem → (code ≡ 0 → ⊥) → tried_of (failure_of code) sys vec mem ≡ whole
  unfolding compared attempt_of stamp_of failure_of
  unstamped code m e z = rw (← e, ne_eqb _ _ z, ne_eqb _ _ z, ne_eqb _ _ z)

  -- it came to the diodes
  pub stamped_first : (m : List Float) → driven_of 0 m ≡ linear_at k c acc base mem → length vec ≡ k.order → finished k.job c.first k.sheet m sys vec mem ≡ whole
  unfolding compared attempt_of stamp_of finished
  stamped_first m e l = rw (← e, l)

  module _ (places : List ℕ) (h : ℕ) (holder : Holder k.sheet places (length base) h) (free : bare h ≡ true) where
    -- where nothing is held there are no diodes
    unbiased : (n : ℕ) (x m y : List Float) → diodes_of k.job.options k.sheet n x m y ≡ stamped_of 0 m y
    unbiased n x m y =
        no_diodes k.job.options k.sheet places n x m y (subst (λ (i : ℕ). Listed k.sheet i places) (holder.none free).0 holder.listed) (holder.none free).1

    -- then the last pass's system and vector come again
    pub repeated : linear_at k c acc base mem ≡ driven_of 0 sys → vec ≡ solution k.order sys → c.first ≡ false → tried_of (report_of (convergence_of vec vec k.job.nodes k.job.options)) sys vec mem ≡ whole
    unfolding compared attempt_of stamp_of
    repeated e v f = rw (e, unbiased k.order vec sys mem, f, ← v)

    without_diodes : (m : List Float)
        → finished k.job c.first k.sheet m sys vec mem ≡ tried_of (report_of (convergence_of (solution (length vec) m) (before c.first vec) k.job.nodes k.job.options)) m (solution (length vec) m) mem
    unfolding finished
    without_diodes m = rw (unbiased (length vec) vec m mem)

  -- the diodes leave the inductors' currents
  currents_left : (r : Report) (m s v y : List Float) → tried_of r s v y ≡ finished k.job c.first k.sheet m sys vec mem → Currents k.sheet mem y
  unfolding finished
  currents_left r m s v y e i h =
      let o = k.job.options in
      let t = diodes_of o k.sheet (length vec) vec m mem in
      let q : y ≡ t.memory = ap (λ (t : Tried). t.memory) e ∙ solved_memory (length vec) t sys vec in
      sym (ap (λ (y : List Float). get_or y i nan) q ∙ diodes_leave o k.sheet (length vec) vec i (λ z. no_diode (sym h ∙ z)) m mem)

  -- what a pass from the matrix m on leaves for the next
  pub leaves : (places : List ℕ) (r : Report) (m held s v y : List Float) → Holder k.sheet places (length base) (length held) → length vec ≡ k.order → driven_of 0 m ≡ linear_at k c acc base mem
      → (bare (length held) ≡ false → held ≡ m) → tried_of r s v y ≡ finished k.job c.first k.sheet m sys vec mem → Holds k c acc base held s v y
  leaves places r m held s v y holder l d₀ p e =
      let d : driven_of 0 m ≡ linear_at k c acc base y = d₀ ∙ linear_same _ acc k.sheet mem y (currents_left r m s v y e) k.points base base in
      record {
        whole = λ h.
            let q = e ∙ without_diodes places (length held) holder h m in
            let s≡ : s ≡ m = ap (λ (t : Tried). t.system) q in
            (rw s≡ (sym d), rw (s≡, ← l) (ap (λ (t : Tried). t.vector) q));
        part = λ h. rw (p h) (sym d);
      }

-- the diodes, and what follows them, from their calls
module _ (j : Job) (first : Bool) (sheet : List ℕ) (m sys vec mem : List Float) (code : ℕ) (m' y : List Float) (e : stamped_of code m' y ≡ diodes_of j.options sheet (length vec) vec m mem) where
  pub finish_failed : (code ≡ 0 → ⊥) → tried_of (failure_of code) sys vec y ≡ finished j first sheet m sys vec mem
  unfolding finished failure_of
  finish_failed z = rw (← e, ne_eqb _ _ z, ne_eqb _ _ z)

  pub finish_solved : code ≡ 0 → (r : Report) (s v : List Float) → s ≡ m' → renewed_of r v ≡ renewed j first m' vec → tried_of r s v y ≡ finished j first sheet m sys vec mem
  unfolding finished renewed
  finish_solved z r s v p q = rw (← e, z, p) (ap (λ (x : Renewed). tried_of x.report m' x.vector y) q)

-- ---- a pass, from what was tried and what aftermath it

module _ (k : Circuit) (j : Job) (c w : Counters) (acc base sys vec mem rows : List Float) (r : Report) (s v y z : List Float) (e₀ : tried_of r s v y ≡ took (attempt_of k) j c acc (buffers_of base sys vec mem [])) where
  e : tried_of r s v y ≡ took (attempt_of k) j c acc (buffers_of base sys vec mem rows)
  e = e₀ ∙ any_rows k j c acc base sys vec mem [] rows

  pub dc_joins : written_of w z ≡ dc_done j r c v rows → state_of w acc (buffers_of base s v y z) ≡ dc_pass (attempt_of k) j (state_of c acc (buffers_of base sys vec mem rows))
  unfolding dc_pass dc_done
  dc_joins q = rw (← e) (ap (λ (x : Written). state_of x.counters acc (buffers_of base s v y x.rows)) q)

  pub step_joins : (a : List Float) → written_of w z ≡ step_done j r c v rows → a ≡ cond (accepts r) v acc
      → state_of w a (buffers_of base s v y z) ≡ step_pass (attempt_of k) j (state_of c acc (buffers_of base sys vec mem rows))
  unfolding step_pass step_done
  step_joins a q b = rw (← e, b) (go (accepts r) q)
    where
      t : State
      t = state_of c acc (buffers_of base sys vec mem rows)

      d : Counters
      d = step_after j.options r c

      go : (g : Bool) → written_of w z ≡ cond g (landed j.options d v rows) (written_of d rows)
          → state_of w (cond g v acc) (buffers_of base s v y z) ≡ cond g (after t v (tried_of r s v y) (landed j.options d v rows)) (after t acc (tried_of r s v y) (written_of d rows))
      go true q = ap (λ (x : Written). state_of x.counters v (buffers_of base s v y x.rows)) q
      go false q = ap (λ (x : Written). state_of x.counters acc (buffers_of base s v y x.rows)) q

  pub pass_joins : (a : List Float) → going c ≡ true → aftermath_of w a z ≡ aftermath j r c acc v rows
      → state_of w a (buffers_of base s v y z) ≡ pass (attempt_of k) j (state_of c acc (buffers_of base sys vec mem rows))
  unfolding aftermath
  pass_joins a live q = go (is_dc c.phase) refl q
    where
      go : (b : Bool) → is_dc c.phase ≡ b
          → aftermath_of w a z ≡ cond b (aftermath_of (dc_done j r c v rows).counters acc (dc_done j r c v rows).rows) (aftermath_of (step_done j r c v rows).counters (cond (accepts r) v acc) (step_done j r c v rows).rows)
          → state_of w a (buffers_of base s v y z) ≡ pass (attempt_of k) j (state_of c acc (buffers_of base sys vec mem rows))
      go true h q =
          let ea : a ≡ acc = ap (λ (x : Aftermath). x.accepted) q in
          rw ea (dc_joins (ap (λ (x : Aftermath). written_of x.counters x.rows) q) ∙ sym (pass_dc (attempt_of k) j (state_of c acc (buffers_of base sys vec mem rows)) (dc_phase _ h)))
      go false h q =
          let n : c.phase ≡ Dc → ⊥ = λ e. false≢true (sym h ∙ ap is_dc e) in
          step_joins a (ap (λ (x : Aftermath). written_of x.counters x.rows) q) (ap (λ (x : Aftermath). x.accepted) q)
          ∙ sym (pass_step (attempt_of k) j (state_of c acc (buffers_of base sys vec mem rows)) n (stepping c.phase live n))
