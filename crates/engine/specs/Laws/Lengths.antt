-- What a run keeps of the buffers it is lent: base, system, vector and memory stay as long as they are, and the memory of a record that is neither diode nor inductor is never touched. Clients cite Own, Held, last_held and base_long. Assumes nothing.
use Prim.Native.Nat.{ℕ, zero, suc, ◌+◌, ◌*◌}
use Rattle.std.specs.Prelude.{◌≡◌, refl, Bool, cond, List, eqb, get_or, set, take, Float}
use Rattle.std.proofs.Common.{ap, ◌∙◌, length-set, get_or-set_other, ne_eqb}
use Rattle.std.proofs.Math.Bool.{true, false}
use Rattle.std.proofs.lemmas.Bool.{false≢true}
use Rattle.std.proofs.Math.ListN.{length}
use Rattle.std.proofs.lemmas.List.{length-replicate}
use Rattle.std.specs.Float.{nan}
use Rattle.numbers.specs.Kinds.{diode, inductor}
use Rattle.num.specs.Floats.{nought}
use Rattle.loops.specs.Loop.{zeros_like}
use Rattle.loops.specs.Laws.Loop.{turns_inv}
use Rattle.sheet.specs.Record.{kind_at}
use Rattle.checks.specs.Checks.{order, cells, records}
use Rattle.stamps.specs.Laws.Write.{stamped-length}
use Rattle.groups.specs.Plain.{based_on}
use Rattle.groups.specs.Stamping.{base_of, stamp_of}
use Rattle.groups.specs.Laws.Stamping.{fine, memory_stays}
use Rattle.groups.specs.Laws.Storage.{taken-length, taken_elsewhere}
use Rattle.steps.specs.declared.Counters.{Counters}
use Rattle.steps.specs.Phases.{is_dc, is_transient}
use Rattle.steps.specs.declared.Job.{Job}
use Rattle.groups.specs.declared.Pass.{Pass}
use Rattle.machine.specs.State.{Buffers, buffers_of, State, Solved}
use Rattle.machine.specs.Machine.{compared, tried, took, tried_by, accepts, dc_pass, step_pass, pass, run_for}
use Rattle.machine.proofs.Laws.Taken.{holds_of_both}
use Rattle.passes.specs.Attempt.{Circuit, pass_of, attempt_of}
use Rattle.passes.specs.Laws.Attempt.{steady, attempt_memory}
use Rattle.engine.specs.Begin.{remembers, forget_at, forgotten}
use Rattle.engine.specs.Work.{zeros, base_on, start_of, end_of}
use Rattle.engine.specs.Engine.{Call, sizes, circuit, last_of}

-- a memory as long as y, in which every record of the sheet that is neither a diode nor an inductor has the float that it has in y
pub record Own (sheet : List ℕ) (y m : List Float) : Type 0 where
  pub long : length m ≡ length y
  pub others : (i : ℕ) → (kind_at sheet i ≡ diode → ⊥) → (kind_at sheet i ≡ inductor → ⊥) → get_or m i nan ≡ get_or y i nan

-- a base and a system of N rows of N + 1, a vector of N, and such a memory
pub record Held (k : Circuit) (y : List Float) (x : Buffers) : Type 0 where
  pub base : length x.base ≡ k.order * (k.order + 1)
  pub system : length x.system ≡ k.order * (k.order + 1)
  pub vector : length x.vector ≡ k.order
  pub memory : Own k.sheet y x.memory

module _ (k : Circuit) (y : List Float) where
  abbrev Holds : Buffers → Type 0
  Holds = Held k y

  abbrev n : ℕ
  n = k.order * (k.order + 1)

  -- ---- an attempt

  module _ (c : Counters) (a : List Float) (x : Buffers) (h : Holds x) where
    attempt_system : length (attempt_of k c a x).system ≡ n
    unfolding attempt_of
    attempt_system =
        let p = pass_of k.job k.order c in
        go (eqb (stamp_of k.job.options p k.sheet k.points x.base a x.vector x.memory x.base).code 0) _ _
        ((fine k.job.options p k.sheet k.points x.base a x.vector x.memory x.base).matrix_length ∙ h.base) h.system
      where
        go : (b : Bool) (u v : Solved) → length u.system ≡ n → length v.system ≡ n → length (cond b u v).system ≡ n
        go true u v p q = p
        go false u v p q = q

    attempt_own : Own k.sheet y (attempt_of k c a x).memory
    attempt_own = rw (attempt_memory k c a x) kept
      where
        p : Pass
        p = pass_of k.job k.order c

        kept : Own k.sheet y (stamp_of k.job.options p k.sheet k.points x.base a x.vector x.memory x.base).memory
        kept =
            record {
              long = (fine k.job.options p k.sheet k.points x.base a x.vector x.memory x.base).memory_length ∙ h.memory.long;
              others = λ i o q. memory_stays k.job.options p k.sheet k.points x.base a x.vector x.memory x.base i o ∙ h.memory.others i o q;
            }

    -- and so do the currents that inductors take
    attempt_taken : Own k.sheet y (attempt_of k c a x).taken
    unfolding attempt_of
    attempt_taken =
        let z = attempt_of k c a x in
        let p = pass_of k.job k.order c in
        record {
          long = taken-length p k.sheet z.vector z.memory ∙ attempt_own.long;
          others = λ i o q. taken_elsewhere p k.sheet z.vector i q z.memory ∙ attempt_own.others i o q;
        }

  -- ---- a pass, and a run

  module _ (j : Job) where
    tried_held : (s : State) (r : List Float) → Holds s.buffers → Holds (buffers_of s.buffers.base (tried_by (attempt_of k) j s).system (tried_by (attempt_of k) j s).vector (tried_by (attempt_of k) j s).memory r)
    unfolding took tried compared
    tried_held s r h =
        record {
          base = h.base;
          system = attempt_system s.counters s.accepted s.buffers h;
          vector = steady k s.counters s.accepted s.buffers h.vector;
          memory = holds_of_both (attempt_of k) j s (Own k.sheet y) (attempt_own s.counters s.accepted s.buffers h) (attempt_taken s.counters s.accepted s.buffers h);
        }

    pass_held : (s : State) → Holds s.buffers → Holds (pass (attempt_of k) j s).buffers
    unfolding pass dc_pass step_pass
    pass_held s h = go (is_dc s.counters.phase) (is_transient s.counters.phase)
      where
        either : (b : Bool) (u v : State) → Holds u.buffers → Holds v.buffers → Holds (cond b u v).buffers
        either true u v p q = p
        either false u v p q = q

        go : (p q : Bool) → Holds (cond p (dc_pass (attempt_of k) j s) (cond q (step_pass (attempt_of k) j s) s)).buffers
        go true q = tried_held s _ h
        go false true = either (accepts (tried_by (attempt_of k) j s).report) _ _ (tried_held s _ h) (tried_held s _ h)
        go false false = h

    run_held : (b : ℕ) (s : State) → Holds s.buffers → Holds (run_for (attempt_of k) j b s).buffers
    unfolding run_for
    run_held zero s h = h
    run_held (suc b) s h = run_held b (pass (attempt_of k) j s) (pass_held s h)

-- ---- a call

-- the base matrix has N rows of N + 1
pub base_long : (nodes n : ℕ) (sheet : List ℕ) → length (base_on nodes n sheet) ≡ n * (n + 1)
unfolding base_of based_on
base_long nodes n sheet = stamped-length n _ (zeros_like (zeros (n * (n + 1)))) ∙ (length-replicate (length (zeros (n * (n + 1)))) nought ∙ length-replicate (n * (n + 1)) nought)

-- a record of another kind remembers nothing
other_forgets_none : (sheet : List ℕ) (i : ℕ) → (kind_at sheet i ≡ diode → ⊥) → (kind_at sheet i ≡ inductor → ⊥) → remembers (kind_at sheet i) ≡ true → ⊥
other_forgets_none sheet i o r e = false≢true (rw (ne_eqb _ _ o, ne_eqb _ _ r) at e)

-- as a run begins only the memory of diodes and inductors is put to 0.0
forgotten_own : (sheet : List ℕ) (y : List Float) → Own sheet y (forgotten sheet y)
unfolding forgotten
forgotten_own sheet y =
    turns_inv (Own sheet y) (forget_at sheet) (length y) y (record { long = refl; others = λ i o q. refl })
    (λ i l m h. forget (remembers (kind_at sheet i)) i m refl h)
  where
    forget : (b : Bool) (i : ℕ) (m : List Float) → remembers (kind_at sheet i) ≡ b → Own sheet y m → Own sheet y (cond b (set m i nought) m)
    forget true i m e h =
        record {
          long = length-set m i nought ∙ h.long;
          others = λ j o r. get_or-set_other m i j nought nan (λ q. other_forgets_none sheet j o r (ap (λ (n : ℕ). remembers (kind_at sheet n)) q ∙ e)) ∙ h.others j o r;
        }
    forget false i m e h = h

-- so it is where a run ends
pub last_held : (c : Call) → Held (circuit c) (take (records (sizes c)) c.lent.memory) (last_of c).buffers
unfolding end_of
last_held c =
    let y = take (records (sizes c)) c.lent.memory in
    run_held (circuit c) y c.job c.job.options.budget (start_of (circuit c) y c.lent.rows)
    (record {
      base = base_long c.job.nodes (order (sizes c)) c.sheet;
      system = length-replicate (cells (sizes c)) nought;
      vector = length-replicate (order (sizes c)) nought;
      memory = forgotten_own c.sheet y;
    })
