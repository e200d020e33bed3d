-- Every float of a job's vector is one that binary64 holds: each unknown that is solved is rounded, and the rest are zeros. Clients cite single_fits. Assumes nothing.
use Prim.Native.Nat.{ℕ, zero, suc, ◌+◌, ◌-◌}
use Rattle.std.specs.Prelude.{Bool, cond, List, [], ◌∷◌, ◌++◌, T, eqb, length, get_or, set, take, drop, Float}
use Rattle.std.proofs.Math.Bool.{true, false}
use Rattle.std.specs.Float.{nan, binary64}
use Rattle.std.specs.Float.Ieee.{fits, sub, div}
use Rattle.std.specs.Float.Ieee.Bits.{of_bits-fits}
use Rattle.std.specs.Float.Ieee.Fits.{cond-fits, nan-fits, div-fits}
use Rattle.std.specs.Float.Ieee.Scale.{finite}
use Rattle.num.specs.Floats.{nought}
use Rattle.num.specs.Lists.{«at»}
use Rattle.loops.specs.Loop.{zeros_like}
use Rattle.loops.specs.Laws.Loop.{down_inv}
use Rattle.options.specs.declared.Options.{Options}
use Rattle.solve.specs.Solve.{row_start, eliminated, dot, unknown, last_unknown, back_one, substituted, solution}
use Rattle.groups.specs.Stamping.{stamp_of}
use Rattle.checks.specs.Checks.{order, records}
use Rattle.steps.specs.declared.Counters.{Counters}
use Rattle.steps.specs.declared.Job.{Job}
use Rattle.steps.specs.Phases.{is_dc, is_transient}
use Rattle.machine.specs.State.{Buffers, State, Solved}
use Rattle.machine.specs.Machine.{compared, tried, took, tried_by, accepts, dc_pass, step_pass, pass, run_for}
use Rattle.passes.specs.Attempt.{Circuit, pass_of, attempt_of}
use Rattle.engine.specs.Work.{zeros, start_of, end_of}
use Rattle.engine.specs.Engine.{Call, sizes, circuit, last_of}
use Rattle.single.specs.Single.{Single, fresh, job_call, single}
use Rattle.single.specs.Laws.Alone.{last, by_check}

-- every number of x
abbrev AllFit : List Float → Type 0
AllFit x = (i : ℕ) → T (fits binary64 (get_or x i nan))

-- ---- lists

zero_fits : T (fits binary64 nought)
zero_fits = of_bits-fits binary64 0

zeros_fit : (k : ℕ) → AllFit (zeros k)
zeros_fit zero i = nan-fits binary64
zeros_fit (suc k) zero = zero_fits
zeros_fit (suc k) (suc i) = zeros_fit k i

set_fits : (x : List Float) (k : ℕ) (v : Float) → T (fits binary64 v) → AllFit x → AllFit (set x k v)
set_fits [] k v f p i = nan-fits binary64
set_fits (y ∷ x) zero v f p zero = f
set_fits (y ∷ x) zero v f p (suc i) = p (suc i)
set_fits (y ∷ x) (suc k) v f p zero = p 0
set_fits (y ∷ x) (suc k) v f p (suc i) = set_fits x k v f (λ j. p (suc j)) i

append_fits : (x y : List Float) → AllFit x → AllFit y → AllFit (x ++ y)
append_fits [] y p q i = q i
append_fits (v ∷ x) y p q zero = p 0
append_fits (v ∷ x) y p q (suc i) = append_fits x y (λ j. p (suc j)) q i

drop_fits : (k : ℕ) (x : List Float) → AllFit x → AllFit (drop k x)
drop_fits zero x p i = p i
drop_fits (suc k) [] p i = nan-fits binary64
drop_fits (suc k) (v ∷ x) p i = drop_fits k x (λ j. p (suc j)) i

-- ---- a solution

last_one : (n : ℕ) (m : List Float) → T (fits binary64 (last_unknown (row_start n) n m))
unfolding last_unknown
last_one n m =
    let q = div binary64 («at» m (row_start n (n - 1) + n)) («at» m (row_start n (n - 1) + (n - 1))) in
    cond-fits binary64 (finite q) q nought (div-fits binary64 _ _) zero_fits

each_one : (n i : ℕ) (m x : List Float) → T (fits binary64 (unknown (row_start n) n m x i))
unfolding unknown
each_one n i m x = div-fits binary64 (sub binary64 («at» m (row_start n i + n)) (dot (row_start n) n m x i)) («at» m (row_start n i + i))

solution_fits : (n : ℕ) (m : List Float) → AllFit (solution n m)
unfolding solution substituted
solution_fits n m =
    let e = eliminated n m in
    down_inv AllFit (back_one (row_start n) n e) (n - 2) (set (zeros n) (n - 1) (last_unknown (row_start n) n e))
    (set_fits (zeros n) (n - 1) (last_unknown (row_start n) n e) (last_one n e) (zeros_fit n))
    (λ i l x p. set_fits x (i + 1) (unknown (row_start n) n e x (i + 1)) (each_one n (i + 1) e x) p)

-- ---- a run

attempt_fits : (k : Circuit) (c : Counters) (a : List Float) (x : Buffers) → AllFit x.vector → AllFit (attempt_of k c a x).vector
unfolding attempt_of
attempt_fits k c a x p =
    go (eqb (stamp_of k.job.options (pass_of k.job k.order c) k.sheet k.points x.base a x.vector x.memory x.base).code 0) _ _ (solution_fits k.order _) p
  where
    go : (b : Bool) (y z : Solved) → AllFit y.vector → AllFit z.vector → AllFit (cond b y z).vector
    go true y z p q = p
    go false y z p q = q

module _ (k : Circuit) (j : Job) where
  tried_fits : (s : State) → AllFit s.buffers.vector → AllFit (tried_by (attempt_of k) j s).vector
  unfolding took tried compared
  tried_fits s p = attempt_fits k s.counters s.accepted s.buffers p

  pass_fits : (s : State) → AllFit s.buffers.vector → AllFit (pass (attempt_of k) j s).buffers.vector
  unfolding pass dc_pass step_pass
  pass_fits s p = go (is_dc s.counters.phase) (is_transient s.counters.phase)
    where
      either : (b : Bool) (x y : State) → AllFit x.buffers.vector → AllFit y.buffers.vector → AllFit (cond b x y).buffers.vector
      either true x y p q = p
      either false x y p q = q

      go : (a b : Bool) → AllFit (cond a (dc_pass (attempt_of k) j s) (cond b (step_pass (attempt_of k) j s) s)).buffers.vector
      go true b = tried_fits s p
      go false true = either (accepts (tried_by (attempt_of k) j s).report) _ _ (tried_fits s p) (tried_fits s p)
      go false false = p

  run_fits : (n : ℕ) (s : State) → AllFit s.buffers.vector → AllFit (run_for (attempt_of k) j n s).buffers.vector
  unfolding run_for
  run_fits zero s p = p
  run_fits (suc n) s p = run_fits n (pass (attempt_of k) j s) (pass_fits s p)

last_fits : (c : Call) → AllFit (last_of c).buffers.vector
unfolding end_of
last_fits c =
    run_fits (circuit c) c.job c.job.options.budget (start_of (circuit c) (take (records (sizes c)) c.lent.memory) c.lent.rows) (zeros_fit (order (sizes c)))

-- ---- a job by itself

pub single_fits : (o : Options) (nodes sources : ℕ) (sheet points : List ℕ) (u : ℕ) → T (fits binary64 (get_or (single o nodes sources sheet points).vector u nan))
unfolding single
single_fits o nodes sources sheet points =
    let c = job_call o nodes sources sheet points in
    let v = c.lent.vector in
    by_check c (λ (x : Single). AllFit x.vector)
    (λ q. append_fits (last c).buffers.vector (drop (order (sizes c)) (zeros_like v)) (last_fits (fresh c)) (drop_fits (order (sizes c)) (zeros_like v) (zeros_fit (length v))))
    (λ f q. zeros_fit (length v))
