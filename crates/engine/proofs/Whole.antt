-- The work from its two halves: what the beginning leaves, and the run from there. Assumes nothing.
use Prim.Native.Nat.{ℕ, ◌+◌, ◌*◌}
use mathlib.Core.Path.{◌≡◌, ap, ◌∙◌}
use mathlib.Core.Bool.{true}
use mathlib.Core.List.{List, []}
use lib.ListN.{length, length-replicate}
use lib.Ieee.{Float}
use Rattle.num.specs.Floats.{nought}
use Rattle.loops.specs.Loop.{zeros_like}
use Rattle.groups.specs.Stamping.{base_of}
use Rattle.steps.specs.declared.Job.{Job}
use Rattle.steps.specs.Counters.{started}
use Rattle.machine.specs.State.{State, buffers_of, state_of}
use Rattle.passes.specs.Sized.{fits}
use Rattle.passes.specs.Laws.Sized.{sized_fits}
use Rattle.passes.specs.Attempt.{circuit_of}
use Rattle.passes.specs.Run.{run_on}
use Rattle.engine.specs.Begin.{forgotten}
use Rattle.engine.specs.Work.{Fit, zeros, base_on, end_of}

-- the base depends on the length of what it is made in alone
pub based : (nodes n : ℕ) (sheet : List ℕ) (b : List Float) → length b ≡ n * (n + 1) → base_of nodes n sheet b ≡ base_on nodes n sheet
unfolding base_of
based nodes n sheet b h = rw (h, length-replicate)

module _ (j : Job) (sheet points : List ℕ) (b₀ a₀ s₀ v₀ m₀ rows b a s v m : List Float) (elimination : ℕ) (t : State) where
  pub worked : state_of started a (buffers_of b s v m []) ≡ state_of started (zeros_like a₀) (buffers_of b₀ (zeros_like s₀) (zeros_like v₀) (forgotten sheet m₀) [])
      → t ≡ run_on elimination (circuit_of j (length v) sheet points) (state_of started a (buffers_of b s v m rows))
      → b₀ ≡ base_on j.nodes (length v₀) sheet → length a₀ ≡ length v₀ → Fit (length v₀) (length b₀) elimination (length s₀)
      → t ≡ end_of (circuit_of j (length v₀) sheet points) m₀ rows
  unfolding run_on end_of
  worked e q sb la f =
      let n = length v₀ in
      let eb : b ≡ base_on j.nodes n sheet = ap (λ (z : State). z.buffers.base) e ∙ sb in
      let ea : a ≡ zeros n = rw la at (ap (λ (z : State). z.accepted) e) in
      let es : s ≡ zeros (n * (n + 1)) = rw f.systems at (ap (λ (z : State). z.buffers.system) e) in
      let ev : v ≡ zeros n = ap (λ (z : State). z.buffers.vector) e in
      let em : m ≡ forgotten sheet m₀ = ap (λ (z : State). z.buffers.memory) e in
      let lv : length v ≡ n = ap length ev ∙ length-replicate n nought in
      let fine : fits n (length a) (length b) elimination (length s) ≡ true =
      sized_fits n (length a) (length b) elimination (length s)
      (record { some = f.some; small = f.small; vectors = ap length ea ∙ length-replicate n nought; bases = ap (λ (z : State). length z.buffers.base) e ∙ f.bases; works = f.works; systems = ap length es ∙ length-replicate (n * (n + 1)) nought }) in
      let q₁ = rw (lv, fine) at q in
      rw (eb, ea, es, ev, em) at q₁
