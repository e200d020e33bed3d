-- What holds at the head of the loop over the jobs: the first i of them have run, and the scratch buffers have kept their lengths. Assumes nothing.
use Prim.Native.Nat.{ℕ, ◌+◌, ◌*◌, ◌≤◌, ◌<◌}
use mathlib.Core.Path.{◌≡◌, refl, ap, ◌∙◌}
use mathlib.Core.List.{List}
use native.Mathlib.Omega.{arith}
use lib.ListN.{length, drop, set, length-set}
use native.Mathlib.Nat.{zero-mul}
use lib.Ieee.{Float}
use Rattle.options.specs.declared.Options.{Options}
use Rattle.single.specs.declared.Mark.{Mark}
use Rattle.spreads.specs.Runs.{job_at, sheet_at, ResultRoom, ScratchRoom, entry_of, entry_at, table_of, table_after}
use Rattle.single.specs.Laws.Promises.{single-length}
use Rattle.spreads.specs.Laws.Runs.{one_more_lem}

module _ (o : Options) (nodes sources bytes jobs : ℕ) (sheets points : List ℕ) (v₀ : List Float) (ns₀ ps₀ qs₀ : List ℕ) where
  pub record Turn (base system elimination memory : ℕ) (v : List Float) (ns ps qs : List ℕ) (i : ℕ) : Type 0 where
    pub below : i ≤ jobs
    pub sized : ScratchRoom bytes (nodes + sources) base system elimination memory
    pub «vector-length» : length v ≡ length v₀
    pub «number-length» : length ns ≡ length ns₀
    pub «place-length» : length ps ≡ length ps₀
    pub «pass-length» : length qs ≡ length qs₀
    pub ran : table_of v ns ps qs ≡ table_after (job_at o nodes sources bytes sheets points) (nodes + sources) i v₀ ns₀ ps₀ qs₀

  -- before the first turn
  pub begun : (b s e y : ℕ) → ScratchRoom bytes (nodes + sources) b s e y → Turn b s e y v₀ ns₀ ps₀ qs₀ 0
  begun b s e y z =
      let f : drop (0 * (nodes + sources)) v₀ ≡ v₀ = ap (λ (k : ℕ). drop k v₀) (zero-mul (nodes + sources)) in
      record { below = omega arith; sized = z; «vector-length» = refl; «number-length» = refl; «place-length» = refl; «pass-length» = refl; ran = rw f }

  -- one turn
  pub turned : (b s e y b' s' e' y' i : ℕ) (v v' : List Float) (ns ps qs : List ℕ) (m : Mark) → Turn b s e y v ns ps qs i → i < jobs
      → ResultRoom jobs bytes (nodes + sources) (length sheets) (length v₀) (length ns₀) (length ps₀) (length qs₀)
      → b' ≡ b → s' ≡ s → e' ≡ e → y' ≡ y → length v' ≡ length v
      → entry_of m v' ≡ entry_at (job_at o nodes sources bytes sheets points i) (nodes + sources) i v
      → Turn b' s' e' y' v' (set ns i m.number) (set ps i m.place) (set qs i m.passes) (i + 1)
  turned b s e y b' s' e' y' i v v' ns ps qs m t h r hb hs he hy hv q =
      record {
        below = omega arith;
        sized = rw (hb, hs, he, hy) t.sized;
        «vector-length» = hv ∙ t.vector-length;
        «number-length» = length-set ns i m.number ∙ t.number-length;
        «place-length» = length-set ps i m.place ∙ t.place-length;
        «pass-length» = length-set qs i m.passes ∙ t.pass-length;
        ran = one_more_lem (job_at o nodes sources bytes sheets points) (nodes + sources) (λ j. single-length o nodes sources (sheet_at bytes sheets j) points) i v₀ v v' ns₀ ps₀ qs₀ ns ps qs m (omega (arith, r.number-room)) (omega (arith, r.place-room)) (omega (arith, r.pass-room)) t.ran q;
      }
