-- What holds at the head of the loop over the jobs: the first i of them have run and have their causes, and the scratch buffers have kept their lengths. Assumes nothing.
use Prim.Native.Nat.{ℕ, ◌+◌, ◌*◌, ◌≤◌, ◌<◌}
use mathlib.Core.Path.{◌≡◌, refl, ap, ◌∙◌}
use mathlib.Core.List.{List, ◌++◌}
use native.Mathlib.Omega.{arith}
use lib.ListN.{length, drop, set, length-set}
use native.Mathlib.Nat.{zero-mul}
use lib.Ieee.{Float}
use Rattle.loops.specs.Each.{each}
use Rattle.loops.specs.Laws.Each.{each_more}
use Rattle.options.specs.declared.Options.{Options}
use Rattle.single.specs.declared.Mark.{Mark}
use Rattle.single.specs.Single.{Single}
use Rattle.single.specs.Laws.Promises.{single-length}
use Rattle.spreads.specs.Runs as spreads
use Rattle.spreads.specs.Runs.{job_at, sheet_at, ResultRoom, ScratchRoom, table_of, table_after}
use Rattle.spreads.specs.Spreads.{number_at}
use Rattle.spreads.specs.Laws.Runs.{one_more_lem}
use Rattle.sound.specs.declared.runs.Line.{Line}
use Rattle.sound.specs.Causes.{with_causes}
use Rattle.sound.specs.Runs.{Entry, entry_of, entry_at}

module _ (tolerances : List Float) (o : Options) (nodes sources bytes jobs : ℕ) (sheets points : List ℕ) (v₀ : List Float) (ns₀ cs₀ ps₀ qs₀ : List ℕ) where
  abbrev job : ℕ → Single
  job = job_at o nodes sources bytes sheets points

  abbrev caused : ℕ → Single
  caused = with_causes tolerances (nodes + sources) job

  pub record Turn (base system elimination memory : ℕ) (v : List Float) (ns cs ps qs : List ℕ) (i : ℕ) : Type 0 where
    pub below : i ≤ jobs
    pub sized : ScratchRoom bytes (nodes + sources) base system elimination memory
    pub «vector-length» : length v ≡ length v₀
    pub «number-length» : length ns ≡ length ns₀
    pub «cause-length» : length cs ≡ length cs₀
    pub «place-length» : length ps ≡ length ps₀
    pub «pass-length» : length qs ≡ length qs₀
    pub ran : table_of v cs ps qs ≡ table_after caused (nodes + sources) i v₀ cs₀ ps₀ qs₀
    pub own : ns ≡ each (number_at job) i ++ drop i ns₀

  -- before the first turn
  pub begun : (b s e y : ℕ) → ScratchRoom bytes (nodes + sources) b s e y → Turn b s e y v₀ ns₀ cs₀ ps₀ qs₀ 0
  begun b s e y z =
      let f : drop (0 * (nodes + sources)) v₀ ≡ v₀ = ap (λ (k : ℕ). drop k v₀) (zero-mul (nodes + sources)) in
      record { below = omega arith; sized = z; «vector-length» = refl; «number-length» = refl; «cause-length» = refl; «place-length» = refl; «pass-length» = refl; ran = rw f; own = refl }

  -- one turn
  pub turned : (b s e y b' s' e' y' i : ℕ) (v v' : List Float) (ns cs ps qs : List ℕ) (l : Line) → Turn b s e y v ns cs ps qs i → i < jobs
      → ResultRoom jobs bytes (nodes + sources) (length sheets) (length v₀) (length cs₀) (length ps₀) (length qs₀) → jobs ≤ length ns₀
      → b' ≡ b → s' ≡ s → e' ≡ e → y' ≡ y → length v' ≡ length v
      → entry_of l v' ≡ entry_at tolerances (job i) (nodes + sources) i v
      → Turn b' s' e' y' v' (set ns i l.number) (set cs i l.cause) (set ps i l.place) (set qs i l.passes) (i + 1)
  turned b s e y b' s' e' y' i v v' ns cs ps qs l t h r w hb hs he hy hv q =
      let behind = (job i).mark.behind in
      let m : Mark = record { number = l.cause; place = l.place; passes = l.passes; behind = behind } in
      let g : spreads.entry_of m v' ≡ spreads.entry_at (caused i) (nodes + sources) i v
      = ap (λ (x : Entry). spreads.entry_of (record { number = x.line.cause; place = x.line.place; passes = x.line.passes; behind = behind }) x.vectors) q in
      record {
        below = omega arith;
        sized = rw (hb, hs, he, hy) t.sized;
        «vector-length» = hv ∙ t.vector-length;
        «number-length» = length-set ns i l.number ∙ t.number-length;
        «cause-length» = length-set cs i l.cause ∙ t.cause-length;
        «place-length» = length-set ps i l.place ∙ t.place-length;
        «pass-length» = length-set qs i l.passes ∙ t.pass-length;
        ran = one_more_lem caused (nodes + sources) (λ j. single-length o nodes sources (sheet_at bytes sheets j) points) i v₀ v v' cs₀ ps₀ qs₀ cs ps qs m (omega (arith, r.number-room)) (omega (arith, r.place-room)) (omega (arith, r.pass-room)) t.ran g;
        own = rw (ap (λ (x : Entry). x.line.number) q, t.own) (each_more (number_at job) i ns₀ (omega arith));
      }
