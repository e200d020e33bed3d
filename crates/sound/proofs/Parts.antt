-- What one job leaves: from the run and its cause to the job by itself, and from a part of the vectors to the whole. Assumes nothing.
use Prim.Native.Nat.{ℕ, ◌+◌, ◌*◌, ◌/◌, ◌≤◌}
use mathlib.Core.Path.{◌≡◌, ap, ◌∙◌}
use mathlib.Core.List.{List, [], ◌++◌}
use native.Mathlib.Omega.{arith}
use lib.ListN.{length, take, drop, length-append, length-drop}
use lib.Seq.{length-take-le}
use lib.Ieee.{Float}
use Rattle.options.specs.declared.Options.{Options}
use Rattle.sheet.specs.Record.{record_bytes}
use Rattle.machine.specs.State.{buffers_of}
use Rattle.single.specs.declared.Mark.{Mark}
use Rattle.single.specs.Single.{single_of, dc_call, marked_of, marked_run, alone}
use Rattle.single.specs.Laws.Alone.{marked_alone, alone_single}
use Rattle.spreads.specs.Runs.{job_at, ScratchRoom}
use Rattle.sound.specs.declared.causes.Cause.{Cause}
use Rattle.sound.specs.declared.causes.Numbers.{Numbers}
use Rattle.sound.specs.declared.runs.Line.{Line}
use Rattle.sound.specs.Causes.{cause_of, numbers_of}
use Rattle.sound.specs.Runs.{Entry, entry_of, entry_by, entry_at}

-- a run and its cause
pub ended : (o : Options) (nodes sources : ℕ) (sheet points : List ℕ) (tolerances b s e v y b' s' v' y' : List Float) (m : Mark) (c : Cause) (r : Numbers)
    → marked_of m (buffers_of b' s' v' y' []) ≡ marked_run (dc_call o nodes sources sheet points b s e v y)
    → c ≡ cause_of (single_of m v' s') tolerances (nodes + sources) → r ≡ numbers_of c
    → entry_of (record { number = m.number; cause = r.cause; place = r.place; passes = m.passes }) v' ≡ entry_by tolerances (nodes + sources) (alone (dc_call o nodes sources sheet points b s e v y))
ended o nodes sources sheet points tolerances b s e v y b' s' v' y' m c r q h g =
    rw (g, h) (ap (entry_by tolerances (nodes + sources)) (marked_alone o nodes sources sheet points b s e v y m (buffers_of b' s' v' y' []) q))

-- laid in its place
pub placed : (o : Options) (nodes sources bytes j u w : ℕ) (sheets points : List ℕ) (tolerances b s e y vectors v : List Float) (l : Line)
    → u ≡ bytes → w ≡ nodes + sources → j * bytes + bytes ≤ length sheets → j * (nodes + sources) + (nodes + sources) ≤ length vectors
    → ScratchRoom bytes (nodes + sources) (length b) (length s) (length e) (length y)
    → entry_of l v ≡ entry_by tolerances (nodes + sources) (alone (dc_call o nodes sources (take u (drop (j * bytes) sheets)) points b s e (take w (drop (j * (nodes + sources)) vectors)) y))
    → entry_of l (take (j * (nodes + sources)) vectors ++ (v ++ drop w (drop (j * (nodes + sources)) vectors))) ≡ entry_at tolerances (job_at o nodes sources bytes sheets points j) (nodes + sources) j vectors
placed o nodes sources bytes j u w sheets points tolerances b s e y vectors v l hu hw hs hv z q =
    let n = nodes + sources in
    let sheet = take bytes (drop (j * bytes) sheets) in
    let ls : length (take bytes (drop (j * bytes) sheets)) ≡ bytes = part bytes (j * bytes) sheets hs in
    let lv : length (take n (drop (j * n) vectors)) ≡ n = part n (j * n) vectors hv in
    let ly : length y ≡ length (take bytes (drop (j * bytes) sheets)) / record_bytes = rw ls z.memories in
    let q₁ : entry_of l v ≡ entry_by tolerances n (alone (dc_call o nodes sources sheet points b s e (take n (drop (j * n) vectors)) y)) = rw (hu, hw) at q in
    let q₂ = q₁ ∙ ap (entry_by tolerances n) (alone_single o nodes sources sheet points b s e (take n (drop (j * n) vectors)) y z.bases z.systems z.works lv ly) in
    rw hw (ap (λ (x : Entry). entry_of x.line (take (j * n) vectors ++ (x.vectors ++ drop n (drop (j * n) vectors)))) q₂)
  where
    part : {A : Type 0} (k i : ℕ) (l : List A) → i + k ≤ length l → length (take k (drop i l)) ≡ k
    part k i l h = length-take-le k (drop i l) (rw (length-drop i l) (omega arith))

-- a part at the front, of the same length as before, leaves the whole as long as it was
pub same_whole : {A : Type 0} (k : ℕ) (b b' : List A) → length b' ≡ length (take k b) → k ≤ length b → length (b' ++ drop k b) ≡ length b
same_whole k b b' h g = length-append b' (drop k b) ∙ (rw (h, length-take-le k b g, length-drop k b) (omega arith))
