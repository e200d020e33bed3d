-- What a job leaves in its place, and the table with one job more. Clients cite placed and one_more_lem. Assumes nothing.
use Rattle.std.specs.Prelude.{ℕ, ◌+◌, ◌*◌, ◌/◌, ◌≤◌, ◌<◌, ◌≡◌, List, [], ◌++◌, length, take, drop, set, Float}
use Rattle.std.proofs.Common.{ap, ◌∙◌, arith, length-drop, length-take-le}
use Rattle.loops.specs.Each.{each, joined}
use Rattle.loops.specs.Laws.Each.{each_more, joined_more}
use Rattle.options.specs.declared.Options.{Options}
use Rattle.sheet.specs.Record.{record_bytes}
use Rattle.machine.specs.State.{buffers_of}
use Rattle.single.specs.declared.Mark.{Mark}
use Rattle.single.specs.Single.{Single, dc_call, marked_of, marked_run}
use Rattle.single.specs.Laws.Alone.{marked_alone, alone_single}
use Rattle.spreads.specs.Runs.{job_at, ScratchRoom, Entry, entry_of, entry_at, Table, table_of, table_after}

-- what a job alone leaves, laid in its place
pub placed : (o : Options) (nodes sources bytes j u w : ℕ) (sheets points : List ℕ) (b s e y vectors b' t v y' : List Float) (m : Mark)
    → u ≡ bytes → w ≡ nodes + sources → j * bytes + bytes ≤ length sheets → j * (nodes + sources) + (nodes + sources) ≤ length vectors
    → ScratchRoom bytes (nodes + sources) (length b) (length s) (length e) (length y)
    → marked_of m (buffers_of b' t v y' []) ≡ marked_run (dc_call o nodes sources (take u (drop (j * bytes) sheets)) points b s e (take w (drop (j * (nodes + sources)) vectors)) y)
    → entry_of m (take (j * (nodes + sources)) vectors ++ (v ++ drop w (drop (j * (nodes + sources)) vectors))) ≡ entry_at (job_at o nodes sources bytes sheets points j) (nodes + sources) j vectors
placed o nodes sources bytes j u w sheets points b s e y vectors b' t v y' m hu hw hs hv z q =
    let n = nodes + sources in
    let sheet = take bytes (drop (j * bytes) sheets) in
    let ls : length (take bytes (drop (j * bytes) sheets)) ≡ bytes = part bytes (j * bytes) sheets hs in
    let lv : length (take n (drop (j * n) vectors)) ≡ n = part n (j * n) vectors hv in
    let ly : length y ≡ length (take bytes (drop (j * bytes) sheets)) / record_bytes = rw ls z.memories in
    let q₁ = marked_alone o nodes sources sheet points b s e (take n (drop (j * n) vectors)) y m (buffers_of b' t v y' []) (rw (hu, hw) at q) in
    let q₂ = q₁ ∙ alone_single o nodes sources sheet points b s e (take n (drop (j * n) vectors)) y z.bases z.systems z.works lv ly in
    rw hw (ap (λ (x : Single). entry_of x.mark (take (j * n) vectors ++ (x.vector ++ drop n (drop (j * n) vectors)))) q₂)
  where
    part : {A : Type 0} (k i : ℕ) (l : List A) → i + k ≤ length l → length (take k (drop i l)) ≡ k
    part k i l h = length-take-le k (drop i l) (rw (length-drop i l) (omega arith))

-- one job more
module _ (job : ℕ → Single) (n : ℕ) (l : (j : ℕ) → length (job j).vector ≡ n) where
  pub one_more_lem : (i : ℕ) (v₀ v v' : List Float) (ns₀ ps₀ qs₀ ns ps qs : List ℕ) (m : Mark) → i < length ns₀ → i < length ps₀ → i < length qs₀
      → table_of v ns ps qs ≡ table_after job n i v₀ ns₀ ps₀ qs₀ → entry_of m v' ≡ entry_at (job i) n i v
      → table_of v' (set ns i m.number) (set ps i m.place) (set qs i m.passes) ≡ table_after job n (i + 1) v₀ ns₀ ps₀ qs₀
  one_more_lem i v₀ v v' ns₀ ps₀ qs₀ ns ps qs m hn hp hq e q =
      let em : m ≡ (job i).mark = ap (λ (x : Entry). x.mark) q in
      let ev : v' ≡ joined (λ (j : ℕ). (job j).vector) (i + 1) ++ drop ((i + 1) * n) v₀ = ap (λ (x : Entry). x.vectors) q ∙ joined_more (λ (j : ℕ). (job j).vector) n l i v₀ v (ap (λ (x : Table). x.vectors) e) in
      let en : set ns i m.number ≡ each (λ (j : ℕ). (job j).mark.number) (i + 1) ++ drop (i + 1) ns₀ = rw (em, ap (λ (x : Table). x.numbers) e) (each_more (λ (j : ℕ). (job j).mark.number) i ns₀ hn) in
      let ep : set ps i m.place ≡ each (λ (j : ℕ). (job j).mark.place) (i + 1) ++ drop (i + 1) ps₀ = rw (em, ap (λ (x : Table). x.places) e) (each_more (λ (j : ℕ). (job j).mark.place) i ps₀ hp) in
      let eq : set qs i m.passes ≡ each (λ (j : ℕ). (job j).mark.passes) (i + 1) ++ drop (i + 1) qs₀ = rw (em, ap (λ (x : Table). x.passes) e) (each_more (λ (j : ℕ). (job j).mark.passes) i qs₀ hq) in
      rw (ev, en, ep, eq)
