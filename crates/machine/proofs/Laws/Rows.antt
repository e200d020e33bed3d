-- Rows that were written stand, and nothing past them changes, for every stamping and solving f that keeps the vector's length. Clients cite row_room, Steady,
-- Stand, Grown and run_grown. Assumes nothing.
use Prim.Native.Nat.{ℕ, zero, suc, ◌+◌, ◌*◌, ◌/◌, ◌-◌, ◌<◌, ◌≤◌}
use Rattle.std.specs.Prelude.{◌≡◌, Bool, cond, List, ◌∷◌, ◌++◌, take, Float}
use Rattle.std.proofs.Math.Path.{refl, ap}
use Rattle.std.proofs.Common.{◌∙◌, subst, ltb-true, suc-mul, div-mul-le_self, div-le_self}
use Rattle.std.proofs.Math.Bool.{true, false}
use Rattle.std.proofs.Math.Dec.{ltb}
use Rattle.std.proofs.Math.ListN.{length, drop}
use Rattle.std.proofs.Math.Seq.{take-append-le, take-take, length-take-le, drop-append-add, drop-drop}
use native.Mathlib.Omega.{arith}
use Rattle.std.proofs.Math.Nat.{mul-le-mul_right}
use Rattle.loops.specs.Loop.{row_at}
use Rattle.loops.specs.Laws.Loop.{row_length}
use Rattle.options.specs.declared.Options.{Options}
use Rattle.steps.specs.declared.Counters.{Counters}
use Rattle.steps.specs.declared.Report.{Report}
use Rattle.steps.specs.declared.Report.TheVariants.{Yes, No, Error, Diode, Sine}
use Rattle.numbers.specs.declared.verdict.Verdict.TheVariants.{NoRoom}
use Rattle.steps.specs.Phases.{is_dc, is_transient}
use Rattle.steps.specs.Counters.{top, next, ended, written}
use Rattle.steps.specs.Control.{dc_after, step_after, row_due}
use Rattle.steps.specs.Laws.Control.{next_more, next_least, Closed, dc_keeps, step_keeps}
use Rattle.steps.specs.declared.Job.{Job}
use Rattle.machine.specs.State.{Buffers, State, Attempt, Written, written_of}
use Rattle.machine.specs.Machine.{compared, tried, took, tried_by, written_by, landed, after, accepts, dc_pass, step_pass, pass, run_for}

-- ---- one row

-- a row that has room ends within the rows
pub row_room : (k n w : ℕ) → k < n / w → k * w + w ≤ n
row_room k n w h = omega (arith, mul-le-mul_right w h, suc-mul k w, div-mul-le_self n w)

module _ (place : ℕ) (t : Float) (v rows : List Float) (fits : place + 1 + length v ≤ length rows) where
  -- what stands before a row that is put, and behind it, stays
  row_front : (m : ℕ) → m ≤ place → take m (row_at place t v rows) ≡ take m rows
  unfolding row_at
  row_front m h =
      let e : length (take place rows) ≡ place = length-take-le place rows (omega arith) in
      take-append-le m (take place rows) _ (omega arith) ∙ take-take m place rows h

  row_rest : (m : ℕ) → place + 1 + length v ≤ m → drop m (row_at place t v rows) ≡ drop m rows
  unfolding row_at
  row_rest m h =
      let e : length (take place rows) ≡ place = length-take-le place rows (omega arith) in
      let p : m ≡ length (take place rows) + suc (length v + (m - (place + 1 + length v))) = omega arith in
      let q : place + 1 + length v + (m - (place + 1 + length v)) ≡ m = omega arith in
      let end = drop (place + 1 + length v) rows in
      ap (λ (k : ℕ). drop k (take place rows ++ (t ∷ (v ++ end)))) p
      ∙ drop-append-add (take place rows) (t ∷ (v ++ end)) (suc (length v + (m - (place + 1 + length v))))
      ∙ drop-append-add v end (m - (place + 1 + length v))
      ∙ drop-drop (m - (place + 1 + length v)) (place + 1 + length v) rows
      ∙ ap (λ (k : ℕ). drop k rows) q

-- ---- the counters never take a row back

abbrev AtLeast : ℕ → Counters → Type 0
AtLeast k c = k ≤ c.rows

least_closed : (tr : Bool) (k : ℕ) → Closed tr (AtLeast k)
least_closed tr k =
    record {
      ends = λ c e p. p;
      dcs = λ c e p. p;
      begins = λ d c t p. p;
      news = λ c p. p;
      agains = λ c p. p;
      steps = λ d c p. p;
      times = λ t c p. p;
      rows = λ c p. omega (arith, next_least c.rows);
    }

module _ (k : ℕ) (o : Options) (c : Counters) (h : k ≤ c.rows) where
  dc_rows : (tr : Bool) (r : Report) → k ≤ (dc_after o tr r c).rows
  unfolding dc_after
  dc_rows tr Yes = dc_keeps (AtLeast k) o tr (least_closed tr k) Yes c refl h
  dc_rows tr No = dc_keeps (AtLeast k) o tr (least_closed tr k) No c refl h
  dc_rows tr Error = dc_keeps (AtLeast k) o tr (least_closed tr k) Error c refl h
  dc_rows tr Diode = h
  dc_rows tr Sine = h

  step_rows : (r : Report) → k ≤ (step_after o r c).rows
  unfolding step_after
  step_rows Yes = step_keeps (AtLeast k) o (least_closed true k) Yes c refl h
  step_rows No = step_keeps (AtLeast k) o (least_closed true k) No c refl h
  step_rows Error = step_keeps (AtLeast k) o (least_closed true k) Error c refl h
  step_rows Diode = h
  step_rows Sine = h

-- ---- a pass

-- of rows of w numbers each: the first k are as they were, and so is all that lies past those written
pub record Stand (k w : ℕ) (old : List Float) (c : Counters) (rows : List Float) : Type 0 where
  pub more : k ≤ c.rows
  pub same : take (k * w) rows ≡ take (k * w) old
  pub rest : (m : ℕ) → c.rows * w ≤ m → drop m rows ≡ drop m old
  pub long : length rows ≡ length old

module _ (k n : ℕ) (old : List Float) (small : length old ≤ top) where
  abbrev Stands : Written → Type 0
  Stands x = Stand k (n + 1) old x.counters x.rows

  untouched : (c : Counters) → k ≤ c.rows → Stands (written_of c old)
  untouched c h = record { more = h; same = refl; rest = λ m p. refl; long = refl }

  choose : (b : Bool) (x y : Written) → Stands x → Stands y → Stands (cond b x y)
  choose true x y p q = p
  choose false x y p q = q

  row_stands : (c : Counters) (v : List Float) → k ≤ c.rows → length v ≡ n → c.rows < length old / (length v + 1) → Stands (written_of (written c) (row_at (c.rows * (length v + 1)) c.time v old))
  row_stands c v h l r = subst (λ (n : ℕ). Stand k (n + 1) old (written c) (row_at (c.rows * (length v + 1)) c.time v old)) l go
    where
      go : Stand k (length v + 1) old (written c) (row_at (c.rows * (length v + 1)) c.time v old)
      go =
          let w = length v + 1 in
          let fits : c.rows * (length v + 1) + 1 + length v ≤ length old = omega (arith, row_room c.rows (length old) (length v + 1) r) in
          let one : next c.rows ≡ c.rows + 1 = next_more c.rows (omega (arith, div-le_self (length old) (length v + 1))) in
          let below : k * (length v + 1) ≤ c.rows * (length v + 1) = mul-le-mul_right (length v + 1) h in
          record {
            more = omega (arith, next_least c.rows);
            same = row_front (c.rows * w) c.time v old fits (k * w) below;
            rest = λ m p. row_rest (c.rows * w) c.time v old fits m (omega (arith, ap (λ (x : ℕ). x * (length v + 1)) one, suc-mul c.rows (length v + 1)));
            long = row_length (c.rows * w) c.time v old fits;
          }

  write_stands : (c : Counters) (v : List Float) → k ≤ c.rows → length v ≡ n → Stands (written_by c v old)
  unfolding written_by
  write_stands c v h l = go (ltb c.rows (length old / (length v + 1))) refl
    where
      go : (b : Bool) → ltb c.rows (length old / (length v + 1)) ≡ b → Stands (cond b (written_of (written c) (row_at (c.rows * (length v + 1)) c.time v old)) (written_of (ended NoRoom c) old))
      go true e = row_stands c v h l (ltb-true _ _ e)
      go false e = untouched (ended NoRoom c) h

  land_stands : (o : Options) (c : Counters) (v : List Float) → k ≤ c.rows → length v ≡ n → Stands (landed o c v old)
  unfolding landed
  land_stands o c v h l = choose (row_due o c.time) _ _ (write_stands c v h l) (untouched c h)

-- f keeps vectors of n numbers
abbrev pub Steady : ℕ → Attempt → Type 0
Steady n f = (c : Counters) (a : List Float) (x : Buffers) → length x.vector ≡ n → length (f c a x).vector ≡ n

-- the rows stand, and the vector is as long as it was
pub record Grown (k n : ℕ) (old : List Float) (t : State) : Type 0 where
  pub stand : Stand k (n + 1) old t.counters t.buffers.rows
  pub long : length t.buffers.vector ≡ n

module _ (f : Attempt) (j : Job) (n : ℕ) (steady : Steady n f) (k : ℕ) where
  long_tried : (s : State) → length s.buffers.vector ≡ n → length (tried_by f j s).vector ≡ n
  unfolding took tried compared
  long_tried s l = steady s.counters s.accepted s.buffers l

  module _ (s : State) (small : length s.buffers.rows ≤ top) (h : k ≤ s.counters.rows) (l : length s.buffers.vector ≡ n) where
    abbrev Grows : State → Type 0
    Grows = Grown k n s.buffers.rows

    grows : (accepted : List Float) (w : Written) → Stands k n s.buffers.rows small w → Grows (after s accepted (tried_by f j s) w)
    grows accepted w p = record { stand = p; long = long_tried s l }

    dc_grown : Grows (dc_pass f j s)
    unfolding dc_pass
    dc_grown =
        let r = dc_rows k j.options s.counters h j.transient (tried_by f j s).report in
        grows _ _ (choose k n s.buffers.rows small (is_transient (dc_after j.options j.transient (tried_by f j s).report s.counters).phase) _ _ (write_stands k n s.buffers.rows small _ _ r (long_tried s l)) (untouched k n s.buffers.rows small _ r))

    step_grown : Grows (step_pass f j s)
    unfolding step_pass
    step_grown =
        let r = step_rows k j.options s.counters h (tried_by f j s).report in
        either (accepts (tried_by f j s).report) _ _ (grows _ _ (land_stands k n s.buffers.rows small j.options _ _ r (long_tried s l))) (grows _ _ (untouched k n s.buffers.rows small _ r))
      where
        either : (b : Bool) (x y : State) → Grows x → Grows y → Grows (cond b x y)
        either true x y p q = p
        either false x y p q = q

    pub pass_grown : Grows (pass f j s)
    unfolding pass
    pass_grown = go (is_dc s.counters.phase) (is_transient s.counters.phase)
      where
        go : (a b : Bool) → Grows (cond a (dc_pass f j s) (cond b (step_pass f j s) s))
        go true b = dc_grown
        go false true = step_grown
        go false false = record { stand = untouched k n s.buffers.rows small s.counters h; long = l }

module _ (f : Attempt) (j : Job) (n : ℕ) (steady : Steady n f) where
  -- no budget changes a row that was written, nor what lies past the rows written
  pub run_grown : (k b : ℕ) (s : State) → length s.buffers.rows ≤ top → k ≤ s.counters.rows → length s.buffers.vector ≡ n → Grown k n s.buffers.rows (run_for f j b s)
  unfolding run_for
  run_grown k zero s small h l = record { stand = untouched k n s.buffers.rows small s.counters h; long = l }
  run_grown k (suc b) s small h l =
      let p = pass_grown f j n steady k s small h l in
      let q = run_grown k b (pass f j s) (omega (arith, p.stand.long)) p.stand.more p.long in
      let r = run_grown (pass f j s).counters.rows b (pass f j s) (omega (arith, p.stand.long)) (omega arith) p.long in
      record {
        stand =
            record {
              more = q.stand.more;
              same = q.stand.same ∙ p.stand.same;
              rest = λ m e. q.stand.rest m e ∙ p.stand.rest m (omega (arith, mul-le-mul_right (n + 1) r.stand.more));
              long = q.stand.long ∙ p.stand.long;
            };
        long = q.long;
      }
