-- What holds where nothing is refused, and the test of the order in parts that do not wrap. Assumes nothing.
-- Clients cite order_small, sizes_number, sizes_none, Fine, fine, clean_fine, and_none and cond_none.
use Rattle.std.specs.Prelude.{ℕ, suc, ◌+◌, ◌*◌, ◌-◌, ◌/◌, ◌≤◌, ◌<◌, ◌≡◌, Bool, cond, ◌||◌, ◌&&◌, List, Result, Ok, Err, ⊤}
use Rattle.std.proofs.Math.Path.{refl, ap}
use Rattle.std.proofs.Math.Bool.{true, false, or-true}
use mathlib.Mathlib.Data.Bool.Basic.{or-eq-false-eq-eq-false-and-eq-false as neither}
use Rattle.std.proofs.Math.Dec.{eqb, ltb}
use borrow.Author.Tests.{eqb-false, ltb-true, ltb-false, lt-ltb}
use Rattle.std.proofs.Common.{arith, sym, ◌∙◌}
use Rattle.numbers.specs.Limits.{most_unknowns, most_records, most_points, most_passes, most_budget}
use Rattle.numbers.specs.Refusals.{number_of, refused_by}
use Rattle.options.specs.declared.Options.{Options}
use Rattle.numbers.specs.declared.refusal.Refusal.{Refusal}
use Rattle.sheet.specs.Record.{record_bytes}
use Rattle.sheet.specs.Check.{point_bytes, bad_sheet, bad_points, check_of, ends_at}
use Rattle.sheet.specs.Laws.Ends.{refused_none}
use Rattle.sheet.specs.Laws.Clean.{whole_sheet, whole_points}
use Rattle.checks.specs.declared.Sizes.{Sizes}
use Rattle.checks.specs.Checks.{order, cells, records, bad_order, high_limit, bad_counts, short_matrix, short_vector, bad_room, or_else, sizes_fault, sizes_refusal, limits_of, checked_of}

-- a conjunction that does not hold, with a first part that does
pub and_none : (a b : Bool) → (a && b) ≡ false → a ≡ true → b ≡ false
and_none true b e h = e
and_none false b e h = absurd (let z : ◌≡◌ {A = ℕ} 0 1 = cc in omega arith)

module _ (nodes sources : ℕ) where
  pub order_small : bad_order nodes sources ≡ false → nodes + sources ≤ most_unknowns
  unfolding bad_order
  order_small e = ltb-false _ _ ((neither (eqb nodes 0) (ltb most_unknowns (nodes + sources))).0 e).1

  -- the test in parts that do not wrap
  pub order_above : most_unknowns < nodes → bad_order nodes sources ≡ true
  unfolding bad_order
  order_above h =
      let e : ltb most_unknowns (nodes + sources) ≡ true = lt-ltb most_unknowns (nodes + sources) (omega arith) in
      rw e (or-true (eqb nodes 0))

  pub order_below : nodes ≤ most_unknowns → bad_order nodes sources ≡ (eqb nodes 0 || ltb (most_unknowns - nodes) sources)
  unfolding bad_order
  order_below h = ap (λ (b : Bool). eqb nodes 0 || b) (same (ltb most_unknowns (nodes + sources)) (ltb (most_unknowns - nodes) sources) refl refl)
    where
      same : (a b : Bool) → ltb most_unknowns (nodes + sources) ≡ a → ltb (most_unknowns - nodes) sources ≡ b → a ≡ b
      same true true p q = refl
      same false false p q = refl
      same true false p q = absurd (omega (arith, ltb-true most_unknowns (nodes + sources) p, ltb-false (most_unknowns - nodes) sources q))
      same false true p q = absurd (omega (arith, ltb-false most_unknowns (nodes + sources) p, ltb-true (most_unknowns - nodes) sources q))

-- the number of the first of 1 to 5
or_number : (a : Bool) (k : Refusal) (r : Result ⊤ Refusal) → refused_by (or_else a k r) ≡ cond a (number_of k) (refused_by r)
or_number true k r = refl
or_number false k r = refl

module _ (o : Options) (z : Sizes) where
  pub sizes_number : refused_by (sizes_fault o z) ≡ sizes_refusal o z
  unfolding sizes_fault sizes_refusal
  sizes_number = simp or_number

  pub sizes_none : sizes_refusal o z ≡ 0 → sizes_fault o z ≡ Ok tt
  sizes_none e = refused_none (sizes_fault o z) (sizes_number ∙ e)

-- none of the conditions 1 to 5 holds: there is a node and N is at most 48; the sheet is whole records, at most 256; the points are whole, at most 1,024; ITL1, ITL3 and ITL4 are at most 10,000 and the
-- budget is 1 to 1,000,000; and every lent buffer has its room
pub record Fine (o : Options) (z : Sizes) : Type 0 where
  pub some : 0 < z.nodes
  pub small : order z ≤ most_unknowns
  pub whole : record_bytes * records z ≡ z.sheet
  pub few : records z ≤ most_records
  pub «whole-points» : point_bytes * (z.points / point_bytes) ≡ z.points
  pub «few-points» : z.points / point_bytes ≤ most_points
  pub «low-itl1» : o.itl1 ≤ most_passes
  pub «low-itl3» : o.itl3 ≤ most_passes
  pub «low-itl4» : o.itl4 ≤ most_passes
  pub paid : 0 < o.budget
  pub spent : o.budget ≤ most_budget
  pub «base-room» : cells z ≤ z.base
  pub «system-room» : cells z ≤ z.system
  pub «elimination-room» : cells z ≤ z.elimination
  pub «vector-room» : order z ≤ z.vector
  pub «memory-room» : records z ≤ z.memory
  pub «rows-room» : z.transient ≡ true → order z + 1 ≤ z.rows

-- a test of a chain that answers 0 does not hold
pub cond_none : (a : Bool) (k r : ℕ) → cond a (suc k) r ≡ 0 → (a ≡ false) × (r ≡ 0)
cond_none true k r e = absurd (let z : suc k ≡ 0 = e in omega arith)
cond_none false k r e = (refl, e)

pub fine : (o : Options) (z : Sizes) → sizes_refusal o z ≡ 0 → Fine o z
unfolding sizes_refusal bad_order bad_counts bad_room
fine o z e =
    let r1 = cond_none (bad_order z.nodes z.sources) 0 _ e in
    let r2 = cond_none (bad_sheet z.sheet) 1 _ r1.1 in
    let r3 = cond_none (bad_points z.points) 2 _ r2.1 in
    let r4 = cond_none (bad_counts o) 3 _ r3.1 in
    let r5 = cond_none (bad_room z) 4 _ r4.1 in
    let o1 = (neither (eqb z.nodes 0) (ltb most_unknowns (order z))).0 r1.0 in
    let o2 = whole_sheet z.sheet r2.0 in
    let o3 = whole_points z.points r3.0 in
    let o4 = (neither (high_limit o || eqb o.budget 0) (ltb most_budget o.budget)).0 r4.0 in
    let low = (neither (high_limit o) (eqb o.budget 0)).0 o4.0 in
    let most = (neither (ltb most_passes o.itl1 || ltb most_passes o.itl3) (ltb most_passes o.itl4)).0 low.0 in
    let two = (neither (ltb most_passes o.itl1) (ltb most_passes o.itl3)).0 most.0 in
    let t = (neither (short_matrix z || short_vector z) (z.transient && ltb z.rows (order z + 1))).0 r5.0 in
    let mv = (neither (short_matrix z) (short_vector z)).0 t.0 in
    let m = (neither (ltb z.base (cells z) || ltb z.system (cells z)) (ltb z.elimination (cells z))).0 mv.0 in
    let bs = (neither (ltb z.base (cells z)) (ltb z.system (cells z))).0 m.0 in
    let v = (neither (ltb z.vector (order z)) (ltb z.memory (records z))).0 mv.1 in
    record {
      some = omega (arith, eqb-false z.nodes 0 o1.0);
      small = ltb-false _ _ o1.1;
      whole = o2.0;
      few = o2.1;
      «whole-points» = o3.0;
      «few-points» = o3.1;
      «low-itl1» = ltb-false _ _ two.0;
      «low-itl3» = ltb-false _ _ two.1;
      «low-itl4» = ltb-false _ _ most.1;
      paid = omega (arith, eqb-false o.budget 0 low.1);
      spent = ltb-false _ _ o4.1;
      «base-room» = ltb-false _ _ bs.0;
      «system-room» = ltb-false _ _ bs.1;
      «elimination-room» = ltb-false _ _ m.1;
      «vector-room» = ltb-false _ _ v.0;
      «memory-room» = ltb-false _ _ v.1;
      «rows-room» = λ h. ltb-false _ _ (and_none z.transient _ t.1 h);
    }

-- a clean answer means that nothing is refused: 1 to 5 leave what `Fine` says, and the sheet is clean
pub clean_fine : (o : Options) (z : Sizes) (sheet : List ℕ) → checked_of o z sheet ≡ Ok tt → (sizes_refusal o z ≡ 0) × (check_of sheet (limits_of z) ≡ Ok tt)
unfolding checked_of
clean_fine o z sheet e = by (sizes_fault o z) (sizes_number o z) e
  where
    by : (r : Result ⊤ Refusal) → refused_by r ≡ sizes_refusal o z → ends_at 0 r (check_of sheet (limits_of z)) ≡ Ok tt → (sizes_refusal o z ≡ 0) × (check_of sheet (limits_of z) ≡ Ok tt)
    by (Ok u) n h = (sym n, h)
    by (Err k) n h = absurd (let z : ◌≡◌ {A = ℕ} 0 1 = cc in omega arith)
