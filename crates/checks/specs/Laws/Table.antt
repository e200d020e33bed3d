-- The table of refusals, both ways: a call is clean exactly when none of the conditions 1 to 10 holds, and a refused one is told the first that does. Clients cite fine_none, NoneMet, none_met, clean_none_met,
-- Met, sizes_most and refused_met. Assumes nothing.
use Rattle.std.specs.Prelude.{ℕ, ◌/◌, ◌%◌, ◌≤◌, ◌<◌, ◌≡◌, refl, Bool, true, false, cond, ◌||◌, ◌&&◌, List, eqb, ltb, Result, Ok, Err, ⊤}
use mathlib.Mathlib.Data.Bool.Basic.{or-eq-false-eq-eq-false-and-eq-false as neither}
use Rattle.std.proofs.Common.{le-ltb, ne_eqb, arith, sym, subst}
use Rattle.numbers.specs.Limits.{most_records, most_points}
use Rattle.numbers.specs.Refusals.{by_order, by_sheet, by_points, by_counts, by_room}
use Rattle.numbers.specs.Refusals.{number_of, refused_by}
use Rattle.numbers.specs.declared.refusal.Refusal.{Refusal}
use Rattle.options.specs.declared.Options.{Options}
use Rattle.sheet.specs.declared.Fault.{Fault}
use Rattle.sheet.specs.Record.{record_bytes}
use Rattle.sheet.specs.Check.{point_bytes, records_of, not_whole, bad_sheet, bad_points, check_of, ends_at}
use Rattle.sheet.specs.Laws.Ends.{some_number}
use Rattle.sheet.specs.Laws.Clean.{First, faulty_at}
use Rattle.sheet.specs.Laws.Right.{Right, all_right, clean_right}
use Rattle.checks.specs.declared.Sizes.{Sizes}
use Rattle.checks.specs.Checks.{bad_order, bad_counts, bad_room, sizes_fault, sizes_refusal, limits_of, checked_of}
use Rattle.checks.specs.Laws.Checks.{Fine, fine, clean_fine, sizes_number, sizes_none}

-- ---- a call that meets none of the conditions is not refused

none_of : (a b : Bool) → a ≡ false → b ≡ false → (a || b) ≡ false
none_of a b p q = (neither a b).1 (p, q)

whole_none : (size most len : ℕ) → len % size ≡ 0 → len / size ≤ most → not_whole size most len ≡ false
whole_none size most len e h = rw e (le-ltb most (len / size) h)

some_eqb : (n : ℕ) → 0 < n → eqb n 0 ≡ false
some_eqb n h = ne_eqb n 0 (λ e. omega arith)

-- a test that need not be met
not_met : (a : Bool) (x y : ℕ) → (a ≡ true → y ≤ x) → (a && ltb x y) ≡ false
not_met true x y h = le-ltb x y (h refl)
not_met false x y h = refl

-- none of 1 to 5
pub fine_none : (o : Options) (z : Sizes) → Fine o z → sizes_refusal o z ≡ 0
unfolding sizes_refusal bad_order bad_sheet bad_points bad_counts bad_room
fine_none o z f =
    let r1 : bad_order z.nodes z.sources ≡ false = none_of _ _ (some_eqb z.nodes f.some) (le-ltb _ _ f.small) in
    let r2 : bad_sheet z.sheet ≡ false = whole_none record_bytes most_records z.sheet (omega (arith, f.whole)) f.few in
    let r3 : bad_points z.points ≡ false = whole_none point_bytes most_points z.points (omega (arith, f.«whole-points»)) f.«few-points» in
    let high = none_of _ _ (none_of _ _ (le-ltb _ _ f.«low-itl1») (le-ltb _ _ f.«low-itl3»)) (le-ltb _ _ f.«low-itl4») in
    let r4 : bad_counts o ≡ false = none_of _ _ (none_of _ _ high (some_eqb o.budget f.paid)) (le-ltb _ _ f.spent) in
    let m = none_of _ _ (none_of _ _ (le-ltb _ _ f.«base-room») (le-ltb _ _ f.«system-room»)) (le-ltb _ _ f.«elimination-room») in
    let v = none_of _ _ (le-ltb _ _ f.«vector-room») (le-ltb _ _ f.«memory-room») in
    let r5 : bad_room z ≡ false = none_of _ _ (none_of _ _ m v) (not_met z.transient _ _ f.«rows-room») in
    rw (r1, r2, r3, r4, r5)

-- none of 1 to 10
pub record NoneMet (o : Options) (z : Sizes) (sheet : List ℕ) : Type 0 where
  pub sizes : Fine o z
  pub records : (i : ℕ) → i < records_of sheet → Right sheet (limits_of z) i

pub none_met : (o : Options) (z : Sizes) (sheet : List ℕ) → NoneMet o z sheet → checked_of o z sheet ≡ Ok tt
unfolding checked_of
none_met o z sheet h = rw (sizes_none o z (fine_none o z h.sizes)) (all_right sheet (limits_of z) h.records)

-- and no condition holds of a clean call
pub clean_none_met : (o : Options) (z : Sizes) (sheet : List ℕ) → checked_of o z sheet ≡ Ok tt → NoneMet o z sheet
clean_none_met o z sheet e =
    let f = clean_fine o z sheet e in
    record { sizes = fine o z f.0; records = λ i h. clean_right sheet (limits_of z) i f.1 h }

-- ---- what a refused call is told

-- a number of 1 to 5, the first of these conditions that holds, with place 0; or, where none of them does, the first faulty record and its lowest number of 6 to 10
pub data Met (o : Options) (z : Sizes) (sheet : List ℕ) : ℕ → ℕ → Type 0 where
  «by-sizes» : {k : ℕ} → k ≡ sizes_refusal o z → by_order ≤ k → k ≤ by_room → Met o z sheet k 0
  «by-record» : {k i : ℕ} → sizes_refusal o z ≡ 0 → First sheet (limits_of z) k i → Met o z sheet k i

below : (a : Bool) (k r : ℕ) → k ≤ by_room → r ≤ by_room → cond a k r ≤ by_room
below true k r p q = p
below false k r p q = q

-- 1 to 5 are at most 5
pub sizes_most : (o : Options) (z : Sizes) → sizes_refusal o z ≤ by_room
unfolding sizes_refusal
sizes_most o z =
    below (bad_order z.nodes z.sources) by_order _ (omega arith)
    (below (bad_sheet z.sheet) by_sheet _ (omega arith)
    (below (bad_points z.points) by_points _ (omega arith)
    (below (bad_counts o) by_counts _ (omega arith)
    (below (bad_room z) by_room 0 (omega arith) (omega arith)))))

pub refused_met : (o : Options) (z : Sizes) (sheet : List ℕ) (f : Fault) → checked_of o z sheet ≡ Err f → Met o z sheet (number_of f.refusal) f.place
unfolding checked_of
refused_met o z sheet f e = by (sizes_fault o z) (sizes_number o z) e
  where
    by : (r : Result ⊤ Refusal) → refused_by r ≡ sizes_refusal o z → ends_at 0 r (check_of sheet (limits_of z)) ≡ Err f → Met o z sheet (number_of f.refusal) f.place
    by (Ok u) n h = «by-record» (sym n) (faulty_at sheet (limits_of z) f h)
    by (Err k) n h =
        let q : record { refusal = k; place = 0 } ≡ f = cc in
        subst (λ (f : Fault). Met o z sheet (number_of f.refusal) f.place) q («by-sizes» n (some_number k) (rw n (sizes_most o z)))
