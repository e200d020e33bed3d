-- What holds of a call that is not refused, that nothing else is refused, and which refusals there are. Clients cite below_nodes, past_nodes, Chosen, chosen, CallFine, call_fine, one_none, fine_none, jobs_refused, uneven_refused, RefusedBy and refused_by. Assumes nothing.
use Rattle.std.specs.Prelude.{ℕ, ◌+◌, ◌-◌, ◌*◌, ◌%◌, ◌≤◌, ◌<◌, ◌≡◌, refl, Bool, true, false, cond, ◌||◌, ◌⊎◌, eqb, ltb, leb}
use Rattle.std.proofs.Common.{sym, ◌∙◌, inl, inr, eqb-true, ne_eqb, ltb-false, le-ltb, leb-true, leb-false, zero-add, arith}
use mathlib.Mathlib.Data.Bool.Basic.{or-eq-false-eq-eq-false-and-eq-false as neither}
use Rattle.std.proofs.lemmas.Bool.{eqb-false, lt-leb, not-false}
use Rattle.std.proofs.Math.Nat.{mod-add-div}
use Rattle.numbers.specs.Limits.{most_jobs, job_numbers, sum_limbs}
use Rattle.numbers.specs.Refusals.{by_order, by_sheet, by_room, by_jobs}
use Rattle.options.specs.declared.Options.{Options}
use Rattle.checks.specs.declared.Sizes.{Sizes}
use Rattle.checks.specs.Checks.{bad_order, sizes_refusal}
use Rattle.checks.specs.Laws.Checks.{Fine, fine, cond_none}
use Rattle.checks.specs.Laws.Table.{fine_none as sizes-none, sizes_most}
use Rattle.spreads.specs.declared.refusals.Lent.{Lent}
use Rattle.spreads.specs.Refusals.{order, bytes, bad_jobs, uneven, one_job, short_lists, short_sums, short_results, call_refusal}

-- the test of the unknown in parts that do not wrap
module _ (unknown nodes sources : ℕ) where
  pub below_nodes : unknown < nodes → leb (nodes + sources) unknown ≡ false
  below_nodes h = lt-leb (nodes + sources) unknown (omega arith)

  pub past_nodes : nodes ≤ unknown → leb sources (unknown - nodes) ≡ leb (nodes + sources) unknown
  past_nodes h = same (leb sources (unknown - nodes)) (leb (nodes + sources) unknown) refl refl
    where
      same : (a b : Bool) → leb sources (unknown - nodes) ≡ a → leb (nodes + sources) unknown ≡ b → a ≡ b
      same true true p q = refl
      same false false p q = refl
      same true false p q = absurd (omega (arith, leb-true sources (unknown - nodes) p, leb-false (nodes + sources) unknown q))
      same false true p q = absurd (omega (arith, leb-false sources (unknown - nodes) p, leb-true (nodes + sources) unknown q))

-- what 13 leaves
pub record Chosen (jobs unknown n : ℕ) : Type 0 where
  pub some : 1 ≤ jobs
  pub few : jobs ≤ most_jobs
  pub inside : unknown < n

pub chosen : (jobs unknown nodes sources : ℕ) → bad_jobs jobs unknown nodes sources ≡ false → Chosen jobs unknown (nodes + sources)
unfolding bad_jobs
chosen jobs unknown nodes sources e =
    let a = (neither (eqb jobs 0 || ltb 256 jobs) (leb (nodes + sources) unknown)).0 e in
    let b = (neither (eqb jobs 0) (ltb 256 jobs)).0 a.0 in
    record {
      some = omega (arith, eqb-false jobs 0 b.0);
      few = ltb-false _ _ b.1;
      inside = leb-false _ _ a.1;
    }

-- none of the conditions of 13 and 1 to 5 holds: 13's; the sheets are of one length; one job of them meets none of 1 to 5; and every result has its room
pub record CallFine (o : Options) (z : Lent) : Type 0 where
  pub jobs : Chosen z.jobs z.unknown (order z)
  pub even : z.jobs * bytes z ≡ z.sheets
  pub one : Fine o (one_job z)
  pub «vector-room» : z.jobs * order z ≤ z.vectors
  pub «number-room» : z.jobs ≤ z.numbers
  pub «place-room» : z.jobs ≤ z.places
  pub «pass-room» : z.jobs ≤ z.passes
  pub «count_room» : job_numbers ≤ z.counts
  pub «plus-room» : sum_limbs ≤ z.plus
  pub «minus-room» : sum_limbs ≤ z.minus

-- the last two tests
last_none : (k : ℕ) (b : Bool) → cond (eqb k 0) (cond b 5 0) k ≡ 0 → (k ≡ 0) × (b ≡ false)
last_none k b e = go (eqb k 0) refl e
  where
    go : (t : Bool) → eqb k 0 ≡ t → cond t (cond b 5 0) k ≡ 0 → (k ≡ 0) × (b ≡ false)
    go true t h = (eqb-true k 0 t, (cond_none b 4 0 h).0)
    go false t h = absurd (eqb-false k 0 t h)

pub call_fine : (o : Options) (z : Lent) → call_refusal o z ≡ 0 → CallFine o z
unfolding call_refusal short_results
call_fine o z e =
    let r13 = cond_none (bad_jobs z.jobs z.unknown z.nodes z.sources) 12 _ e in
    let r1 = cond_none (bad_order z.nodes z.sources) 0 _ r13.1 in
    let r2 = cond_none (uneven z) 1 _ r1.1 in
    let r5 = last_none (sizes_refusal o (one_job z)) (short_results z) r2.1 in
    let t = (neither (ltb z.vectors (z.jobs * order z) || short_lists z) (short_sums z)).0 r5.1 in
    let v = (neither (ltb z.vectors (z.jobs * order z)) (short_lists z)).0 t.0 in
    let l = (neither (ltb z.numbers z.jobs || ltb z.places z.jobs) (ltb z.passes z.jobs)).0 v.1 in
    let n = (neither (ltb z.numbers z.jobs) (ltb z.places z.jobs)).0 l.0 in
    let s = (neither (ltb z.counts 27 || ltb z.plus 66) (ltb z.minus 66)).0 t.1 in
    let p = (neither (ltb z.counts 27) (ltb z.plus 66)).0 s.0 in
    let m : z.sheets % z.jobs ≡ 0 = eqb-true _ 0 (not-false (eqb (z.sheets % z.jobs) 0) r2.0) in
    record {
      jobs = chosen _ _ _ _ r13.0;
      even = sym (zero-add (z.jobs * bytes z)) ∙ (rw m at (mod-add-div z.sheets z.jobs));
      one = fine o (one_job z) r5.0;
      «vector-room» = ltb-false _ _ v.0;
      «number-room» = ltb-false _ _ n.0;
      «place-room» = ltb-false _ _ n.1;
      «pass-room» = ltb-false _ _ l.1;
      «count_room» = ltb-false _ _ p.0;
      «plus-room» = ltb-false _ _ p.1;
      «minus-room» = ltb-false _ _ s.1;
    }

-- ---- and nothing else is refused

fine_jobs : (jobs unknown nodes sources : ℕ) → Chosen jobs unknown (nodes + sources) → bad_jobs jobs unknown nodes sources ≡ false
unfolding bad_jobs
fine_jobs jobs unknown nodes sources h =
    let some : jobs ≡ 0 → ⊥ = λ e. omega (arith, h.some) in
    rw (ne_eqb jobs 0 some, le-ltb 256 jobs h.few, lt-leb (nodes + sources) unknown h.inside)

fine_order : (o : Options) (z : Sizes) → sizes_refusal o z ≡ 0 → bad_order z.nodes z.sources ≡ false
unfolding sizes_refusal
fine_order o z e = (cond_none (bad_order z.nodes z.sources) 0 _ e).0

fine_even : (z : Lent) → z.jobs * bytes z ≡ z.sheets → uneven z ≡ false
fine_even z e =
    let m : z.sheets % z.jobs ≡ 0 = go (z.sheets % z.jobs) (z.jobs * bytes z) z.sheets (mod-add-div z.sheets z.jobs) e in
    rw m
  where
    go : (a b s : ℕ) → a + b ≡ s → b ≡ s → a ≡ 0
    go a b s p q = omega arith

-- one job of it meets none of 1 to 5
pub one_none : (o : Options) (z : Lent) → CallFine o z → sizes_refusal o (one_job z) ≡ 0
one_none o z f = sizes-none o (one_job z) f.one

-- a call that meets none of the conditions of 13 and 1 to 5
pub fine_none : (o : Options) (z : Lent) → CallFine o z → call_refusal o z ≡ 0
unfolding call_refusal short_results
fine_none o z f =
    rw (
      fine_jobs z.jobs z.unknown z.nodes z.sources f.jobs,
      fine_order o (one_job z) (one_none o z f),
      fine_even z f.even,
      one_none o z f,
      le-ltb z.vectors (z.jobs * order z) f.vector-room,
      le-ltb z.numbers z.jobs f.number-room,
      le-ltb z.places z.jobs f.place-room,
      le-ltb z.passes z.jobs f.pass-room,
      le-ltb z.counts 27 f.count_room,
      le-ltb z.plus 66 f.plus-room,
      le-ltb z.minus 66 f.minus-room,
    )

-- ---- the refusals of a call

-- 13 is "checked first"
pub jobs_refused : (o : Options) (z : Lent) → (Chosen z.jobs z.unknown (order z) → ⊥) → call_refusal o z ≡ by_jobs
unfolding call_refusal
jobs_refused o z h = go (bad_jobs z.jobs z.unknown z.nodes z.sources) refl _
  where
    go : (b : Bool) → bad_jobs z.jobs z.unknown z.nodes z.sources ≡ b → (k : ℕ) → cond b 13 k ≡ by_jobs
    go true e k = refl
    go false e k = absurd (h (chosen z.jobs z.unknown z.nodes z.sources e))

-- "2 for uneven sheets too": past 13 and 1 they are refused whatever else is wrong
pub uneven_refused : (o : Options) (z : Lent) → Chosen z.jobs z.unknown (order z) → bad_order z.nodes z.sources ≡ false → (z.jobs * bytes z ≡ z.sheets → ⊥) → call_refusal o z ≡ by_sheet
unfolding call_refusal
uneven_refused o z f e h =
    let m : z.sheets % z.jobs ≡ 0 → ⊥ = λ q. h (sym (zero-add (z.jobs * bytes z)) ∙ (rw q at (mod-add-div z.sheets z.jobs))) in
    rw (fine_jobs z.jobs z.unknown z.nodes z.sources f, e, ne_eqb (z.sheets % z.jobs) 0 m)

-- 13, or 1 to 5
abbrev pub RefusedBy : ℕ → Type 0
RefusedBy k = (k ≡ by_jobs) ⊎ ((by_order ≤ k) × (k ≤ by_room))

pub refused_by : (o : Options) (z : Lent) → (call_refusal o z ≡ 0 → ⊥) → RefusedBy (call_refusal o z)
unfolding call_refusal
refused_by o z =
    go (bad_jobs z.jobs z.unknown z.nodes z.sources) (bad_order z.nodes z.sources) (uneven z) (eqb (sizes_refusal o (one_job z)) 0) (short_results z)
    (sizes_refusal o (one_job z)) (sizes_most o (one_job z))
  where
    go : (r₁₃ r₁ r₂ none r₅ : Bool) (k : ℕ) → k ≤ by_room → (cond r₁₃ 13 (cond r₁ 1 (cond r₂ 2 (cond none (cond r₅ 5 0) k))) ≡ 0 → ⊥)
        → RefusedBy (cond r₁₃ 13 (cond r₁ 1 (cond r₂ 2 (cond none (cond r₅ 5 0) k))))
    go true r₁ r₂ none r₅ k m h = inl refl
    go false true r₂ none r₅ k m h = inr (omega arith, omega arith)
    go false false true none r₅ k m h = inr (omega arith, omega arith)
    go false false false true true k m h = inr (omega arith, omega arith)
    go false false false true false k m h = absurd (h refl)
    go false false false false r₅ k m h = inr (omega (arith, h), m)
