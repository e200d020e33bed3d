-- `spreads::refusals::refusal` meets its contract.
use mathlib.Core.Path.{sym, ap, ◌∙◌}
use native.Mathlib.Omega.{arith}
use borrow.Author.Tests.{eq-eqb, ne_eqb}
use Rattle.std.proofs.Common.{◌≡◌, refl, Result, Ok, Err}
use Rattle.std.specs.Prelude.{⊤}
use Rattle.numbers.specs.Refusals.{number_of, refused_by}
use Rattle.numbers.specs.declared.refusal.Refusal.{Refusal}
use Rattle.options.specs.declared.Options.{Options}
use Rattle.sheet.specs.Laws.Ends.{some_number}
use Rattle.checks.specs.declared.Sizes.{Sizes}
use Rattle.checks.specs.Checks.{sizes_fault, sizes_refusal}
use Rattle.checks.specs.Laws.Checks.{order_small, sizes_number}
use Rattle.spreads.specs.Refusals.{call_refusal}
use Rattle.spreads.specs.Laws.Refusals.{chosen}
use Rattle.spreads.proofs.refusals.refusal.Goals as goal

pub returns-then-bad_jobs : goal.returns-then-bad_jobs
unfolding call_refusal
returns-then-bad_jobs c = simp (sym c.bad_jobs.ensures ∙ c.if-bad_jobs.true)

pub returns-then-bad_order : goal.returns-then-bad_order
unfolding call_refusal
returns-then-bad_order c = simp (sym c.bad_jobs.ensures ∙ c.if-bad_jobs.false, sym c.bad_order.ensures ∙ c.if-bad_order.true)

pub nonzero_rem-z : goal.nonzero_rem-z
nonzero_rem-z c = omega (arith, (chosen _ _ _ _ (sym c.bad_jobs.ensures ∙ c.if-bad_jobs.false)).some)

pub returns-then-z-ne0 : goal.returns-then-z-ne0
unfolding call_refusal
returns-then-z-ne0 c = simp (sym c.bad_jobs.ensures ∙ c.if-bad_jobs.false, sym c.bad_order.ensures ∙ c.if-bad_order.false, ne_eqb _ _ c.if-z-ne0.true)

pub one_job-requires : goal.one_job-requires
one_job-requires c = (order_small _ _ (sym c.bad_order.ensures ∙ c.if-bad_order.false), (chosen _ _ _ _ (sym c.bad_jobs.ensures ∙ c.if-bad_jobs.false)).some)

-- a single job's refusal, as a number and as an answer
refused : (o : Options) (z y : Sizes) {r : Result ⊤ Refusal} {k : Refusal} → r ≡ sizes_fault o z → z ≡ y → r ≡ Err k → sizes_refusal o y ≡ number_of k
refused o z y e q f = sym (sizes_number o y) ∙ ap refused_by (ap (sizes_fault o) (sym q) ∙ (sym e ∙ f))

unrefused : (o : Options) (z y : Sizes) (r : Result ⊤ Refusal) → r ≡ sizes_fault o z → z ≡ y → ((k : Refusal) → r ≡ Err k → ⊥) → sizes_refusal o y ≡ 0
unrefused o z y (Ok u) e q n = sym (sizes_number o y) ∙ ap refused_by (ap (sizes_fault o) (sym q) ∙ sym e)
unrefused o z y (Err k) e q n = absurd (n k refl)

pub returns-in-Err : goal.returns-in-Err
unfolding call_refusal
returns-in-Err c =
    let k = refused _ _ _ c.refusal.ensures c.one_job.ensures c.in-Err.is in
    rw (sym c.bad_jobs.ensures ∙ c.if-bad_jobs.false, sym c.bad_order.ensures ∙ c.if-bad_order.false, eq-eqb _ _ c.if-z-ne0.false, k, ne_eqb (number_of c.in-Err.k) 0 (λ e. omega (arith, some_number c.in-Err.k, e))) c.number.ensures

pub short_results-requires : goal.short_results-requires
short_results-requires c = (order_small _ _ (sym c.bad_order.ensures ∙ c.if-bad_order.false), (chosen _ _ _ _ (sym c.bad_jobs.ensures ∙ c.if-bad_jobs.false)).few)

pub returns-then-short_results : goal.returns-then-short_results
unfolding call_refusal
returns-then-short_results c = rw (sym c.bad_jobs.ensures ∙ c.if-bad_jobs.false, sym c.bad_order.ensures ∙ c.if-bad_order.false, eq-eqb _ _ c.if-z-ne0.false, unrefused _ _ _ _ c.refusal.ensures c.one_job.ensures c.in_default.not-Err, sym c.short_results.ensures ∙ c.if-short_results.true)

pub returns : goal.returns
unfolding call_refusal
returns c = rw (sym c.bad_jobs.ensures ∙ c.if-bad_jobs.false, sym c.bad_order.ensures ∙ c.if-bad_order.false, eq-eqb _ _ c.if-z-ne0.false, unrefused _ _ _ _ c.refusal.ensures c.one_job.ensures c.in_default.not-Err, sym c.short_results.ensures ∙ c.if-short_results.false)
