-- The two reports from what `sum_up` answers for each. Assumes nothing.
use Prim.Native.Nat.{ℕ, ◌≤◌}
use mathlib.Core.Path.{◌≡◌, ◌∙◌}
use mathlib.Core.List.{List, ◌++◌}
use lib.ListN.{length, take, drop}
use lib.Seq.{length-take-le}
use lib.Ieee.{Float}
use Rattle.numbers.specs.Limits.{sum_limbs}
use Rattle.tally.specs.declared.Report.{Report}
use Rattle.tally.specs.Tally.{number_in, value_in, totals_of, totals_after, Summable}
use Rattle.tally.specs.Laws.Ready.{totals_made}
use Rattle.sound.specs.Reports.{summed_of, reports_of, both_over}

pub both_made : (jobs n unknown : ℕ) (ns cs : List ℕ) (v : List Float) (r₁ r₂ : Report) (p m sp sm p' m' sp' sm' : List ℕ)
    → Summable jobs n unknown ns v → Summable jobs n unknown cs v
    → sum_limbs ≤ length p → sum_limbs ≤ length m → sum_limbs ≤ length sp → sum_limbs ≤ length sm
    → totals_of r₁ p' m' ≡ totals_after jobs n unknown ns v (take sum_limbs p) (take sum_limbs m)
    → totals_of r₂ sp' sm' ≡ totals_after jobs n unknown cs v (take sum_limbs sp) (take sum_limbs sm)
    → summed_of (reports_of r₁ r₂) (p' ++ drop sum_limbs p) (m' ++ drop sum_limbs m) (sp' ++ drop sum_limbs sp) (sm' ++ drop sum_limbs sm)
    ≡ both_over (number_in ns) (number_in cs) (value_in n unknown v) jobs p m sp sm
both_made jobs n unknown ns cs v r₁ r₂ p m sp sm p' m' sp' sm' f g hp hm hsp hsm q₁ q₂ =
    let a = q₁ ∙ totals_made jobs n unknown ns v (take sum_limbs p) (take sum_limbs m) f (length-take-le sum_limbs p hp) (length-take-le sum_limbs m hm) in
    let b = q₂ ∙ totals_made jobs n unknown cs v (take sum_limbs sp) (take sum_limbs sm) g (length-take-le sum_limbs sp hsp) (length-take-le sum_limbs sm hsm) in
    λ i. summed_of (reports_of (a i).report (b i).report) ((a i).plus ++ drop sum_limbs p) ((a i).minus ++ drop sum_limbs m) ((b i).plus ++ drop sum_limbs sp) ((b i).minus ++ drop sum_limbs sm)
