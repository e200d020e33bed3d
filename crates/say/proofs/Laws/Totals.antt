-- The chemist's total: the sum of the counts is the true one where it fits in 64 bits, and where a call answers a report it is the jobs given. Clients cite total_more, total_true, settled_true, numbers_total, total_jobs and numbers_jobs. Assumes nothing.
use Rattle.std.specs.Prelude.{◌≡◌, ℕ, ◌+◌, ◌%◌, ◌^◌, ◌<◌, ◌≤◌, List}
use Rattle.std.proofs.Common.{sym, ap, ◌∙◌, subst, mod-eq_of_lt, add-one, arith}
use Rattle.std.proofs.Math.Nat.{mod-add-mod}
use Rattle.numbers.specs.Causes.{behind, rejected}
use Rattle.numbers.specs.Limits.{job_numbers, job_causes}
use Rattle.numbers.specs.Refusals.{by_tolerance}
use Rattle.numbers.specs.Verdicts.{settled}
use Rattle.tally.specs.Tally.{summed}
use Rattle.sound.specs.declared.reports.Reports.{Reports}
use Rattle.sound.specs.declared.Soundings.{Soundings}
use Rattle.sound.specs.declared.Soundings.TheVariants.{Done}
use Rattle.sound.specs.Sound.{Call, sound_of}
use Rattle.sound.proofs.Laws.Promises.{Kept, every_call}
use Rattle.say.specs.Totals.{count_in, settled_in, number_count, total_of}

-- one count more, on a sum that wraps
pub total_more : (counts : List ℕ) (k x s : ℕ) → s ≡ summed (count_in counts) k % 2 ^ 64 → x ≡ count_in counts k → (s + x) % 2 ^ 64 ≡ summed (count_in counts) (k + 1) % 2 ^ 64
total_more counts k x s e f =
    rw (e, f) (mod-add-mod (summed (count_in counts) k) (2 ^ 64) (count_in counts k) ∙ ap (λ (n : ℕ). summed (count_in counts) n % 2 ^ 64) (sym (add-one k)))

-- a sum below 2^64 does not wrap
pub total_true : (counts : List ℕ) → summed (count_in counts) job_causes < 2 ^ 64 → total_of counts ≡ summed (count_in counts) job_causes
total_true counts h = mod-eq_of_lt h

-- the counts of the four causes that are no number of a run, and all the counts
four : (counts : List ℕ) → count_in counts settled + count_in counts by_tolerance + count_in counts behind + count_in counts rejected ≤ summed (count_in counts) job_causes
four counts = omega arith

-- below 2^64 the settled jobs are the very sum of these four
pub settled_true :
    (counts : List ℕ) → summed (count_in counts) job_causes < 2 ^ 64
    → settled_in counts ≡ count_in counts settled + count_in counts by_tolerance + count_in counts behind + count_in counts rejected
settled_true counts h = go (count_in counts settled) (count_in counts by_tolerance) (count_in counts behind) (count_in counts rejected) (omega (arith, four counts, h))
  where
    go : (a b c d : ℕ) → a + b + c + d < 2 ^ 64 → (((a + b) % 2 ^ 64 + c) % 2 ^ 64 + d) % 2 ^ 64 ≡ a + b + c + d
    go a b c d l =
        let p : (a + b) % 2 ^ 64 ≡ a + b = mod-eq_of_lt (omega arith) in
        let q : (a + b + c) % 2 ^ 64 ≡ a + b + c = mod-eq_of_lt (omega arith) in
        rw (p, q) (mod-eq_of_lt l)

-- The jobs by their own numbers are all the jobs by their causes: between the two no job is lost, and none counts twice.
pub numbers_total : (counts : List ℕ) → summed (count_in counts) job_causes < 2 ^ 64 → summed (number_count counts) job_numbers ≡ summed (count_in counts) job_causes
numbers_total counts h = omega (arith, settled_true counts h)

-- the counts of a call are few
below : (c : Call) (r : Reports) → (sound_of c).answer ≡ Done r → summed (count_in (sound_of c).results.counts) job_causes < 2 ^ 64
below c r h =
    let k = subst (λ (a : Soundings). Kept c a (sound_of c).results) h (every_call c) in
    subst (λ (n : ℕ). n < 2 ^ 64) (sym k.«counts-add_up») (omega (arith, k.fine.call.jobs.few))

-- "The counts of sound and of every cause add up to the jobs given": where a call is done, what is written beside the jobs given is that very number,
pub total_jobs : (c : Call) (r : Reports) → (sound_of c).answer ≡ Done r → total_of (sound_of c).results.counts ≡ c.jobs
total_jobs c r h =
    let k = subst (λ (a : Soundings). Kept c a (sound_of c).results) h (every_call c) in
    total_true (sound_of c).results.counts (below c r h) ∙ k.«counts-add_up»

-- and the jobs by their own numbers, which the records of a machine have, add up to it, too.
pub numbers_jobs : (c : Call) (r : Reports) → (sound_of c).answer ≡ Done r → summed (number_count (sound_of c).results.counts) job_numbers ≡ c.jobs
numbers_jobs c r h =
    let k = subst (λ (a : Soundings). Kept c a (sound_of c).results) h (every_call c) in
    numbers_total (sound_of c).results.counts (below c r h) ∙ k.«counts-add_up»
