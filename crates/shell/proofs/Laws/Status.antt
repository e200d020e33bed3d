-- The status, as a script's author relies on it: what each status means of all that was seen in a call, and what a run must be to count as sound. Clients cite status_range, in_turn, in_turn_lem, zero_no_fault, no_fault_zero, strict_zero, strict_zero_only, never_one, fault_anywhere, doubt_anywhere, Sound, job_sound, job_sound_only, job_strict, judged_sound, judged_sound_only and judged_strict. Assumes nothing.
use Rattle.std.specs.Prelude.{ℕ, ◌≡◌, refl, Bool, true, false, cond, not, ◌&&◌, ◌||◌, List, [], ◌∷◌, ◌++◌, ◌⊎◌, eqb, Result, Ok, Err}
use Rattle.std.proofs.Common.{ap, ◌∙◌, inl, inr, arith, eqb-true}
use Rattle.std.proofs.lemmas.Bool.{not-false}
use Rattle.numbers.specs.declared.verdict.Verdict.TheVariants.{Settled}
use Rattle.numbers.specs.Verdicts.{settled, number_of}
use Rattle.steps.specs.Laws.Verdicts.{one_verdict}
use Rattle.engine.specs.declared.Ending.{Ending}
use Rattle.engine.specs.declared.Outcome.{Outcome}
use Rattle.engine.specs.declared.Outcome.TheVariants as Run
use Rattle.numbers.specs.declared.refusal.Refusal.{Refusal}
use Rattle.judge.specs.declared.Judged.{Judged}
use Rattle.judge.specs.declared.Judged.TheVariants as Judge
use Rattle.shell.specs.declared.seen.Seen.{Seen}
use Rattle.shell.specs.Seen.{sound_seen, both_seen, all_seen, job_seen, judged_seen, status_of}
use Rattle.shell.specs.Laws.Each.{Each, each_here}

-- ---- two truths joined

or_false : (a b : Bool) → (a || b) ≡ false → (a ≡ false) × (b ≡ false)
or_false false false e = (refl, refl)
or_false false true e = (refl, e)
or_false true b e = (e, cc)

or_true : (a b : Bool) → b ≡ true → (a || b) ≡ true
or_true true b e = refl
or_true false b e = e

-- ---- the status by itself

-- the status by whether there is a fault, and doubt that counts
abbrev grade : Bool → Bool → ℕ
grade f d = cond f 2 (cond d 1 0)

-- The status is 0, 1 or 2.
pub status_range : (strict : Bool) (s : Seen) → (status_of strict s ≡ 0) ⊎ ((status_of strict s ≡ 1) ⊎ (status_of strict s ≡ 2))
status_range strict s = go s.fault (strict && s.doubtful)
  where
    go : (f d : Bool) → (grade f d ≡ 0) ⊎ ((grade f d ≡ 1) ⊎ (grade f d ≡ 2))
    go true d = inr (inr refl)
    go false true = inr (inl refl)
    go false false = inl refl

-- Without `--strict` it is never 1.
pub never_one : (s : Seen) → status_of false s ≡ 1 → ⊥
never_one s e = go s.fault e
  where
    go : (f : Bool) → grade f false ≡ 1 → ⊥
    go true e = omega arith
    go false e = omega arith

-- the status from the two fields
status_zero : (strict : Bool) (s : Seen) → status_of strict s ≡ 0 → (s.fault ≡ false) × ((strict && s.doubtful) ≡ false)
status_zero strict s e = go s.fault (strict && s.doubtful) e
  where
    go : (f d : Bool) → grade f d ≡ 0 → (f ≡ false) × (d ≡ false)
    go true d e = absurd (omega arith)
    go false true e = absurd (omega arith)
    go false false e = (refl, refl)

-- ---- all that was seen

-- things seen that are joined one after the other, as the program does
abbrev pub in_turn : Seen → List Seen → Seen
in_turn a [] = a
in_turn a (s ∷ ss) = in_turn (both_seen a s) ss

-- The program joins what it sees as it goes, from the first to the last; that is all of it.
pub in_turn_lem : (ss : List Seen) → in_turn sound_seen ss ≡ all_seen ss
in_turn_lem ss = go sound_seen ss
  where
    or_assoc : (a b c : Bool) → ((a || b) || c) ≡ (a || (b || c))
    or_assoc true b c = refl
    or_assoc false b c = refl

    or_none : (a : Bool) → (a || false) ≡ a
    or_none true = refl
    or_none false = refl

    go : (a : Seen) (ts : List Seen) → in_turn a ts ≡ both_seen a (all_seen ts)
    go a [] = rw (or_none a.fault, or_none a.doubtful)
    go a (t ∷ ts) = go (both_seen a t) ts ∙ rw (or_assoc a.fault t.fault (all_seen ts).fault, or_assoc a.doubtful t.doubtful (all_seen ts).doubtful)

-- no fault in all is no fault in each
no_faults : (ss : List Seen) → (all_seen ss).fault ≡ false → Each (λ (s : Seen). s.fault ≡ false) ss
no_faults [] e = tt
no_faults (s ∷ ss) e = let p = or_false s.fault (all_seen ss).fault e in (p.0, no_faults ss p.1)

faults_none : (ss : List Seen) → Each (λ (s : Seen). s.fault ≡ false) ss → (all_seen ss).fault ≡ false
faults_none [] e = refl
faults_none (s ∷ ss) e = rw e.0 (faults_none ss e.1)

-- Status 0 means that nothing in the call was at fault, with `--strict` or without.
pub zero_no_fault : (strict : Bool) (ss : List Seen) → status_of strict (all_seen ss) ≡ 0 → Each (λ (s : Seen). s.fault ≡ false) ss
zero_no_fault strict ss e = no_faults ss (status_zero strict (all_seen ss) e).0

-- And without `--strict` the status is 0 wherever nothing was: doubt does not change it.
pub no_fault_zero : (ss : List Seen) → Each (λ (s : Seen). s.fault ≡ false) ss → status_of false (all_seen ss) ≡ 0
no_fault_zero ss e = rw (faults_none ss e)

-- both fields
sound_all : (ss : List Seen) → (all_seen ss).fault ≡ false → (all_seen ss).doubtful ≡ false → Each (λ (s : Seen). s ≡ sound_seen) ss
sound_all [] e f = tt
sound_all (s ∷ ss) e f =
    let p = or_false s.fault (all_seen ss).fault e in
    let q = or_false s.doubtful (all_seen ss).doubtful f in
    (λ i. record { fault = p.0 i; doubtful = q.0 i }, sound_all ss p.1 q.1)

all_sound : (ss : List Seen) → Each (λ (s : Seen). s ≡ sound_seen) ss → all_seen ss ≡ sound_seen
all_sound [] e = refl
all_sound (s ∷ ss) e = rw (e.0, all_sound ss e.1)

-- With `--strict` status 0 means that nothing in the call was at fault or doubtful,
pub strict_zero : (ss : List Seen) → status_of true (all_seen ss) ≡ 0 → Each (λ (s : Seen). s ≡ sound_seen) ss
strict_zero ss e = let p = status_zero true (all_seen ss) e in sound_all ss p.0 p.1

-- and wherever nothing was, it is 0.
pub strict_zero_only : (ss : List Seen) → Each (λ (s : Seen). s ≡ sound_seen) ss → status_of true (all_seen ss) ≡ 0
strict_zero_only ss e = rw (all_sound ss e)

-- A fault anywhere in the call is status 2, with `--strict` or without, whatever else was seen.
pub fault_anywhere : (strict : Bool) (before behind : List Seen) (s : Seen) → s.fault ≡ true → status_of strict (all_seen (before ++ s ∷ behind)) ≡ 2
fault_anywhere strict before behind s e = rw (all before)
  where
    all : (ss : List Seen) → (all_seen (ss ++ s ∷ behind)).fault ≡ true
    all [] = rw e
    all (t ∷ ts) = or_true t.fault (all_seen (ts ++ s ∷ behind)).fault (all ts)

-- With `--strict` doubt anywhere in a call without a fault is status 1.
pub doubt_anywhere : (before behind : List Seen) (s : Seen) → s.doubtful ≡ true → Each (λ (t : Seen). t.fault ≡ false) (before ++ s ∷ behind) → status_of true (all_seen (before ++ s ∷ behind)) ≡ 1
doubt_anywhere before behind s e f = rw (faults_none (before ++ s ∷ behind) f, all before)
  where
    all : (ss : List Seen) → (all_seen (ss ++ s ∷ behind)).doubtful ≡ true
    all [] = rw e
    all (t ∷ ts) = or_true t.doubtful (all_seen (ts ++ s ∷ behind)).doubtful (all ts)

-- ---- a run by itself

-- it ran, and settled, with the DC run before it, and no diode is behind in its last vector
pub record Sound (o : Outcome) : Type 0 where
  pub ending : Ending
  pub ended : o ≡ Run.Ended ending
  pub verdict : ending.verdict ≡ Settled
  pub dc : ending.dc ≡ Settled
  pub behind : ending.behind ≡ 0

-- A run that ended with verdict 0 and DC verdict 0, with no diode behind, is sound,
pub job_sound : (e : Ending) → e.verdict ≡ Settled → e.dc ≡ Settled → e.behind ≡ 0 → job_seen (Run.Ended e) ≡ sound_seen
job_sound e p q r = rw (p, q, r)

-- and no other is.
pub job_sound_only : (o : Outcome) → job_seen o ≡ sound_seen → Sound o
job_sound_only (Run.Refused k i) e = let d : true ≡ false = ap (λ (s : Seen). s.doubtful) e in let z : ◌≡◌ {A = ℕ} 0 1 = cc in absurd (omega arith)
job_sound_only (Run.Ended r) e =
    let a = not (eqb (number_of r.verdict) settled) || not (eqb (number_of r.dc) settled) in
    let p = or_false a (not (eqb r.behind 0)) (ap (λ (s : Seen). s.doubtful) e) in
    let q = or_false (not (eqb (number_of r.verdict) settled)) (not (eqb (number_of r.dc) settled)) p.0 in
    record { ending = r; ended = refl; verdict = one_verdict _ Settled (eqb-true _ _ (not-false _ q.0)); dc = one_verdict _ Settled (eqb-true _ _ (not-false _ q.1)); behind = eqb-true _ _ (not-false _ p.1) }

-- With `--strict` status 0 means of each run in the call that it ended with verdict 0 and DC verdict 0, and that no diode is behind.
pub job_strict : (before behind : List Seen) (o : Outcome) → status_of true (all_seen (before ++ job_seen o ∷ behind)) ≡ 0 → Sound o
job_strict before behind o e = job_sound_only o (each_here (λ (s : Seen). s ≡ sound_seen) before behind (job_seen o) (strict_zero (before ++ job_seen o ∷ behind) e))

-- ---- what the judge says

-- A judgement is sound where the judge accepts,
pub judged_sound : judged_seen (Ok Judge.Accepted) ≡ sound_seen
judged_sound = refl

-- and nowhere else: neither where it rejects a row nor where it refuses to judge.
pub judged_sound_only : (j : Result Judged Refusal) → judged_seen j ≡ sound_seen → j ≡ Ok Judge.Accepted
judged_sound_only (Ok Judge.Accepted) e = refl
judged_sound_only (Ok (Judge.Rejected i)) e = let d : true ≡ false = ap (λ (s : Seen). s.doubtful) e in cc
judged_sound_only (Err k) e = let d : true ≡ false = ap (λ (s : Seen). s.doubtful) e in cc

-- With `--strict` status 0 means of each run that asked for the judge that it was accepted.
pub judged_strict : (before behind : List Seen) (j : Result Judged Refusal) → status_of true (all_seen (before ++ judged_seen j ∷ behind)) ≡ 0 → j ≡ Ok Judge.Accepted
judged_strict before behind j e = judged_sound_only j (each_here (λ (s : Seen). s ≡ sound_seen) before behind (judged_seen j) (strict_zero (before ++ judged_seen j ∷ behind) e))
