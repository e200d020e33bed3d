-- What a job's cause says of it, for any job: exactly one cause holds, in the order in which they are asked; and which numbers there are. Clients cite word, CaughtUp, Asked, Holds, the_cause, one_cause, sound_settled, zero_sound,
-- by_mark, not_judged, Fits, only_tolerance, Caused, caused, few_causes, own_of and own_back. Assumes nothing.
use Rattle.std.specs.Prelude.{ℕ, zero, suc, ◌+◌, ◌-◌, ◌*◌, ◌≤◌, ◌<◌, ◌≡◌, Bool, ◌||◌, ◌&&◌, List, take, Float, Result, Ok, Err, ⊤}
use Rattle.std.specs.Result.{result_and}
use Rattle.std.proofs.Math.Path.{refl, ap}
use Rattle.std.proofs.Common.{sym, ◌∙◌, subst, ⊎_elim}
use Rattle.std.proofs.Math.Bool.{true, false, cond}
use native.Mathlib.Omega.{arith}
use borrow.Author.Tests.{eqb-true, eqb-false, eq-eqb, ne_eqb, le-ltb}
use Rattle.std.proofs.Math.Dec.{eqb}
use Rattle.std.proofs.Math.ListN.{length}
use Rattle.numbers.specs.Limits.{most_unknowns, job_numbers, job_causes}
use Rattle.numbers.specs.Verdicts.{settled}
use Rattle.numbers.specs.Causes.{behind, rejected}
use Rattle.numbers.specs.Refusals.{by_tolerance, number_of}
use Rattle.numbers.specs.declared.refusal.Refusal.{Refusal}
use Rattle.numbers.specs.declared.refusal.Refusal.TheVariants.{Tolerance}
use Rattle.num.specs.Lists.{every}
use Rattle.judge.specs.declared.Judged.{Judged}
use Rattle.judge.specs.declared.Judged.TheVariants as judge
use Rattle.judge.specs.Judge as the-judge
use Rattle.judge.specs.Judge.{named, allowed, judge_refusal, judge_of}
use Rattle.judge.proofs.Laws.Judge.{refused_some}
use Rattle.single.specs.Single.{Single}
use Rattle.single.specs.Laws.Promises.{Numbered, refused, «has-settled», «used-passes», «has-diverged», «not-Finite», «spent-budget», few}
use Rattle.sound.specs.declared.causes.Cause.{Cause}
use Rattle.sound.specs.declared.causes.Cause.TheVariants.{Sound, Own, Behind, Unjudged, Rejected}
use Rattle.sound.specs.Causes.{heard, cause_of, numbers_of}
use Rattle.sound.specs.Laws.Refusals.{Enough}

-- ---- the judge's refusal

-- it is the first that the judge's own checks meet
refusal_told : (n : ℕ) (m x t : List Float) (k : Refusal) → judge_of n m x t ≡ Err k → judge_refusal n m x t ≡ Err k
unfolding judge_of
refusal_told n m x t k e = go (judge_refusal n m x t) e
  where
    go : (c : Result ⊤ Refusal) → result_and c (Ok (named (the-judge.holds n m x t) n 0)) ≡ Err k → c ≡ Err k
    go (Ok u) q = absurd (cc)
    go (Err r) q = cc

module _ (x : Single) (tolerances : List Float) (n : ℕ) where
  -- what the judge says of the vector on the system that the run left
  abbrev pub word : Result Judged Refusal
  word = judge_of n x.system x.vector tolerances

  -- it settled, and no diode is behind
  pub record CaughtUp : Type 0 where
    pub number : x.mark.number ≡ settled
    pub behind : x.mark.behind ≡ 0

  -- so it is, and the judge was asked
  pub record Asked : Type 0 where
    pub run : CaughtUp
    pub given : 0 < length tolerances

  -- the cause c holds of the job, and none that is asked before it
  abbrev pub Holds : Cause → Type 0
  Holds Sound = CaughtUp × (0 < length tolerances → word ≡ Ok judge.Accepted)
  Holds (Own k i) = (x.mark.number ≡ settled → ⊥) × (k ≡ x.mark.number) × (i ≡ x.mark.place)
  Holds (Behind i) = (x.mark.number ≡ settled) × (x.mark.behind ≡ i + 1)
  Holds (Unjudged k) = Asked × (word ≡ Err k)
  Holds (Rejected row) = Asked × (word ≡ Ok (judge.Rejected row))

  -- ---- exactly one cause holds of a job, and it is the cause told

  heard_holds : (w : Result Judged Refusal) → CaughtUp → 0 < length tolerances → word ≡ w → Holds (heard w)
  heard_holds (Ok judge.Accepted) u l e = (u, λ h. e)
  heard_holds (Ok (judge.Rejected row)) u l e = (record { run = u; given = l }, e)
  heard_holds (Err k) u l e = (record { run = u; given = l }, e)

  above : (k : ℕ) → (k ≡ 0 → ⊥) → 0 < k
  above k h = omega arith

  pub the_cause : Holds (cause_of x tolerances n)
  unfolding cause_of
  the_cause = go (eqb x.mark.number settled) (eqb x.mark.behind 0) (eqb (length tolerances) 0) refl refl refl
    where
      less : (k : ℕ) → (k ≡ 0 → ⊥) → k ≡ k - 1 + 1
      less k h = omega arith

      go : (a b d : Bool) → eqb x.mark.number settled ≡ a → eqb x.mark.behind 0 ≡ b → eqb (length tolerances) 0 ≡ d
          → Holds (cond a (cond b (cond d Sound (heard word)) (Behind (x.mark.behind - 1))) (Own x.mark.number x.mark.place))
      go false b d p q r = (eqb-false _ _ p, refl, refl)
      go true false d p q r = (eqb-true _ _ p, less _ (eqb-false x.mark.behind 0 q))
      go true true true p q r = (record { number = eqb-true _ _ p; behind = eqb-true _ _ q }, λ h. absurd (omega (arith, h, eqb-true (length tolerances) 0 r)))
      go true true false p q r = heard_holds word (record { number = eqb-true _ _ p; behind = eqb-true _ _ q }) (above _ (eqb-false (length tolerances) 0 r)) refl

  pub one_cause : (c : Cause) → Holds c → c ≡ cause_of x tolerances n
  unfolding cause_of
  one_cause Sound h = rw (eq-eqb _ _ h.0.number, eq-eqb _ _ h.0.behind) (go (eqb (length tolerances) 0) refl)
    where
      go : (d : Bool) → eqb (length tolerances) 0 ≡ d → Sound ≡ cond d Sound (heard word)
      go true e = refl
      go false e = ap heard (sym (h.1 (above _ (eqb-false (length tolerances) 0 e))))
  one_cause (Own k i) h = rw (ne_eqb _ _ h.0, h.1, h.2)
  one_cause (Behind i) h =
      let d : x.mark.behind ≡ 0 → ⊥ = λ e. omega (arith, h.1) in
      rw (eq-eqb _ _ h.0, ne_eqb x.mark.behind 0 d, h.1) (ap Behind (back i))
    where
      back : (k : ℕ) → k ≡ k + 1 - 1
      back k = omega arith
  one_cause (Unjudged k) h =
      let t : length tolerances ≡ 0 → ⊥ = λ e. omega (arith, h.0.given) in
      rw (eq-eqb _ _ h.0.run.number, eq-eqb _ _ h.0.run.behind, ne_eqb (length tolerances) 0 t) (ap heard (sym h.1))
  one_cause (Rejected row) h =
      let t : length tolerances ≡ 0 → ⊥ = λ e. omega (arith, h.0.given) in
      rw (eq-eqb _ _ h.0.run.number, eq-eqb _ _ h.0.run.behind, ne_eqb (length tolerances) 0 t) (ap heard (sym h.1))

  -- a job whose cause is 0 settled
  pub sound_settled : (numbers_of (cause_of x tolerances n)).cause ≡ 0 → x.mark.number ≡ settled
  sound_settled e = go (cause_of x tolerances n) the_cause e
    where
      go : (c : Cause) → Holds c → (numbers_of c).cause ≡ 0 → x.mark.number ≡ settled
      go Sound h q = h.0.number
      go (Own k i) h q = sym h.1 ∙ q
      go (Behind i) h q = h.0
      go (Unjudged k) h q = h.0.run.number
      go (Rejected row) h q = h.0.run.number

  -- a job whose cause is 0 is sound
  pub zero_sound : (numbers_of (cause_of x tolerances n)).cause ≡ 0 → Holds Sound
  zero_sound e = go (cause_of x tolerances n) the_cause e
    where
      go : (c : Cause) → Holds c → (numbers_of c).cause ≡ 0 → Holds Sound
      go Sound h q = h
      go (Own k i) h q = absurd (h.0 (sym h.1 ∙ q))
      go (Behind i) h q = absurd (omega arith)
      go (Unjudged k) h q = absurd (omega (arith, refused_some k))
      go (Rejected row) h q = absurd (omega arith)

  -- the judge left out: the cause that the mark alone tells
  abbrev pub by_mark : Cause
  by_mark = cond (eqb x.mark.number settled) (cond (eqb x.mark.behind 0) Sound (Behind (x.mark.behind - 1))) (Own x.mark.number x.mark.place)

  -- with no tolerances nothing is judged
  pub not_judged : length tolerances ≡ 0 → cause_of x tolerances n ≡ by_mark
  unfolding cause_of
  not_judged h = rw h

  -- ---- which numbers there are

  -- n rows, a system and a vector of their lengths, and no tolerance or one for each row
  pub record Fits : Type 0 where
    pub some : 1 ≤ n
    pub small : n ≤ most_unknowns
    pub system : length x.system ≡ n * (n + 1)
    pub vector : length x.vector ≡ n
    pub enough : Enough (length tolerances) n

  -- on such lengths the judge refuses by 11 alone
  pub only_tolerance : Fits → 0 < length tolerances → (k : Refusal) → word ≡ Err k → k ≡ Tolerance
  unfolding judge_refusal
  only_tolerance f h k e =
      go (every (allowed false) (take (n * (n + 1)) x.system) && (every (allowed false) (take n x.vector) && every (allowed true) (take n tolerances)))
      (sym (refusal_told n x.system x.vector tolerances k e) ∙ rooms)
    where
      n_some : n ≡ 0 → ⊥
      n_some z = omega (arith, f.some)

      enough : n ≤ length tolerances
      enough = ⊎_elim (λ (z : length tolerances ≡ 0). absurd (omega arith)) (λ (l : n ≤ length tolerances). l) f.enough

      rooms : judge_refusal n x.system x.vector tolerances
          ≡ cond (every (allowed false) (take (n * (n + 1)) x.system) && (every (allowed false) (take n x.vector) && every (allowed true) (take n tolerances))) (Ok tt) (Err Tolerance)
      rooms =
          rw (
            ne_eqb n 0 n_some,
            le-ltb 48 n f.small,
            le-ltb (length x.system) (n * (n + 1)) (omega (arith, f.system)),
            le-ltb (length x.vector) n (omega (arith, f.vector)),
            le-ltb (length tolerances) n enough,
          )

      go : (b : Bool) → ◌≡◌ {A = Result ⊤ Refusal} (Err k) (cond b (Ok tt) (Err Tolerance)) → k ≡ Tolerance
      go true q = absurd (cc)
      go false q = cc

-- the causes that a job can have: 0, a refusal 6 to 10, a verdict 20 to 22 or 24, 27, 11 and 28
pub data Caused : ℕ → Type 0 where
  own : {k : ℕ} → Numbered k → Caused k
  «is-behind» : Caused behind
  «not-judgeable» : Caused by_tolerance
  «is-rejected» : Caused rejected

-- each has its place among the 29
pub few_causes : (k : ℕ) → Caused k → k < job_causes
few_causes k (own q) = let l : k < job_numbers = few k q in omega arith
few_causes k «is-behind» = omega arith
few_causes k «not-judgeable» = omega arith
few_causes k «is-rejected» = omega arith

-- the own number of a job with this cause: its cause, and 0 where the cause is 11, 27 or 28
abbrev pub own_of : ℕ → ℕ
own_of k = cond (eqb k by_tolerance || eqb k behind || eqb k rejected) settled k

-- no number of a run is 11, 27 or 28
own_number : (k : ℕ) → Numbered k → own_of k ≡ k
own_number k (refused l h) = rw (ne_eqb k 11 (λ e. omega arith), ne_eqb k 27 (λ e. omega arith), ne_eqb k 28 (λ e. omega arith))
own_number k «has-settled» = refl
own_number k «used-passes» = refl
own_number k «has-diverged» = refl
own_number k «not-Finite» = refl
own_number k «spent-budget» = refl

module _ (x : Single) (tolerances : List Float) (n : ℕ) (f : Fits x tolerances n) (m : Numbered x.mark.number) where
  abbrev cause : Cause
  cause = cause_of x tolerances n

  pub caused : Caused (numbers_of cause).cause
  caused = go cause (the_cause x tolerances n)
    where
      go : (c : Cause) → Holds x tolerances n c → Caused (numbers_of c).cause
      go Sound h = own «has-settled»
      go (Own k i) h = own (subst Numbered (sym h.1) m)
      go (Behind i) h = «is-behind»
      go (Unjudged k) h = rw (only_tolerance x tolerances n f h.0.given k h.1) «not-judgeable»
      go (Rejected row) h = «is-rejected»

  pub own_back : own_of (numbers_of cause).cause ≡ x.mark.number
  own_back = go cause (the_cause x tolerances n)
    where
      go : (c : Cause) → Holds x tolerances n c → own_of (numbers_of c).cause ≡ x.mark.number
      go Sound h = sym h.0.number
      go (Own k i) h = ap own_of h.1 ∙ own_number x.mark.number m
      go (Behind i) h = sym h.0
      go (Unjudged k) h = ap (λ (r : Refusal). own_of (number_of r)) (only_tolerance x tolerances n f h.0.given k h.1) ∙ sym h.0.run.number
      go (Rejected row) h = sym h.0.run.number
