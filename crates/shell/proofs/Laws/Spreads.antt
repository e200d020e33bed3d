-- A whole call of spreads and the status: it counts as sound exactly where it is not refused and every one of its jobs is sound. Clients cite AllSound, spreads_sound, spreads_sound_only, spreads_refused, spreads_strict and spreads_alone. Assumes nothing.
use Prim.Native.Nat.{ℕ, zero, suc, ◌+◌, ◌<◌}
use Rattle.std.specs.Prelude.{◌≡◌, Bool, List, [], ◌∷◌, ◌++◌, get_or}
use Rattle.std.proofs.Math.Path.{refl}
use Rattle.std.proofs.Common.{sym, ap, ◌∙◌, arith}
use Rattle.std.proofs.Math.Bool.{true, false, cond}
use borrow.Author.Tests.{eqb-true, eq-eqb, ltb-true, ltb-false, not-false}
use Rattle.std.proofs.Math.Dec.{eqb, ltb}
use Rattle.tally.specs.Tally.{number_in, how_many}
use Rattle.tally.specs.Laws.Tally.{many_most}
use Rattle.sound.specs.declared.reports.Reports.{Reports}
use Rattle.sound.specs.declared.Soundings.{Soundings}
use Rattle.sound.specs.declared.Soundings.TheVariants.{Refused, Done}
use Rattle.sound.specs.Sound.{Call, Results, sound_result_of, sound_of}
use Rattle.sound.proofs.Laws.Promises.{SoundJob, OfReports, Kept, every_call, of_call}
use Rattle.shell.specs.declared.seen.Seen.{Seen}
use Rattle.shell.specs.Seen.{sound_seen, all_seen, spreads_seen, status_of}
use Rattle.shell.specs.Laws.Each.{each_here}
use Rattle.shell.proofs.Laws.Status.{strict_zero, fault_anywhere}

-- ---- a count is all of them exactly where each is counted

module _ (f : ℕ → ℕ) (k : ℕ) where
  many_all : (n : ℕ) → how_many f n k ≡ n → (j : ℕ) → j < n → f j ≡ k
  unfolding how_many
  many_all zero e j h = absurd (omega arith)
  many_all (suc n) e j h = go (eqb (f n) k) refl e (many_all n)
    where
      go : (b : Bool) → eqb (f n) k ≡ b → cond b (how_many f n k + 1) (how_many f n k) ≡ suc n → (how_many f n k ≡ n → (i : ℕ) → i < n → f i ≡ k) → f j ≡ k
      go true t u more = last (ltb j n) refl
        where
          last : (b : Bool) → ltb j n ≡ b → f j ≡ k
          last true w = more (omega arith) j (ltb-true j n w)
          last false w = let p : j ≡ n = omega (arith, ltb-false j n w) in rw p (eqb-true (f n) k t)
      go false t u more = absurd (omega (arith, many_most f k n))

  all_many : (n : ℕ) → ((j : ℕ) → j < n → f j ≡ k) → how_many f n k ≡ n
  unfolding how_many
  all_many zero h = refl
  all_many (suc n) h = rw (eq-eqb (f n) k (h n (omega arith)), all_many n (λ j l. h j (omega arith))) (omega arith)

-- ---- a call

-- the call was done, with these reports; each job's cause is 0, and each is sound: its run settled on a finite vector, no diode is behind, and where there are tolerances the judge accepts it
pub record AllSound (c : Call) (r : Soundings) (x : Results) : Type 0 where
  pub reports : Reports
  pub done : r ≡ Done reports
  pub causes : (j : ℕ) → j < c.jobs → get_or x.causes j 0 ≡ 0
  pub «all» : (j : ℕ) → j < c.jobs → SoundJob c x j

-- of an answer and buffers that keep what every call keeps
sound_kept : (c : Call) (r : Soundings) (x : Results) → Kept c r x → spreads_seen r c.jobs ≡ sound_seen → AllSound c r x
sound_kept c (Refused k) x h e = let d : true ≡ false = ap (λ (s : Seen). s.fault) e in let z : ◌≡◌ {A = ℕ} 0 1 = cc in absurd (omega arith)
sound_kept c (Done r) x h e =
    let n : r.sound.settled ≡ c.jobs = eqb-true _ _ (not-false _ (ap (λ (s : Seen). s.doubtful) e)) in
    let m : how_many (number_in x.causes) c.jobs 0 ≡ c.jobs = sym (h.«sound-counted» ∙ h.count 0 (omega arith)) ∙ n in
    let z = many_all (number_in x.causes) 0 c.jobs m in
    record { reports = r; done = refl; causes = z; «all» = λ j l. (h.job j l).sound (z j l) }

kept_sound : (c : Call) (r : Reports) (x : Results) → OfReports c r x → ((j : ℕ) → j < c.jobs → get_or x.causes j 0 ≡ 0) → spreads_seen (Done r) c.jobs ≡ sound_seen
kept_sound c r x h every =
    let n : r.sound.settled ≡ c.jobs = h.«sound-counted» ∙ h.count 0 (omega arith) ∙ all_many (number_in x.causes) 0 c.jobs every in
    rw (eq-eqb _ _ n)

-- A call of spreads that is done and whose jobs are all sound is sound,
pub spreads_sound : (c : Call) (r : Reports) → (sound_of c).answer ≡ Done r → ((j : ℕ) → j < c.jobs → get_or (sound_of c).results.causes j 0 ≡ 0) → spreads_seen (sound_of c).answer c.jobs ≡ sound_seen
spreads_sound c r e every = rw e (kept_sound c r (sound_of c).results (rw e at (every_call c)) every)

-- and no other is.
pub spreads_sound_only : (c : Call) → spreads_seen (sound_of c).answer c.jobs ≡ sound_seen → AllSound c (sound_of c).answer (sound_of c).results
spreads_sound_only c e = sound_kept c (sound_of c).answer (sound_of c).results (every_call c) e

-- A call that is refused as a whole is status 2, with `--strict` or without, whatever else ran.
pub spreads_refused : (strict : Bool) (before behind : List Seen) (k jobs : ℕ) → status_of strict (all_seen (before ++ spreads_seen (Refused k) jobs ∷ behind)) ≡ 2
spreads_refused strict before behind k jobs = fault_anywhere strict before behind (spreads_seen (Refused k) jobs) refl

-- With `--strict` status 0 means of each call of spreads among all that ran that each of its jobs is sound. The answer and the buffers are those that the contract of `sound_spreads` gives.
pub spreads_strict : (before behind : List Seen) (c : Call) (r : Soundings) (x : Results) → sound_result_of r x ≡ sound_of c → status_of true (all_seen (before ++ spreads_seen r c.jobs ∷ behind)) ≡ 0 → AllSound c r x
spreads_strict before behind c r x e z =
    sound_kept c r x (of_call c r x e)
    (each_here (λ (s : Seen). s ≡ sound_seen) before behind (spreads_seen r c.jobs) (strict_zero (before ++ spreads_seen r c.jobs ∷ behind) z))

-- With `--strict`, status 0 of a call of one file of spreads means that each of its jobs is sound.
pub spreads_alone : (c : Call) (r : Soundings) (x : Results) → sound_result_of r x ≡ sound_of c → status_of true (all_seen (spreads_seen r c.jobs ∷ [])) ≡ 0 → (j : ℕ) → j < c.jobs → SoundJob c x j
spreads_alone c r x e z = (spreads_strict [] [] c r x e z).«all»
