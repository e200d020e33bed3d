-- The whole call: what is refused, what is answered, and what stands in each lent buffer afterwards. Clients cite Results, results_of, Call, call_of, batch_in, sound_result_of, sound_of and ScratchKept.
use Rattle.std.specs.Prelude.{ℕ, ◌+◌, ◌≡◌, cond, List, ◌++◌, eqb, length, drop, Float}
use Rattle.numbers.specs.Limits.{job_causes}
use Rattle.loops.specs.Each.{each}
use Rattle.options.specs.declared.Options.{Options}
use Rattle.single.specs.Single.{Single}
use Rattle.tally.specs.Tally.{how_many}
use Rattle.spreads.specs.declared.refusals.Lent.{Lent}
use Rattle.spreads.specs.Runs.{Table, table_after}
use Rattle.spreads.specs.Spreads as spreads
use Rattle.spreads.specs.Spreads.{Scratch, Batch, batch_of, job_in, number_at, value_at}
use Rattle.sound.specs.declared.Soundings.{Soundings}
use Rattle.sound.specs.declared.Soundings.TheVariants.{Refused, Done}
use Rattle.sound.specs.declared.refusals.More.{More}
use Rattle.sound.specs.Causes.{with_causes}
use Rattle.sound.specs.Refusals.{sound_refusal}
use Rattle.sound.specs.Reports.{Summed, both_over}

-- ---- a call

-- the buffers in which the results stand: a vector, a cause, a place and passes for each job; the counts; two rows for each of the two sums
pub record Results : Type 0 where
  pub vectors : List Float
  pub causes : List ℕ
  pub places : List ℕ
  pub passes : List ℕ
  pub counts : List ℕ
  pub plus : List ℕ
  pub minus : List ℕ
  pub «sound-plus» : List ℕ
  pub «sound-minus» : List ℕ

abbrev pub results_of : List Float → List ℕ → List ℕ → List ℕ → List ℕ → List ℕ → List ℕ → List ℕ → List ℕ → Results
results_of v cs ps qs ks p m sp sm =
    record { vectors = v; causes = cs; places = ps; passes = qs; counts = ks; plus = p; minus = m; «sound-plus» = sp; «sound-minus» = sm }

-- what a caller hands in: as to `spreads`, and the tolerances
pub record Call : Type 0 where
  pub options : Options
  pub jobs : ℕ
  pub nodes : ℕ
  pub sources : ℕ
  pub unknown : ℕ
  pub sheets : List ℕ
  pub points : List ℕ
  pub tolerances : List Float
  pub scratch : Scratch
  pub lent : Results

abbrev pub call_of : Options → ℕ → ℕ → ℕ → ℕ → List ℕ → List ℕ → List Float → Scratch → Results → Call
call_of o jobs nodes sources unknown sheets points tolerances x r =
    record { options = o; jobs = jobs; nodes = nodes; sources = sources; unknown = unknown; sheets = sheets; points = points; tolerances = tolerances; scratch = x; lent = r }

-- the call of `spreads` in it, with the causes lent for the numbers
abbrev pub batch_in : Call → Batch
batch_in c =
    batch_of c.options c.jobs c.nodes c.sources c.unknown c.sheets c.points c.scratch
    (spreads.results_of c.lent.vectors c.lent.causes c.lent.places c.lent.passes c.lent.counts c.lent.plus c.lent.minus)

-- its counts and lengths, and the lengths of what is lent besides
abbrev pub lengths : Call → Lent
lengths c = spreads.lengths (batch_in c)

abbrev pub more_of : Call → More
more_of c = record { tolerances = length c.tolerances; plus = length c.lent.«sound-plus»; minus = length c.lent.«sound-minus» }

-- the refusal of the whole call, 0 where there is none
abbrev pub refusal_of : Call → ℕ
refusal_of c = sound_refusal c.options (lengths c) (more_of c)

-- ---- what it answers

-- the jobs of the call, each by itself; and with its cause for its number
abbrev pub job_of : Call → ℕ → Single
job_of c = job_in (batch_in c)

abbrev pub caused_of : Call → ℕ → Single
caused_of c = with_causes c.tolerances (c.nodes + c.sources) (job_of c)

-- the answer, and each lent buffer but the scratch
pub record SoundResult : Type 0 where
  pub answer : Soundings
  pub results : Results

abbrev pub sound_result_of : Soundings → Results → SoundResult
sound_result_of r x = record { answer = r; results = x }

-- the runs with the counts of their causes and the two reports
abbrev pub done_of : Table → List ℕ → Summed → SoundResult
done_of x counts s =
    sound_result_of (Done s.reports) (results_of x.vectors x.numbers x.places x.passes counts s.plus s.minus s.«sound-plus» s.«sound-minus»)

abbrev pub ran_left : Call → SoundResult
ran_left c =
    done_of (table_after (caused_of c) (c.nodes + c.sources) c.jobs c.lent.vectors c.lent.causes c.lent.places c.lent.passes)
    (each (how_many (number_at (caused_of c)) c.jobs) job_causes ++ drop job_causes c.lent.counts)
    (both_over (number_at (job_of c)) (number_at (caused_of c)) (value_at c.unknown (job_of c)) c.jobs c.lent.plus c.lent.minus c.lent.«sound-plus» c.lent.«sound-minus»)

-- the whole: a refusal "changes nothing"
unfoldable pub sound_of : Call → SoundResult
sound_of c = cond (eqb (refusal_of c) 0) (ran_left c) (sound_result_of (Refused (refusal_of c)) c.lent)

-- the scratch as `spreads` keeps it, and unchanged where this call is refused
pub record ScratchKept (c : Call) (x : Scratch) : Type 0 where
  pub past : spreads.ScratchKept (batch_in c) x
  pub kept : (refusal_of c ≡ 0 → ⊥) → x ≡ c.scratch
