-- What is seen of the runs of a call, and the status. Clients cite sound_seen, fault_seen, fault_if, both_seen, all_seen, job_seen, judged_seen, spreads_seen and status_of.
use Rattle.std.specs.Prelude.{ℕ, Bool, true, false, cond, not, ◌&&◌, ◌||◌, List, [], ◌∷◌, eqb, Result, Ok, Err}
use Rattle.numbers.specs.Verdicts.{settled, number_of}
use Rattle.engine.specs.declared.Outcome.{Outcome}
use Rattle.engine.specs.declared.Outcome.TheVariants as Run
use Rattle.numbers.specs.declared.refusal.Refusal.{Refusal}
use Rattle.judge.specs.declared.Judged.{Judged}
use Rattle.judge.specs.declared.Judged.TheVariants as Judge
use Rattle.sound.specs.declared.Soundings.{Soundings}
use Rattle.sound.specs.declared.Soundings.TheVariants as Call
use Rattle.shell.specs.declared.seen.Seen.{Seen}

abbrev pub sound_seen : Seen
sound_seen = record { fault = false; doubtful = false }

abbrev pub fault_seen : Seen
fault_seen = record { fault = true; doubtful = false }

abbrev pub fault_if : Bool → Seen
fault_if f = record { fault = f; doubtful = false }

abbrev pub doubted_seen : Bool → Seen
doubted_seen d = record { fault = false; doubtful = d }

abbrev pub both_seen : Seen → Seen → Seen
both_seen a b = record { fault = a.fault || b.fault; doubtful = a.doubtful || b.doubtful }

-- all that was seen in a call
abbrev pub all_seen : List Seen → Seen
all_seen [] = sound_seen
all_seen (s ∷ ss) = both_seen s (all_seen ss)

-- "doubtful if it was refused, ended with another verdict than 0, had a DC verdict other than 0 before its transient, has a diode behind"
abbrev pub job_seen : Outcome → Seen
job_seen (Run.Refused k i) = doubted_seen true
job_seen (Run.Ended e) = doubted_seen ((not (eqb (number_of e.verdict) settled) || not (eqb (number_of e.dc) settled)) || not (eqb e.behind 0))

-- "or was not accepted by the judge that it asked for"
abbrev pub judged_seen : Result Judged Refusal → Seen
judged_seen (Ok Judge.Accepted) = doubted_seen false
judged_seen (Ok (Judge.Rejected i)) = doubted_seen true
judged_seen (Err k) = doubted_seen true

-- a whole call that is refused is at fault; one that is done is doubtful "if not every job is sound"
abbrev pub spreads_seen : Soundings → ℕ → Seen
spreads_seen (Call.Refused k) jobs = fault_seen
spreads_seen (Call.Done r) jobs = doubted_seen (not (eqb r.sound.settled jobs))

-- 2 for a fault, which goes before doubt; 1 for doubt where doubt counts; else 0
abbrev pub status_of : Bool → Seen → ℕ
status_of strict s = cond s.fault 2 (cond (strict && s.doubtful) 1 0)
