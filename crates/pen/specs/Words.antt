-- Which words belong to a number or to a place of a vector. Clients cite is_refusal, RefusalOf, VerdictOf and which_of.
use Rattle.std.specs.Prelude.{◌≡◌, ℕ, ◌-◌, Bool, cond, ◌&&◌, nat_lt, Option, MatchOption}
use Rattle.numbers.specs.declared.refusal.Refusal.{Refusal}
use Rattle.numbers.specs.declared.verdict.Verdict.{Verdict}
use Rattle.numbers.specs.Refusals as refusals
use Rattle.numbers.specs.Verdicts as verdicts
use Rattle.numbers.specs.Verdicts.{settled, passes_used}
use Rattle.pen.specs.declared.word.Unknown.{Unknown}
use Rattle.pen.specs.declared.word.Unknown.TheVariants.{Node, Source}

-- a number is a refusal's between the verdict 0 and the verdicts from 20 on
abbrev pub is_refusal : ℕ → Bool
is_refusal k = nat_lt settled k && nat_lt k passes_used

-- the refusal that has a number: none only where none has it, so that none is missed
abbrev pub RefusalOf : ℕ → Option Refusal → Type 0
RefusalOf k r = MatchOption r (¬ ((x : Refusal) × (refusals.number_of x ≡ k))) (λ x. refusals.number_of x ≡ k)

-- the verdict likewise
abbrev pub VerdictOf : ℕ → Option Verdict → Type 0
VerdictOf k r = MatchOption r (¬ ((x : Verdict) × (verdicts.number_of x ≡ k))) (λ x. verdicts.number_of x ≡ k)

-- place k of a vector: a node, or a source counted from 0
abbrev pub which_of : ℕ → ℕ → Unknown
which_of k nodes = cond (nat_lt k nodes) (Node k) (Source (k - nodes))
