-- The answers of the C door: the numbers that each enum's own crate tells of it. Clients cite the ..Answer definitions.
use Rattle.std.specs.Prelude.{ℕ, Option, Float, Result}
use Rattle.numbers.specs.declared.refusal.Refusal.{Refusal}
use Rattle.judge.specs.declared.Judged.{Judged}
use Rattle.judge.specs.Judge as judge
use Rattle.functions.specs.Sin as sine
use Rattle.convergence.specs.declared.Convergence.{Convergence}
use Rattle.convergence.specs.Convergence as convergence
use Rattle.models.specs.declared.capacitor.Companion.{Companion}
use Rattle.models.specs.declared.diode.Model.{Model}
use Rattle.models.specs.Diode as diode
use Rattle.savrunte.specs.declared.JudgeAnswer.{JudgeAnswer}
use Rattle.savrunte.specs.declared.CompanionAnswer.{CompanionAnswer}
use Rattle.savrunte.specs.declared.DiodeAnswer.{DiodeAnswer}
use Rattle.savrunte.specs.declared.SinAnswer.{SinAnswer}
use Rattle.savrunte.specs.declared.ConvergenceAnswer.{ConvergenceAnswer}

unfoldable pub sin_answer : Option Float → SinAnswer
sin_answer s = let t = sine.numbers_of s in record { refusal = t.refusal; value = t.value }

unfoldable pub convergence_answer : Convergence → ConvergenceAnswer
convergence_answer c = let t = convergence.numbers_of c in record { refusal = t.refusal; state = t.state }

-- of so many rows
unfoldable pub judge_answer : ℕ → Result Judged Refusal → JudgeAnswer
judge_answer rows j = let t = judge.numbers_of rows j in record { refusal = t.refusal; row = t.row }

abbrev pub companion : Companion → CompanionAnswer
companion c = record { g = c.g; i = c.i }

-- of a diode with this memory
unfoldable pub diode_answer : Float → Option Model → DiodeAnswer
diode_answer memory l = let t = diode.numbers_of memory l in record { verdict = t.verdict; g = t.g; i = t.i; memory = t.memory }
