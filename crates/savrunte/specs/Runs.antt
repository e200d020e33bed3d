-- The answers of a DC run and of a transient, and with them the lent buffers afterwards. Clients cite dc_result and transient_result.
use Rattle.machine.specs.State.{Buffers}
use Rattle.engine.specs.declared.Outcome.{Outcome}
use Rattle.engine.specs.Engine.{Result}
use Rattle.engine.specs.Numbers.{numbers_of}
use Rattle.savrunte.specs.declared.DcAnswer.{DcAnswer}
use Rattle.savrunte.specs.declared.TransientAnswer.{TransientAnswer}

-- the numbers of a run's answer
unfoldable pub dc_answer : Outcome → DcAnswer
dc_answer r = let t = numbers_of r in record { refusal = t.refusal; place = t.place; verdict = t.verdict; passes = t.passes; behind = t.behind }

unfoldable pub transient_answer : Outcome → TransientAnswer
transient_answer r =
    let t = numbers_of r in
    record { refusal = t.refusal; place = t.place; verdict = t.verdict; dc_verdict = t.dc; passes = t.passes; rows = t.rows; end = t.end; behind = t.behind }

-- the door's answer, and each lent buffer afterwards
pub record Dc : Type 0 where
  pub answer : DcAnswer
  pub buffers : Buffers

abbrev pub dc_of : DcAnswer → Buffers → Dc
dc_of a x = record { answer = a; buffers = x }

-- the engine's result in the door's numbers
abbrev pub dc_result : Result → Dc
dc_result x = dc_of (dc_answer x.outcome) x.buffers

pub record Transient : Type 0 where
  pub answer : TransientAnswer
  pub buffers : Buffers

abbrev pub transient_of : TransientAnswer → Buffers → Transient
transient_of a x = record { answer = a; buffers = x }

abbrev pub transient_result : Result → Transient
transient_result x = transient_of (transient_answer x.outcome) x.buffers
