-- The answer of all spreads in one call, and with it the lent buffers afterwards. Clients cite spreads_answer and door_result.
use Rattle.spreads.specs.declared.Spread.{Spread}
use Rattle.spreads.specs.Spreads.{Results, BatchResult}
use Rattle.spreads.specs.Numbers.{numbers_of}
use Rattle.savrunte.specs.declared.SpreadsAnswer.{SpreadsAnswer}

-- the numbers of a call's answer
unfoldable pub spreads_answer : Spread → SpreadsAnswer
spreads_answer s =
    let t = numbers_of s in
    let r = t.report in
    record { refusal = t.refusal; settled = r.settled; smallest = r.smallest; largest = r.largest; smallest_at = r.smallest_at; largest_at = r.largest_at }

-- the door's answer, and each lent buffer but the scratch
pub record Door : Type 0 where
  pub answer : SpreadsAnswer
  pub results : Results

abbrev pub door_of : SpreadsAnswer → Results → Door
door_of a x = record { answer = a; results = x }

-- the call's result in the door's numbers
abbrev pub door_result : BatchResult → Door
door_result x = door_of (spreads_answer x.answer) x.results
