-- The answer of all spreads with their sound runs, and with it the lent buffers afterwards. Clients cite sound_answer and sound_door_result.
use Rattle.sound.specs.declared.Soundings.{Soundings}
use Rattle.sound.specs.Sound.{Results, SoundResult}
use Rattle.sound.specs.Numbers.{numbers_of}
use Rattle.savrunte.specs.declared.SoundAnswer.{SoundAnswer}

-- the numbers of a call's answer: the refusal, the report over the settled jobs, and that over the sound ones
unfoldable pub sound_answer : Soundings → SoundAnswer
sound_answer s =
    let t = numbers_of s in
    let a = t.reports.settled in
    let b = t.reports.sound in
    record {
      refusal = t.refusal;
      settled = a.settled;
      smallest = a.smallest;
      largest = a.largest;
      smallest_at = a.smallest_at;
      largest_at = a.largest_at;
      sound = b.settled;
      sound_smallest = b.smallest;
      sound_largest = b.largest;
      sound_smallest_at = b.smallest_at;
      sound_largest_at = b.largest_at;
    }

-- the door's answer, and each lent buffer but the scratch
pub record SoundDoor : Type 0 where
  pub answer : SoundAnswer
  pub results : Results

abbrev pub sound_door_of : SoundAnswer → Results → SoundDoor
sound_door_of a x = record { answer = a; results = x }

-- the call's result in the door's numbers
abbrev pub sound_door_result : SoundResult → SoundDoor
sound_door_result x = sound_door_of (sound_answer x.answer) x.results
