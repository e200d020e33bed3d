-- A whole call of the engine. Read Engine (the call, what is refused, what stands in each lent buffer afterwards) and Work (how a run begins and by what it goes on); Numbers has the answer's numbers;
-- `Laws` holds what is proved of them, Promises first.
pub mod Begin
pub mod Work
pub mod Engine
pub mod Numbers
pub mod Laws
