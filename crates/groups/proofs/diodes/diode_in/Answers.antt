-- `groups::diodes::diode_in` meets its contract: by what the record decodes to. Assumes nothing.
use Rattle.std.proofs.Common.{◌≡◌, refl, Ok, Err, ◌∙◌, ap}
use Rattle.std.specs.Prelude.{is_ok, Result}
use Rattle.sheet.specs.declared.Element.{Element}
use Rattle.groups.specs.Listed.{diode_in, good_of}
use Rattle.groups.proofs.diodes.diode_in.Goals as goal

same : {E : Type 0} (d : Result Element E) → is_ok d ≡ good_of d
same (Ok e) = refl
same (Err k) = refl

pub returns : goal.returns
unfolding diode_in
returns c = c.is_ok.ensures.value ∙ (same c.record_in.result ∙ ap good_of (rw (c.number.ensures, c.number-2.ensures) at c.record_in.ensures))
