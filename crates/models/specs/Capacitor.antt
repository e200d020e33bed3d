-- The capacitor's companion model. Clients cite companion_of.
use Rattle.std.specs.Prelude.{Float}
use Rattle.models.specs.Signs.{◌⊗◌, ◌⊘◌}
use Rattle.models.specs.declared.capacitor.Companion.{Companion}

-- "g = value/t_delta, i = g times last voltage"
unfoldable pub companion_of : Float → Float → Float → Companion
companion_of value v tdelta =
    let g = value ⊘ tdelta in
    record { g = g; i = g ⊗ v }
