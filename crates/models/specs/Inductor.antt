-- The inductor's companion model. Clients cite conductance_of and current_after.
use Rattle.std.specs.Prelude.{Float}
use Rattle.models.specs.Signs.{◌⊕◌, ◌⊗◌, ◌⊘◌}

-- "a conductance, step over henries"
unfoldable pub conductance_of : Float → Float → Float
conductance_of henries step = step ⊘ henries

-- "that conductance times the new voltage plus the old current": the product is rounded, and then the sum
unfoldable pub current_after : Float → Float → Float → Float → Float
current_after henries step v old = (conductance_of henries step ⊗ v) ⊕ old
