-- Something that holds of every item of a list. Clients cite Each and each_here. Assumes nothing.
use Rattle.std.specs.Prelude.{List, [], ◌∷◌, ◌++◌}

abbrev pub Each : {A : Type 0} → (A → Type 0) → List A → Type 0
Each P [] = Unit
Each P (x ∷ xs) = P x × Each P xs

module _ {A : Type 0} (P : A → Type 0) where
  -- of an item with any others before and behind it
  pub each_here : (xs ys : List A) (x : A) → Each P (xs ++ x ∷ ys) → P x
  each_here [] ys x e = e.0
  each_here (y ∷ xs) ys x e = each_here xs ys x e.1
