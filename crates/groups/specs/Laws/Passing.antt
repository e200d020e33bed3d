-- A group passes by the records of other kinds on their kind byte, and makes of them what it would make of their elements: nothing. Assumes nothing.
use Rattle.std.specs.Prelude.{ℕ, ◌≡◌, refl, Bool, true, false, List}
use Rattle.std.proofs.Common.{sym, ap, ◌∙◌, ⊎_elim, arith, lt-ltb, le-ltb}
use Rattle.loops.specs.Laws.Loop.{three}
use Rattle.sheet.specs.declared.Element.{Element}
use Rattle.std.specs.declared.result.Result.TheVariants.{Ok, Err}
use Rattle.sheet.specs.Record.{Decoded, kind_at}
use Rattle.sheet.specs.Kind.{kind_of}
use Rattle.sheet.specs.Laws.Kind.{kind_at_lem}
use Rattle.groups.specs.Records.{element_at, told, on_record, unless, outside, record_in}

-- a group of one kind: each other kind is outside, and it is not
pub apart : (kind k : ℕ) → (k ≡ kind → ⊥) → outside kind kind k ≡ true
apart kind k h = ⊎_elim (λ e. absurd (h e)) (λ l. ⊎_elim (λ p. rw (lt-ltb k kind p)) (λ p. rw (le-ltb k kind (omega arith), lt-ltb kind k p)) l) (three k kind)

pub itself : (kind k : ℕ) → k ≡ kind → outside kind kind k ≡ false
itself kind k e = rw (le-ltb k kind (omega arith), le-ltb kind k (omega arith))

-- what f makes of each element of whose kind a test holds is x
abbrev pub Silent : {X : Type 0} → (ℕ → Bool) → (Element → X) → X → Type 0
Silent skip f x = (e : Element) → skip (kind_of e) ≡ true → f e ≡ x

-- what f makes of each element of another kind is x
abbrev pub Quiet : {X : Type 0} → ℕ → ℕ → (Element → X) → X → Type 0
Quiet low high f x = Silent (outside low high) f x

-- that a record may also be passed by changes nothing of what is made of its element
pub told_same : {X : Type 0} (f : Element → X) (x : X) (d : Decoded) → on_record f x (told d) ≡ on_record f x d
told_same f x (Ok e) = refl
told_same f x (Err r) = refl

module _ {X : Type 0} (skip : ℕ → Bool) (sheet : List ℕ) (i : ℕ) (f : Element → X) (x : X) (silent : Silent skip f x) where
  pub passed : skip (kind_at sheet i) ≡ true → (d : Decoded) → element_at sheet i ≡ d → x ≡ on_record f x d
  passed h (Ok e) g = sym (silent e (ap skip (sym (kind_at_lem sheet i e g)) ∙ h))
  passed h (Err k) g = refl

  pub passed_by : on_record f x (unless skip sheet i) ≡ on_record f x (element_at sheet i)
  passed_by = by_kind_lem (skip (kind_at sheet i)) refl
    where
      by_kind_lem : (b : Bool) → skip (kind_at sheet i) ≡ b → on_record f x (unless skip sheet i) ≡ on_record f x (element_at sheet i)
      by_kind_lem true h = rw h (passed h (element_at sheet i) refl)
      by_kind_lem false h = rw h (told_same f x (element_at sheet i))

pub in_group : {X : Type 0} (low high : ℕ) (sheet : List ℕ) (i : ℕ) (f : Element → X) (x : X) → Quiet low high f x → on_record f x (record_in low high sheet i) ≡ on_record f x (element_at sheet i)
unfolding record_in
in_group low high sheet i f x quiet = passed_by (outside low high) sheet i f x quiet
