-- Laws of a pass's stamping: no length changes, its verdicts are 0, 22 and 26, and the memory of a record that is no diode stays. Assumes nothing.
-- Clients cite Fine, fine and memory_stays; a further law of stamping on_record_lem, diodes_fine and diodes_leave.
use Rattle.std.specs.Prelude.{ℕ, ◌≡◌, ◌⊎◌, Bool, List, length, Option, Some, None, Float}
use Rattle.std.proofs.Math.Path.{refl}
use Rattle.std.proofs.Common.{sym, ap, ◌∙◌, inr, ⊎_elim, eqb-true, length-set, get_or-set_other}
use Rattle.std.proofs.Math.Logic.{inl}
use Rattle.std.proofs.Math.Bool.{true, false}
use Rattle.std.proofs.lemmas.Bool.{eqb-false}
use Rattle.std.proofs.Math.Dec.{eqb}
use Rattle.std.proofs.Math.ListN.{get_or}
use Rattle.std.specs.Float.Ieee.{nan}
use Rattle.numbers.specs.Kinds.{diode}
use Rattle.numbers.specs.Verdicts.{diode_current, sine_refused}
use Rattle.options.specs.declared.Options.{Options}
use Rattle.loops.specs.Loop.{copied}
use Rattle.loops.specs.Laws.Loop.{turns_inv, copied-length}
use Rattle.sheet.specs.declared.Element.{Element}
use Rattle.sheet.specs.declared.Element.TheVariants.{R, I, «V», D, Isin, Vsin, Vpwl, C, Vcvs, Vccs, L}
use Rattle.std.specs.declared.result.Result.TheVariants.{Ok, Err}
use Rattle.sheet.specs.Record.{Decoded, kind_at}
use Rattle.sheet.specs.Kind.{kind_of}
use Rattle.sheet.specs.Laws.Kind.{kind_at_lem}
use Rattle.sheet.specs.Check.{records_of}
use Rattle.sheet.specs.Row.{row_of}
use Rattle.stamps.specs.Write.{Write}
use Rattle.stamps.specs.Kinds.{current_writes, voltage_writes}
use Rattle.stamps.specs.Laws.Write.{stamped-length}
use Rattle.models.specs.Sine.{sine_at}
use Rattle.models.specs.Diode.{linearized}
use Rattle.models.specs.declared.diode.Model.{Model}
use Rattle.groups.specs.declared.Pass.{Pass}
use Rattle.groups.specs.Records.{element_at, on_record, across}
use Rattle.groups.specs.Plain.{dependent_of}
use Rattle.groups.specs.Storage.{storage_of}
use Rattle.groups.specs.Sources.{Driven, driven_of, source_time, levelled, driven, driven_at, independent_of}
use Rattle.groups.specs.Diodes.{Stamped, stamped_of, companion, biased, biased_at, diodes_of}
use Rattle.groups.specs.Stamping.{completed, linear_of, stamp_of}
use Rattle.groups.specs.Laws.Passing.{apart}
use Rattle.groups.specs.Laws.Quiet.{quiet_biased}

-- what holds of every element's part, and where there is none, holds of a record's
pub on_record_lem : {X : Type 0} (P : X → Type 0) (f : Element → X) (x : X) → ((e : Element) → P (f e)) → P x → (d : Decoded) → P (on_record f x d)
on_record_lem P f x h k (Ok e) = h e
on_record_lem P f x h k (Err r) = k

-- ---- the independent sources: 0 or 26

abbrev Sourced : List Float → Driven → Type 0
Sourced m x = (length x.matrix ≡ length m) × ((x.code ≡ 0) ⊎ (x.code ≡ sine_refused))

levelled_fine : (n : ℕ) (f : Float → List Write) (l : Option Float) (m : List Float) → Sourced m (levelled n f l m)
levelled_fine n f (Some x) m = (stamped-length n (f x) m, inl refl)
levelled_fine n f None m = (refl, inr refl)

driven_fine : (w : Pass) (points : List ℕ) (m : List Float) (e : Element) → Sourced m (driven w points m e)
unfolding driven
driven_fine w points m (Isin p q vo va freq) = levelled_fine w.order (current_writes w.order p.0 q.0) (sine_at vo va freq (source_time w)) m
driven_fine w points m (Vsin p q vo va freq s) = levelled_fine w.order (voltage_writes w.order (row_of w.nodes s) p.0 q.0) (sine_at vo va freq (source_time w)) m
driven_fine w points m (Vpwl p q delay repeat first count s) = (stamped-length w.order _ m, inl refl)
driven_fine w points m (R p q x) = (refl, inl refl)
driven_fine w points m (I p q x) = (refl, inl refl)
driven_fine w points m («V» p q x s) = (refl, inl refl)
driven_fine w points m (D p q x y) = (refl, inl refl)
driven_fine w points m (C p q x) = (refl, inl refl)
driven_fine w points m (Vcvs p q cp cq x s) = (refl, inl refl)
driven_fine w points m (Vccs p q cp cq x) = (refl, inl refl)
driven_fine w points m (L p q x s) = (refl, inl refl)

source_fine : (w : Pass) (sheet points : List ℕ) (m : List Float) (i : ℕ) (x : Driven) → Sourced m x → (b : Bool) → eqb x.code 0 ≡ b → Sourced m (driven_at w sheet points i x)
unfolding driven_at
source_fine w sheet points m i x k true e =
    let f = on_record_lem (Sourced x.matrix) (driven w points x.matrix) (driven_of 0 x.matrix) (driven_fine w points x.matrix) (refl, inl refl) (element_at sheet i) in
    rw e (f.0 ∙ k.0, f.1)
source_fine w sheet points m i x k false e = rw e k

independent_fine : (w : Pass) (sheet points : List ℕ) (m : List Float) → Sourced m (independent_of w sheet points m)
unfolding independent_of
independent_fine w sheet points m =
    turns_inv (Sourced m) (driven_at w sheet points) (records_of sheet) (driven_of 0 m) (refl, inl refl)
    (λ i l x k. source_fine w sheet points m i x k (eqb x.code 0) refl)

-- ---- the diodes: 0 or 22

-- what the record i makes of a matrix m and a memory y
record Biased (i : ℕ) (m y : List Float) (s : Stamped) : Type 0 where
  pub matrix_length : length s.matrix ≡ length m
  pub memory_length : length s.memory ≡ length y
  pub coded : (s.code ≡ 0) ⊎ (s.code ≡ diode_current)
  pub elsewhere : (j : ℕ) → (j ≡ i → ⊥) → get_or s.memory j nan ≡ get_or y j nan

untouched : (i : ℕ) (m y : List Float) → Biased i m y (stamped_of 0 m y)
untouched i m y = record { matrix_length = refl; memory_length = refl; coded = inl refl; elsewhere = λ j h. refl }

companion_fine : (n i a b : ℕ) (l : Option Model) (m y : List Float) → Biased i m y (companion n i a b l m y)
companion_fine n i a b (Some l) m y =
    record { matrix_length = stamped-length n _ m; memory_length = length-set y i l.memory; coded = inl refl; elsewhere = λ j h. get_or-set_other y i j l.memory nan h }
companion_fine n i a b None m y = record { matrix_length = refl; memory_length = refl; coded = inr refl; elsewhere = λ j h. refl }

biased_fine : (o : Options) (n : ℕ) (x : List Float) (i : ℕ) (m y : List Float) (e : Element) → Biased i m y (biased o n x i m y e)
unfolding biased
biased_fine o n x i m y (D p q isat tdegc) = companion_fine n i p.0 q.0 (linearized o isat tdegc (across x p.0 q.0) (get_or y i nan)) m y
biased_fine o n x i m y (R p q v) = untouched i m y
biased_fine o n x i m y (I p q v) = untouched i m y
biased_fine o n x i m y («V» p q v s) = untouched i m y
biased_fine o n x i m y (Isin p q v w z) = untouched i m y
biased_fine o n x i m y (Vsin p q v w z s) = untouched i m y
biased_fine o n x i m y (Vpwl p q v w f k s) = untouched i m y
biased_fine o n x i m y (C p q v) = untouched i m y
biased_fine o n x i m y (Vcvs p q cp cq k s) = untouched i m y
biased_fine o n x i m y (Vccs p q cp cq k) = untouched i m y
biased_fine o n x i m y (L p q v s) = untouched i m y

-- what any number of records makes of them
abbrev pub Kept : List Float → List Float → Stamped → Type 0
Kept m y s = (length s.matrix ≡ length m) × (length s.memory ≡ length y) × ((s.code ≡ 0) ⊎ (s.code ≡ diode_current))

module _ (o : Options) (sheet : List ℕ) (n : ℕ) (x : List Float) where
  at_record : (i : ℕ) (m y : List Float) → Biased i m y (on_record (biased o n x i m y) (stamped_of 0 m y) (element_at sheet i))
  at_record i m y = on_record_lem (Biased i m y) (biased o n x i m y) (stamped_of 0 m y) (biased_fine o n x i m y) (untouched i m y) (element_at sheet i)

  diode_fine : (m y : List Float) (i : ℕ) (s : Stamped) → Kept m y s → (b : Bool) → eqb s.code 0 ≡ b → Kept m y (biased_at o sheet n x i s)
  unfolding biased_at
  diode_fine m y i s k true e = let f = at_record i s.matrix s.memory in rw e (f.matrix_length ∙ k.0, f.memory_length ∙ k.1, f.coded)
  diode_fine m y i s k false e = rw e k

  pub diodes_fine : (m y : List Float) → Kept m y (diodes_of o sheet n x m y)
  unfolding diodes_of
  diodes_fine m y =
      turns_inv (Kept m y) (biased_at o sheet n x) (records_of sheet) (stamped_of 0 m y) (refl, refl, inl refl)
      (λ i l s k. diode_fine m y i s k (eqb s.code 0) refl)

-- the memory of record j, where that is no diode
module _ (o : Options) (sheet : List ℕ) (n : ℕ) (x : List Float) (j : ℕ) (other : kind_at sheet j ≡ diode → ⊥) where
  not_diode : (m y : List Float) (d : Decoded) → element_at sheet j ≡ d → on_record (biased o n x j m y) (stamped_of 0 m y) d ≡ stamped_of 0 m y
  not_diode m y (Ok e) g = quiet_biased o n x j m y e (apart diode (kind_of e) (λ h. other (kind_at_lem sheet j e g ∙ h)))
  not_diode m y (Err k) g = refl

  -- record i leaves it
  record_leaves : (i : ℕ) (m y : List Float) → get_or (on_record (biased o n x i m y) (stamped_of 0 m y) (element_at sheet i)).memory j nan ≡ get_or y j nan
  record_leaves i m y = by_place (eqb i j) refl
    where
      by_place : (b : Bool) → eqb i j ≡ b → get_or (on_record (biased o n x i m y) (stamped_of 0 m y) (element_at sheet i)).memory j nan ≡ get_or y j nan
      by_place true e = rw (eqb-true i j e) (ap (λ (s : Stamped). get_or s.memory j nan) (not_diode m y (element_at sheet j) refl))
      by_place false e = (at_record o sheet n x i m y).elsewhere j (λ h. eqb-false i j e (sym h))

  diode_leaves : (v : Float) (i : ℕ) (s : Stamped) → get_or s.memory j nan ≡ v → (b : Bool) → eqb s.code 0 ≡ b → get_or (biased_at o sheet n x i s).memory j nan ≡ v
  unfolding biased_at
  diode_leaves v i s k true e = rw e (record_leaves i s.matrix s.memory ∙ k)
  diode_leaves v i s k false e = rw e k

  pub diodes_leave : (m y : List Float) → get_or (diodes_of o sheet n x m y).memory j nan ≡ get_or y j nan
  unfolding diodes_of
  diodes_leave m y =
      turns_inv (λ (s : Stamped). get_or s.memory j nan ≡ get_or y j nan) (biased_at o sheet n x) (records_of sheet) (stamped_of 0 m y) refl
      (λ i l s k. diode_leaves (get_or y j nan) i s k (eqb s.code 0) refl)

-- ---- a pass

-- the lengths stay, and the verdict is 0, 22 or 26
pub record Fine (m y : List Float) (s : Stamped) : Type 0 where
  pub matrix_length : length s.matrix ≡ length m
  pub memory_length : length s.memory ≡ length y
  pub coded : (s.code ≡ 0) ⊎ ((s.code ≡ diode_current) ⊎ (s.code ≡ sine_refused))

completed-length : (p : Pass) (sheet : List ℕ) (x y m : List Float) → length (completed p sheet x y m) ≡ length m
unfolding completed dependent_of storage_of
completed-length p sheet x y m = stamped-length p.order _ (dependent_of p.nodes p.order sheet m) ∙ stamped-length p.order _ m

linear_fine : (p : Pass) (sheet points : List ℕ) (base x y m : List Float) → Sourced m (linear_of p sheet points base x y m)
unfolding linear_of
linear_fine p sheet points base x y m = by_code (eqb a.code 0) refl
  where
    a : Driven
    a = independent_of p sheet points (copied base m)

    k : Sourced (copied base m) a
    k = independent_fine p sheet points (copied base m)

    by_code : (b : Bool) → eqb a.code 0 ≡ b → Sourced m (linear_of p sheet points base x y m)
    by_code true e = rw e (completed-length p sheet x y a.matrix ∙ (k.0 ∙ copied-length base m), inl refl)
    by_code false e = rw e (k.0 ∙ copied-length base m, k.1)

module _ (o : Options) (p : Pass) (sheet points : List ℕ) (base x v y m : List Float) where
  pub fine : Fine m y (stamp_of o p sheet points base x v y m)
  unfolding stamp_of
  fine = by_code (eqb l.code 0) refl
    where
      l : Driven
      l = linear_of p sheet points base x y m

      k : Sourced m l
      k = linear_fine p sheet points base x y m

      by_code : (b : Bool) → eqb l.code 0 ≡ b → Fine m y (stamp_of o p sheet points base x v y m)
      by_code true e =
          let d = diodes_fine o sheet p.order v l.matrix y in
          rw e record { matrix_length = d.0 ∙ k.0; memory_length = d.1; coded = ⊎_elim inl (λ h. inr (inl h)) d.2 }
      by_code false e = rw e record { matrix_length = k.0; memory_length = refl; coded = ⊎_elim inl (λ h. inr (inr h)) k.1 }

  -- "other records' floats untouched"
  pub memory_stays : (j : ℕ) → (kind_at sheet j ≡ diode → ⊥) → get_or (stamp_of o p sheet points base x v y m).memory j nan ≡ get_or y j nan
  unfolding stamp_of
  memory_stays j other = by_code (eqb (linear_of p sheet points base x y m).code 0) refl
    where
      by_code : (b : Bool) → eqb (linear_of p sheet points base x y m).code 0 ≡ b → get_or (stamp_of o p sheet points base x v y m).memory j nan ≡ get_or y j nan
      by_code true e = rw e (diodes_leave o sheet p.order v j other _ y)
      by_code false e = rw e
