-- Stamping, solving and asking for diodes that are behind do not look at the switch `catchup`. Clients cite behind_same and attempts_same. Assumes nothing.
use Rattle.std.specs.Prelude.{ℕ, ◌≡◌, Bool, List, eqb, Float}
use Rattle.std.proofs.Math.Path.{refl, ap}
use Rattle.std.proofs.Math.Bool.{cond}
use Rattle.loops.specs.Laws.Loop.{turns_ext}
use Rattle.options.specs.declared.Options.{Options}
use Rattle.sheet.specs.declared.Element.{Element}
use Rattle.sheet.specs.declared.Element.TheVariants.{R, I, «V», D, Isin, Vsin, Vpwl, C, Vcvs, Vccs, L}
use Rattle.sheet.specs.Record.{Decoded}
use Rattle.std.specs.declared.result.Result.TheVariants.{Ok, Err}
use Rattle.sheet.specs.Check.{records_of}
use Rattle.models.specs.Diode.{thermal, linearized}
use Rattle.groups.specs.declared.Pass.{Pass}
use Rattle.groups.specs.Records.{element_at, on_record}
use Rattle.groups.specs.Diodes.{Stamped, stamped_of, biased, biased_at, diodes_of}
use Rattle.groups.specs.Stamping.{linear_of, stamp_of}
use Rattle.behind.specs.Behind.{behind_number}
use Rattle.steps.specs.declared.Counters.{Counters}
use Rattle.steps.specs.Laws.Switched.{with_catchup}
use Rattle.machine.specs.State.{Buffers}
use Rattle.passes.specs.Attempt.{Circuit, circuit_of, pass_of, attempt_of}

module _ (o : Options) (w v : ℕ) where
  -- the options with the switch at w, and at v
  abbrev here : Options
  here = with_catchup w o

  abbrev there : Options
  there = with_catchup v o

  -- ---- diodes as they are stamped

  biased_same : (n : ℕ) (x : List Float) (i : ℕ) (m y : List Float) (e : Element) → biased here n x i m y e ≡ biased there n x i m y e
  unfolding biased linearized thermal
  biased_same n x i m y (R p q a) = refl
  biased_same n x i m y (I p q a) = refl
  biased_same n x i m y («V» p q a s) = refl
  biased_same n x i m y (D p q a b) = refl
  biased_same n x i m y (Isin p q a b z) = refl
  biased_same n x i m y (Vsin p q a b z s) = refl
  biased_same n x i m y (Vpwl p q a b f k s) = refl
  biased_same n x i m y (C p q a) = refl
  biased_same n x i m y (Vcvs p q cp cq a s) = refl
  biased_same n x i m y (Vccs p q cp cq a) = refl
  biased_same n x i m y (L p q a s) = refl

  decoded_same : {X : Type 0} (f g : Element → X) (x : X) → ((e : Element) → f e ≡ g e) → (d : Decoded) → on_record f x d ≡ on_record g x d
  decoded_same f g x h (Ok e) = h e
  decoded_same f g x h (Err k) = refl

  record_same : (sheet : List ℕ) (n : ℕ) (x : List Float) (i : ℕ) (s : Stamped) → biased_at here sheet n x i s ≡ biased_at there sheet n x i s
  unfolding biased_at
  record_same sheet n x i s =
      ap (λ (t : Stamped). cond (eqb s.code 0) t s)
      (decoded_same (biased here n x i s.matrix s.memory) (biased there n x i s.matrix s.memory) (stamped_of 0 s.matrix s.memory) (biased_same n x i s.matrix s.memory) (element_at sheet i))

  diodes_same : (sheet : List ℕ) (n : ℕ) (x m y : List Float) → diodes_of here sheet n x m y ≡ diodes_of there sheet n x m y
  unfolding diodes_of
  diodes_same sheet n x m y = turns_ext (biased_at here sheet n x) (biased_at there sheet n x) (records_of sheet) (stamped_of 0 m y) (λ i l s. record_same sheet n x i s)

  stamp_same : (p : Pass) (sheet points : List ℕ) (base x u y m : List Float) → stamp_of here p sheet points base x u y m ≡ stamp_of there p sheet points base x u y m
  unfolding stamp_of
  stamp_same p sheet points base x u y m =
      let l = linear_of p sheet points base x y m in
      ap (λ (t : Stamped). cond (eqb l.code 0) t (stamped_of l.code l.matrix y)) (diodes_same sheet p.order u l.matrix y)

  -- ---- diodes as they are asked

  pub behind_same : (sheet : List ℕ) (x memory : List Float) → behind_number here sheet x memory ≡ behind_number there sheet x memory
  unfolding behind_number
  behind_same sheet x memory = refl

  -- ---- the attempt

  module _ (nodes n : ℕ) (transient : Bool) (sheet points : List ℕ) where
    -- the circuit with these options
    abbrev at : Options → Circuit
    at p = circuit_of (record { options = p; nodes = nodes; transient = transient }) n sheet points

    attempt_same : (c : Counters) (a : List Float) (x : Buffers) → attempt_of (at here) c a x ≡ attempt_of (at there) c a x
    unfolding attempt_of
    attempt_same c a x = rw (stamp_same (pass_of (at there).job n c) sheet points x.base a x.vector x.memory x.base, behind_same)

    pub attempts_same : attempt_of (at here) ≡ attempt_of (at there)
    attempts_same = λ i. λ c a x. attempt_same c a x i
