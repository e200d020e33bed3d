-- Where a check ends: at a refusal, with its place. Clients cite some_number, refused_none, ends_refused and goes_on. Assumes nothing.
use Rattle.std.specs.Prelude.{ℕ, ◌<◌, ◌≡◌, refl, Result, Ok, Err, MatchResult, ⊤}
use Rattle.std.proofs.Common.{arith, sym, ◌∙◌}
use Rattle.numbers.specs.declared.refusal.Refusal.{Refusal}
use Rattle.numbers.specs.declared.refusal.Refusal.TheVariants.{Order, Sheet, Points, Counts, Room, Kind, Unused, Node, Source, Pattern, Tolerance, Argument, Jobs}
use Rattle.numbers.specs.Refusals.{number_of, refused_by}
use Rattle.sheet.specs.declared.Fault.{Fault}
use Rattle.sheet.specs.Check.{Checked, faulty, ends_at}

-- a refusal's number is never 0, which is for none
pub some_number : (k : Refusal) → 0 < number_of k
some_number Order = omega arith
some_number Sheet = omega arith
some_number Points = omega arith
some_number Counts = omega arith
some_number Room = omega arith
some_number Kind = omega arith
some_number Unused = omega arith
some_number Node = omega arith
some_number Source = omega arith
some_number Pattern = omega arith
some_number Tolerance = omega arith
some_number Argument = omega arith
some_number Jobs = omega arith

pub refused_none : (r : Result ⊤ Refusal) → refused_by r ≡ 0 → r ≡ Ok tt
refused_none (Ok u) h = refl
refused_none (Err k) h = absurd (omega (arith, some_number k))

-- x is the answer r with a place
module _ (i : ℕ) (r : Result ⊤ Refusal) {x : Checked} (rest : Checked) (m : MatchResult r (λ u. x ≡ Ok u) (λ k. x ≡ faulty k i)) where
  pub ends_refused : {f : Fault} → x ≡ Err f → ends_at i r rest ≡ Err f
  ends_refused {f} e = by r m e
    where
      by : (r : Result ⊤ Refusal) → MatchResult r (λ u. x ≡ Ok u) (λ k. x ≡ faulty k i) → x ≡ Err f → ends_at i r rest ≡ Err f
      by (Ok u) m e = absurd (let z : ◌≡◌ {A = ℕ} 0 1 = cc in omega arith)
      by (Err k) m e = sym m ∙ e

  pub goes_on : x ≡ Ok tt → r ≡ Ok tt
  goes_on e = by r m e
    where
      by : (r : Result ⊤ Refusal) → MatchResult r (λ u. x ≡ Ok u) (λ k. x ≡ faulty k i) → x ≡ Ok tt → r ≡ Ok tt
      by (Ok u) m e = refl
      by (Err k) m e = absurd (let z : ◌≡◌ {A = ℕ} 0 1 = cc in omega arith)
