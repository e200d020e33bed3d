-- A byte that is no kind's, as `Kind::try_from` refuses it: nothing decodes of it, and it uses no source number. Assumes nothing.
use Rattle.std.proofs.Common.{◌≡◌, ℕ, List, Bool, false, sym, ap, ◌∙◌, ne_eqb, Result, Ok, Err, MatchResult}
use Rattle.numbers.specs.Kinds.{number_of, Decodes}
use Rattle.numbers.specs.declared.kind.Kind.{Kind}
use Rattle.numbers.specs.declared.kind.Kind.TheVariants.{Resistor, Current, Voltage, Diode, Isin, Vsin, Vpwl, Capacitor, Vcvs, Vccs, Inductor}
use Rattle.numbers.specs.declared.refusal.Refusal.{Refusal}
use Rattle.sheet.specs.Record.{element_of, uses_of, decode_as}

module _ (n : ℕ) (h : (k : Kind) × (number_of k ≡ n) → ⊥) where
  other : (k : Kind) → n ≡ number_of k → ⊥
  other k e = h (k, sym e)

  no_element : (r : List ℕ) → element_of n r ≡ Err Refusal.Kind
  unfolding element_of
  no_element r = simp (ne_eqb n 1 (other Resistor), ne_eqb n 2 (other Current), ne_eqb n 3 (other Voltage), ne_eqb n 4 (other Diode), ne_eqb n 5 (other Isin), ne_eqb n 6 (other Vsin), ne_eqb n 7 (other Vpwl), ne_eqb n 8 (other Capacitor), ne_eqb n 9 (other Vcvs), ne_eqb n 10 (other Vccs), ne_eqb n 11 (other Inductor))

  no_source : (uses_of n).source ≡ false
  unfolding uses_of
  no_source = simp (ne_eqb n 3 (other Voltage), ne_eqb n 4 (other Diode), ne_eqb n 5 (other Isin), ne_eqb n 6 (other Vsin), ne_eqb n 7 (other Vpwl), ne_eqb n 9 (other Vcvs), ne_eqb n 10 (other Vccs), ne_eqb n 11 (other Inductor))

pub refused : (r : List ℕ) (n : ℕ) → ((k : Kind) × (number_of k ≡ n) → ⊥) → Err Refusal.Kind ≡ decode_as n r
unfolding decode_as
refused r n h = rw (no_element n h r)

pub source_of : (n : ℕ) (o : Result Kind Refusal) (b : Bool) → Decodes n o → MatchResult o (λ k. b ≡ (uses_of (number_of k)).source) (λ e. b ≡ false) → b ≡ (uses_of n).source
source_of n (Ok k) b d h = h ∙ ap (λ (n : ℕ). (uses_of n).source) d
source_of n (Err e) b d h = h ∙ sym (no_source n d.1)
