-- What the check promises of inductors: in a clean sheet each has its source number to itself; 9 is given at the later of two records that share one; and a sheet without an inductor is checked record by record, none held against another.
-- Clients cite inductor_alone, later_refused, plain_of and without_inductors. Assumes nothing.
use Rattle.std.specs.Prelude.{ℕ, zero, suc, ◌+◌, ◌-◌, ◌<◌, ◌≤◌, ◌≡◌, refl, Bool, true, false, cond, ltb, Float, Ok}
use Rattle.std.proofs.Common.{sym, ◌∙◌, arith, zero-add, eq-eqb, ne_eqb, ltb-true, ltb-false}
use Rattle.std.proofs.Math.Path.{ap}
use Rattle.std.proofs.Math.Bool.{or-true}
use Rattle.std.proofs.lemmas.Bool.{false≢true}
use mathlib.Core.List.{List, [], ◌∷◌}
use Rattle.numbers.specs.Kinds.{inductor}
use Rattle.numbers.specs.declared.refusal.Refusal.{Refusal}
use Rattle.num.specs.Le.{le16}
use Rattle.sheet.specs.declared.NodeId.{NodeId}
use Rattle.sheet.specs.declared.SourceId.{SourceId}
use Rattle.sheet.specs.declared.Limits.{Limits}
use Rattle.sheet.specs.declared.Element.{Element}
use Rattle.sheet.specs.declared.Element.TheVariants.{L}
use Rattle.sheet.specs.Record.{record_at, kind_at, source_at, uses_of, decode_of}
use Rattle.sheet.specs.Kind.{kind_of}
use Rattle.sheet.specs.Range.{sources_of, nodes_fit, element_fault}
use Rattle.sheet.specs.Sharing.{is_inductor, has_source, shares, alone}
use Rattle.sheet.specs.Check.{Checked, faulty, check_step, check_from, check_of, records_of}
use Rattle.sheet.specs.Laws.Inside.{Each}
use Rattle.sheet.specs.Laws.Kind.{kind_at_lem, sources_at_lem}
use Rattle.sheet.specs.Laws.Sharing.{each_apart, without_inductor, apart}
use Rattle.sheet.specs.Laws.Right.{Right, passes, clean_right}

-- ---- an inductor has its source number to itself

-- the source number of an inductor stands at 10
module _ (s : List ℕ) (i : ℕ) (p q : NodeId) (x : Float) (n : SourceId) (g : decode_of (record_at s i) ≡ Ok (L p q x n)) where
  kind : kind_at s i ≡ inductor
  unfolding kind_of
  kind = kind_at_lem s i (L p q x n) g

  is_inductor_lem : is_inductor (record_at s i) ≡ true
  is_inductor_lem = eq-eqb _ _ kind

  has_source_lem : has_source (record_at s i) ≡ true
  unfolding uses_of
  has_source_lem = ap (λ (k : ℕ). (uses_of k).source) kind

  number : n.0 ≡ le16 (record_at s i) 10
  unfolding sources_of
  number =
      let e : n ∷ [] ≡ source_at (record_at s i) 10 ∷ [] = rw has_source_lem at (sources_at_lem s i (L p q x n) g) in
      let m : n ≡ source_at (record_at s i) 10 = cc in
      ap (λ (k : SourceId). k.0) m

-- two records of a clean sheet do not share
module _ (s : List ℕ) (l : Limits) (clean : check_of s l ≡ Ok tt) (i j : ℕ) (a : i < records_of s) (b : j < records_of s) (d : i ≡ j → ⊥) where
  different : is_inductor (record_at s i) ≡ true → has_source (record_at s i) ≡ true → has_source (record_at s j) ≡ true → le16 (record_at s j) 10 ≡ le16 (record_at s i) 10 → ⊥
  different t u v = by (ltb i j) refl
    where
      by : (c : Bool) → ltb i j ≡ c → le16 (record_at s j) 10 ≡ le16 (record_at s i) 10 → ⊥
      by true h e = apart (record_at s i) (record_at s j) (rw t) u v ((clean_right s l j clean b).own i (ltb-true i j h)) (sym e)
      by false h e = apart (record_at s j) (record_at s i) (rw t (or-true (is_inductor (record_at s j)))) v u ((clean_right s l i clean a).own j (omega (arith, ltb-false i j h, d))) e

-- In a clean sheet an inductor has its source number to itself: every other record, before it or after it, has another or none.
pub inductor_alone :
    (s : List ℕ) (l : Limits) → check_of s l ≡ Ok tt → (i j : ℕ) → i < records_of s → j < records_of s → (i ≡ j → ⊥)
    → (p q : NodeId) (henries : Float) (n : SourceId) → decode_of (record_at s i) ≡ Ok (L p q henries n)
    → (e : Element) → decode_of (record_at s j) ≡ Ok e → Each (λ (m : SourceId). m.0 ≡ n.0 → ⊥) (sources_of e)
inductor_alone s l clean i j a b d p q x n g e h = by (has_source (record_at s j)) refl (sources_at_lem s j e h)
  where
    by : (u : Bool) → has_source (record_at s j) ≡ u → sources_of e ≡ cond u (source_at (record_at s j) 10 ∷ []) [] → Each (λ (m : SourceId). m.0 ≡ n.0 → ⊥) (sources_of e)
    by true u k = rw k (λ m. different s l clean i j a b d (is_inductor_lem s i p q x n g) (has_source_lem s i p q x n g) u (m ∙ number s i p q x n g), tt)
    by false u k = rw k tt

-- ---- 9 at the later of two

-- 9 is given at the later of two records that share a source number, one of them an inductor, where no earlier record is at fault, it decodes (so that it meets neither 6 nor 7) and its nodes are in range.
pub later_refused :
    (s : List ℕ) (l : Limits) (i j : ℕ) → j < i → i < records_of s → ((k : ℕ) → k < i → Right s l k)
    → (e : Element) → decode_of (record_at s i) ≡ Ok e → nodes_fit l.nodes e ≡ true → shares (record_at s j) (record_at s i) ≡ true
    → check_of s l ≡ faulty Refusal.Source i
unfolding check_from element_fault
later_refused s l i j m a r e g n h = ends (records_of s - (i + 1)) (omega arith)
  where
    shared : (b : Bool) → alone s i ≡ b → b ≡ false
    shared true t = absurd (false≢true (sym (each_apart s i (record_at s i) t j m) ∙ h))
    shared false t = refl

    ends : (k : ℕ) → records_of s ≡ i + suc k → check_of s l ≡ faulty Refusal.Source i
    ends k u =
        ap (λ (n : ℕ). check_from s l n 0) u
        ∙ (passes s l i (suc k) 0 (λ k p q. r k (omega arith)) ∙ rw (zero-add, g, shared (alone s i) refl, n))

-- ---- without an inductor

-- the check in which no record is held against another: n records from i on, and the whole sheet
unfoldable pub plain_from : List ℕ → Limits → ℕ → ℕ → Checked
plain_from sheet l zero i = Ok tt
plain_from sheet l (suc n) i = check_step l i true (decode_of (record_at sheet i)) (plain_from sheet l n (i + 1))

abbrev pub plain_of : List ℕ → Limits → Checked
plain_of sheet l = plain_from sheet l (records_of sheet) 0

same : (s : List ℕ) (l : Limits) (n i : ℕ) → ((j : ℕ) → i ≤ j → j < i + n → alone s j ≡ true) → check_from s l n i ≡ plain_from s l n i
unfolding check_from plain_from
same s l zero i h = refl
same s l (suc n) i h = rw (h i (omega arith) (omega arith), same s l n (i + 1) (λ j p q. h j (omega arith) (omega arith)))

-- A sheet without an inductor is checked so.
pub without_inductors : (s : List ℕ) (l : Limits) → ((i : ℕ) → i < records_of s → kind_at s i ≡ inductor → ⊥) → check_of s l ≡ plain_of s l
without_inductors s l h = same s l (records_of s) 0 (λ j p q. without_inductor s j (record_at s j) (λ k m. none k (omega arith)) (none j (omega arith)))
  where
    none : (k : ℕ) → k < records_of s → is_inductor (record_at s k) ≡ false
    none k m = ne_eqb _ _ (h k m)
