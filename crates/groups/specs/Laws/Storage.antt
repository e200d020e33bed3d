-- What is proved of the storage elements: of the memory the stamps look at inductors' floats alone, which no diode changes; an inductor takes its formula's current, and every other float stays;
-- without inductors all is as it was before there were any. Clients cite all that is `pub`. Assumes nothing.
use Prim.Native.Nat.{ℕ, zero, suc, ◌<◌, ◌≤◌}
use Rattle.std.specs.Prelude.{◌≡◌, Bool, ◌||◌, set, Float}
use Rattle.std.proofs.Math.Path.{refl, sym, ap}
use Rattle.std.proofs.Common.{subst, ◌∙◌, le_refl, not-suc-le-zero, arith, length-set, get_or-set_other}
use Rattle.std.proofs.Math.Bool.{true, false, cond}
use Rattle.std.proofs.lemmas.Bool.{false≢true}
use mathlib.Core.List.{List, [], ◌++◌}
use borrow.Author.Tests.{eqb-true, eqb-false}
use Rattle.std.proofs.Math.Dec.{eqb}
use Rattle.std.proofs.Math.ListN.{length, get_or}
use Rattle.std.proofs.Math.Seq.{get_or-set_same}
use Rattle.std.specs.Float.Ieee.{nan}
use Rattle.numbers.specs.Kinds.{diode, inductor}
use Rattle.loops.specs.Loop.{turns}
use Rattle.loops.specs.Laws.Loop.{either_same, turns_inv}
use Rattle.sheet.specs.declared.NodeId.{NodeId}
use Rattle.sheet.specs.declared.SourceId.{SourceId}
use Rattle.sheet.specs.declared.Element.{Element}
use Rattle.sheet.specs.declared.Element.TheVariants.{R, I, «V», D, Isin, Vsin, Vpwl, C, Vcvs, Vccs, L}
use Rattle.std.specs.declared.result.Result.TheVariants.{Ok, Err}
use Rattle.sheet.specs.Record.{Decoded, kind_at}
use Rattle.sheet.specs.Kind.{kind_of}
use Rattle.sheet.specs.Laws.Kind.{kind_at_lem}
use Rattle.sheet.specs.Check.{records_of}
use Rattle.sheet.specs.Sharing.{inductor_among}
use Rattle.stamps.specs.Write.{Write, stamped}
use Rattle.groups.specs.declared.Pass.{Pass}
use Rattle.stamps.specs.Kinds.{capacitor_writes}
use Rattle.models.specs.Capacitor.{companion_of}
use Rattle.groups.specs.Records.{element_at, on_record, writes_of, across}
use Rattle.groups.specs.Plain.{dependent_of}
use Rattle.groups.specs.Storage.{capacitor_in, storage_writes, storage_of, current_in, with_current, with_current_at, taken_of, unstored}
use Rattle.groups.specs.Stamping.{completed, linear_of}
use Rattle.groups.specs.Laws.Passing.{apart, passed}
use Rattle.groups.specs.Laws.Quiet.{silent_storage, quiet_currents}

-- a record of another kind writes nothing
pub unstored_nothing : (p : Pass) (x y : List Float) (sheet : List ℕ) (i : ℕ) → unstored p.transient (kind_at sheet i) ≡ true → on_record (storage_writes p x y i) [] (element_at sheet i) ≡ []
unstored_nothing p x y sheet i h = sym (passed (unstored p.transient) sheet i (storage_writes p x y i) [] (silent_storage p x y i) h (element_at sheet i) refl)

-- ---- of the memory only the floats of inductors count

-- two memories have the same currents
abbrev pub Currents : List ℕ → List Float → List Float → Type 0
Currents sheet y z = (i : ℕ) → kind_at sheet i ≡ inductor → get_or y i nan ≡ get_or z i nan

module _ (p : Pass) (x : List Float) (sheet : List ℕ) (y z : List Float) (same : Currents sheet y z) where
  writes_same : (i : ℕ) (e : Element) → (kind_of e ≡ inductor → get_or y i nan ≡ get_or z i nan) → storage_writes p x y i e ≡ storage_writes p x z i e
  unfolding storage_writes kind_of
  writes_same i (R a b v) h = refl
  writes_same i (I a b v) h = refl
  writes_same i («V» a b v s) h = refl
  writes_same i (D a b v w) h = refl
  writes_same i (Isin a b v w f) h = refl
  writes_same i (Vsin a b v w f s) h = refl
  writes_same i (Vpwl a b v w f k s) h = refl
  writes_same i (C a b v) h = refl
  writes_same i (Vcvs a b ca cb k s) h = refl
  writes_same i (Vccs a b ca cb k) h = refl
  writes_same i (L a b v s) h = rw (h refl)

  record_same : (i : ℕ) (d : Decoded) → element_at sheet i ≡ d → on_record (storage_writes p x y i) [] d ≡ on_record (storage_writes p x z i) [] d
  record_same i (Ok e) g = writes_same i e (λ k. same i (kind_at_lem sheet i e g ∙ k))
  record_same i (Err k) g = refl

  records_same : (k : ℕ) → writes_of (storage_writes p x y) sheet k ≡ writes_of (storage_writes p x z) sheet k
  unfolding writes_of
  records_same zero = refl
  records_same (suc k) = rw (records_same k, record_same k (element_at sheet k) refl)

  pub storage_same : (m : List Float) → storage_of p x y sheet m ≡ storage_of p x z sheet m
  unfolding storage_of
  storage_same m = ap (λ (ws : List Write). stamped p.order ws m) (records_same (records_of sheet))

  -- so what a pass stamps before its diodes is the same
  pub linear_same : (points : List ℕ) (base m : List Float) → linear_of p sheet points base x y m ≡ linear_of p sheet points base x z m
  unfolding linear_of completed
  linear_same points base m = rw storage_same

-- an inductor is no diode
pub no_diode : inductor ≡ diode → ⊥
no_diode h = omega (arith, h)

-- ---- what an inductor takes

-- a record that is no inductor leaves the memory
no_current : (p : Pass) (sheet : List ℕ) (v : List Float) (i : ℕ) (y : List Float) → (kind_at sheet i ≡ inductor → ⊥) → with_current_at p sheet v i y ≡ y
no_current p sheet v i y h = go (element_at sheet i) refl
  where
    go : (d : Decoded) → element_at sheet i ≡ d → on_record (with_current p v i y) y d ≡ y
    go (Ok e) g = quiet_currents p v i y e (apart inductor (kind_of e) (λ k. h (kind_at_lem sheet i e g ∙ k)))
    go (Err k) g = refl

-- what record i makes of a memory: its length stays, and every float but its own
record Own (i : ℕ) (y z : List Float) : Type 0 where
  pub long : length z ≡ length y
  pub elsewhere : (j : ℕ) → (j ≡ i → ⊥) → get_or z j nan ≡ get_or y j nan

own_same : (i : ℕ) (y : List Float) → Own i y y
own_same i y = record { long = refl; elsewhere = λ j h. refl }

own_set : (i : ℕ) (y : List Float) (c : Float) → Own i y (set y i c)
own_set i y c = record { long = length-set y i c; elsewhere = λ j h. get_or-set_other y i j c nan h }

element_own : (p : Pass) (v : List Float) (i : ℕ) (y : List Float) (e : Element) → Own i y (with_current p v i y e)
unfolding with_current
element_own p v i y (R a b z) = own_same i y
element_own p v i y (I a b z) = own_same i y
element_own p v i y («V» a b z s) = own_same i y
element_own p v i y (D a b z w) = own_same i y
element_own p v i y (Isin a b z w f) = own_same i y
element_own p v i y (Vsin a b z w f s) = own_same i y
element_own p v i y (Vpwl a b z w f k s) = own_same i y
element_own p v i y (C a b z) = own_same i y
element_own p v i y (Vcvs a b ca cb k s) = own_same i y
element_own p v i y (Vccs a b ca cb k) = own_same i y
element_own p v i y (L a b z s) = own_set i y (current_in p v a.0 b.0 z s (get_or y i nan))

module _ (p : Pass) (sheet : List ℕ) (v : List Float) where
  at_own : (i : ℕ) (y : List Float) → Own i y (with_current_at p sheet v i y)
  at_own i y = go (element_at sheet i)
    where
      go : (d : Decoded) → Own i y (on_record (with_current p v i y) y d)
      go (Ok e) = element_own p v i y e
      go (Err k) = own_same i y

  pub taken-length : (y : List Float) → length (taken_of p sheet v y) ≡ length y
  unfolding taken_of
  taken-length y = turns_inv (λ (z : List Float). length z ≡ length y) (with_current_at p sheet v) (records_of sheet) y refl (λ i l z h. (at_own i z).long ∙ h)

  -- the float of a record that is no inductor stays: a diode's voltage, and what a caller put where no element remembers
  pub taken_elsewhere : (j : ℕ) → (kind_at sheet j ≡ inductor → ⊥) → (y : List Float) → get_or (taken_of p sheet v y) j nan ≡ get_or y j nan
  unfolding taken_of
  taken_elsewhere j other y =
      turns_inv (λ (z : List Float). get_or z j nan ≡ get_or y j nan) (with_current_at p sheet v) (records_of sheet) y refl
      (λ i l z h. by_place i z (eqb i j) refl ∙ h)
    where
      by_place : (i : ℕ) (z : List Float) (b : Bool) → eqb i j ≡ b → get_or (with_current_at p sheet v i z) j nan ≡ get_or z j nan
      by_place i z true e = rw (eqb-true i j e) (ap (λ (w : List Float). get_or w j nan) (no_current p sheet v j z other))
      by_place i z false e = (at_own i z).elsewhere j (λ h. eqb-false i j e (sym h))

  -- without inductors nothing is taken
  none_taken : (y : List Float) (k : ℕ) → inductor_among sheet k ≡ false → turns k (with_current_at p sheet v) y ≡ y
  unfolding inductor_among
  none_taken y zero h = refl
  none_taken y (suc k) h = by_rest (none_taken y k) (inductor_among sheet k) refl h
    where
      by_rest : (inductor_among sheet k ≡ false → turns k (with_current_at p sheet v) y ≡ y)
          → (b : Bool) → inductor_among sheet k ≡ b → (b || eqb (kind_at sheet k) inductor) ≡ false → with_current_at p sheet v k (turns k (with_current_at p sheet v) y) ≡ y
      by_rest before true e q = absurd (false≢true (sym q))
      by_rest before false e q = no_current p sheet v k (turns k (with_current_at p sheet v) y) (eqb-false (kind_at sheet k) inductor q) ∙ before e

  pub nothing_taken : (y : List Float) → inductor_among sheet (records_of sheet) ≡ false → taken_of p sheet v y ≡ y
  unfolding taken_of
  nothing_taken y h = none_taken y (records_of sheet) h

  -- an inductor has taken its current, by the formula of a step or as the unknown of its row
  module _ (i : ℕ) (a b : NodeId) (henries : Float) (s : SourceId) (here : element_at sheet i ≡ Ok (L a b henries s)) (y : List Float) where
    before_it : (k : ℕ) → k ≤ i → get_or (turns k (with_current_at p sheet v) y) i nan ≡ get_or y i nan
    before_it zero h = refl
    before_it (suc k) h = (at_own k (turns k (with_current_at p sheet v) y)).elsewhere i (λ q. omega (arith, h, q)) ∙ before_it k (omega (arith, h))

    length_kept : (k : ℕ) → length (turns k (with_current_at p sheet v) y) ≡ length y
    length_kept k = turns_inv (λ (z : List Float). length z ≡ length y) (with_current_at p sheet v) k y refl (λ i l z h. (at_own i z).long ∙ h)

    at_it : i < length y → get_or (with_current_at p sheet v i (turns i (with_current_at p sheet v) y)) i nan ≡ current_in p v a.0 b.0 henries s (get_or y i nan)
    unfolding with_current
    at_it l = rw (here, get_or-set_same (turns i (with_current_at p sheet v) y) i (current_in p v a.0 b.0 henries s (get_or (turns i (with_current_at p sheet v) y) i nan)) nan (rw (length_kept i) l)) (ap (current_in p v a.0 b.0 henries s) (before_it i (le_refl i)))

    after_it : i < length y → (k : ℕ) → i < k → get_or (turns k (with_current_at p sheet v) y) i nan ≡ current_in p v a.0 b.0 henries s (get_or y i nan)
    after_it l zero h = absurd (not-suc-le-zero h)
    after_it l (suc k) h = by_place (after_it l k) (eqb i k) refl
      where
        by_place : (i < k → get_or (turns k (with_current_at p sheet v) y) i nan ≡ current_in p v a.0 b.0 henries s (get_or y i nan))
            → (q : Bool) → eqb i k ≡ q → get_or (turns (suc k) (with_current_at p sheet v) y) i nan ≡ current_in p v a.0 b.0 henries s (get_or y i nan)
        by_place more true e = subst (λ (n : ℕ). get_or (with_current_at p sheet v n (turns n (with_current_at p sheet v) y)) i nan ≡ current_in p v a.0 b.0 henries s (get_or y i nan)) (eqb-true i k e) (at_it l)
        by_place more false e =
            let n = eqb-false i k e in
            (at_own k (turns k (with_current_at p sheet v) y)).elsewhere i n ∙ more (omega (arith, h, n))

    pub taken_here : i < records_of sheet → i < length y → get_or (taken_of p sheet v y) i nan ≡ current_in p v a.0 b.0 henries s (get_or y i nan)
    unfolding taken_of
    taken_here h l = after_it l (records_of sheet) h

-- ---- a sheet without inductors

-- what a storage element wrote before there were inductors
unfoldable pub former_writes : ℕ → List Float → Float → Element → List Write
former_writes n x step (R a b z) = []
former_writes n x step (I a b z) = []
former_writes n x step («V» a b z s) = []
former_writes n x step (D a b z w) = []
former_writes n x step (Isin a b z w f) = []
former_writes n x step (Vsin a b z w f s) = []
former_writes n x step (Vpwl a b z w f k s) = []
former_writes n x step (C a b value) =
    let c = companion_of value (across x a.0 b.0) step in
    capacitor_writes n a.0 b.0 c.g c.i
former_writes n x step (Vcvs a b ca cb k s) = []
former_writes n x step (Vccs a b ca cb k) = []
former_writes n x step (L a b z s) = []

module _ (p : Pass) (x y : List Float) (sheet : List ℕ) where
  former_element : (i : ℕ) (e : Element) → (kind_of e ≡ inductor → ⊥) → storage_writes p x y i e ≡ cond p.transient (former_writes p.order x p.step e) []
  unfolding storage_writes former_writes capacitor_in kind_of
  former_element i (R a b v) h = sym (either_same p.transient)
  former_element i (I a b v) h = sym (either_same p.transient)
  former_element i («V» a b v s) h = sym (either_same p.transient)
  former_element i (D a b v w) h = sym (either_same p.transient)
  former_element i (Isin a b v w f) h = sym (either_same p.transient)
  former_element i (Vsin a b v w f s) h = sym (either_same p.transient)
  former_element i (Vpwl a b v w f k s) h = sym (either_same p.transient)
  former_element i (C a b v) h = refl
  former_element i (Vcvs a b ca cb k s) h = sym (either_same p.transient)
  former_element i (Vccs a b ca cb k) h = sym (either_same p.transient)
  former_element i (L a b v s) h = absurd (h refl)

  former_record : (i : ℕ) → (kind_at sheet i ≡ inductor → ⊥) → (d : Decoded) → element_at sheet i ≡ d → on_record (storage_writes p x y i) [] d ≡ cond p.transient (on_record (former_writes p.order x p.step) [] d) []
  former_record i h (Ok e) g = former_element i e (λ q. h (kind_at_lem sheet i e g ∙ q))
  former_record i h (Err k) g = sym (either_same p.transient)

  former_records : (k : ℕ) → inductor_among sheet k ≡ false → writes_of (storage_writes p x y) sheet k ≡ cond p.transient (writes_of (λ _. former_writes p.order x p.step) sheet k) []
  unfolding writes_of inductor_among
  former_records zero h = sym (either_same p.transient)
  former_records (suc k) h = by_rest (former_records k) (inductor_among sheet k) refl h
    where
      joins : (t : Bool) (us ws : List Write) → cond t us [] ++ cond t ws [] ≡ cond t (us ++ ws) []
      joins true us ws = refl
      joins false us ws = refl

      by_rest : (inductor_among sheet k ≡ false → writes_of (storage_writes p x y) sheet k ≡ cond p.transient (writes_of (λ _. former_writes p.order x p.step) sheet k) [])
          → (b : Bool) → inductor_among sheet k ≡ b → (b || eqb (kind_at sheet k) inductor) ≡ false
          → writes_of (storage_writes p x y) sheet k ++ on_record (storage_writes p x y k) [] (element_at sheet k)
          ≡ cond p.transient (writes_of (λ _. former_writes p.order x p.step) sheet k ++ on_record (former_writes p.order x p.step) [] (element_at sheet k)) []
      by_rest before true e q = absurd (false≢true (sym q))
      by_rest before false e q = rw (before e, former_record k (eqb-false (kind_at sheet k) inductor q) (element_at sheet k) refl) (joins p.transient _ _)

  -- at DC they write nothing
  pub none_at_dc : p.transient ≡ false → inductor_among sheet (records_of sheet) ≡ false → (m : List Float) → storage_of p x y sheet m ≡ m
  unfolding storage_of stamped
  none_at_dc dc h m = rw (former_records (records_of sheet) h, dc)

  -- without inductors the stamps after the independent sources are what they were: dependent sources, and in the transient capacitors, word for word the former definition; the memory has no share in them
  pub as_before : inductor_among sheet (records_of sheet) ≡ false → (m : List Float)
      → completed p sheet x y m
      ≡ (let d = dependent_of p.nodes p.order sheet m in cond p.transient (stamped p.order (writes_of (λ _. former_writes p.order x p.step) sheet (records_of sheet)) d) d)
  unfolding completed storage_of stamped
  as_before h m = rw (former_records (records_of sheet) h) (out p.transient (writes_of (λ _. former_writes p.order x p.step) sheet (records_of sheet)) (dependent_of p.nodes p.order sheet m))
    where
      out : (t : Bool) (ws : List Write) (d : List Float) → stamped p.order (cond t ws []) d ≡ cond t (stamped p.order ws d) d
      out true ws d = refl
      out false ws d = refl
