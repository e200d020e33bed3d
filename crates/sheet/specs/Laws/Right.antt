-- The table's other half: a sheet is clean exactly when none of its records meets a condition of 6 to 10. Clients cite Right, right_sound, sound_right, passes, all_right and clean_right.
use Rattle.std.specs.Prelude.{ℕ, zero, suc, ◌+◌, ◌<◌, ◌≤◌, ◌≡◌, refl, Bool, true, false, cond, List, [], ◌∷◌, eqb, Ok, Err}
use Rattle.std.proofs.Math.Path.{sym, subst}
use Rattle.std.proofs.Common.{◌∙◌, arith, zero-add, add-zero, suc-add, lt-ltb, le-leb}
use Rattle.std.proofs.Math.Bool.{and-eq-true_iff as both}
use Rattle.std.proofs.lemmas.Bool.{eqb-false}
use Rattle.num.specs.Lists.{every}
use Rattle.numbers.specs.Kinds.{resistor, inductor}
use Rattle.sheet.specs.declared.Limits.{Limits}
use Rattle.sheet.specs.declared.Element.{Element}
use Rattle.sheet.specs.declared.Element.TheVariants.{R, I, «V», D, Isin, Vsin, Vpwl, C, Vcvs, Vccs, L}
use Rattle.sheet.specs.Record.{Decoded, record_at, kind_at, element_of, uses_of, rest_zero, if_zero, decode_of}
use Rattle.sheet.specs.Kind.{kind_of}
use Rattle.sheet.specs.Range.{nodes_of, sources_of, node_below, source_below, nodes_fit, sources_fit, points_fit, element_fault}
use Rattle.sheet.specs.Sharing.{alone, shares}
use Rattle.sheet.specs.Check.{Checked, check_step, check_from, check_of, records_of}
use Rattle.sheet.specs.Laws.Inside.{Each, Inside}
use Rattle.sheet.specs.Laws.Kind.{Made, element, unknown, soiled, decoded}
use Rattle.sheet.specs.Laws.Sharing.{each_apart, none_shares_lem}
use Rattle.sheet.specs.Laws.Clean.{Sound, clean_at}

-- none of the conditions 6 to 10 holds of record i: its kind is 1 to 11; byte 1 and the bytes that its kind does not use are zero; its nodes, its source number and its points are among
-- those given; and it shares its source number with no earlier record where one of the two is an inductor
pub record Right (s : List ℕ) (l : Limits) (i : ℕ) : Type 0 where
  pub «kind-least» : resistor ≤ kind_at s i
  pub «kind-most» : kind_at s i ≤ inductor
  pub unused : rest_zero (uses_of (kind_at s i)) (record_at s i) ≡ true
  pub inside : (e : Element) → decode_of (record_at s i) ≡ Ok e → Inside l e
  pub own : (j : ℕ) → j < i → shares (record_at s j) (record_at s i) ≡ false

-- ---- 6 and 7: a kind of the eleven decodes

-- it decodes
record Known (d : Decoded) : Type 0 where
  element : Element
  good : d ≡ Ok element

pick : (b : Bool) (k j : ℕ) (x : Element) (others : Decoded) → eqb k j ≡ b → j ≤ k → (suc j ≤ k → Known others) → Known (cond b (Ok x) others)
pick true k j x others t l f = record { element = x; good = refl }
pick false k j x others t l f = f (omega (arith, eqb-false k j t))

known : (k : ℕ) (r : List ℕ) → resistor ≤ k → k ≤ inductor → Known (element_of k r)
unfolding element_of
known k r l h =
    pick (eqb k 1) k 1 _ _ refl l
    (λ l2. pick (eqb k 2) k 2 _ _ refl l2
    (λ l3. pick (eqb k 3) k 3 _ _ refl l3
    (λ l4. pick (eqb k 4) k 4 _ _ refl l4
    (λ l5. pick (eqb k 5) k 5 _ _ refl l5
    (λ l6. pick (eqb k 6) k 6 _ _ refl l6
    (λ l7. pick (eqb k 7) k 7 _ _ refl l7
    (λ l8. pick (eqb k 8) k 8 _ _ refl l8
    (λ l9. pick (eqb k 9) k 9 _ _ refl l9
    (λ l10. pick (eqb k 10) k 10 _ _ refl l10
    (λ l11. pick (eqb k 11) k 11 _ _ refl l11
    (λ l12. absurd (omega arith))))))))))))

-- ---- 8, 9 and 10: numbers in range, and a source number of its own, are no fault

all : {A : Type 0} (t : A → Bool) (P : A → Type 0) → ((x : A) → P x → t x ≡ true) → (xs : List A) → Each P xs → every t xs ≡ true
all t P f [] h = refl
all t P f (x ∷ xs) h = (both (t x) (every t xs)).1 (f x h.0, all t P f xs h.1)

no_fault : (l : Limits) (e : Element) → Inside l e → element_fault l true e ≡ Ok tt
unfolding element_fault nodes_fit sources_fit points_fit
no_fault l e h =
    let n : nodes_fit l.nodes e ≡ true = all (node_below l.nodes) _ (λ p. lt-ltb _ _) (nodes_of e) h.nodes in
    let s : sources_fit l.sources e ≡ true = all (source_below l.sources) _ (λ q. lt-ltb _ _) (sources_of e) h.sources in
    let p : points_fit l.points e ≡ true = le-leb _ _ h.points in
    rw (n, s, p)

-- ---- what decodes is of a kind of the eleven, and has zeros elsewhere

kinds : (e : Element) → (resistor ≤ kind_of e) × (kind_of e ≤ inductor)
unfolding kind_of
kinds (R a b v) = (omega arith, omega arith)
kinds (I p q v) = (omega arith, omega arith)
kinds («V» p q v n) = (omega arith, omega arith)
kinds (D p q v w) = (omega arith, omega arith)
kinds (Isin p q v w z) = (omega arith, omega arith)
kinds (Vsin p q v w z n) = (omega arith, omega arith)
kinds (Vpwl p q v w f k n) = (omega arith, omega arith)
kinds (C a b v) = (omega arith, omega arith)
kinds (Vcvs p q cp cq k n) = (omega arith, omega arith)
kinds (Vccs p q cp cq k) = (omega arith, omega arith)
kinds (L a b v n) = (omega arith, omega arith)

of_kind : {k : ℕ} {r : List ℕ} {d : Decoded} {e : Element} → Made k r d → d ≡ Ok e → (resistor ≤ k) × (k ≤ inductor)
of_kind (element x q n) g = rw q (kinds x)
of_kind unknown g = absurd (let z : ◌≡◌ {A = ℕ} 0 1 = cc in omega arith)
of_kind soiled g = absurd (let z : ◌≡◌ {A = ℕ} 0 1 = cc in omega arith)

clean : (b : Bool) (d : Decoded) {e : Element} → if_zero b d ≡ Ok e → b ≡ true
clean true d g = refl
clean false (Ok x) g = absurd (let z : ◌≡◌ {A = ℕ} 0 1 = cc in omega arith)
clean false (Err k) g = absurd (let z : ◌≡◌ {A = ℕ} 0 1 = cc in omega arith)

-- ---- a record, and a sheet

module _ (s : List ℕ) (l : Limits) (i : ℕ) where
  pub right_sound : Right s l i → Sound s l i
  unfolding decode_of
  right_sound h =
      let k = known (kind_at s i) (record_at s i) h.«kind-least» h.«kind-most» in
      let g = decodes k.element k.good in
      record { element = k.element; decodes = g; inside = h.inside k.element g; own = none_shares_lem s i (record_at s i) h.own }
    where
      decodes : (e : Element) → element_of (kind_at s i) (record_at s i) ≡ Ok e → decode_of (record_at s i) ≡ Ok e
      decodes e q = rw (h.unused, q)

  -- and of what decodes none of 6 to 10 holds
  pub sound_right : Sound s l i → Right s l i
  unfolding decode_of
  sound_right h =
      let k = of_kind (decoded (record_at s i)) h.decodes in
      record {
        «kind-least» = k.0;
        «kind-most» = k.1;
        unused = clean (rest_zero (uses_of (kind_at s i)) (record_at s i)) (element_of (kind_at s i) (record_at s i)) whole;
        inside = λ e q. subst (Inside l) (same e q) h.inside;
        own = each_apart s i (record_at s i) h.own;
      }
    where
      same : (e : Element) → decode_of (record_at s i) ≡ Ok e → h.element ≡ e
      same e q = let t : Ok h.element ≡ Ok e = sym h.decodes ∙ q in cc

      whole : if_zero (rest_zero (uses_of (kind_at s i)) (record_at s i)) (element_of (kind_at s i) (record_at s i)) ≡ Ok h.element
      whole = h.decodes

  -- record i is sound: the check goes on
  passed : (rest : Checked) → Sound s l i → check_step l i (alone s i) (decode_of (record_at s i)) rest ≡ rest
  passed rest h = rw (h.decodes, h.own, no_fault l h.element h.inside)

-- the check passes over n records that are right
pub passes : (s : List ℕ) (l : Limits) (n m i : ℕ) → ((j : ℕ) → i ≤ j → j < i + n → Right s l j) → check_from s l (n + m) i ≡ check_from s l m (i + n)
unfolding check_from
passes s l zero m i h = rw (zero-add, add-zero)
passes s l (suc n) m i h =
    let e : i + suc n ≡ i + 1 + n = omega arith in
    rw (suc-add, e) (passed s l i _ (right_sound s l i (h i (omega arith) (omega arith))) ∙ passes s l n m (i + 1) (λ j p q. h j (omega arith) (omega arith)))

-- a sheet all of whose records are right is clean
pub all_right : (s : List ℕ) (l : Limits) → ((i : ℕ) → i < records_of s → Right s l i) → check_of s l ≡ Ok tt
unfolding check_from
all_right s l h = rw add-zero at (passes s l (records_of s) 0 0 (λ j p q. h j (omega arith)))

-- and the records of a clean sheet are right
pub clean_right : (s : List ℕ) (l : Limits) (i : ℕ) → check_of s l ≡ Ok tt → i < records_of s → Right s l i
clean_right s l i h m = sound_right s l i (clean_at s l i h m)
