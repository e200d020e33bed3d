-- What the answer of a sheet check tells: of a clean sheet, that each record decodes with its numbers in range and its source number its own; of a faulty one, which record is the
-- first with a fault, and that the number is its lowest. Clients cite Sound, clean_at, First, faulty_at, number_clean, whole_sheet and whole_points.
use Rattle.std.specs.Prelude.{ℕ, zero, suc, ◌+◌, ◌*◌, ◌<◌, ◌≤◌, ◌/◌, ◌%◌, ◌≡◌, refl, Bool, true, false, not, ◌&&◌, ◌||◌, List, eqb, ltb, get_or, Result, Ok, Err, ⊤}
use Rattle.std.proofs.Common.{sym, ◌∙◌, ap, subst, arith, eqb-true, ltb-true, ltb-false}
use Rattle.numbers.specs.Limits.{most_records, most_points}
use Rattle.numbers.specs.Refusals.{by_kind, by_pattern, refused_by}
use Rattle.numbers.specs.Refusals as Refusals
use Rattle.numbers.specs.declared.refusal.Refusal.{Refusal}
use Rattle.sheet.specs.declared.Limits.{Limits}
use Rattle.sheet.specs.declared.Element.{Element}
use Rattle.sheet.specs.declared.Fault.{Fault}
use Rattle.sheet.specs.Record.{Decoded, record_bytes, record_at, decode_of}
use Rattle.sheet.specs.Range.{element_fault, nodes_fit, sources_fit, points_fit, lowest}
use Rattle.sheet.specs.Sharing.{alone}
use Rattle.sheet.specs.Laws.Inside.{Inside, inside_of_lem}
use Rattle.sheet.specs.Laws.Kind.{Made, element, unknown, soiled, decoded}
use Rattle.sheet.specs.Check.{Checked, faulty, record_fault, ends_at, check_step, check_from, check_of, records_of, number_of, point_bytes, bad_sheet, bad_points}

-- record i decodes to an element whose numbers are in range, and it shares no source number with an earlier record where one of the two is an inductor
pub record Sound (s : List ℕ) (l : Limits) (i : ℕ) : Type 0 where
  pub element : Element
  pub decodes : decode_of (record_at s i) ≡ Ok element
  pub inside : Inside l element
  pub own : alone s i ≡ true

-- the number of the lowest refusal of 6 to 10 that a record's answer meets, or 0, told whether its source number is its own
abbrev pub fault_of : Limits → Bool → Decoded → ℕ
fault_of l own d = refused_by (record_fault l own d)

-- so of record i
abbrev pub fault_at : List ℕ → Limits → ℕ → ℕ
fault_at s l i = fault_of l (alone s i) (decode_of (record_at s i))

-- record i is the first with a fault, and k is its lowest number
pub record First (s : List ℕ) (l : Limits) (k i : ℕ) : Type 0 where
  pub earlier : (j : ℕ) → j < i → Sound s l j
  pub lowest : k ≡ fault_at s l i
  pub least : by_kind ≤ k
  pub most : k ≤ by_pattern
  pub place : i < records_of s

-- what each answer of the check from record i on tells, with n records left
abbrev pub Told : List ℕ → Limits → ℕ → ℕ → Checked → Type 0
Told s l n i (Ok u) = (j : ℕ) → i ≤ j → j < i + n → Sound s l j
Told s l n i (Err f) =
    ((j : ℕ) → i ≤ j → j < f.place → Sound s l j)
    × (Refusals.number_of f.refusal ≡ fault_at s l f.place)
    × (by_kind ≤ Refusals.number_of f.refusal)
    × (Refusals.number_of f.refusal ≤ by_pattern)
    × (f.place < i + n)

-- a refusal of 6 to 10
abbrev OfRecord : Result ⊤ Refusal → Type 0
OfRecord (Ok u) = ⊤
OfRecord (Err k) = (by_kind ≤ Refusals.number_of k) × (Refusals.number_of k ≤ by_pattern)

of_lowest : (a b c : Bool) → OfRecord (lowest a b c)
of_lowest false b c = (omega arith, omega arith)
of_lowest true false c = (omega arith, omega arith)
of_lowest true true false = (omega arith, omega arith)
of_lowest true true true = tt

of_element : (l : Limits) (own : Bool) (e : Element) → OfRecord (element_fault l own e)
unfolding element_fault
of_element l own e = of_lowest (nodes_fit l.nodes e) (own && sources_fit l.sources e) (points_fit l.points e)

-- what holds at i and from i + 1 on holds from i on
from : (P : ℕ → Type 0) (i j : ℕ) (b : Bool) → ltb i j ≡ b → P i → (i + 1 ≤ j → P j) → i ≤ j → P j
from P i j true t x f h = f (omega (arith, ltb-true i j t))
from P i j false t x f h = let e : i ≡ j = omega (arith, ltb-false i j t) in subst P e x

module _ (s : List ℕ) (l : Limits) (n i : ℕ) where
  -- record i is sound, and the rest tells the rest
  joined : Sound s l i → (c : Checked) → Told s l n (i + 1) c → Told s l (suc n) i c
  joined x (Ok u) t = λ j p q. from (Sound s l) i j (ltb i j) refl x (λ r. t j r (omega arith)) p
  joined x (Err f) t = (λ j p q. from (Sound s l) i j (ltb i j) refl x (λ r. t.0 j r q) p, t.1, t.2, t.3, omega arith)

  -- record i ends the check
  ended : (k : Refusal) → Refusals.number_of k ≡ fault_at s l i → OfRecord (Err k) → Told s l (suc n) i (faulty k i)
  ended k e p = (λ j a b. absurd (omega arith), e, p.0, p.1, omega arith)

  -- its number, once it is known what it decodes to
  number : {d : Decoded} → decode_of (record_at s i) ≡ d → fault_of l (alone s i) d ≡ fault_at s l i
  number g = sym (ap (fault_of l (alone s i)) g)

  by_fault : (e : Element) (c : Checked) (r : Result ⊤ Refusal) → decode_of (record_at s i) ≡ Ok e → element_fault l (alone s i) e ≡ r → OfRecord r → Told s l n (i + 1) c
      → Told s l (suc n) i (ends_at i r c)
  by_fault e c (Ok u) g t o r = let k = inside_of_lem l (alone s i) e t in joined (record { element = e; decodes = g; inside = k.1; own = k.0 }) c r
  by_fault e c (Err k) g t o r = ended k (sym (ap refused_by t) ∙ number g) o

  step : {d : Decoded} (c : Checked) → decode_of (record_at s i) ≡ d → Made (get_or (record_at s i) 0 0) (record_at s i) d → Told s l n (i + 1) c → Told s l (suc n) i (check_step l i (alone s i) d c)
  step c g (element e q n) r = by_fault e c (element_fault l (alone s i) e) g refl (of_element l (alone s i) e) r
  step c g unknown r = ended Refusal.Kind (number g) (omega arith, omega arith)
  step c g soiled r = ended Refusal.Unused (number g) (omega arith, omega arith)

told : (s : List ℕ) (l : Limits) (n i : ℕ) → Told s l n i (check_from s l n i)
unfolding check_from
told s l zero i = λ j p q. absurd (omega arith)
told s l (suc n) i = step s l n i (check_from s l n (i + 1)) refl (decoded (record_at s i)) (told s l n (i + 1))

-- each record of a clean sheet is sound
pub clean_at : (s : List ℕ) (l : Limits) (i : ℕ) → check_of s l ≡ Ok tt → i < records_of s → Sound s l i
clean_at s l i h m = (subst (Told s l (records_of s) 0) h (told s l (records_of s) 0)) i (omega arith) (omega arith)

-- the first faulty record counts, and its lowest number
pub faulty_at : (s : List ℕ) (l : Limits) (f : Fault) → check_of s l ≡ Err f → First s l (Refusals.number_of f.refusal) f.place
faulty_at s l f h =
    let t = subst (Told s l (records_of s) 0) h (told s l (records_of s) 0) in
    record { earlier = λ j m. t.0 j (omega arith) m; lowest = t.1; least = t.2; most = t.3; place = omega arith }

clean : (c : Checked) → ((f : Fault) → c ≡ Err f → by_kind ≤ Refusals.number_of f.refusal) → number_of c ≡ 0 → c ≡ Ok tt
clean (Ok u) f h = refl
clean (Err e) f h = absurd (let z = f e refl in omega arith)

-- a sheet whose number is 0 is clean
pub number_clean : (s : List ℕ) (l : Limits) → number_of (check_of s l) ≡ 0 → check_of s l ≡ Ok tt
number_clean s l h = clean (check_of s l) (λ f e. (faulty_at s l f e).least) h

whole : (size most len : ℕ) (a b : Bool) → eqb (len % size) 0 ≡ a → ltb most (len / size) ≡ b → (not a || b) ≡ false → (len % size ≡ 0) × (len / size ≤ most)
whole size most len true false p q h = (eqb-true _ 0 p, ltb-false most _ q)
whole size most len true true p q h = absurd (let z : ◌≡◌ {A = ℕ} 0 1 = cc in omega arith)
whole size most len false b p q h = absurd (let z : ◌≡◌ {A = ℕ} 0 1 = cc in omega arith)

-- a sheet that 2 does not refuse is made of whole records, at most 256
pub whole_sheet : (len : ℕ) → bad_sheet len ≡ false → (record_bytes * (len / record_bytes) ≡ len) × (len / record_bytes ≤ most_records)
unfolding bad_sheet
whole_sheet len h = let k = whole record_bytes most_records len _ _ refl refl h in (omega arith, k.1)

-- points that 3 does not refuse are whole, at most 1,024
pub whole_points : (len : ℕ) → bad_points len ≡ false → (point_bytes * (len / point_bytes) ≡ len) × (len / point_bytes ≤ most_points)
unfolding bad_points
whole_points len h = let k = whole point_bytes most_points len _ _ refl refl h in (omega arith, k.1)
