-- The kind byte tells what a record can decode to, so a pass need not decode a record of another kind, and where its source number stands. Clients cite kind_at_lem, sources_at_lem and past_end_lem.
use Rattle.std.specs.Prelude.{ℕ, ◌*◌, ◌≤◌, ◌≡◌, refl, Bool, true, false, cond, List, [], ◌∷◌, eqb, length, get_or, Ok, Err}
use Rattle.std.proofs.Common.{sym, ap, ◌∙◌, arith, eqb-true, drop_of_length-le}
use Rattle.numbers.specs.declared.refusal.Refusal.{Refusal}
use Rattle.sheet.specs.declared.SourceId.{SourceId}
use Rattle.sheet.specs.declared.Element.{Element}
use Rattle.sheet.specs.Record.{Decoded, record_bytes, record_at, kind_at, source_at, element_of, uses_of, rest_zero, if_zero, decode_of}
use Rattle.sheet.specs.Range.{sources_of}
use Rattle.sheet.specs.Kind.{kind_of}

-- the source number of a record: at 10, where its kind has one
abbrev pub sources_at : ℕ → List ℕ → List SourceId
sources_at kind r = cond (uses_of kind).source (source_at r 10 ∷ []) []

-- what a kind byte can make of a record: an element of that kind with that source number, or refusal 6 or 7
pub data Made (kind : ℕ) (r : List ℕ) : Decoded → Type 0 where
  element : (e : Element) → kind ≡ kind_of e → sources_of e ≡ sources_at kind r → Made kind r (Ok e)
  unknown : Made kind r (Err Refusal.Kind)
  soiled : Made kind r (Err Refusal.Unused)

one : (b : Bool) (k j : ℕ) {r : List ℕ} (x : Element) (others : Decoded) → eqb k j ≡ b → kind_of x ≡ j → sources_of x ≡ sources_at j r → Made k r others → Made k r (cond b (Ok x) others)
one true k j x others t q s m = let e = eqb-true k j t in element x (e ∙ sym q) (rw e s)
one false k j x others t q s m = m

made : (k : ℕ) (r : List ℕ) → Made k r (element_of k r)
unfolding element_of kind_of uses_of sources_of
made k r =
    one (eqb k 1) k 1 _ _ refl refl refl
    (one (eqb k 2) k 2 _ _ refl refl refl
    (one (eqb k 3) k 3 _ _ refl refl refl
    (one (eqb k 4) k 4 _ _ refl refl refl
    (one (eqb k 5) k 5 _ _ refl refl refl
    (one (eqb k 6) k 6 _ _ refl refl refl
    (one (eqb k 7) k 7 _ _ refl refl refl
    (one (eqb k 8) k 8 _ _ refl refl refl
    (one (eqb k 9) k 9 _ _ refl refl refl
    (one (eqb k 10) k 10 _ _ refl refl refl
    (one (eqb k 11) k 11 _ _ refl refl refl
    unknown))))))))))

kept : {k : ℕ} {r : List ℕ} {d : Decoded} (b : Bool) → Made k r d → Made k r (if_zero b d)
kept true (element e q s) = element e q s
kept false (element e q s) = soiled
kept b unknown = unknown
kept b soiled = soiled

pub decoded : (r : List ℕ) → Made (get_or r 0 0) r (decode_of r)
unfolding decode_of
decoded r = kept (rest_zero (uses_of (get_or r 0 0)) r) (made (get_or r 0 0) r)

made_of : {k : ℕ} {r : List ℕ} {d : Decoded} {e : Element} → Made k r d → d ≡ Ok e → (k ≡ kind_of e) × (sources_of e ≡ sources_at k r)
made_of {e = e} (element x q s) g = let same : x ≡ e = cc in (q ∙ ap kind_of same, sym (ap sources_of same) ∙ s)
made_of unknown g = absurd (let z : ◌≡◌ {A = ℕ} 0 1 = cc in omega arith)
made_of soiled g = absurd (let z : ◌≡◌ {A = ℕ} 0 1 = cc in omega arith)

-- the kind byte of record i is its element's kind
pub kind_at_lem : (s : List ℕ) (i : ℕ) (e : Element) → decode_of (record_at s i) ≡ Ok e → kind_at s i ≡ kind_of e
kind_at_lem s i e g = (made_of (decoded (record_at s i)) g).0

-- and its source number, where its kind has one, is its element's
pub sources_at_lem : (s : List ℕ) (i : ℕ) (e : Element) → decode_of (record_at s i) ≡ Ok e → sources_of e ≡ sources_at (kind_at s i) (record_at s i)
sources_at_lem s i e g = (made_of (decoded (record_at s i)) g).1

-- past the sheet's end every byte reads as 0, and kind 0 is refused by 6
pub past_end_lem : (s : List ℕ) (i : ℕ) → length s ≤ record_bytes * i → decode_of (record_at s i) ≡ Err Refusal.Kind
unfolding record_at decode_of element_of
past_end_lem s i h = rw (drop_of_length-le s h)
