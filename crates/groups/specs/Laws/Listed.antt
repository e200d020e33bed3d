-- What the list of the diodes is good for: with it a pass stamps what all records would stamp. Assumes nothing.
-- Clients cite list_bounded, list_lists, listed_front, listed_whole and no_diodes.
use Prim.Native.Nat.{ℕ, zero, suc, ◌+◌, ◌-◌, ◌<◌, ◌≤◌, min}
use Rattle.std.specs.Prelude.{◌≡◌, Bool, ◌||◌, List, [], ◌∷◌, ◌++◌, ltb, length, get_or, set, take, drop, None, Result, Float}
use Rattle.std.proofs.Math.Path.{refl, sym, ap, subst}
use Rattle.std.proofs.Common.{◌∙◌, append-nil, append_assoc, le_antisymm, add-one, eqb-true, ltb-false, length-append, length-take-le, get_or-take}
use Rattle.std.proofs.Math.Bool.{true, false, cond}
use Rattle.std.proofs.lemmas.Bool.{false≢true}
use native.Mathlib.Omega.{arith}
use Rattle.std.proofs.Math.Dec.{eqb}
use Rattle.std.proofs.lemmas.List.{get_or_at}
use Rattle.numbers.specs.Kinds.{diode}
use Rattle.numbers.specs.Limits.{most_records}
use Rattle.options.specs.declared.Options.{Options}
use Rattle.loops.specs.Loop.{turns}
use Rattle.loops.specs.Laws.Loop.{turns_ext, turns-add, store_next}
use Rattle.sheet.specs.declared.Element.{Element}
use Rattle.std.specs.declared.result.Result.TheVariants.{Ok, Err}
use Rattle.sheet.specs.Record.{Decoded, record_at, kind_at, diode_of, element_of, uses_of, rest_zero, if_zero, decode_of}
use Rattle.sheet.specs.Check.{records_of}
use Rattle.groups.specs.Records.{element_at, told, on_record, outside, record_in}
use Rattle.groups.specs.Diodes.{Stamped, stamped_of, biased, biased_at, diodes_of}
use Rattle.groups.specs.Listed.{good_of, diode_in, diodes_among, Places, places_of, fronted, diode_places, as_diode, listed_at, rest_at, ListedTo, Listed, listed_of}
use Rattle.groups.specs.Laws.Passing.{in_group}
use Rattle.groups.specs.Laws.Quiet.{quiet_biased}

-- ---- one record

-- a kind that is not outside the diode's
only_diode : (k : ℕ) → outside diode diode k ≡ false → k ≡ diode
only_diode k h = by_test (ltb k diode) refl h
  where
    by_test : (b : Bool) → ltb k diode ≡ b → (b || ltb diode k) ≡ false → k ≡ diode
    by_test true e t = absurd (false≢true (sym t))
    by_test false e t = le_antisymm (ltb-false diode k t) (ltb-false k diode e)

-- a record of a diode's kind that decodes is a diode
decodes : (r : List ℕ) → get_or r 0 0 ≡ diode → good_of (decode_of r) ≡ true → decode_of r ≡ Ok (diode_of r)
unfolding decode_of element_of
decodes r k h = rw k (by_rest (rest_zero (uses_of diode) r) (rw k at h))
  where
    by_rest : (b : Bool) → good_of (if_zero b (Ok (diode_of r))) ≡ true → if_zero b (Ok (diode_of r)) ≡ Ok (diode_of r)
    by_rest true t = refl
    by_rest false t = absurd (false≢true t)

good_told : (d : Decoded) → good_of d ≡ good_of (told d)
good_told (Ok e) = refl
good_told (Err r) = refl

module _ (sheet : List ℕ) (i : ℕ) where
  found_diode : diode_in sheet i ≡ true → record_in diode diode sheet i ≡ Ok (diode_of (record_at sheet i))
  unfolding diode_in record_in
  found_diode h = by_kind_lem (outside diode diode (kind_at sheet i)) refl h
    where
      by_kind_lem : (b : Bool) → outside diode diode (kind_at sheet i) ≡ b → good_of (cond b (Err None) (told (element_at sheet i))) ≡ true → cond b (Err None) (told (element_at sheet i)) ≡ Ok (diode_of (record_at sheet i))
      by_kind_lem true e t = absurd (false≢true t)
      by_kind_lem false e t = ap told (decodes (record_at sheet i) (only_diode (kind_at sheet i) e) (good_told (element_at sheet i) ∙ t))

  module _ (o : Options) (n : ℕ) (x : List Float) (s : Stamped) where
    within : on_record (biased o n x i s.matrix s.memory) (stamped_of 0 s.matrix s.memory) (record_in diode diode sheet i) ≡ on_record (biased o n x i s.matrix s.memory) (stamped_of 0 s.matrix s.memory) (element_at sheet i)
    within = in_group diode diode sheet i (biased o n x i s.matrix s.memory) (stamped_of 0 s.matrix s.memory) (quiet_biased o n x i s.matrix s.memory)

    -- a diode may be read as one
    pub read_diode : diode_in sheet i ≡ true → as_diode o sheet n x i s ≡ biased_at o sheet n x i s
    unfolding as_diode biased_at
    read_diode h = rw (← within, found_diode h)

    nothing : {E : Type 0} (d : Result Element E) → good_of d ≡ false → on_record (biased o n x i s.matrix s.memory) (stamped_of 0 s.matrix s.memory) d ≡ stamped_of 0 s.matrix s.memory
    nothing (Ok e) h = absurd (false≢true (sym h))
    nothing (Err k) h = refl

    -- any other record changes nothing
    pub no_diode : diode_in sheet i ≡ false → biased_at o sheet n x i s ≡ s
    unfolding diode_in biased_at
    no_diode h = by_code (eqb s.code 0) refl
      where
        by_code : (b : Bool) → eqb s.code 0 ≡ b → cond b (on_record (biased o n x i s.matrix s.memory) (stamped_of 0 s.matrix s.memory) (element_at sheet i)) s ≡ s
        by_code true e = sym within ∙ (nothing (record_in diode diode sheet i) h ∙ ap (λ (c : ℕ). stamped_of c s.matrix s.memory) (sym (eqb-true s.code 0 e)))
        by_code false e = refl

-- ---- the walk that makes the list

module _ (sheet : List ℕ) (k : ℕ) where
  -- a record that is no diode leaves the list
  among_same : diode_in sheet k ≡ false → diodes_among sheet (k + 1) ≡ diodes_among sheet k
  unfolding diodes_among
  among_same e = rw (add-one k, e) (append-nil (diodes_among sheet k))

  -- a diode is put behind those before it
  among_more : diode_in sheet k ≡ true → diodes_among sheet (k + 1) ≡ diodes_among sheet k ++ (k ∷ [])
  unfolding diodes_among
  among_more e = rw (add-one k, e)

-- no more are found than there were records
one_few : (found : List ℕ) (k : ℕ) → length found ≤ k → (b : Bool) → length (found ++ cond b (k ∷ []) []) ≤ suc k
one_few found k h true = rw (length-append found (k ∷ [])) (omega arith)
one_few found k h false = rw (append-nil found) (omega arith)

among_few : (sheet : List ℕ) (k : ℕ) → length (diodes_among sheet k) ≤ k
unfolding diodes_among
among_few sheet zero = omega arith
among_few sheet (suc k) = one_few (diodes_among sheet k) k (among_few sheet k) (diode_in sheet k)

-- a diode's place, stored behind those found
found_more : (found list : List ℕ) (k : ℕ) → length found < length list → places_of (length found + 1) (set (fronted found list).list (length found) k) ≡ fronted (found ++ (k ∷ [])) list
found_more found list k h = rw (length-append found (k ∷ [])) (ap (places_of (length found + 1)) (store_next found list (length found) k refl h))

-- one record of the walk: a place is written behind those found, or nothing is
module _ (sheet list : List ℕ) (k c : ℕ) (now : List ℕ) (h : places_of c now ≡ fronted (diodes_among sheet k) list) where
  pub walk_found : diode_in sheet k ≡ true → k < length list → places_of (c + 1) (set now c k) ≡ fronted (diodes_among sheet (k + 1)) list
  walk_found e l =
      let f = among_few sheet k in
      subst (λ (p : Places). places_of (p.count + 1) (set p.list p.count k) ≡ fronted (diodes_among sheet (k + 1)) list) (sym h)
      (found_more (diodes_among sheet k) list k (omega arith) ∙ ap (λ (found : List ℕ). fronted found list) (sym (among_more sheet k e)))

  pub walk_passed : diode_in sheet k ≡ false → places_of c now ≡ fronted (diodes_among sheet (k + 1)) list
  walk_passed e = h ∙ ap (λ (found : List ℕ). fronted found list) (sym (among_same sheet k e))

-- ---- the list

-- the places found list the diodes, whatever stands behind them
module _ (sheet : List ℕ) (k : ℕ) (found rest : List ℕ) (h : (behind : List ℕ) → ListedTo sheet k (length found) (found ++ behind)) where
  with_record : (b : Bool) → diode_in sheet k ≡ b → ListedTo sheet (suc k) (length (found ++ cond b (k ∷ []) [])) ((found ++ cond b (k ∷ []) []) ++ rest)
  with_record true e = rw (length-append found (k ∷ []), add-one (length found), append_assoc found (k ∷ []) rest) (record { all = one })
    where
      one :
          (o : Options) (n : ℕ) (x : List Float) (s : Stamped) →
          turns (suc (length found)) (listed_at o sheet n x (found ++ (k ∷ rest))) s ≡ turns (suc k) (biased_at o sheet n x) s
      one o n x s = rw (get_or_at found k rest 0 (length found) refl, (h (k ∷ rest)).all o n x s) (read_diode sheet k o n x (turns k (biased_at o sheet n x) s) e)
  with_record false e =
      rw (append-nil found) (record { all = λ o n x s. (h rest).all o n x s ∙ sym (no_diode sheet k o n x (turns k (biased_at o sheet n x) s) e) })

among_lists : (sheet : List ℕ) (k : ℕ) (rest : List ℕ) → ListedTo sheet k (length (diodes_among sheet k)) (diodes_among sheet k ++ rest)
unfolding diodes_among
among_lists sheet zero rest = record { all = λ o n x s. refl }
among_lists sheet (suc k) rest = with_record sheet k (diodes_among sheet k) rest (among_lists sheet k) (diode_in sheet k) refl

module _ (sheet list : List ℕ) (c : ℕ) (list' : List ℕ) (e : places_of c list' ≡ diode_places sheet list) where
  -- it has no more places than the list that it is written over
  pub list_bounded : c ≤ length list
  unfolding diode_places
  list_bounded =
      let k = min (min (records_of sheet) most_records) (length list) in
      let f : c ≤ k = subst (λ (p : Places). p.count ≤ k) (sym e) (among_few sheet k) in
      omega arith

  -- with room for 256 it has all of them
  pub list_lists : most_records ≤ length list → Listed sheet c list'
  unfolding diode_places
  list_lists h =
      let k = min (min (records_of sheet) most_records) (length list) in
      let u : k ≡ min (records_of sheet) most_records = omega arith in
      rw (← u) (subst (λ (p : Places). ListedTo sheet k p.count p.list) (sym e) (among_lists sheet k (drop (length (diodes_among sheet k)) list)))

-- cut out of the list, they are so too
pub listed_front : (sheet : List ℕ) (c : ℕ) (list : List ℕ) → c ≤ length list → Listed sheet c list → Listed sheet (length (take c list)) (take c list)
listed_front sheet c list h l =
    rw (length-take-le c list h)
    (record { all = λ o n x s. turns_ext (listed_at o sheet n x (take c list)) (listed_at o sheet n x list) c s (λ j p y. ap (λ (i : ℕ). as_diode o sheet n x i y) (get_or-take c list j 0 p)) ∙ l.all o n x s })

-- with the diodes listed that is all of them
pub listed_whole : (o : Options) (sheet list : List ℕ) (n : ℕ) (x m y : List Float) → Listed sheet (length list) list → listed_of o sheet list n x m y ≡ diodes_of o sheet n x m y
unfolding listed_of diodes_of
listed_whole o sheet list n x m y h =
    let a = min (records_of sheet) most_records in
    let b = records_of sheet - most_records in
    let g = biased_at o sheet n x in
    let u : a + b ≡ records_of sheet = omega arith in
    ap (turns b (rest_at o sheet n x)) (h.all o n x (stamped_of 0 m y))
    ∙ (turns_ext (rest_at o sheet n x) (λ (i : ℕ). g (a + i)) b (turns a g (stamped_of 0 m y)) (λ i l z. ap (λ (k : ℕ). g k z) (omega arith))
    ∙ (sym (turns-add g (stamped_of 0 m y) a b) ∙ ap (λ (k : ℕ). turns k g (stamped_of 0 m y)) u))

-- where the list of diodes is empty, and all records could be listed, nothing is stamped and nothing remembered
pub no_diodes : (o : Options) (sheet : List ℕ) (places : List ℕ) (n : ℕ) (x m y : List Float) → Listed sheet 0 places → records_of sheet ≤ most_records → diodes_of o sheet n x m y ≡ stamped_of 0 m y
unfolding diodes_of
no_diodes o sheet places n x m y none few =
    let u : min (records_of sheet) most_records ≡ records_of sheet = omega arith in
    sym (rw u at (none.all o n x (stamped_of 0 m y)))
