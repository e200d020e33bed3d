-- Each entry of the system is what the writes to it make of it, in their order. Clients cite entry_of_lem, alike and the laws of the entries that stay. Assumes nothing.
use Rattle.std.specs.Prelude.{ℕ, ◌+◌, ◌*◌, ◌<◌, ◌≤◌, ◌≡◌, refl, Bool, true, false, cond, ◌&&◌, List, [], ◌∷◌, length, get_or, eqb, ltb, Float}
use Rattle.std.proofs.Common.{sym, ap, ◌∙◌, mul-le-mul_right, suc-mul, one-mul, arith, ne_eqb, eqb-true, ltb-true, ltb-false, get_or-set_same, get_or-set_other, ext_get_or}
use Rattle.std.proofs.lemmas.Bool.{eqb-false}
use Rattle.std.specs.Float.{nan}
use Rattle.stamps.specs.Write.{Write, changed, lands, place, written, stamped}
use Rattle.stamps.specs.Laws.Write.{written-length, stamped-length, Landed, landed}

-- whether x writes the entry at place i
abbrev pub hits : ℕ → ℕ → Write → Bool
hits n i x = lands n x.row x.column && eqb (place n x) i

-- what becomes of the entry at place i
unfoldable pub entry : ℕ → ℕ → List Write → Float → Float
entry n i [] v = v
entry n i (x ∷ xs) v = entry n i xs (cond (hits n i x) (changed x.change v) v)

one_entry : (n i : ℕ) (x : Write) (m : List Float) → i < length m → get_or (written n x m) i nan ≡ cond (hits n i x) (changed x.change (get_or m i nan)) (get_or m i nan)
unfolding written
one_entry n i x m h = by_place (lands n x.row x.column) (eqb (place n x) i) refl refl
  where
    by_place :
        (a b : Bool) →
        lands n x.row x.column ≡ a →
        eqb (place n x) i ≡ b →
        get_or (written n x m) i nan ≡ cond (hits n i x) (changed x.change (get_or m i nan)) (get_or m i nan)
    by_place false b g e = rw g
    by_place true true g e =
        let q : place n x ≡ i = eqb-true _ _ e in
        rw (g, e) (rw q (get_or-set_same m i (changed x.change (get_or m i nan)) nan h))
    by_place true false g e = rw (g, e) (get_or-set_other m (place n x) i _ nan (λ q. eqb-false _ _ e (sym q)))

pub entry_of_lem : (n i : ℕ) (xs : List Write) (m : List Float) → i < length m → get_or (stamped n xs m) i nan ≡ entry n i xs (get_or m i nan)
unfolding stamped entry
entry_of_lem n i [] m h = refl
entry_of_lem n i (x ∷ xs) m h = entry_of_lem n i xs (written n x m) (rw (written-length n x m) h) ∙ ap (entry n i xs) (one_entry n i x m h)

-- the one law: what does the same to each entry stamps the same bits
pub alike : (n : ℕ) (xs ys : List Write) (m : List Float) → ((i : ℕ) (v : Float) → entry n i xs v ≡ entry n i ys v) → stamped n xs m ≡ stamped n ys m
alike n xs ys m e =
    ext_get_or nan (stamped n xs m) (stamped n ys m) (stamped-length n xs m ∙ sym (stamped-length n ys m))
    (λ i h. let k : i < length m = rw (stamped-length n xs m) at h in entry_of_lem n i xs m k ∙ (e i (get_or m i nan) ∙ sym (entry_of_lem n i ys m k)))

-- ---- entries that every stamp leaves: row and column 0 stay zero, and nothing changes past the system

misses : (n i : ℕ) (x : Write) → (Landed n x.row x.column → place n x ≡ i → ⊥) → hits n i x ≡ false
misses n i x h = by_landing (lands n x.row x.column) refl
  where
    by_landing : (b : Bool) → lands n x.row x.column ≡ b → hits n i x ≡ false
    by_landing false e = rw e
    by_landing true e = rw (e, ne_eqb _ _ (h (landed n x.row x.column e)))

left_alone : (n i : ℕ) (xs : List Write) (v : Float) → ((x : Write) → hits n i x ≡ false) → entry n i xs v ≡ v
unfolding entry
left_alone n i [] v f = refl
left_alone n i (x ∷ xs) v f = rw (f x) (left_alone n i xs v f)

stays : (n i : ℕ) (xs : List Write) (m : List Float) → i < length m → ((x : Write) → hits n i x ≡ false) → get_or (stamped n xs m) i nan ≡ get_or m i nan
stays n i xs m h f = entry_of_lem n i xs m h ∙ left_alone n i xs (get_or m i nan) f

row_apart : (n r c k : ℕ) → 0 < r → k ≤ n → r * (n + 1) + c ≡ k → ⊥
row_apart n r c k p h e = omega (arith, mul-le-mul_right (n + 1) p, one-mul (n + 1))

column_apart : (n r c k : ℕ) → 0 < c → c ≤ n → r * (n + 1) + c ≡ k * (n + 1) → ⊥
column_apart n r c k p h e = by_row (ltb r k) refl
  where
    by_row : (b : Bool) → ltb r k ≡ b → ⊥
    by_row true g = omega (arith, mul-le-mul_right (n + 1) (ltb-true r k g), suc-mul r (n + 1))
    by_row false g = omega (arith, mul-le-mul_right (n + 1) (ltb-false r k g))

pub row_zero_stays : (n c : ℕ) (xs : List Write) (m : List Float) → c < length m → c ≤ n → get_or (stamped n xs m) c nan ≡ get_or m c nan
row_zero_stays n c xs m h k = stays n c xs m h (λ x. misses n c x (λ l e. row_apart n x.row x.column c l.row_live k e))

pub column_zero_stays : (n r : ℕ) (xs : List Write) (m : List Float) → r * (n + 1) < length m → get_or (stamped n xs m) (r * (n + 1)) nan ≡ get_or m (r * (n + 1)) nan
column_zero_stays n r xs m h = stays n (r * (n + 1)) xs m h (λ x. misses n (r * (n + 1)) x (λ l e. column_apart n x.row x.column r l.column_live l.column_in e))

pub rest_stays : (n i : ℕ) (xs : List Write) (m : List Float) → i < length m → n * (n + 1) ≤ i → get_or (stamped n xs m) i nan ≡ get_or m i nan
rest_stays n i xs m h k = stays n i xs m h (λ x. misses n i x (λ l e. omega (arith, mul-le-mul_right (n + 1) l.row_in, suc-mul x.row (n + 1), l.column_in, e, k)))
