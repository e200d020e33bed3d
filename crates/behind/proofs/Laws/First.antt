-- The answer is the first record whose diode is behind, and none exactly when no record's is. Clients cite first_at, at_first, none_behind and behind_none. Assumes nothing.
use Prim.Native.Nat.{ℕ, zero, suc, ◌+◌, ◌≤◌, ◌<◌}
use Rattle.std.specs.Prelude.{◌≡◌, Bool, true, false, cond, List, Float, Option, None, Some}
use Rattle.std.proofs.Math.Path.{refl}
use Rattle.std.proofs.Common.{sym, ap, subst, ◌∙◌, true≢false, ⊎_elim, arith}
use Rattle.loops.specs.Laws.Loop.{le_or_lt}
use Rattle.sheet.specs.Check.{records_of}
use Rattle.behind.specs.Behind.{behind_at, first_from, first_in}
use Rattle.behind.specs.Laws.First.{First}

module _ (test : ℕ → Bool) where
  -- what an answer tells: the first, or that the test holds of none
  abbrev Told : ℕ → ℕ → Option ℕ → Type 0
  Told i n None = (m : ℕ) → i ≤ m → m < i + n → test m ≡ false
  Told i n (Some k) = First test i n k

  -- what holds of i and from i + 1 on holds from i on
  after : (i n : ℕ) (b : Option ℕ) → test i ≡ false → Told (i + 1) n b → Told i (suc n) b
  after i n None e t = λ m l h. ⊎_elim (λ (q : i + 1 ≤ m). t m q (omega arith)) (λ (q : m < i + 1). let u : i ≡ m = omega arith in subst (λ (j : ℕ). test j ≡ false) u e) (le_or_lt (i + 1) m)
  after i n (Some k) e t =
      record {
        from = omega (arith, t.from);
        place = omega (arith, t.place);
        holds = t.holds;
        earlier = λ m l h. ⊎_elim (λ (q : i + 1 ≤ m). t.earlier m q h) (λ (q : m < i + 1). let u : i ≡ m = omega arith in subst (λ (j : ℕ). test j ≡ false) u e) (le_or_lt (i + 1) m);
      }

  -- one record more, before those of which b tells
  before : (i n : ℕ) (b : Option ℕ) → Told (i + 1) n b → (t : Bool) → test i ≡ t → Told i (suc n) (cond t (Some i) b)
  before i n b p true e = record { from = omega arith; place = omega arith; holds = e; earlier = λ m l h. absurd (omega arith) }
  before i n b p false e = after i n b e p

  tells : (n i : ℕ) → Told i n (first_from test n i)
  unfolding first_from
  tells zero i = λ m l h. absurd (omega arith)
  tells (suc n) i = before i n (first_from test n (i + 1)) (tells n (i + 1)) (test i) refl

  -- two firsts are one
  one_first : (i n a b : ℕ) → First test i n a → First test i n b → a ≡ b
  one_first i n a b p q =
      ⊎_elim
      (λ (h : a ≤ b). ⊎_elim (λ (g : b ≤ a). omega arith) (λ (g : a < b). absurd (true≢false (sym p.holds ∙ q.earlier a p.from g))) (le_or_lt b a))
      (λ (h : b < a). absurd (true≢false (sym q.holds ∙ p.earlier b q.from h)))
      (le_or_lt a b)

  is_first : (i n k : ℕ) (b : Option ℕ) → Told i n b → First test i n k → b ≡ Some k
  is_first i n k None t p = absurd (true≢false (sym p.holds ∙ t k p.from p.place))
  is_first i n k (Some a) t p = ap Some (one_first i n a k t p)

  is_none : (i n : ℕ) (b : Option ℕ) → Told i n b → ((m : ℕ) → i ≤ m → m < i + n → test m ≡ false) → b ≡ None
  is_none i n None t h = refl
  is_none i n (Some a) t h = absurd (true≢false (sym t.holds ∙ h a t.from t.place))

module _ (reltol vntol : Float) (sheet : List ℕ) (x memory : List Float) where
  abbrev test : ℕ → Bool
  test = behind_at reltol vntol sheet x memory

  told : Told test 0 (records_of sheet) (first_in reltol vntol sheet x memory)
  unfolding first_in
  told = tells test (records_of sheet) 0

  -- the answer `Some k` says that record k is the first whose diode is behind
  pub first_at : (k : ℕ) → first_in reltol vntol sheet x memory ≡ Some k → First test 0 (records_of sheet) k
  first_at k e = rw e at told

  -- and of the first it is the answer
  pub at_first : (k : ℕ) → First test 0 (records_of sheet) k → first_in reltol vntol sheet x memory ≡ Some k
  at_first k p = is_first test 0 (records_of sheet) k (first_in reltol vntol sheet x memory) told p

  -- the answer `None` says that no record's diode is behind
  pub none_behind : first_in reltol vntol sheet x memory ≡ None → (m : ℕ) → m < records_of sheet → behind_at reltol vntol sheet x memory m ≡ false
  none_behind e m h = (rw e at told) m (omega arith) (omega arith)

  -- and where none is, it is the answer
  pub behind_none : ((m : ℕ) → m < records_of sheet → behind_at reltol vntol sheet x memory m ≡ false) → first_in reltol vntol sheet x memory ≡ None
  behind_none h = is_none test 0 (records_of sheet) (first_in reltol vntol sheet x memory) told (λ m l g. h m (omega arith))
