use Rattle.std.proofs.Common.{◌≡◌, ℕ, suc, ◌+◌, ◌^◌, ◌<◌, ◌≤◌, sym, refl, ap, ◌∙◌, subst, arith}
use Rattle.std.proofs.Math.Numerals.{add-one}
use Rattle.std.proofs.lemmas.Bool.{le-leb, lt-leb}
use Rattle.pen.specs.Layout.{reached, digits_in}
use Rattle.pen.proofs.number.count.Goals as goal
use Rattle.pen.proofs.number.count.Goals.{then-ten_to-n, else-ten_to-n}

-- one power of ten more: it is reached, or it is not
yes : (n i : ℕ) → 10 ^ (i + 1) ≤ n → reached n (i + 1) ≡ reached n i + 1
yes n i = subst (λ (m : ℕ). 10 ^ m ≤ n → reached n m ≡ reached n i + 1) (sym (add-one i)) (λ (h : 10 ^ suc i ≤ n). rw (le-leb (10 ^ suc i) n h) refl)

no : (n i : ℕ) → n < 10 ^ (i + 1) → reached n (i + 1) ≡ reached n i
no n i = subst (λ (m : ℕ). n < 10 ^ m → reached n m ≡ reached n i) (sym (add-one i)) (λ (h : n < 10 ^ suc i). rw (lt-leb (10 ^ suc i) n h) refl)

pub loop-i-preserved : goal.loop-i-preserved
loop-i-preserved c =
    let e = c.ten_to.ensures.0 in
    elim c.if-ten_to-n.branch [
      | then-ten_to-n w ↦
          let h = yes c.args.n c.loop-i.i (subst (λ (m : ℕ). m ≤ c.args.n) e w.if-ten_to-n.true) in
          omega (arith, h, w.k-is, c.loop-i.invariant)
      | else-ten_to-n w ↦
          let h = no c.args.n c.loop-i.i (subst (λ (m : ℕ). c.args.n < m) e w.if-ten_to-n.false) in
          omega (arith, h, w.k-is, c.loop-i.invariant)
    ]

pub returns-clause-value : goal.returns-clause-value
unfolding digits_in
returns-clause-value c =
    let u : c.loop-i.i ≡ 19 = omega (arith, c.loop-i.auto, c.loop-i-test.false) in
    c.loop-i.invariant.0 ∙ ap (λ (i : ℕ). reached c.args.n i + 1) u
