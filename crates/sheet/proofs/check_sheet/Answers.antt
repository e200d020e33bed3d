-- `sheet::check_sheet` meets its contract: what is left of the check from record i on is the whole, and the first record that shares its number is not yet passed. Assumes nothing.
use Rattle.std.proofs.Common.{◌≡◌, ◌∙◌, sym, refl, subst, ℕ, suc, ◌+◌, ◌-◌, ◌<◌, ◌≤◌, List, Bool, true, false, not, arith, rules, Result, Ok, Err, MatchResult}
use Rattle.std.proofs.lemmas.Bool.{eqb-false, false≢true}
use Rattle.std.proofs.Common.{eqb-true}
use Rattle.std.specs.Prelude.{eqb, ⊤}
use Rattle.std.proofs.lemmas.Result.{MatchResult-weaker, err_from_is_err_and}
use Rattle.numbers.specs.declared.refusal.Refusal.{Refusal}
use Rattle.sheet.specs.declared.Limits.{Limits}
use Rattle.sheet.specs.Record.{Decoded, record_at, decode_of}
use Rattle.sheet.specs.Sharing.{alone, FirstShared}
use Rattle.sheet.specs.Check.{Checked, faulty, ends_at, record_fault, check_from, records_of}
use Rattle.sheet.specs.Laws.Ends.{ends_refused, goes_on}
use Rattle.sheet.specs.Laws.Inside.{inside_of_lem}
use Rattle.sheet.proofs.check_sheet.Goals as goal

-- record i of so many, which is at or before the first that shares its number: it shares one exactly if it is that record
own_at : (s : List ℕ) (count p i : ℕ) → FirstShared s count p → i < count → i ≤ p → (b : Bool) → eqb i p ≡ b → not b ≡ alone s i
own_at s count p i f h l true e = let q = eqb-true i p e in sym (subst (λ (k : ℕ). alone s k ≡ false) (sym q) (f.there (subst (λ (k : ℕ). k < count) q h)))
own_at s count p i f h l false e = sym (f.before i (omega (arith, l, eqb-false i p e)) h)

-- a record without a fault is not that one
not-it : (p i : ℕ) → i ≤ p → (b : Bool) → eqb i p ≡ b → not b ≡ true → i + 1 ≤ p
not-it p i l true e h = absurd (false≢true h)
not-it p i l false e h = omega (arith, l, eqb-false i p e)

own_of : (l : Limits) (own : Bool) (d : Decoded) → record_fault l own d ≡ Ok tt → own ≡ true
own_of l own (Ok e) h = (inside_of_lem l own e h).0
own_of l own (Err k) h = absurd (let z : ◌≡◌ {A = ℕ} 0 1 = cc in omega arith)

-- record i of n, with the fault r
module _ (s : List ℕ) (l : Limits) (i n : ℕ) (h : i < n) {own : Bool} (a : own ≡ alone s i) (r : Result ⊤ Refusal) (g : r ≡ record_fault l own (decode_of (record_at s i))) where
  abbrev rest : Checked
  rest = check_from s l (n - (i + 1)) (i + 1)

  opened : check_from s l (n - i) i ≡ ends_at i r rest
  unfolding check_from
  opened = let e : n - i ≡ suc (n - (i + 1)) = omega arith in rw (e, g, a)

  goes : r ≡ Ok tt → (own ≡ true) × (rest ≡ check_from s l (n - i) i)
  goes e = (own_of l own _ (sym g ∙ e), sym (rw e at opened))

pub returns-in_err-map_err : goal.returns-in_err-map_err
returns-in_err-map_err c =
    let s = c.args.sheet.now in
    let i = c.loop-i.i-counter in
    let r = c.record_fault.result in
    let own = own_at s (records_of s) c.first_shared-shared.result i c.first_shared-shared.ensures (omega arith) c.loop-i.invariant.0 (eqb i c.first_shared-shared.result) refl in
    let p = err_from_is_err_and c.from_residual.result c.from_residual.ensures.1 in
    let m : MatchResult r (λ u. c.map_err.result ≡ Ok u) (λ k. c.map_err.result ≡ faulty k i) = MatchResult-weaker r c.map_err.ensures.cases (λ u q. search rules) (λ k q. search rules) in
    let o = opened s c.args.l i (records_of s) (omega arith) own r (rw c.record_at.ensures at c.record_fault.ensures) in
    rw (p.1, p.2) (sym (o ∙ ends_refused i r _ m c.in_err-map_err.was) ∙ c.loop-i.invariant.1)

pub loop-i-preserved : goal.loop-i-preserved
loop-i-preserved c =
    let s = c.args.sheet.now in
    let i = c.loop-i.i-counter in
    let r = c.record_fault.result in
    let own = own_at s (records_of s) c.first_shared-shared.result i c.first_shared-shared.ensures (omega arith) c.loop-i.invariant.0 (eqb i c.first_shared-shared.result) refl in
    let m : MatchResult r (λ u. c.map_err.result ≡ Ok u) (λ k. c.map_err.result ≡ faulty k i) = MatchResult-weaker r c.map_err.ensures.cases (λ u q. search rules) (λ k q. search rules) in
    let g = goes s c.args.l i (records_of s) (omega arith) own r (rw c.record_at.ensures at c.record_fault.ensures) (goes_on i r (Ok tt) m c.in_ok-map_err.was) in
    (not-it _ i c.loop-i.invariant.0 _ refl g.0, g.1 ∙ c.loop-i.invariant.1)

pub returns : goal.returns
unfolding check_from
returns c = let e : records_of c.args.sheet.now - c.loop-i.i-counter ≡ 0 = omega arith in rw e at c.loop-i.invariant.1
