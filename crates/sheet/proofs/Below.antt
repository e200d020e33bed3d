-- A test asked of the numbers below n, from 0 on, by a definition that splits the last one off. Assumes nothing.
use Rattle.std.proofs.Common.{◌≡◌, ℕ, zero, suc, ◌+◌, Bool, true, false, not, ◌||◌, ◌&&◌, List, arith, sym, ap, ◌∙◌, refl, zero-add}
use Rattle.std.specs.List.{list_any, range_with_len}
use Rattle.std.proofs.Math.Bool.{or-false, or_assoc}
use Rattle.sheet.specs.Record.{record_at}
use Rattle.sheet.specs.Sharing.{is_inductor, inductor_among, shares, none_shares}

any_more : (test : ℕ → Bool) (n a : ℕ) → list_any test (range_with_len a (suc n)) ≡ (list_any test (range_with_len a n) || test (a + n))
any_more test zero a = let e : a + 0 ≡ a = omega arith in rw e (or-false (test a))
any_more test (suc n) a = let e : a + suc n ≡ a + 1 + n = omega arith in rw (e, any_more test n (a + 1)) (sym (or_assoc (test a) _ _))

any_last : (test : ℕ → Bool) (n : ℕ) → list_any test (range_with_len 0 (suc n)) ≡ (list_any test (range_with_len 0 n) || test n)
any_last test n = any_more test n 0 ∙ ap (λ (k : ℕ). list_any test (range_with_len 0 n) || test k) (zero-add n)

not_either : (a b : Bool) → not (a || b) ≡ (not b && not a)
not_either true true = refl
not_either true false = refl
not_either false true = refl
not_either false false = refl

pub any_inductor : (s : List ℕ) (n : ℕ) → list_any (λ k. is_inductor (record_at s k)) (range_with_len 0 n) ≡ inductor_among s n
unfolding inductor_among
any_inductor s zero = refl
any_inductor s (suc n) = any_last _ n ∙ ap (λ (b : Bool). b || is_inductor (record_at s n)) (any_inductor s n)

pub any_shares : (s : List ℕ) (n : ℕ) (r : List ℕ) → not (list_any (λ k. shares (record_at s k) r) (range_with_len 0 n)) ≡ none_shares s n r
unfolding none_shares
any_shares s zero r = refl
any_shares s (suc n) r =
    ap not (any_last (λ k. shares (record_at s k) r) n)
    ∙ (not_either (list_any (λ k. shares (record_at s k) r) (range_with_len 0 n)) (shares (record_at s n) r)
    ∙ ap (λ (b : Bool). not (shares (record_at s n) r) && b) (any_shares s n r))
