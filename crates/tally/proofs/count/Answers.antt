-- `tally::count` meets its contract.
use Rattle.std.proofs.Common.{◌≡◌, ◌+◌, ℕ, zero, suc, ◌≤◌, Bool, true, false, eqb, cond, List, length, get_or, take, count_by, refl, sym, ◌∙◌, ap, add-one, arith, rules}
use Rattle.std.proofs.lemmas.List.Sums.{count_by_more_yes, count_by_more_no}
use Rattle.tally.specs.Tally.{number_in, how_many}
use Rattle.tally.proofs.count.Goals as goal

-- how many of the first j are k, from the front
many_counts : (xs : List ℕ) (k j : ℕ) → j ≤ length xs → how_many (number_in xs) j k ≡ count_by (λ x. eqb x k) (take j xs)
unfolding how_many
many_counts xs k zero h = refl
many_counts xs k (suc j) h = go (eqb (get_or xs j 0) k) refl (many_counts xs k j (omega arith))
  where
    go : (b : Bool) → eqb (get_or xs j 0) k ≡ b → how_many (number_in xs) j k ≡ count_by (λ x. eqb x k) (take j xs)
        → cond b (how_many (number_in xs) j k + 1) (how_many (number_in xs) j k) ≡ count_by (λ x. eqb x k) (take (suc j) xs)
    go true t e = ap (λ (n : ℕ). n + 1) e ∙ sym (rw (add-one j) at (count_by_more_yes (λ x. eqb x k) xs j 0 (omega arith) t))
    go false t e = e ∙ sym (rw (add-one j) at (count_by_more_no (λ x. eqb x k) xs j 0 (omega arith) t))

pub returns : goal.returns
returns c =
    let a = c.args in
    let e : c.count.result ≡ count_by (λ x. eqb x a.k) (take a.jobs a.numbers.now) = search rules in
    e ∙ sym (many_counts a.numbers.now a.k a.jobs c.requires)
