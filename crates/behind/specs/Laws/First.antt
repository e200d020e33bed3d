-- What it is to be the first record whose diode is behind; that the answer is it, and none exactly when no record's is, is in proofs/Laws/First. Clients cite First and number_none. Assumes nothing.
use Prim.Native.Nat.{ℕ, ◌+◌, ◌≤◌, ◌<◌}
use Rattle.std.specs.Prelude.{◌≡◌, Bool, true, false, List, Float, Option, None, Some}
use Rattle.std.proofs.Math.Path.{refl}
use Rattle.std.proofs.Common.{arith}
use Rattle.options.specs.declared.Options.{Options}
use Rattle.behind.specs.Behind.{first_behind, number_of, behind_number}

-- of the records from i on, n of them, k is the first for which the test holds
pub record First (test : ℕ → Bool) (i n k : ℕ) : Type 0 where
  pub from : i ≤ k
  pub place : k < i + n
  pub holds : test k ≡ true
  pub earlier : (m : ℕ) → i ≤ m → m < k → test m ≡ false

-- the number 0 is the answer `None`
none_of : (b : Option ℕ) → number_of b ≡ 0 → b ≡ None
none_of None e = refl
none_of (Some i) e = absurd (omega arith)

pub number_none : (o : Options) (sheet : List ℕ) (x memory : List Float) → behind_number o sheet x memory ≡ 0 → first_behind o sheet x memory ≡ None
unfolding behind_number
number_none o sheet x memory e = none_of (first_behind o sheet x memory) e
