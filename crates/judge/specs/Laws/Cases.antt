-- Cases k and l of the bench, and each refusal, as one statement over a list. Clients cite k, l, judged_of, answer_of.
use Rattle.std.specs.Prelude.{◌≡◌, refl, List, [], ◌∷◌, ◌++◌, map, ℕ, replicate, Float, Result, Ok, Err}
use Rattle.std.specs.Float.Ieee.{of_bits, odd, of_fields, lt}
use Rattle.std.specs.Int.Count.{count_trailing_zeros}
use Rattle.num.specs.Floats.{nought}
use Rattle.num.specs.Literals.{half, one, two, four, minus_one, minus_two, minus_zero, tiny, huge, infinity}
use Rattle.numbers.specs.declared.refusal.Refusal.{Refusal}
use Rattle.numbers.specs.declared.refusal.Refusal.TheVariants.{Order, Room, Tolerance}
use Rattle.exact.specs.Exact.{units}
use Rattle.judge.specs.Judge.{total, residual, named, judge_refusal, judge_of}
use Rattle.judge.specs.declared.Judged.{Judged}
use Rattle.judge.specs.declared.Judged.TheVariants.{Accepted, Rejected}

abbrev o : Float
o = nought

-- the system of case b, row after row
abbrev b : List Float
b =
    o ∷ o ∷ o ∷ o ∷ o
    ∷ o ∷ one ∷ minus_one ∷ one ∷ o
    ∷ o ∷ minus_one ∷ two ∷ o ∷ o
    ∷ o ∷ one ∷ o ∷ o ∷ four ∷ []

-- a call of the judge, with its answer
pub record Case : Type 0 where
  pub rows : ℕ
  pub system : List Float
  pub vector : List Float
  pub tolerances : List Float
  pub answer : Result Judged Refusal

abbrev pub case : ℕ → List Float → List Float → List Float → Result Judged Refusal → Case
case n m x t a = record { rows = n; system = m; vector = x; tolerances = t; answer = a }

abbrev pub judged_of : Case → Result Judged Refusal
judged_of c = judge_of c.rows c.system c.vector c.tolerances

abbrev pub answer_of : Case → Result Judged Refusal
answer_of c = c.answer

-- k: judge on b, tolerances 0: accepted; last unknown -1 with 0.5: row 1; with 1: accepted
abbrev pub k : List Case
k =
    case 4 b (o ∷ four ∷ two ∷ minus_two ∷ []) (replicate 4 o) (Ok Accepted)
    ∷ case 4 b (o ∷ four ∷ two ∷ minus_one ∷ []) (replicate 4 half) (Ok (Rejected 1))
    ∷ case 4 b (o ∷ four ∷ two ∷ minus_one ∷ []) (replicate 4 one) (Ok Accepted)
    ∷ []

-- l: row 1 coefficients 0, 2 ^ -1000, 2 ^ 1000, 2 ^ 1000, vector 0, 1, 1, -1, all else 0: row 1
abbrev pub l : List Case
l = case 4 (replicate 5 o ++ (o ∷ tiny ∷ huge ∷ huge ∷ replicate 11 o)) (o ∷ one ∷ one ∷ minus_one ∷ []) (replicate 4 o) (Ok (Rejected 1)) ∷ []

-- each refusal, and a tolerance of -0.0, which is none
abbrev pub refusals : List Case
refusals =
    case 0 [] [] [] (Err Order)
    ∷ case 49 [] [] [] (Err Order)
    ∷ case 1 (o ∷ []) (o ∷ []) (o ∷ []) (Err Room)
    ∷ case 1 (o ∷ o ∷ []) (infinity ∷ []) (o ∷ []) (Err Tolerance)
    ∷ case 1 (o ∷ o ∷ []) (o ∷ []) (minus_one ∷ []) (Err Tolerance)
    ∷ case 1 (o ∷ o ∷ []) (o ∷ []) (minus_zero ∷ []) (Ok Accepted)
    ∷ []

pub all_right : map judged_of (k ++ (l ++ refusals)) ≡ map answer_of (k ++ (l ++ refusals))
unfolding units total residual named judge_refusal judge_of of_bits of_fields odd count_trailing_zeros lt
all_right = refl
