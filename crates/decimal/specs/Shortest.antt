-- Which decimal number stands for a float: of the numbers next to it, tried from one digit on and the nearer first, the first that reads back. Clients cite number_of and span_of. Definitions only.
use Rattle.std.specs.Prelude.{Bool, true, not, ◌&&◌, cond, ℕ, zero, suc, ◌+◌, ◌-◌, ◌*◌, ◌/◌, ◌%◌, ◌^◌, ◌<◌, eqb, leb, ltb}
use Rattle.decimal.specs.declared.scale.Cut.{Cut}
use Rattle.decimal.specs.declared.shortest.Span.{Span}
use Rattle.decimal.specs.declared.shortest.Number.{Number}
use Rattle.decimal.specs.Scale.{cut_of}

-- the lower edge of what reads back to m steps, in quarter steps: half a step below, or a quarter where the floats below are closer
abbrev pub low_edge : ℕ → Bool → ℕ
low_edge m narrow = cond narrow (4 * m - 1) (4 * m - 2)

-- the least and the most whole units within the edges; a number on an edge reads back where m is even
abbrev pub least_of : Cut → Bool → ℕ
least_of c even = cond (even && c.even) c.whole (c.whole + 1)

abbrev pub most_of : Cut → Bool → ℕ
most_of c even = cond (not even && c.even) (c.whole - 1) c.whole

-- for m steps at the exponent's field b: the units, and the edges half a step above and below
unfoldable pub span_of : ℕ → ℕ → Bool → Span
span_of b m narrow = record {
  whole = (cut_of b (4 * m)).whole;
  even = (cut_of b (4 * m)).even;
  least = least_of (cut_of b (low_edge m narrow)) (eqb (m % 2) 0);
  most = most_of (cut_of b (4 * m + 2)) (eqb (m % 2) 0);
}

unfoldable pub inside_of : Span → ℕ → Bool
inside_of s d = leb s.least d && leb d s.most

-- whether the multiple of t above is nearer than the one below; of two that are as near, the even one is taken for nearer
unfoldable pub up_first : Span → ℕ → Bool
up_first s t = cond (eqb (2 * (s.whole % t)) t) (cond s.even (eqb (s.whole / t % 2) 1) true) (ltb t (2 * (s.whole % t)))

abbrev pub first_in : Span → ℕ → ℕ → ℕ → ℕ
first_in s t p q = cond (inside_of s (p * t)) p (cond (inside_of s (q * t)) q 0)

-- of the two multiples of t next to the float the one that reads back, the nearer first, over t; 0 where neither does
unfoldable pub candidate_of : Span → ℕ → ℕ
candidate_of s t = cond (up_first s t) (first_in s t (s.whole / t + 1) (s.whole / t)) (first_in s t (s.whole / t) (s.whole / t + 1))

-- the first candidate d, if it is not 0, else what comes after
abbrev pub unless_none : ℕ → ℕ → Number → Number
unless_none d place n = cond (eqb d 0) n (record { digits = d; place = place })

-- tried at 10 ^ k, then at the power below, down to 10; in the end all the units
unfoldable pub number_of : Span → ℕ → ℕ → Number
number_of s place zero = record { digits = s.whole; place = place }
number_of s place (suc k) = unless_none (candidate_of s (10 ^ suc k)) (place + suc k) (number_of s place k)

-- a span as a float has it: nothing wraps
pub record Fair (s : Span) : Type 0 where
  pub few : s.whole < 2 ^ 63
