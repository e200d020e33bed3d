-- `functions::sines::sin_near` meets its contract. Assumes nothing.
use Rattle.std.proofs.Common.{◌≡◌, ℕ, ◌*◌, ◌^◌, ◌<◌, ◌≤◌, Bool, true, false, cond, T, ltb, sym, refl, ap, ◌∙◌, subst, not-le_of_lt, ltb→lt, lt-ltb}
use lib.Ieee.{Float, binary64, to_bits}
use lib.Ieee.Positive.{num, den, den_pos}
use Rattle.functions.specs.Words.{size_of}
use Rattle.functions.specs.Sin.{sin_small, sin_large, sin_near}
use Rattle.functions.specs.Laws.Fields.{number, field_most, quarter_below}
use Rattle.functions.proofs.Bits.{field_of, digits_of, digits_lt, size_is}
use Rattle.functions.proofs.Quotients.{quarter}
use Rattle.functions.proofs.sines.sin_near.Goals as goal

-- the code's test is the definition's
module _ (c : goal.Start) where
  abbrev x : Float
  x = c.args.x

  abbrev b : ℕ
  b = to_bits binary64 c.args.x

  same : num x * 2 ^ 1074 ≡ size_of (field_of b) (digits_of b) * den x
  same = size_is x (subst T (sym c.well_formed.0.1) tt) c.requires.number

  below : field_of b < 1021 → 4 * num x < den x
  below h = quarter (num x) (den x) (field_of b) (digits_of b) (den_pos x) h (digits_lt b) same

  above : 1021 ≤ field_of b → ltb (4 * num x) (den x) ≡ false
  above h = go (ltb (4 * num x) (den x)) (ltb→lt (4 * num x) (den x))
    where
      go : (t : Bool) → (T t → 4 * num x < den x) → t ≡ false
      go true f = absurd (not-le_of_lt (field_most (num x) (den x) (field_of b) (digits_of b) 1020 (quarter_below (num x) (den x) (f tt)) same) h)
      go false f = refl

chosen : (x : Float) (b : Bool) → ltb (4 * num x) (den x) ≡ b → cond b (sin_small x) (sin_large x) ≡ sin_near x
unfolding sin_near
chosen x b e = ap (λ (t : Bool). cond t (sin_small x) (sin_large x)) (sym e)

pub float_to_bits-b : goal.float_to_bits-b
float_to_bits-b c = number c.args.x c.requires.number

pub sin_small-requires : goal.sin_small-requires
sin_small-requires c = (c.requires.number, below c.before c.if-field-lt1021.true)

pub returns-then-field-lt1021 : goal.returns-then-field-lt1021
returns-then-field-lt1021 c = c.sin_small.ensures ∙ chosen c.args.x true (lt-ltb _ _ (below c.before.before c.if-field-lt1021.true))

pub returns : goal.returns
returns c = c.sin_large.ensures ∙ chosen c.args.x false (above c.before.before c.if-field-lt1021.false)
