-- `functions::sines::sin_small` meets its contract. Assumes nothing.
use Rattle.std.proofs.Common.{◌≡◌, ℕ, ◌+◌, ◌*◌, ◌/◌, ◌^◌, ◌<◌, ◌≤◌, Bool, true, false, cond, T, leb, sym, ap, ◌∙◌, subst, mul-div_cancel, arith, lit≤, le-leb}
use lib.Ieee.{Float, binary64, to_bits, neg, size}
use lib.Ieee.Digits.{size-le}
use lib.Ieee.Positive.{num, den, den_pos}
use borrow.Author.Tests.{lt-leb}
use Rattle.num.specs.Floats.{sign}
use Rattle.functions.specs.Words.{size_of, units_of}
use Rattle.functions.specs.Sin.{small_size, sin_small}
use Rattle.functions.specs.Laws.Fields.{number, size_lt, field_most, quarter_below}
use Rattle.functions.specs.Laws.Leading as leading
use Rattle.functions.proofs.Bits.{field_of, digits_of, digits_lt, size_is}
use Rattle.functions.proofs.sines.sin_small.Goals as goal

module _ (c : goal.Start) where
  abbrev x : Float
  x = c.args.x

  abbrev field : ℕ
  field = field_of (to_bits binary64 c.args.x)

  abbrev digits : ℕ
  digits = digits_of (to_bits binary64 c.args.x)

  same : num x * 2 ^ 1074 ≡ size_of field digits * den x
  same = size_is x (subst T (sym c.well_formed.0.1) tt) c.requires.0

  units_are : units_of x ≡ size_of field digits
  units_are = ap (λ (a : ℕ). a / den x) same ∙ mul-div_cancel (size_of field digits) (den_pos x)

  below : field < 1021
  below = field_most (num x) (den x) field digits 1020 (quarter_below (num x) (den x) c.requires.1) same

  tiny : field < 959 → leb (size (units_of x)) 1010 ≡ true
  tiny h = le-leb (size (units_of x)) 1010 (subst (λ (a : ℕ). size a ≤ 1010) (sym units_are) (size-le (size_of field digits) 1010 (size_lt field digits 958 (digits_lt (to_bits binary64 x)) (few field h) (lit≤ tt))))
    where
      few : (n : ℕ) → n < 959 → n ≤ 958
      few n p = omega arith

  more : 959 ≤ field → leb (size (units_of x)) 1010 ≡ false
  more h =
      let l = leading.normal_leads field digits (one field h) (few field below) (digits_lt (to_bits binary64 x)) in
      lt-leb (size (units_of x)) 1010 (subst (λ (a : ℕ). 1010 < a) (sym (ap size units_are ∙ leading.size_is (size_of field digits) (digits + 2 ^ 52) (field + 52) l.same l.least l.most)) (far field h))
    where
      one : (n : ℕ) → 959 ≤ n → 1 ≤ n
      one n p = omega arith

      few : (n : ℕ) → n < 1021 → n ≤ 2046
      few n p = omega arith

      far : (n : ℕ) → 959 ≤ n → 1010 < n + 52
      far n p = omega arith

itself : (x : Float) → leb (size (units_of x)) 1010 ≡ true → x ≡ sin_small x
unfolding sin_small
itself x e = let r = small_size (num x) (den x) in sym (ap (λ (b : Bool). cond b x (cond (sign x) (neg r) r)) e)

turned : (x r : Float) (t : Bool) → leb (size (units_of x)) 1010 ≡ false → t ≡ sign x → r ≡ cond t (neg (small_size (num x) (den x))) (small_size (num x) (den x)) → r ≡ sin_small x
unfolding sin_small
turned x r t e s f =
    let y = small_size (num x) (den x) in
    f ∙ ap (λ (b : Bool). cond b (neg y) y) s ∙ sym (ap (λ (b : Bool). cond b x (cond (sign x) (neg y) y)) e)

pub float_to_bits-b : goal.float_to_bits-b
float_to_bits-b c = number c.args.x c.requires.0

pub returns-then-field-lt959 : goal.returns-then-field-lt959
returns-then-field-lt959 c = itself c.args.x (tiny c.before c.if-field-lt959.true)

pub negative-requires : goal.negative-requires
negative-requires c = c.requires.0

pub small_wave-requires : goal.small_wave-requires
small_wave-requires c = (c.if-field-lt959.false, below c.before.before, digits_lt (to_bits binary64 c.args.x))

pub returns : goal.returns
returns c =
    let s = c.before.before.before in
    let x = s.args.x in
    turned x c.small_wave.result c.negative.result (more s c.if-field-lt959.false) c.negative.ensures (c.small_wave.ensures (num x) (den x) (den_pos x) (same s))
