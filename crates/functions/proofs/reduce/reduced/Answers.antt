-- `functions::reduce::reduced` meets its contract. Assumes nothing.
use Rattle.std.proofs.Common.{◌≡◌, ℕ, ◌+◌, ◌-◌, ◌*◌, ◌^◌, ◌<◌, ◌≤◌, ap, ◌∙◌, lt_of_lt_of_le, add_comm, arith, pow_mono, w64, Fits}
use Rattle.functions.specs.Words.{size_of}
use Rattle.functions.specs.Laws.Fields.{with_field}
use Rattle.functions.proofs.Quotients.{lower, higher, multiple, own, quarter}
use Rattle.functions.proofs.reduce.reduced.Goals as goal

-- the size of the float in units of 2 ^ -62, divided into k times the modulus m and what is left
quotient : (m field digits k left : ℕ) → 1021 ≤ field → (digits + 2 ^ 52) * 256 * 2 ^ (field - 1021) ≡ k * m + left → (n d : ℕ) → n * 2 ^ 1074 ≡ size_of field digits * d
    → n * 2 ^ 62 ≡ (k * m + left) * d
quotient m x t k left far divided n d e =
    multiple n d (t + 2 ^ 52) x far (e ∙ ap (λ (a : ℕ). a * d) (with_field x t (omega arith) ∙ ap (λ (a : ℕ). a * 2 ^ (x - 1)) (add_comm (2 ^ 52) t))) ∙ ap (λ (a : ℕ). a * d) divided

-- below 1/4
pub returns-then-field-lt1021 : goal.returns-then-field-lt1021
returns-then-field-lt1021 c = λ n d dp e.
    own c.args.m n d c.requires.0 (quarter n d c.args.field c.args.digits dp c.if-field-lt1021.true c.requires.3 e) _ _ _ c.small.ensures.1 (c.small.ensures.0 n d dp e) c.small.ensures.2

pub overflow_add-result : goal.overflow_add-result
overflow_add-result c =
    let x = c.args.field in
    one c.divided-p.result.k (lt_of_lt_of_le c.divided-p.ensures.2 (pow_mono {i = x - 1021} {j = 22} (omega arith)))
  where
    one : (k : ℕ) → k < 2 ^ 22 → Fits w64 (k + 1)
    one k h = omega arith

pub returns-then-p-m : goal.returns-then-p-m
returns-then-p-m c = λ n d dp e.
    let a = c.args in
    let p = c.divided-p in
    lower a.m p.result.k p.result.left n d dp p.ensures.1 (quotient a.m a.field a.digits p.result.k p.result.left c.if-field-lt1021.false p.ensures.0 n d e) c.if-p-m.true

pub returns-else-p-m : goal.returns-else-p-m
returns-else-p-m c = λ n d dp e.
    let a = c.args in
    let p = c.divided-p in
    higher a.m p.result.k p.result.left n d dp p.ensures.1 (quotient a.m a.field a.digits p.result.k p.result.left c.if-field-lt1021.false p.ensures.0 n d e) c.if-p-m.false
