-- The kinds of records, byte 0 of each.
use Rattle.std.specs.Prelude.{◌≡◌, ℕ, Result, MatchResult}
use Rattle.numbers.specs.declared.kind.Kind.{Kind}
use Rattle.numbers.specs.declared.kind.Kind.TheVariants.{Resistor, Current, Voltage, Diode, Isin, Vsin, Vpwl, Capacitor, Vcvs, Vccs, Inductor}
use Rattle.numbers.specs.declared.refusal.Refusal.{Refusal}

abbrev pub resistor : ℕ
resistor = 1

abbrev pub current : ℕ
current = 2

abbrev pub voltage : ℕ
voltage = 3

abbrev pub diode : ℕ
diode = 4

abbrev pub isin : ℕ
isin = 5

abbrev pub vsin : ℕ
vsin = 6

abbrev pub vpwl : ℕ
vpwl = 7

abbrev pub capacitor : ℕ
capacitor = 8

abbrev pub vcvs : ℕ
vcvs = 9

abbrev pub vccs : ℕ
vccs = 10

abbrev pub inductor : ℕ
inductor = 11

-- the byte of each
abbrev pub number_of : Kind → ℕ
number_of Resistor = resistor
number_of Current = current
number_of Voltage = voltage
number_of Diode = diode
number_of Isin = isin
number_of Vsin = vsin
number_of Vpwl = vpwl
number_of Capacitor = capacitor
number_of Vcvs = vcvs
number_of Vccs = vccs
number_of Inductor = inductor

-- what a byte decodes to: the kind that has it, or refusal 6 where none does
abbrev pub Decodes : ℕ → Result Kind Refusal → Type 0
Decodes byte r = MatchResult r (λ kind. number_of kind ≡ byte) (λ e. (e ≡ Refusal.Kind) × ¬ ((k : Kind) × (number_of k ≡ byte)))
