-- The pen: where and in which form it writes, about what, and whether something was lost. Clients cite new_pen, pen_of, in_form, at_file, at_job, noted_of, for_person, for_names and for_json.
use Rattle.std.specs.Prelude.{ℕ, Bool, true, false, cond, not, ◌||◌}
use Rattle.std.specs.declared.rt.Stdout.{Stdout}
use Rattle.pen.specs.declared.ink.Form.{Form}
use Rattle.pen.specs.declared.ink.Form.TheVariants.{Person, Names, Tsv, Json}
use Rattle.pen.specs.declared.ink.Pen.{Pen}

abbrev pub new_pen : Stdout → Form → Pen
new_pen out f = record { out = out; form = f; file = 0; job = 0; lost = false }

-- for a person unless a form for a machine is asked for
abbrev pub pen_of : Stdout → Bool → Bool → Pen
pen_of out tsv json = new_pen out (cond tsv Tsv (cond json Json Person))

abbrev pub in_form : Form → Pen → Pen
in_form f p = record p { form = f }

-- the next file, whose jobs are counted anew
abbrev pub at_file : ℕ → Pen → Pen
at_file n p = record p { file = n; job = 0 }

abbrev pub at_job : ℕ → Pen → Pen
at_job n p = record p { job = n }

-- what is lost stays lost, and what was not written is
abbrev pub noted_of : Bool → Pen → Pen
noted_of written p = record p { lost = p.lost || not written }

abbrev pub for_person : Form → Bool
for_person Person = true
for_person Names = false
for_person Tsv = false
for_person Json = false

abbrev pub for_names : Form → Bool
for_names Person = false
for_names Names = true
for_names Tsv = false
for_names Json = false

abbrev pub for_json : Form → Bool
for_json Person = false
for_json Names = false
for_json Tsv = false
for_json Json = true
