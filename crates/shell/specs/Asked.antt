-- What the arguments of a call ask for, one after the other. Clients cite nothing_asked, after_of, all_asked and fault_of.
use Rattle.std.specs.Prelude.{ℕ, ◌+◌, Bool, true, false, cond, not, ◌&&◌, ◌||◌, List, [], ◌∷◌, eqb, min, Option, None, Some, is_some}
use Rattle.shell.specs.declared.word.Word.{Word}
use Rattle.shell.specs.declared.word.Word.TheVariants.{Spreads, Strict, Tsv, Json, StatusFd, Unknown, File}
use Rattle.shell.specs.declared.asked.Asked.{Asked}
use Rattle.shell.specs.declared.asked.Fault.{Fault}
use Rattle.shell.specs.declared.asked.Fault.TheVariants as Wrong
use Rattle.shell.specs.Words.{word_of, digit_of}

-- ---- small changes

abbrev pub nothing_asked : Asked
nothing_asked = record { tsv = false; json = false; strict = false; fd = None; files = 0; spreads = false; descriptor = false; fault = None }

abbrev pub with_fault : Fault → Asked → Asked
with_fault f a = record a { fault = Some f }

abbrev pub with_forms : Bool → Bool → Asked → Asked
with_forms t j a = record a { tsv = t; json = j }

abbrev pub with_strict : Asked → Asked
with_strict a = record a { strict = true }

abbrev pub with_descriptor : Option ℕ → Bool → Asked → Asked
with_descriptor fd wanted a = record a { fd = fd; descriptor = wanted }

abbrev pub with_files : ℕ → Bool → Asked → Asked
with_files n spreads a = record a { files = n; spreads = spreads }

abbrev pub faulty : Option Fault → Bool
faulty = is_some

-- ---- one argument more

-- the argument after `--status-fd`: a digit from 3 to 9
abbrev pub described_of : Asked → Option ℕ → Asked
described_of a None = with_fault Wrong.Descriptor a
described_of a (Some d) = with_descriptor (Some d) false a

-- a file; no list of arguments is so long that the count would stand still
abbrev pub named_of : Asked → Asked
named_of a = with_files (min (a.files + 1) 18446744073709551615) false a

-- the word `spreads` or, right after it, a file of that name
abbrev pub spreads_of : Asked → Asked
spreads_of a = cond a.spreads (named_of a) (with_files a.files true a)

-- "--tsv and --json exclude each other"
abbrev pub form_of : Asked → Bool → Asked
form_of a tsv = cond ((tsv || a.tsv) && (not tsv || a.json)) (with_fault Wrong.Forms a) (with_forms (tsv || a.tsv) (not tsv || a.json) a)

-- an argument by itself
abbrev pub took_of : Asked → Word → Asked
took_of a Spreads = spreads_of a
took_of a Strict = with_strict a
took_of a Tsv = form_of a true
took_of a Json = form_of a false
took_of a StatusFd = with_descriptor a.fd true a
took_of a Unknown = with_fault Wrong.Option a
took_of a File = named_of a

-- what is wrong stays wrong; a descriptor that is wanted comes before all else that an argument can be
unfoldable pub after_of : Asked → Word → Option ℕ → Asked
after_of a w digit = cond (faulty a.fault) a (cond a.descriptor (described_of a digit) (took_of a w))

-- ---- all arguments

abbrev pub all_asked : Asked → List (List ℕ) → Asked
all_asked a [] = a
all_asked a (s ∷ ss) = all_asked (after_of a (word_of s) (digit_of s)) ss

-- what is wrong, after the last
abbrev pub fault_of : Asked → Option Fault
fault_of a =
    cond (faulty a.fault) a.fault
    (cond a.descriptor (Some Wrong.Descriptor)
    (cond a.spreads (Some Wrong.Spreads)
    (cond (eqb a.files 0) (Some Wrong.File)
    None)))
