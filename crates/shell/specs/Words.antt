-- What an argument of the program is. Clients cite bytes, same_bytes, word_of and digit_of.
use Rattle.std.specs.Prelude.{ℕ, zero, suc, ◌+◌, ◌-◌, Bool, cond, not, List, [], ◌∷◌, bytes_eq, eqb, ltb, get_or, length, Option, None, Some}
use Prim.Native.String.{String, len, char_at}
use Prim.Native.Char.{code}
use Rattle.shell.specs.declared.word.Word.{Word}
use Rattle.shell.specs.declared.word.Word.TheVariants.{Spreads, Strict, Tsv, Json, StatusFd, Unknown, File}

-- n characters of a text from place i on, by their codes
abbrev pub codes : String → ℕ → ℕ → List ℕ
codes s i zero = []
codes s i (suc n) = code (char_at s i) ∷ codes s (i + 1) n

-- a text of plain letters as bytes
abbrev pub bytes : String → List ℕ
bytes s = codes s 0 (len s)

-- byte for byte
abbrev pub same_bytes : List ℕ → List ℕ → Bool
same_bytes = bytes_eq

-- the word `spreads`, an option by its name, an option that there is not, which is all else that begins with a minus sign, or a file
unfoldable pub word_of : List ℕ → Word
word_of s =
    cond (same_bytes s (bytes "spreads")) Spreads
    (cond (same_bytes s (bytes "--strict")) Strict
    (cond (same_bytes s (bytes "--tsv")) Tsv
    (cond (same_bytes s (bytes "--json")) Json
    (cond (same_bytes s (bytes "--status-fd")) StatusFd
    (cond (eqb (get_or s 0 0) (code "-")) Unknown
    File)))))

-- the descriptor for the status: a digit from 3 to 9, and none in anything else
abbrev pub digit_of : List ℕ → Option ℕ
digit_of s =
    cond (not (eqb (length s) 1)) None
    (cond (ltb (get_or s 0 0) (code "3")) None
    (cond (ltb (code "9") (get_or s 0 0)) None
    (Some (get_or s 0 0 - code "0"))))
