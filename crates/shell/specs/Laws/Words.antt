-- What an argument is taken for: each option by its whole name, and nothing else. Clients cite word_spreads, word_strict, word_tsv, word_json, word_status_fd, word_tvs, word_file, Is, what_it_is, minus_no_file, digit_three, digit_nine, digit_two, digit_twelve, digit_letter, digit_empty, Named, what_it_names and no_digit. Assumes nothing.
use Rattle.std.specs.Prelude.{ℕ, ◌+◌, ◌-◌, ◌≤◌, ◌≡◌, refl, Bool, true, false, cond, not, List, [], eqb, ltb, get_or, length, Option, None, Some, IfSome}
use Prim.Native.Char.{code}
use Rattle.std.proofs.Common.{arith, eqb-true, ltb-false}
use Rattle.std.proofs.lemmas.Bool.{eqb-false, not-false}
use Rattle.shell.specs.declared.word.Word.{Word}
use Rattle.shell.specs.declared.word.Word.TheVariants.{Spreads, Strict, Tsv, Json, StatusFd, Unknown, File}
use Rattle.shell.specs.Words.{bytes, same_bytes, word_of, digit_of}
use Rattle.shell.specs.Laws.Compare.{same_is}

-- ---- each option by its name

-- `spreads` is the word that makes the next file one of spreads.
pub word_spreads : word_of (bytes "spreads") ≡ Spreads
unfolding word_of
word_spreads = refl

-- `--strict` is the option that makes doubt count.
pub word_strict : word_of (bytes "--strict") ≡ Strict
unfolding word_of
word_strict = refl

-- `--tsv` is the option for lines of fields.
pub word_tsv : word_of (bytes "--tsv") ≡ Tsv
unfolding word_of
word_tsv = refl

-- `--json` is the option for JSON.
pub word_json : word_of (bytes "--json") ≡ Json
unfolding word_of
word_json = refl

-- `--status-fd` is the option before a descriptor.
pub word_status_fd : word_of (bytes "--status-fd") ≡ StatusFd
unfolding word_of
word_status_fd = refl

-- A slip of the finger, as `--tvs`, is no option that there is, and no file either.
pub word_tvs : word_of (bytes "--tvs") ≡ Unknown
unfolding word_of
word_tvs = refl

-- A name without a minus sign in front is a file's.
pub word_file : word_of (bytes "front_end.jobs") ≡ File
unfolding word_of
word_file = refl

-- ---- and nothing else

-- what a text is that is taken for this word
abbrev pub Is : Word → List ℕ → Type 0
Is Spreads s = s ≡ bytes "spreads"
Is Strict s = s ≡ bytes "--strict"
Is Tsv s = s ≡ bytes "--tsv"
Is Json s = s ≡ bytes "--json"
Is StatusFd s = s ≡ bytes "--status-fd"
Is Unknown s = get_or s 0 0 ≡ code "-"
Is File s = get_or s 0 0 ≡ code "-" → ⊥

-- An argument is taken for an option only where it is that option's whole name, for an unknown one only where it begins with a minus sign, and for a file only where it does not.
pub what_it_is : (s : List ℕ) → Is (word_of s) s
unfolding word_of
what_it_is s =
    go (same_bytes s (bytes "spreads")) (same_bytes s (bytes "--strict")) (same_bytes s (bytes "--tsv")) (same_bytes s (bytes "--json")) (same_bytes s (bytes "--status-fd")) (eqb (get_or s 0 0) (code "-"))
    refl refl refl refl refl refl
  where
    go : (a b c d e f : Bool) → same_bytes s (bytes "spreads") ≡ a → same_bytes s (bytes "--strict") ≡ b → same_bytes s (bytes "--tsv") ≡ c → same_bytes s (bytes "--json") ≡ d
        → same_bytes s (bytes "--status-fd") ≡ e → eqb (get_or s 0 0) (code "-") ≡ f
        → Is (cond a Spreads (cond b Strict (cond c Tsv (cond d Json (cond e StatusFd (cond f Unknown File)))))) s
    go true b c d e f p q r t u v = same_is _ _ p
    go false true c d e f p q r t u v = same_is _ _ q
    go false false true d e f p q r t u v = same_is _ _ r
    go false false false true e f p q r t u v = same_is _ _ t
    go false false false false true f p q r t u v = same_is _ _ u
    go false false false false false true p q r t u v = eqb-true _ _ v
    go false false false false false false p q r t u v = eqb-false _ _ v

-- A text that begins with a minus sign is never a file: no option that was meant is opened as one.
pub minus_no_file : (s : List ℕ) → get_or s 0 0 ≡ code "-" → word_of s ≡ File → ⊥
minus_no_file s h e = (rw e at (what_it_is s)) h

-- ---- a descriptor

-- `3` names descriptor 3, as the wrapper hands it.
pub digit_three : digit_of (bytes "3") ≡ Some 3
digit_three = refl

-- `9` names descriptor 9, the last.
pub digit_nine : digit_of (bytes "9") ≡ Some 9
digit_nine = refl

-- `2`, standard error itself, names none.
pub digit_two : digit_of (bytes "2") ≡ None
digit_two = refl

-- `12` names none.
pub digit_twelve : digit_of (bytes "12") ≡ None
digit_twelve = refl

-- `x` names none.
pub digit_letter : digit_of (bytes "x") ≡ None
digit_letter = refl

-- The empty text names none.
pub digit_empty : digit_of [] ≡ None
digit_empty = refl

-- a text of one byte, the digit d, which is 3 to 9
pub record Named (s : List ℕ) (d : ℕ) : Type 0 where
  pub one : length s ≡ 1
  pub byte : get_or s 0 0 ≡ code "0" + d
  pub least : 3 ≤ d
  pub most : d ≤ 9

-- A text names no descriptor, or it is one digit and that digit is 3 to 9: standard input, output and error are never written to.
pub what_it_names : (s : List ℕ) → IfSome (digit_of s) (Named s)
what_it_names s = go (not (eqb (length s) 1)) (ltb (get_or s 0 0) (code "3")) (ltb (code "9") (get_or s 0 0)) refl refl refl
  where
    go : (a b c : Bool) → not (eqb (length s) 1) ≡ a → ltb (get_or s 0 0) (code "3") ≡ b → ltb (code "9") (get_or s 0 0) ≡ c
        → IfSome (cond a None (cond b None (cond c None (Some (get_or s 0 0 - code "0"))))) (Named s)
    go true b c p q r = tt
    go false true c p q r = tt
    go false false true p q r = tt
    go false false false p q r =
        let h : code "3" ≤ get_or s 0 0 = ltb-false _ _ q in
        let k : get_or s 0 0 ≤ code "9" = ltb-false _ _ r in
        record { one = eqb-true _ _ (not-false _ p); byte = omega arith; least = omega arith; most = omega arith }

-- A text that begins with a minus sign names none.
pub no_digit : (s : List ℕ) → get_or s 0 0 ≡ code "-" → digit_of s ≡ None
no_digit s e = go (not (eqb (length s) 1))
  where
    go : (a : Bool) → cond a None (cond (ltb (get_or s 0 0) (code "3")) None (cond (ltb (code "9") (get_or s 0 0)) None (Some (get_or s 0 0 - code "0")))) ≡ None
    go true = refl
    go false = rw e
