-- What all arguments together ask for: a fault is never forgotten, and a call without one names a file, one form at most, and nothing half. Clients cite is_descriptor, is_word, stays_wrong, all_append, unknown_anywhere, unknown_first, tsv_json, json_tsv, strict_anywhere, tsv_anywhere, json_anywhere, Whole, whole_call, files_alone, none_named, options_alone, fd_alone, spreads_last, spreads_option, fd_last and fd_file. Assumes nothing.
use Rattle.std.specs.Prelude.{ℕ, zero, suc, ◌+◌, ◌<◌, ◌≤◌, ◌≡◌, refl, Bool, true, false, cond, not, ◌&&◌, ◌||◌, List, [], ◌∷◌, ◌++◌, ◌⊎◌, eqb, get_or, min, Option, None, Some, IfSome}
use Prim.Native.Char.{code}
use Rattle.std.proofs.Common.{sym, ap, ◌∙◌, subst, inl, inr, ⊎_elim, arith, ne_eqb}
use Rattle.std.proofs.lemmas.Bool.{eqb-false}
use Rattle.shell.specs.declared.word.Word.{Word}
use Rattle.shell.specs.declared.word.Word.TheVariants.{Spreads, Strict, Tsv, Json, StatusFd, Unknown, File}
use Rattle.shell.specs.declared.asked.Asked.{Asked}
use Rattle.shell.specs.declared.asked.Fault.{Fault}
use Rattle.shell.specs.declared.asked.Fault.TheVariants as Wrong
use Rattle.shell.specs.Words.{bytes, word_of, digit_of}
use Rattle.shell.specs.Asked.{nothing_asked, with_fault, with_forms, with_strict, with_descriptor, with_files, faulty, described_of, named_of, form_of, took_of, after_of, all_asked, fault_of}
use Rattle.shell.specs.Laws.Words.{Is, what_it_is, no_digit, Named, what_it_names}
use Rattle.shell.specs.Laws.Each.{Each}

-- ---- one argument

-- An argument where a descriptor is wanted is taken as one.
pub is_descriptor : (a : Asked) (w : Word) (digit : Option ℕ) → faulty a.fault ≡ false → a.descriptor ≡ true → after_of a w digit ≡ described_of a digit
unfolding after_of
is_descriptor a w digit e d = rw (e, d)

-- Any other is taken by itself.
pub is_word : (a : Asked) (w : Word) (digit : Option ℕ) → faulty a.fault ≡ false → a.descriptor ≡ false → after_of a w digit ≡ took_of a w
unfolding after_of
is_word a w digit e d = rw (e, d)

-- After a fault no argument changes anything.
after_wrong : (a : Asked) (w : Word) (digit : Option ℕ) → faulty a.fault ≡ true → after_of a w digit ≡ a
unfolding after_of
after_wrong a w digit e = rw e

-- ---- a fault is never forgotten

-- What is wrong stays wrong, whatever follows.
pub stays_wrong : (a : Asked) (ss : List (List ℕ)) → faulty a.fault ≡ true → all_asked a ss ≡ a
stays_wrong a [] e = refl
stays_wrong a (s ∷ ss) e = rw (after_wrong a (word_of s) (digit_of s) e) (stays_wrong a ss e)

-- Arguments are taken one after the other: first these, then those.
pub all_append : (a : Asked) (ss ts : List (List ℕ)) → all_asked a (ss ++ ts) ≡ all_asked (all_asked a ss) ts
all_append a [] ts = refl
all_append a (s ∷ ss) ts = all_append (after_of a (word_of s) (digit_of s)) ss ts

-- a call that is wrong is told as one
told : (a : Asked) → faulty a.fault ≡ true → fault_of a ≡ a.fault
told a e = rw e

wrong_told : (a : Asked) (ss : List (List ℕ)) → faulty a.fault ≡ true → fault_of (all_asked a ss) ≡ None → ⊥
wrong_told a ss e h =
    let f : a.fault ≡ None = sym (told a e) ∙ ap fault_of (sym (stays_wrong a ss e)) ∙ h in
    let z : true ≡ false = sym e ∙ ap faulty f in
    let n : ◌≡◌ {A = ℕ} 0 1 = cc in
    omega arith

-- an argument that begins with a minus sign, where a descriptor is wanted, is none
wanted_wrong : (a : Asked) (s : List ℕ) → get_or s 0 0 ≡ code "-" → faulty (described_of a (digit_of s)).fault ≡ true
wanted_wrong a s h = rw (no_digit s h)

-- what one argument does to a call, given what it does to one that is not wrong and wants no descriptor
taken : (P : Asked → Type 0) (a : Asked) (s : List ℕ) → get_or s 0 0 ≡ code "-" → ((b : Asked) → faulty b.fault ≡ true → P b) → P (took_of a (word_of s)) → P (after_of a (word_of s) (digit_of s))
unfolding after_of
taken P a s h wrong took = go (faulty a.fault) a.descriptor refl
  where
    go : (f d : Bool) → faulty a.fault ≡ f → P (cond f a (cond d (described_of a (digit_of s)) (took_of a (word_of s))))
    go true d e = wrong a e
    go false true e = wrong _ (wanted_wrong a s h)
    go false false e = took

begins : (s : List ℕ) → word_of s ≡ Unknown → get_or s 0 0 ≡ code "-"
begins s e = rw e at (what_it_is s)

-- An option that there is not makes the call faulty wherever it stands, whatever stands before and behind it.
pub unknown_anywhere : (before behind : List (List ℕ)) (s : List ℕ) → word_of s ≡ Unknown → fault_of (all_asked nothing_asked (before ++ s ∷ behind)) ≡ None → ⊥
unknown_anywhere before behind s e h =
    let a = all_asked nothing_asked before in
    wrong_told (after_of a (word_of s) (digit_of s)) behind
    (taken (λ (b : Asked). faulty b.fault ≡ true) a s (begins s e) (λ b w. w) (rw e))
    (ap fault_of (sym (all_append nothing_asked before (s ∷ behind))) ∙ h)

-- Where nothing was wrong before it and no descriptor is wanted, it is told as an option that there is not.
pub unknown_first : (before behind : List (List ℕ)) (s : List ℕ) → word_of s ≡ Unknown → faulty (all_asked nothing_asked before).fault ≡ false → (all_asked nothing_asked before).descriptor ≡ false
    → fault_of (all_asked nothing_asked (before ++ s ∷ behind)) ≡ Some Wrong.Option
unknown_first before behind s e f d =
    let a = all_asked nothing_asked before in
    ap fault_of (all_append nothing_asked before (s ∷ behind) ∙ ap (λ (b : Asked). all_asked b behind) (is_word a (word_of s) (digit_of s) f d ∙ ap (took_of a) e) ∙ stays_wrong (with_fault Wrong.Option a) behind refl)

-- ---- what no argument changes

-- what both arms of a test have
both_ways : (P : Asked → Type 0) (b : Bool) (x y : Asked) → P x → P y → P (cond b x y)
both_ways P true x y p q = p
both_ways P false x y p q = q

-- a fact that each small change keeps is kept by all arguments
module _ (P : Asked → Type 0)
    (fault : (a : Asked) (f : Fault) → P a → P (with_fault f a)) (strict : (a : Asked) → P a → P (with_strict a))
    (want : (a : Asked) → P a → P (with_descriptor a.fd true a)) (given : (a : Asked) (s : List ℕ) → P a → P (with_descriptor (digit_of s) false a))
    (files : (a : Asked) (n : ℕ) (b : Bool) → P a → P (with_files n b a)) (form : (a : Asked) (b : Bool) → P a → P (form_of a b)) where
  took_keeps : (a : Asked) (w : Word) → P a → P (took_of a w)
  took_keeps a Spreads p = both_ways P a.spreads _ _ (files a _ _ p) (files a _ _ p)
  took_keeps a Strict p = strict a p
  took_keeps a Tsv p = form a true p
  took_keeps a Json p = form a false p
  took_keeps a StatusFd p = want a p
  took_keeps a Unknown p = fault a _ p
  took_keeps a File p = files a _ _ p

  after_keeps : (a : Asked) (s : List ℕ) → P a → P (after_of a (word_of s) (digit_of s))
  unfolding after_of
  after_keeps a s p =
      both_ways P (faulty a.fault) _ _ p
      (both_ways P a.descriptor _ _ (described (digit_of s) (given a s p)) (took_keeps a (word_of s) p))
    where
      described : (d : Option ℕ) → P (with_descriptor d false a) → P (described_of a d)
      described None q = fault a _ p
      described (Some d) q = q

  all_keeps : (a : Asked) (ss : List (List ℕ)) → P a → P (all_asked a ss)
  all_keeps a [] p = p
  all_keeps a (s ∷ ss) p = all_keeps (after_of a (word_of s) (digit_of s)) ss (after_keeps a s p)

-- the forms that an option leaves
abbrev tsv_with : Asked → Bool → Bool
tsv_with a b = b || a.tsv

abbrev json_with : Asked → Bool → Bool
json_with a b = not b || a.json

form_keeps : (P : Asked → Type 0) (a : Asked) (b : Bool) → P (with_fault Wrong.Forms a) → ((tsv_with a b && json_with a b) ≡ false → P (with_forms (tsv_with a b) (json_with a b) a)) → P (form_of a b)
form_keeps P a b p q = go (tsv_with a b && json_with a b) refl
  where
    go : (t : Bool) → (tsv_with a b && json_with a b) ≡ t → P (cond t (with_fault Wrong.Forms a) (with_forms (tsv_with a b) (json_with a b) a))
    go true e = p
    go false e = q e

-- ---- both forms

abbrev InTsv : Asked → Type 0
InTsv a = a.tsv ≡ true

abbrev InJson : Asked → Type 0
InJson a = a.json ≡ true

tsv_form : (a : Asked) (b : Bool) → InTsv a → InTsv (form_of a b)
tsv_form a true p = form_keeps InTsv a true p (λ e. refl)
tsv_form a false p = form_keeps InTsv a false p (λ e. p)

json_form : (a : Asked) (b : Bool) → InJson a → InJson (form_of a b)
json_form a true p = form_keeps InJson a true p (λ e. p)
json_form a false p = form_keeps InJson a false p (λ e. refl)

tsv_stays : (a : Asked) (ss : List (List ℕ)) → InTsv a → InTsv (all_asked a ss)
tsv_stays a ss p = all_keeps InTsv (λ b f q. q) (λ b q. q) (λ b q. q) (λ b s q. q) (λ b n c q. q) tsv_form a ss p

json_stays : (a : Asked) (ss : List (List ℕ)) → InJson a → InJson (all_asked a ss)
json_stays a ss p = all_keeps InJson (λ b f q. q) (λ b q. q) (λ b q. q) (λ b s q. q) (λ b n c q. q) json_form a ss p

abbrev IsWrong : Asked → Type 0
IsWrong a = faulty a.fault ≡ true

-- two arguments that begin with a minus sign: after the first, wrong or in a form Q that stays; with Q the second is wrong; then the call is, whatever stands before, between and behind them
clash : (Q : Asked → Type 0) (s t : List ℕ) → get_or s 0 0 ≡ code "-" → get_or t 0 0 ≡ code "-"
    → ((a : Asked) → IsWrong (took_of a (word_of s)) ⊎ Q (took_of a (word_of s))) → ((a : Asked) (ss : List (List ℕ)) → Q a → Q (all_asked a ss)) → ((a : Asked) → Q a → IsWrong (took_of a (word_of t)))
    → (before between behind : List (List ℕ)) → fault_of (all_asked nothing_asked (before ++ s ∷ (between ++ t ∷ behind))) ≡ None → ⊥
clash Q s t hs ht first stays second before between behind h =
    let a = all_asked nothing_asked before in
    let b = after_of a (word_of s) (digit_of s) in
    let c = all_asked b between in
    let at_s : IsWrong b ⊎ Q b = taken (λ (x : Asked). IsWrong x ⊎ Q x) a s hs (λ x w. inl w) (first a) in
    let at_t : IsWrong (after_of c (word_of t) (digit_of t))
    = ⊎_elim
    (λ (w : IsWrong b). let e : c ≡ b = stays_wrong b between w in rw (e, after_wrong b (word_of t) (digit_of t) w) w)
    (λ (q : Q b). taken IsWrong c t ht (λ x w. w) (second c (stays b between q)))
    at_s in
    wrong_told (after_of c (word_of t) (digit_of t)) behind at_t
    (ap fault_of (sym (all_append nothing_asked before (s ∷ (between ++ t ∷ behind)) ∙ all_append b between (t ∷ behind))) ∙ h)

minus : (s : List ℕ) (w : Word) → word_of s ≡ w → Is w s
minus s w e = rw e at (what_it_is s)

tsv_first : (s : List ℕ) → word_of s ≡ Tsv → (a : Asked) → IsWrong (took_of a (word_of s)) ⊎ InTsv (took_of a (word_of s))
tsv_first s e a = rw e (form_keeps (λ (x : Asked). IsWrong x ⊎ InTsv x) a true (inl refl) (λ f. inr refl))

json_first : (s : List ℕ) → word_of s ≡ Json → (a : Asked) → IsWrong (took_of a (word_of s)) ⊎ InJson (took_of a (word_of s))
json_first s e a = rw e (form_keeps (λ (x : Asked). IsWrong x ⊎ InJson x) a false (inl refl) (λ f. inr refl))

json_second : (t : List ℕ) → word_of t ≡ Json → (a : Asked) → InTsv a → IsWrong (took_of a (word_of t))
json_second t e a q = rw (e, q)

tsv_second : (t : List ℕ) → word_of t ≡ Tsv → (a : Asked) → InJson a → IsWrong (took_of a (word_of t))
tsv_second t e a q = rw (e, q)

-- `--tsv` and behind it `--json` make the call faulty, wherever they stand.
pub tsv_json : (before between behind : List (List ℕ)) (s t : List ℕ) → word_of s ≡ Tsv → word_of t ≡ Json → fault_of (all_asked nothing_asked (before ++ s ∷ (between ++ t ∷ behind))) ≡ None → ⊥
tsv_json before between behind s t e f = clash InTsv s t (rw (minus s Tsv e)) (rw (minus t Json f)) (tsv_first s e) tsv_stays (json_second t f) before between behind

-- And so do `--json` and behind it `--tsv`.
pub json_tsv : (before between behind : List (List ℕ)) (s t : List ℕ) → word_of s ≡ Json → word_of t ≡ Tsv → fault_of (all_asked nothing_asked (before ++ s ∷ (between ++ t ∷ behind))) ≡ None → ⊥
json_tsv before between behind s t e f = clash InJson s t (rw (minus s Json e)) (rw (minus t Tsv f)) (json_first s e) json_stays (tsv_second t f) before between behind

-- ---- options hold wherever they stand

-- an option that makes the call wrong or asks for Q, which stays: a call that is not at fault asks for Q
lasting : (Q : Asked → Type 0) (s : List ℕ) → get_or s 0 0 ≡ code "-" → ((a : Asked) → IsWrong (took_of a (word_of s)) ⊎ Q (took_of a (word_of s))) → ((a : Asked) (ss : List (List ℕ)) → Q a → Q (all_asked a ss))
    → (before behind : List (List ℕ)) → fault_of (all_asked nothing_asked (before ++ s ∷ behind)) ≡ None → Q (all_asked nothing_asked (before ++ s ∷ behind))
lasting Q s hs first stays before behind h =
    let a = all_asked nothing_asked before in
    let b = after_of a (word_of s) (digit_of s) in
    let e : all_asked nothing_asked (before ++ s ∷ behind) ≡ all_asked b behind = all_append nothing_asked before (s ∷ behind) in
    subst Q (sym e)
    (⊎_elim
    (λ (w : IsWrong b). absurd (wrong_told b behind w (ap fault_of (sym e) ∙ h)))
    (λ (q : Q b). stays b behind q)
    (taken (λ (x : Asked). IsWrong x ⊎ Q x) a s hs (λ x w. inl w) (first a)))

abbrev IsStrict : Asked → Type 0
IsStrict a = a.strict ≡ true

strict_stays : (a : Asked) (ss : List (List ℕ)) → IsStrict a → IsStrict (all_asked a ss)
strict_stays a ss p = all_keeps IsStrict (λ b f q. q) (λ b q. refl) (λ b q. q) (λ b s q. q) (λ b n c q. q) (λ b c q. form_keeps IsStrict b c q (λ e. q)) a ss p

-- `--strict` is never passed over: a call that is not at fault and has it anywhere is strict.
pub strict_anywhere : (before behind : List (List ℕ)) (s : List ℕ) → word_of s ≡ Strict → fault_of (all_asked nothing_asked (before ++ s ∷ behind)) ≡ None → (all_asked nothing_asked (before ++ s ∷ behind)).strict ≡ true
strict_anywhere before behind s e = lasting IsStrict s (rw (minus s Strict e)) (λ a. rw e (inr refl)) strict_stays before behind

-- And so it is with `--tsv`,
pub tsv_anywhere : (before behind : List (List ℕ)) (s : List ℕ) → word_of s ≡ Tsv → fault_of (all_asked nothing_asked (before ++ s ∷ behind)) ≡ None → (all_asked nothing_asked (before ++ s ∷ behind)).tsv ≡ true
tsv_anywhere before behind s e = lasting InTsv s (rw (minus s Tsv e)) (tsv_first s e) tsv_stays before behind

-- and with `--json`.
pub json_anywhere : (before behind : List (List ℕ)) (s : List ℕ) → word_of s ≡ Json → fault_of (all_asked nothing_asked (before ++ s ∷ behind)) ≡ None → (all_asked nothing_asked (before ++ s ∷ behind)).json ≡ true
json_anywhere before behind s e = lasting InJson s (rw (minus s Json e)) (json_first s e) json_stays before behind

-- ---- a call without a fault

-- no descriptor, or one from 3 to 9
abbrev Fit : Option ℕ → Type 0
Fit fd = IfSome fd (λ d. (3 ≤ d) × (d ≤ 9))

-- what a call asks for that is not at fault
pub record Whole (a : Asked) : Type 0 where
  -- at least one file is named
  pub files : 0 < a.files
  -- no file of spreads is left out, and no descriptor
  pub closed : a.spreads ≡ false
  pub told : a.descriptor ≡ false
  -- one form at most
  pub «one_form» : (a.tsv && a.json) ≡ false
  -- the status goes nowhere, or to a descriptor from 3 to 9
  pub fd : IfSome a.fd (λ d. (3 ≤ d) × (d ≤ 9))
  pub right : a.fault ≡ None

abbrev OneForm : Asked → Type 0
OneForm a = (a.tsv && a.json) ≡ false

abbrev FitFd : Asked → Type 0
FitFd a = Fit a.fd

fit_digit : (s : List ℕ) → Fit (digit_of s)
fit_digit s = go (digit_of s) (what_it_names s)
  where
    go : (d : Option ℕ) → IfSome d (Named s) → Fit d
    go None h = tt
    go (Some d) h = (h.least, h.most)

no_fault : (f : Option Fault) → faulty f ≡ false → f ≡ None
no_fault None e = refl
no_fault (Some f) e = cc

-- A call that is not at fault names at least one file, one form at most, and nothing half.
pub whole_call : (ss : List (List ℕ)) → fault_of (all_asked nothing_asked ss) ≡ None → Whole (all_asked nothing_asked ss)
whole_call ss h = go (faulty a.fault) a.descriptor a.spreads (eqb a.files 0) refl refl refl refl h
  where
    a : Asked
    a = all_asked nothing_asked ss

    forms : OneForm (all_asked nothing_asked ss)
    forms = all_keeps OneForm (λ b f q. q) (λ b q. q) (λ b q. q) (λ b s q. q) (λ b n c q. q) (λ b c q. form_keeps OneForm b c q (λ e. e)) nothing_asked ss refl

    fit : FitFd (all_asked nothing_asked ss)
    fit = all_keeps FitFd (λ b f q. q) (λ b q. q) (λ b q. q) (λ b s q. fit_digit s) (λ b n c q. q) (λ b c q. form_keeps FitFd b c q (λ e. q)) nothing_asked ss tt

    go : (f d s n : Bool) → faulty (all_asked nothing_asked ss).fault ≡ f → (all_asked nothing_asked ss).descriptor ≡ d → (all_asked nothing_asked ss).spreads ≡ s → eqb (all_asked nothing_asked ss).files 0 ≡ n
        → cond f (all_asked nothing_asked ss).fault (cond d (Some Wrong.Descriptor) (cond s (Some Wrong.Spreads) (cond n (Some Wrong.File) None))) ≡ None
        → Whole (all_asked nothing_asked ss)
    go true d s n p q r t k = let z : ◌≡◌ {A = ℕ} 0 1 = cc (sym p ∙ ap faulty k) in absurd (omega arith)
    go false true s n p q r t k = let z : ◌≡◌ {A = ℕ} 0 1 = cc in absurd (omega arith)
    go false false true n p q r t k = let z : ◌≡◌ {A = ℕ} 0 1 = cc in absurd (omega arith)
    go false false false true p q r t k = let z : ◌≡◌ {A = ℕ} 0 1 = cc in absurd (omega arith)
    go false false false false p q r t k =
        let e = eqb-false _ _ t in
        record { files = positive (all_asked nothing_asked ss).files e; closed = r; told = q; «one_form» = forms; fd = fit; right = no_fault _ p }
      where
        positive : (n : ℕ) → (n ≡ 0 → ⊥) → 0 < n
        positive zero g = absurd (g refl)
        positive (suc n) g = omega arith

-- ---- files alone

-- nothing is wrong and nothing is half
record Plain (a : Asked) : Type 0 where
  right : a.fault ≡ None
  told : a.descriptor ≡ false
  closed : a.spreads ≡ false

-- a file more is at least one
named_some : (n : ℕ) → 0 < min (n + 1) 18446744073709551615
named_some n = omega arith

plain_file : (a : Asked) (s : List ℕ) → word_of s ≡ File → Plain a → after_of a (word_of s) (digit_of s) ≡ named_of a
plain_file a s e p = is_word a (word_of s) (digit_of s) (ap faulty p.right) p.told ∙ ap (took_of a) e

plain_all : (a : Asked) (ss : List (List ℕ)) → Plain a → 0 < a.files → Each (λ (s : List ℕ). word_of s ≡ File) ss → Plain (all_asked a ss) × (0 < (all_asked a ss).files)
plain_all a [] p h e = (p, h)
plain_all a (s ∷ ss) p h e =
    subst (λ (b : Asked). Plain (all_asked b ss) × (0 < (all_asked b ss).files)) (sym (plain_file a s e.0 p))
    (plain_all (named_of a) ss (record { right = p.right; told = p.told; closed = refl }) (named_some a.files) e.1)

-- Names of files alone, one or more, are never at fault.
pub files_alone : (s : List ℕ) (ss : List (List ℕ)) → Each (λ (t : List ℕ). word_of t ≡ File) (s ∷ ss) → fault_of (all_asked nothing_asked (s ∷ ss)) ≡ None
files_alone s ss e =
    let all = plain_all (named_of nothing_asked) ss (record { right = refl; told = refl; closed = refl }) (omega arith) e.1 in
    ap (λ (a : Asked). fault_of (all_asked a ss)) (plain_file nothing_asked s e.0 (record { right = refl; told = refl; closed = refl })) ∙ done (all_asked (named_of nothing_asked) ss) all.0 all.1
  where
    done : (a : Asked) → Plain a → 0 < a.files → fault_of a ≡ None
    done a p h = rw (p.right, p.told, p.closed, ne_eqb a.files 0 (λ k. omega arith))

-- ---- options alone

-- no argument was wrong, and none was a file or a word that wants one
record Bare (tsv : Bool) (a : Asked) : Type 0 where
  right : a.fault ≡ None
  told : a.descriptor ≡ false
  closed : a.spreads ≡ false
  none : a.files ≡ 0
  other : cond tsv a.json a.tsv ≡ false

-- No argument at all is told as no file.
pub none_named : fault_of (all_asked nothing_asked []) ≡ Some Wrong.File
none_named = refl

bare_file : (tsv : Bool) (a : Asked) → Bare tsv a → fault_of a ≡ Some Wrong.File
bare_file tsv a b = rw (b.right, b.told, b.closed, b.none)

bare_strict : (tsv : Bool) (a : Asked) → Bare tsv a → Bare tsv (with_strict a)
bare_strict tsv a b = record { right = b.right; told = b.told; closed = b.closed; none = b.none; other = b.other }

bare_form : (tsv : Bool) (a : Asked) → Bare tsv a → Bare tsv (form_of a tsv)
bare_form true a b = rw b.other (record { right = b.right; told = b.told; closed = b.closed; none = b.none; other = refl })
bare_form false a b = rw b.other (record { right = b.right; told = b.told; closed = b.closed; none = b.none; other = refl })

-- Options alone, `--strict` and one form as often as you like, are told as no file.
pub options_alone : (tsv : Bool) (ss : List (List ℕ)) → Each (λ (s : List ℕ). (word_of s ≡ Strict) ⊎ (word_of s ≡ cond tsv Tsv Json)) ss → fault_of (all_asked nothing_asked ss) ≡ Some Wrong.File
options_alone tsv ss h = bare_file tsv (all_asked nothing_asked ss) (all nothing_asked ss start h)
  where
    start : Bare tsv nothing_asked
    start = record { right = refl; told = refl; closed = refl; none = refl; other = each tsv }
      where
        each : (b : Bool) → cond b false false ≡ false
        each true = refl
        each false = refl

    step : (a : Asked) (s : List ℕ) → Bare tsv a → (word_of s ≡ Strict) ⊎ (word_of s ≡ cond tsv Tsv Json) → Bare tsv (took_of a (word_of s))
    step a s b (inl e) = rw e (bare_strict tsv a b)
    step a s b (inr e) = rw e (form tsv b)
      where
        form : (t : Bool) → Bare t a → Bare t (took_of a (cond t Tsv Json))
        form true c = bare_form true a c
        form false c = bare_form false a c

    all : (a : Asked) (ts : List (List ℕ)) → Bare tsv a → Each (λ (s : List ℕ). (word_of s ≡ Strict) ⊎ (word_of s ≡ cond tsv Tsv Json)) ts → Bare tsv (all_asked a ts)
    all a [] b k = b
    all a (s ∷ ts) b k =
        all (after_of a (word_of s) (digit_of s)) ts
        (subst (Bare tsv) (sym (is_word a (word_of s) (digit_of s) (ap faulty b.right) b.told)) (step a s b k.0)) k.1

-- `--status-fd 3` alone is told as no file too.
pub fd_alone : fault_of (all_asked nothing_asked (bytes "--status-fd" ∷ bytes "3" ∷ [])) ≡ Some Wrong.File
unfolding word_of after_of
fd_alone = refl

-- ---- the other rows of the table of faults

-- `spreads` as the last argument wants a file.
pub spreads_last : fault_of (all_asked nothing_asked (bytes "front_end.jobs" ∷ bytes "spreads" ∷ [])) ≡ Some Wrong.Spreads
unfolding word_of after_of
spreads_last = refl

-- An option between the word and its file changes nothing.
pub spreads_option : fault_of (all_asked nothing_asked (bytes "spreads" ∷ bytes "--tsv" ∷ bytes "spreads.jobs" ∷ [])) ≡ None
unfolding word_of after_of
spreads_option = refl

-- `--status-fd` as the last argument wants a digit.
pub fd_last : fault_of (all_asked nothing_asked (bytes "front_end.jobs" ∷ bytes "--status-fd" ∷ [])) ≡ Some Wrong.Descriptor
unfolding word_of after_of
fd_last = refl

-- And so it does before a file.
pub fd_file : fault_of (all_asked nothing_asked (bytes "--status-fd" ∷ bytes "front_end.jobs" ∷ [])) ≡ Some Wrong.Descriptor
unfolding word_of after_of
fd_file = refl
