use Rattle.std.proofs.Common.{◌≡◌, ℕ, refl, sym, ap, ◌∙◌, Bool, true, false, ◌&&◌, List, [], ◌∷◌, eqb, get_or, take, ne_eqb, eqb-true}
use Rattle.std.specs.Prelude.{bytes_eq}
use Rattle.std.proofs.lemmas.Bool.{eqb-false}
use Prim.Native.Char.{code}
use Rattle.shell.specs.Words.{bytes, word_of}
use Rattle.shell.proofs.word.Word.of.Goals as goal

-- a text that starts with a minus sign has it for its first byte
minus : (s : List ℕ) → bytes_eq (bytes "-") (take 1 s) ≡ eqb (get_or s 0 0) (code "-")
minus [] = refl
minus (x ∷ xs) = go (eqb x 45) refl
  where
    go : (b : Bool) → eqb x 45 ≡ b → (eqb 45 x && true) ≡ eqb x 45
    go true e = rw (eqb-true x 45 e) refl
    go false e = rw (e, ne_eqb 45 x (λ h. eqb-false x 45 e (sym h)))

pub returns-then-same : goal.returns-then-same
unfolding word_of
returns-then-same c =
    rw (sym c.same.ensures ∙ c.if-same.true)

pub returns-then-same-2 : goal.returns-then-same-2
unfolding word_of
returns-then-same-2 c =
    rw (
      sym c.same.ensures ∙ c.if-same.false,
      sym c.same-else-same.ensures ∙ c.if-same-2.true,
    )

pub returns-then-same-3 : goal.returns-then-same-3
unfolding word_of
returns-then-same-3 c =
    rw (
      sym c.same.ensures ∙ c.if-same.false,
      sym c.same-else-same.ensures ∙ c.if-same-2.false,
      sym c.same-else-same-2.ensures ∙ c.if-same-3.true,
    )

pub returns-then-same-4 : goal.returns-then-same-4
unfolding word_of
returns-then-same-4 c =
    rw (
      sym c.same.ensures ∙ c.if-same.false,
      sym c.same-else-same.ensures ∙ c.if-same-2.false,
      sym c.same-else-same-2.ensures ∙ c.if-same-3.false,
      sym c.same-else-same-3.ensures ∙ c.if-same-4.true,
    )

pub returns-then-same-5 : goal.returns-then-same-5
unfolding word_of
returns-then-same-5 c =
    rw (
      sym c.same.ensures ∙ c.if-same.false,
      sym c.same-else-same.ensures ∙ c.if-same-2.false,
      sym c.same-else-same-2.ensures ∙ c.if-same-3.false,
      sym c.same-else-same-3.ensures ∙ c.if-same-4.false,
      sym c.same-else-same-4.ensures ∙ c.if-same-5.true,
    )

pub returns-then-starts_with : goal.returns-then-starts_with
unfolding word_of
returns-then-starts_with c =
    rw (
      sym c.same.ensures ∙ c.if-same.false,
      sym c.same-else-same.ensures ∙ c.if-same-2.false,
      sym c.same-else-same-2.ensures ∙ c.if-same-3.false,
      sym c.same-else-same-3.ensures ∙ c.if-same-4.false,
      sym c.same-else-same-4.ensures ∙ c.if-same-5.false,
      sym (minus c.args.s.now) ∙ sym c.starts_with.ensures.value ∙ c.if-starts_with.true,
    )

pub returns-else-starts_with : goal.returns-else-starts_with
unfolding word_of
returns-else-starts_with c =
    rw (
      sym c.same.ensures ∙ c.if-same.false,
      sym c.same-else-same.ensures ∙ c.if-same-2.false,
      sym c.same-else-same-2.ensures ∙ c.if-same-3.false,
      sym c.same-else-same-3.ensures ∙ c.if-same-4.false,
      sym c.same-else-same-4.ensures ∙ c.if-same-5.false,
      sym (minus c.args.s.now) ∙ sym c.starts_with.ensures.value ∙ c.if-starts_with.false,
    )
