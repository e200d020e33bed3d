use Rattle.std.proofs.Common.{sym, ◌∙◌}
use Rattle.shell.proofs.Laws.Asked.{is_descriptor, is_word}
use Rattle.shell.specs.Asked.{after_of}
use Rattle.shell.proofs.asked.Asked.after.Goals as goal

pub returns-then-is_faulty : goal.returns-then-is_faulty
unfolding after_of
returns-then-is_faulty c = rw (sym c.is_faulty.ensures ∙ c.if-is_faulty.true)

pub returns-then-self : goal.returns-then-self
returns-then-self c = c.described.ensures ∙ sym (is_descriptor _ _ _ (sym c.is_faulty.ensures ∙ c.if-is_faulty.false) c.if-self.true)

pub returns-in-Spreads : goal.returns-in-Spreads
returns-in-Spreads c = rw c.in-Spreads.is (c.of_spreads.ensures ∙ sym (is_word _ _ _ (sym c.is_faulty.ensures ∙ c.if-is_faulty.false) c.if-self.false))

pub returns-in-Strict : goal.returns-in-Strict
returns-in-Strict c = rw c.in-Strict.is (sym (is_word _ _ _ (sym c.is_faulty.ensures ∙ c.if-is_faulty.false) c.if-self.false))

pub returns-in-Tsv : goal.returns-in-Tsv
returns-in-Tsv c = rw c.in-Tsv.is (c.in_form.ensures ∙ sym (is_word _ _ _ (sym c.is_faulty.ensures ∙ c.if-is_faulty.false) c.if-self.false))

pub returns-in-Json : goal.returns-in-Json
returns-in-Json c = rw c.in-Json.is (c.in_form-in-Json.ensures ∙ sym (is_word _ _ _ (sym c.is_faulty.ensures ∙ c.if-is_faulty.false) c.if-self.false))

pub returns-in-StatusFd : goal.returns-in-StatusFd
returns-in-StatusFd c = rw c.in-StatusFd.is (sym (is_word _ _ _ (sym c.is_faulty.ensures ∙ c.if-is_faulty.false) c.if-self.false))

pub returns-in-Unknown : goal.returns-in-Unknown
returns-in-Unknown c = rw c.in-Unknown.is (c.with_fault.ensures ∙ sym (is_word _ _ _ (sym c.is_faulty.ensures ∙ c.if-is_faulty.false) c.if-self.false))

pub returns-in-File : goal.returns-in-File
returns-in-File c = rw c.in-File.is (c.named.ensures ∙ sym (is_word _ _ _ (sym c.is_faulty.ensures ∙ c.if-is_faulty.false) c.if-self.false))
