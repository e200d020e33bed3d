-- `sound::answer` meets its contract: a refusal changes nothing; else the reports read what the runs leave. Assumes nothing.
use Prim.Native.Nat.{ℕ, ◌+◌, ◌*◌, ◌/◌}
use mathlib.Core.Path.{◌≡◌, refl, sym, ◌∙◌}
use native.Mathlib.Nat.{lt_of_le_of_lt, mul-le-mul}
use native.Mathlib.Omega.{arith}
use lib.Dec.{lit<}
use lib.ListN.{drop}
use lib.Seq.{length-take-le, drop_at}
use Rattle.options.specs.declared.Options.{Options}
use Rattle.sheet.specs.Record.{record_bytes}
use Rattle.tally.specs.Laws.Ready.{kinds_made}
use Rattle.spreads.specs.declared.refusals.Lent.{Lent}
use Rattle.spreads.specs.Refusals.{bytes}
use Rattle.spreads.specs.Spreads.{scratch_of, matrix_cells}
use Rattle.spreads.specs.Laws.Refusals as spreads
use Rattle.sound.specs.declared.refusals.More.{More}
use Rattle.sound.specs.Refusals.{sound_refusal}
use Rattle.sound.specs.Sound.{results_of, Call, call_of, lengths, refusal_of}
use Rattle.sound.specs.Laws.Refusals.{SoundFine, sound_fine}
use Rattle.sound.specs.Laws.Sound.{call_refused, call_done}
use Rattle.sound.proofs.Parts.{same_whole}
use Rattle.sound.proofs.Whole.{settled_readable, sound_readable, whole}
use Rattle.sound.proofs.answer.Goals as goal

-- what holds of the lengths of a call once nothing was refused
module _ (o : Options) (z z' : Lent) (y y' : More) (k : ℕ) (e : k ≡ sound_refusal o z y) (p : z ≡ z') (q : y ≡ y') where
  same_refusal : k ≡ sound_refusal o z' y'
  same_refusal = e ∙ (λ i. sound_refusal o (p i) (q i))

ok : (o : Options) (z z' : Lent) (y y' : More) (k : ℕ) → k ≡ sound_refusal o z y → k ≡ 0 → z ≡ z' → y ≡ y' → SoundFine o z' y'
ok o z z' y y' k e h p q = sound_fine o z' y' (sym (same_refusal o z z' y y' k e p q) ∙ h)

pub returns-then-k-ne0 : goal.returns-then-k-ne0
returns-then-k-ne0 c =
    let a = c.args in
    let b : Call =
    call_of a.o a.z.jobs a.z.nodes a.z.sources a.z.unknown a.sheets.now a.points.now a.tolerances.now (scratch_of a.base.now a.system.now a.elimination.now a.memory.now)
    (results_of a.vectors.now a.causes.now a.places.now a.passes.now a.counts.now a.plus.now a.minus.now a.sound_plus.now a.sound_minus.now)
    in
    record {
      all = call_refused b _ (same_refusal _ _ _ _ _ _ c.refusal-k.ensures c.requires.0 c.requires.1) c.if-k-ne0.true;
      scratch = record { past = record { base = refl; system = refl; elimination = refl; memory = refl; kept = λ _. refl }; kept = λ _. refl };
    }

pub overflow_add-n : goal.overflow_add-n
overflow_add-n c = let k = ok _ _ _ _ _ _ c.refusal-k.ensures c.if-k-ne0.false c.requires.0 c.requires.1 in omega (arith, k.call.one.small)

pub overflow_add-cells : goal.overflow_add-cells
overflow_add-cells c = let k = ok _ _ _ _ _ _ c.refusal-k.ensures c.if-k-ne0.false c.requires.0 c.requires.1 in omega (arith, k.call.one.small)

pub overflow_mul-cells : goal.overflow_mul-cells
overflow_mul-cells c =
    let k = (ok _ _ _ _ _ _ c.refusal-k.ensures c.if-k-ne0.false c.requires.0 c.requires.1).call.one in
    record { fits = lt_of_le_of_lt (mul-le-mul {n₂ = 48} {m₂ = 49} k.small (omega (arith, k.small))) (lit< {m = 48 * 49} tt) }

pub nonzero_div-bytes : goal.nonzero_div-bytes
nonzero_div-bytes c = let k = ok _ _ _ _ _ _ c.refusal-k.ensures c.if-k-ne0.false c.requires.0 c.requires.1 in omega (arith, k.call.jobs.some)

pub slice_bounds-run_jobs-end : goal.slice_bounds-run_jobs-end
slice_bounds-run_jobs-end c = (ok _ _ _ _ _ _ c.refusal-k.ensures c.if-k-ne0.false c.requires.0 c.requires.1).call.one.base-room

pub slice_bounds-run_jobs-end-2 : goal.slice_bounds-run_jobs-end-2
slice_bounds-run_jobs-end-2 c = sym (length-take-le _ _ (ok _ _ _ _ _ _ c.refusal-k.ensures c.if-k-ne0.false c.requires.0 c.requires.1).call.one.base-room)

pub slice_bounds-run_jobs-end-3 : goal.slice_bounds-run_jobs-end-3
slice_bounds-run_jobs-end-3 c = (ok _ _ _ _ _ _ c.refusal-k.ensures c.if-k-ne0.false c.requires.0 c.requires.1).call.one.system-room

pub slice_bounds-run_jobs-end-4 : goal.slice_bounds-run_jobs-end-4
slice_bounds-run_jobs-end-4 c = sym (length-take-le _ _ (ok _ _ _ _ _ _ c.refusal-k.ensures c.if-k-ne0.false c.requires.0 c.requires.1).call.one.system-room)

pub slice_bounds-run_jobs-end-5 : goal.slice_bounds-run_jobs-end-5
slice_bounds-run_jobs-end-5 c = (ok _ _ _ _ _ _ c.refusal-k.ensures c.if-k-ne0.false c.requires.0 c.requires.1).call.one.elimination-room

pub slice_bounds-run_jobs-end-6 : goal.slice_bounds-run_jobs-end-6
slice_bounds-run_jobs-end-6 c = sym (length-take-le _ _ (ok _ _ _ _ _ _ c.refusal-k.ensures c.if-k-ne0.false c.requires.0 c.requires.1).call.one.elimination-room)

pub slice_bounds-run_jobs-end-7 : goal.slice_bounds-run_jobs-end-7
slice_bounds-run_jobs-end-7 c = (ok _ _ _ _ _ _ c.refusal-k.ensures c.if-k-ne0.false c.requires.0 c.requires.1).call.one.memory-room

pub slice_bounds-run_jobs-end-8 : goal.slice_bounds-run_jobs-end-8
slice_bounds-run_jobs-end-8 c = sym (length-take-le _ _ (ok _ _ _ _ _ _ c.refusal-k.ensures c.if-k-ne0.false c.requires.0 c.requires.1).call.one.memory-room)

pub slice_bounds-run_jobs-end-9 : goal.slice_bounds-run_jobs-end-9
slice_bounds-run_jobs-end-9 c = sym c.words-numbers.ensures

pub run_jobs-requires : goal.run_jobs-requires
run_jobs-requires c =
    let k = (ok _ _ _ _ _ _ c.refusal-k.ensures c.if-k-ne0.false c.requires.0 c.requires.1).call in (
      record { small = k.one.small; few = k.jobs.few; whole = omega (arith, k.even); «vector-room» = k.vector-room; «number-room» = k.number-room; «place-room» = k.place-room; «pass-room» = k.pass-room },
      omega (arith, k.jobs.few, c.words-numbers.ensures),
      record { bases = length-take-le _ _ k.one.base-room; systems = length-take-le _ _ k.one.system-room; works = length-take-le _ _ k.one.elimination-room; memories = length-take-le _ _ k.one.memory-room },
    )

pub slice_bounds-sum_both-end : goal.slice_bounds-sum_both-end
slice_bounds-sum_both-end c = sym (c.run_jobs.auto.numbers ∙ c.words-numbers.ensures)

pub sum_both-requires : goal.sum_both-requires
sum_both-requires c =
    let a = c.args in
    let b : Call =
    call_of a.o a.z.jobs a.z.nodes a.z.sources a.z.unknown a.sheets.now a.points.now a.tolerances.now (scratch_of a.base.now a.system.now a.elimination.now a.memory.now)
    (results_of a.vectors.now a.causes.now a.places.now a.passes.now a.counts.now a.plus.now a.minus.now a.sound_plus.now a.sound_minus.now)
    in
    let k = ok _ _ _ _ _ _ c.refusal-k.ensures c.if-k-ne0.false c.requires.0 c.requires.1 in
    let x = c.run_jobs in (
      settled_readable b _ _ _ _ _ _ k.call x.ensures.table x.ensures.own (omega (arith, k.call.jobs.few, x.auto.numbers, c.words-numbers.ensures)) x.auto.vectors,
      sound_readable b _ _ _ _ _ _ k.call x.ensures.table x.ensures.own x.auto.causes x.auto.vectors,
      k.call.plus-room,
      k.call.minus-room,
      k.plus-room,
      k.minus-room,
    )

pub shape_of-base : goal.shape_of-base
shape_of-base c = same_whole _ _ c.run_jobs.new.base c.run_jobs.auto.base (ok _ _ _ _ _ _ c.refusal-k.ensures c.if-k-ne0.false c.requires.0 c.requires.1).call.one.base-room

pub shape_of-system : goal.shape_of-system
shape_of-system c = same_whole _ _ c.run_jobs.new.system c.run_jobs.auto.system (ok _ _ _ _ _ _ c.refusal-k.ensures c.if-k-ne0.false c.requires.0 c.requires.1).call.one.system-room

pub shape_of-elimination : goal.shape_of-elimination
shape_of-elimination c = same_whole _ _ c.run_jobs.new.elimination c.run_jobs.auto.elimination (ok _ _ _ _ _ _ c.refusal-k.ensures c.if-k-ne0.false c.requires.0 c.requires.1).call.one.elimination-room

pub shape_of-memory : goal.shape_of-memory
shape_of-memory c = same_whole _ _ c.run_jobs.new.memory c.run_jobs.auto.memory (ok _ _ _ _ _ _ c.refusal-k.ensures c.if-k-ne0.false c.requires.0 c.requires.1).call.one.memory-room

pub shape_of-vectors : goal.shape_of-vectors
shape_of-vectors c = c.run_jobs.auto.vectors

pub shape_of-causes : goal.shape_of-causes
shape_of-causes c = c.run_jobs.auto.causes

pub shape_of-places : goal.shape_of-places
shape_of-places c = c.run_jobs.auto.places

pub shape_of-passes : goal.shape_of-passes
shape_of-passes c = c.run_jobs.auto.passes

pub shape_of-counts : goal.shape_of-counts
shape_of-counts c = c.count_to.auto.counts

pub shape_of-plus : goal.shape_of-plus
shape_of-plus c = c.sum_both.auto.plus

pub shape_of-minus : goal.shape_of-minus
shape_of-minus c = c.sum_both.auto.minus

pub shape_of-sound_plus : goal.shape_of-sound_plus
shape_of-sound_plus c = c.sum_both.auto.sound_plus

pub shape_of-sound_minus : goal.shape_of-sound_minus
shape_of-sound_minus c = c.sum_both.auto.sound_minus

pub returns : goal.returns
returns c =
    let a = c.args in
    let b : Call =
    call_of a.o a.z.jobs a.z.nodes a.z.sources a.z.unknown a.sheets.now a.points.now a.tolerances.now (scratch_of a.base.now a.system.now a.elimination.now a.memory.now)
    (results_of a.vectors.now a.causes.now a.places.now a.passes.now a.counts.now a.plus.now a.minus.now a.sound_plus.now a.sound_minus.now)
    in
    let e : refusal_of b ≡ 0 = sym (same_refusal _ _ _ _ _ _ c.refusal-k.ensures c.requires.0 c.requires.1) ∙ c.if-k-ne0.false in
    let k = ok _ _ _ _ _ _ c.refusal-k.ensures c.if-k-ne0.false c.requires.0 c.requires.1 in
    let x = c.run_jobs in
    let n = matrix_cells (a.z.nodes + a.z.sources) in
    let r = bytes (lengths b) / record_bytes in
    record {
      all = whole b _ _ _ _ _ _ k.call x.ensures.table x.ensures.own _ _ _ _ _ _
          (c.count_to.ensures ∙ kinds_made _ _ _ _ (omega (arith, k.call.number-room, x.auto.causes)) k.count_room)
          c.sum_both.ensures
          ∙ sym (call_done b e);
      scratch = record {
        past = record {
          base = drop_at x.new.base (drop n a.base.now) n (x.auto.base ∙ length-take-le _ _ k.call.one.base-room);
          system = drop_at x.new.system (drop n a.system.now) n (x.auto.system ∙ length-take-le _ _ k.call.one.system-room);
          elimination = drop_at x.new.elimination (drop n a.elimination.now) n (x.auto.elimination ∙ length-take-le _ _ k.call.one.elimination-room);
          memory = drop_at x.new.memory (drop r a.memory.now) r (x.auto.memory ∙ length-take-le _ _ k.call.one.memory-room);
          kept = λ h. absurd (h (spreads.fine_none _ _ k.call));
        };
        kept = λ h. absurd (h e);
      };
    }
