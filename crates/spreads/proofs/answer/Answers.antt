-- `spreads::answer` meets its contract: a refusal changes nothing; else the report reads what the runs leave. Assumes nothing.
use Prim.Native.Nat.{ℕ, ◌+◌, ◌*◌, ◌/◌}
use mathlib.Core.Path.{◌≡◌, refl, sym, ap, ◌∙◌, subst}
use native.Mathlib.Nat.{lt_of_le_of_lt, mul-le-mul}
use native.Mathlib.Omega.{arith}
use lib.Dec.{lit<}
use lib.ListN.{drop}
use lib.Seq.{length-take-le, drop_at}
use Rattle.options.specs.declared.Options.{Options}
use Rattle.sheet.specs.Record.{record_bytes}
use Rattle.spreads.specs.declared.refusals.Lent.{Lent}
use Rattle.spreads.specs.Refusals.{bytes, call_refusal}
use Rattle.tally.specs.Laws.Ready.{counts_made, totals_made}
use Rattle.spreads.specs.Laws.Refusals.{CallFine, call_fine}
use Rattle.spreads.specs.Spreads.{results_of, scratch_of, Batch, batch_of, lengths, batch_refusal, matrix_cells}
use Rattle.spreads.specs.Laws.Spreads.{call_refused, call_done}
use Rattle.spreads.proofs.Whole.{readable, whole}
use Rattle.spreads.proofs.answer.Goals as goal

-- what holds of the lengths of a call once nothing was refused
ok : (o : Options) (z y : Lent) (k : ℕ) → k ≡ call_refusal o z → k ≡ 0 → z ≡ y → CallFine o y
ok o z y k e h r = subst (CallFine o) r (call_fine o z (sym e ∙ h))

pub returns-then-k-ne0 : goal.returns-then-k-ne0
returns-then-k-ne0 c =
    let a = c.args in
    let b : Batch =
    batch_of a.o a.z.jobs a.z.nodes a.z.sources a.z.unknown a.sheets.now a.points.now (scratch_of a.base.now a.system.now a.elimination.now a.memory.now)
    (results_of a.vectors.now a.numbers.now a.places.now a.passes.now a.counts.now a.plus.now a.minus.now)
    in
    record {
      all = call_refused b _ (c.refusal-k.ensures ∙ ap (call_refusal a.o) c.requires) c.if-k-ne0.true;
      scratch = record { base = refl; system = refl; elimination = refl; memory = refl; kept = λ _. refl };
    }

pub overflow_add-n : goal.overflow_add-n
overflow_add-n c = let k = ok _ _ _ _ c.refusal-k.ensures c.if-k-ne0.false c.requires in omega (arith, k.one.small)

pub overflow_add-cells : goal.overflow_add-cells
overflow_add-cells c = let k = ok _ _ _ _ c.refusal-k.ensures c.if-k-ne0.false c.requires in omega (arith, k.one.small)

pub overflow_mul-cells : goal.overflow_mul-cells
overflow_mul-cells c =
    let k = ok _ _ _ _ c.refusal-k.ensures c.if-k-ne0.false c.requires in
    record { fits = lt_of_le_of_lt (mul-le-mul {n₂ = 48} {m₂ = 49} k.one.small (omega (arith, k.one.small))) (lit< {m = 48 * 49} tt) }

pub nonzero_div-bytes : goal.nonzero_div-bytes
nonzero_div-bytes c = let k = ok _ _ _ _ c.refusal-k.ensures c.if-k-ne0.false c.requires in omega (arith, k.jobs.some)

pub slice_bounds-run_jobs-end : goal.slice_bounds-run_jobs-end
slice_bounds-run_jobs-end c = (ok _ _ _ _ c.refusal-k.ensures c.if-k-ne0.false c.requires).one.base-room

pub slice_bounds-run_jobs-end-2 : goal.slice_bounds-run_jobs-end-2
slice_bounds-run_jobs-end-2 c = sym (length-take-le _ _ (ok _ _ _ _ c.refusal-k.ensures c.if-k-ne0.false c.requires).one.base-room)

pub slice_bounds-run_jobs-end-3 : goal.slice_bounds-run_jobs-end-3
slice_bounds-run_jobs-end-3 c = (ok _ _ _ _ c.refusal-k.ensures c.if-k-ne0.false c.requires).one.system-room

pub slice_bounds-run_jobs-end-4 : goal.slice_bounds-run_jobs-end-4
slice_bounds-run_jobs-end-4 c = sym (length-take-le _ _ (ok _ _ _ _ c.refusal-k.ensures c.if-k-ne0.false c.requires).one.system-room)

pub slice_bounds-run_jobs-end-5 : goal.slice_bounds-run_jobs-end-5
slice_bounds-run_jobs-end-5 c = (ok _ _ _ _ c.refusal-k.ensures c.if-k-ne0.false c.requires).one.elimination-room

pub slice_bounds-run_jobs-end-6 : goal.slice_bounds-run_jobs-end-6
slice_bounds-run_jobs-end-6 c = sym (length-take-le _ _ (ok _ _ _ _ c.refusal-k.ensures c.if-k-ne0.false c.requires).one.elimination-room)

pub slice_bounds-run_jobs-end-7 : goal.slice_bounds-run_jobs-end-7
slice_bounds-run_jobs-end-7 c = (ok _ _ _ _ c.refusal-k.ensures c.if-k-ne0.false c.requires).one.memory-room

pub slice_bounds-run_jobs-end-8 : goal.slice_bounds-run_jobs-end-8
slice_bounds-run_jobs-end-8 c = sym (length-take-le _ _ (ok _ _ _ _ c.refusal-k.ensures c.if-k-ne0.false c.requires).one.memory-room)

pub run_jobs-requires : goal.run_jobs-requires
run_jobs-requires c =
    let k = ok _ _ _ _ c.refusal-k.ensures c.if-k-ne0.false c.requires in (
      record { small = k.one.small; few = k.jobs.few; whole = omega (arith, k.even); «vector-room» = k.vector-room; «number-room» = k.number-room; «place-room» = k.place-room; «pass-room» = k.pass-room },
      record { bases = length-take-le _ _ k.one.base-room; systems = length-take-le _ _ k.one.system-room; works = length-take-le _ _ k.one.elimination-room; memories = length-take-le _ _ k.one.memory-room },
    )

pub slice_bounds-sum_up-end : goal.slice_bounds-sum_up-end
slice_bounds-sum_up-end c = (ok _ _ _ _ c.refusal-k.ensures c.if-k-ne0.false c.requires).plus-room

pub slice_bounds-sum_up-end-2 : goal.slice_bounds-sum_up-end-2
slice_bounds-sum_up-end-2 c = sym (length-take-le 66 c.args.plus.now (ok _ _ _ _ c.refusal-k.ensures c.if-k-ne0.false c.requires).plus-room)

pub slice_bounds-sum_up-end-3 : goal.slice_bounds-sum_up-end-3
slice_bounds-sum_up-end-3 c = (ok _ _ _ _ c.refusal-k.ensures c.if-k-ne0.false c.requires).minus-room

pub slice_bounds-sum_up-end-4 : goal.slice_bounds-sum_up-end-4
slice_bounds-sum_up-end-4 c = sym (length-take-le 66 c.args.minus.now (ok _ _ _ _ c.refusal-k.ensures c.if-k-ne0.false c.requires).minus-room)

pub returns : goal.returns
returns c =
    let a = c.args in
    let b : Batch =
    batch_of a.o a.z.jobs a.z.nodes a.z.sources a.z.unknown a.sheets.now a.points.now (scratch_of a.base.now a.system.now a.elimination.now a.memory.now)
    (results_of a.vectors.now a.numbers.now a.places.now a.passes.now a.counts.now a.plus.now a.minus.now)
    in
    let e : batch_refusal b ≡ 0 = sym (ap (call_refusal a.o) c.requires) ∙ (sym c.refusal-k.ensures ∙ c.if-k-ne0.false) in
    let k = ok _ _ _ _ c.refusal-k.ensures c.if-k-ne0.false c.requires in
    let x = c.run_jobs in
    let n = matrix_cells (a.z.nodes + a.z.sources) in
    let r = bytes (lengths b) / record_bytes in
    record {
      all = whole b _ _ _ _ k x.ensures _ _ _ _
          (c.count_all.ensures ∙ counts_made _ _ _ (omega (arith, k.number-room, x.auto.numbers)) k.count_room)
          (c.sum_up.ensures ∙ totals_made _ _ _ _ _ _ _ (readable b _ _ _ _ k x.ensures x.auto.numbers x.auto.vectors) (length-take-le 66 a.plus.now k.plus-room) (length-take-le 66 a.minus.now k.minus-room))
          ∙ sym (call_done b e);
      scratch = record {
        base = drop_at x.new.base (drop n a.base.now) n (x.auto.base ∙ length-take-le _ _ k.one.base-room);
        system = drop_at x.new.system (drop n a.system.now) n (x.auto.system ∙ length-take-le _ _ k.one.system-room);
        elimination = drop_at x.new.elimination (drop n a.elimination.now) n (x.auto.elimination ∙ length-take-le _ _ k.one.elimination-room);
        memory = drop_at x.new.memory (drop r a.memory.now) r (x.auto.memory ∙ length-take-le _ _ k.one.memory-room);
        kept = λ h. absurd (h e);
      };
    }
