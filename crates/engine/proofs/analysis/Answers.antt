-- `engine::analysis` meets its contract.
use Prim.Native.Nat.{ℕ, ◌+◌, ◌*◌, ◌≤◌}
use mathlib.Core.Path.{◌≡◌, refl, sym, ap, ◌∙◌, subst}
use mathlib.Core.List.{List}
use native.Mathlib.Omega.{arith}
use native.Mathlib.Nat.{lt_of_le_of_lt, mul-le-mul}
use lib.Dec.{lit<}
use lib.ListN.{drop}
use lib.Seq.{length-take-le, drop_at}
use Rattle.options.specs.declared.Options.{Options}
use Rattle.sheet.specs.Check.{Checked}
use Rattle.sheet.specs.declared.Fault.{Fault}
use Rattle.std.specs.declared.result.Result.TheVariants.{Ok, Err}
use Rattle.checks.specs.declared.Sizes.{Sizes}
use Rattle.checks.specs.Checks.{cells, checked_of}
use Rattle.checks.specs.Laws.Checks.{Fine, fine, clean_fine}
use Rattle.machine.specs.State.{buffers_of}
use Rattle.engine.specs.Engine.{Call, call_in, sizes, checked_call}
use Rattle.engine.specs.Laws.Engine.{run_refused, run_ended}
use Rattle.engine.proofs.analysis.Goals as goal

-- what holds of the sizes of a call once nothing was refused
clean : (f : Checked) → ((h : Fault) → f ≡ Err h → ⊥) → f ≡ Ok tt
clean (Ok u) n = refl
clean (Err h) n = absurd (n h refl)

known : (o : Options) (z : Sizes) (sheet : List ℕ) (f : Checked) → f ≡ checked_of o z sheet → ((h : Fault) → f ≡ Err h → ⊥) → Fine o z
known o z sheet f e k = fine o z (clean_fine o z sheet (sym e ∙ clean f k)).0

pub returns-in-Err : goal.returns-in-Err
returns-in-Err c =
    let a = c.args in
    record {
      all = run_refused (call_in a.i a.transient a.elimination.now (buffers_of a.base.now a.system.now a.vector.now a.memory.now a.rows.now)) _ _ (sym c.check.ensures ∙ c.in-Err.is) c.refused.ensures;
      scratch = record { rest = refl; kept = λ _. refl };
    }

pub overflow_add-n : goal.overflow_add-n
overflow_add-n c = let k = known _ _ _ _ c.check.ensures c.in_default.not-Err in omega (arith, k.small)

pub overflow_add-cells : goal.overflow_add-cells
overflow_add-cells c = let k = known _ _ _ _ c.check.ensures c.in_default.not-Err in omega (arith, k.small)

pub overflow_mul-cells : goal.overflow_mul-cells
overflow_mul-cells c =
    let k = known _ _ _ _ c.check.ensures c.in_default.not-Err in
    record { fits = lt_of_le_of_lt (mul-le-mul {n₂ = 48} {m₂ = 49} k.small (omega (arith, k.small))) (lit< {m = 48 * 49} tt) }

pub slice_bounds-run_in-end : goal.slice_bounds-run_in-end
slice_bounds-run_in-end c = (known _ _ _ _ c.check.ensures c.in_default.not-Err).base-room

pub slice_bounds-run_in-end-2 : goal.slice_bounds-run_in-end-2
slice_bounds-run_in-end-2 c = sym (length-take-le _ _ (known _ _ _ _ c.check.ensures c.in_default.not-Err).base-room)

pub slice_bounds-run_in-end-3 : goal.slice_bounds-run_in-end-3
slice_bounds-run_in-end-3 c = (known _ _ _ _ c.check.ensures c.in_default.not-Err).elimination-room

pub slice_bounds-run_in-end-4 : goal.slice_bounds-run_in-end-4
slice_bounds-run_in-end-4 c = sym (length-take-le _ _ (known _ _ _ _ c.check.ensures c.in_default.not-Err).elimination-room)

pub slice_bounds-run_in-end-5 : goal.slice_bounds-run_in-end-5
slice_bounds-run_in-end-5 c = (known _ _ _ _ c.check.ensures c.in_default.not-Err).system-room

pub slice_bounds-run_in-end-6 : goal.slice_bounds-run_in-end-6
slice_bounds-run_in-end-6 c = sym (length-take-le _ _ (known _ _ _ _ c.check.ensures c.in_default.not-Err).system-room)

pub slice_bounds-run_in-end-7 : goal.slice_bounds-run_in-end-7
slice_bounds-run_in-end-7 c = (known _ _ _ _ c.check.ensures c.in_default.not-Err).vector-room

pub slice_bounds-run_in-end-8 : goal.slice_bounds-run_in-end-8
slice_bounds-run_in-end-8 c = sym (length-take-le _ _ (known _ _ _ _ c.check.ensures c.in_default.not-Err).vector-room)

pub slice_bounds-run_in-end-9 : goal.slice_bounds-run_in-end-9
slice_bounds-run_in-end-9 c = (known _ _ _ _ c.check.ensures c.in_default.not-Err).memory-room

pub slice_bounds-run_in-end-10 : goal.slice_bounds-run_in-end-10
slice_bounds-run_in-end-10 c = sym (length-take-le _ _ (known _ _ _ _ c.check.ensures c.in_default.not-Err).memory-room)

pub run_in-r-requires : goal.run_in-r-requires
run_in-r-requires c =
    let o = known _ _ _ _ c.check.ensures c.in_default.not-Err in
    let v = length-take-le _ _ o.vector-room in
    record {
      some = subst (λ (k : ℕ). 1 ≤ k) (sym v) (omega (arith, o.some));
      small = subst (λ (k : ℕ). k ≤ 48) (sym v) o.small;
      bases = length-take-le _ _ o.base-room ∙ sym (ap (λ (k : ℕ). k * (k + 1)) v);
      works = length-take-le _ _ o.elimination-room ∙ sym (ap (λ (k : ℕ). k * (k + 1)) v);
      systems = length-take-le _ _ o.system-room ∙ sym (ap (λ (k : ℕ). k * (k + 1)) v);
    }

pub returns : goal.returns
returns c =
    let a = c.args in
    let h : Call = call_in a.i a.transient a.elimination.now (buffers_of a.base.now a.system.now a.vector.now a.memory.now a.rows.now) in
    let e : checked_call h ≡ Ok tt = sym c.check.ensures ∙ clean _ c.in_default.not-Err in
    let k = known _ _ _ _ c.check.ensures c.in_default.not-Err in
    let x = c.run_in-r in
    record {
      all = run_ended h _ _ _ _ e c.ended.ensures (rw (length-take-le _ _ k.vector-room) at x.ensures);
      scratch = record {
        rest = drop_at x.new.elimination (drop (cells (sizes h)) a.elimination.now) (cells (sizes h)) (x.auto.elimination ∙ length-take-le _ _ k.elimination-room);
        kept = λ n. absurd (n e);
      };
    }
