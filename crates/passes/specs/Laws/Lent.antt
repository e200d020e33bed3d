-- Buffers that are kept twice are kept. Clients cite after. Assumes nothing.
use Rattle.std.proofs.Common.{◌∙◌}
use Rattle.passes.specs.declared.Buffers.{Buffers as Lent}
use Rattle.passes.specs.Lent.{Kept}

pub after : {z y x : Lent} → Kept z y → Kept y x → Kept z x
after p q =
    record {
      base = p.base ∙ q.base;
      system = p.system ∙ q.system;
      elimination = p.elimination ∙ q.elimination;
      vector = p.vector ∙ q.vector;
      memory = p.memory ∙ q.memory;
      base_length = p.base_length ∙ q.base_length;
      system_length = p.system_length ∙ q.system_length;
      elimination_length = p.elimination_length ∙ q.elimination_length;
      vector_length = p.vector_length ∙ q.vector_length;
      memory_length = p.memory_length ∙ q.memory_length;
    }
