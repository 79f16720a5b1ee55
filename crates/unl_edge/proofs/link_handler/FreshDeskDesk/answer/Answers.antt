use mathlib.Core.Logic.{∥∥₁_map}
use Rattle.unl_edge_state.specs.Reading.{IsSteady, continuation_of, past_of}
use Rattle.unl_edge_state.proofs.Looks.{looks}
use Rattle.unl_edge.proofs.link_handler.FreshDeskDesk.answer.Goals as goal

pub invariant_of-self : goal.invariant_of-self
invariant_of-self c =
    record {
      steady = ∥∥₁_map c.args.self.now.steady (λ (steady : IsSteady c.args.self.now.reader).
          looks (past_of c.args.self.now.reader) (past_of c.answer.new.self) (continuation_of c.args.self.now.reader) (continuation_of c.answer.new.self) c.answer.ensures.stays_or_takes steady);
    }
