use Rattle.std.proofs.Common.{◌≤◌}
use Rattle.unl_input.proofs.Whole.{Sofar}
use Rattle.unl_input.proofs.taking.process_lines.Given as goal

-- the lines before line `number` were processed, the state satisfies the processor's condition `fits` for line `number`, and the fault
-- counts of source and sink have not fallen
abbrev pub invariant-loop-number : goal.invariant-loop-number
invariant-loop-number g l = record {
  sofar : Sofar g.A.LineProcessor.line_result l.initial.desk (g.S.Source.left l.initial.source) (g.K.Sink.sent l.initial.sink) l.number
      (record { desk = l.desk; held = l.reader; left = g.S.Source.left l.source; sent = g.K.Sink.sent l.sink });
  room : g.A.LineProcessor.fits l.number l.desk;
  source_later : g.S.Source.faults l.initial.source ≤ g.S.Source.faults l.source;
  sink_later : g.K.Sink.faults l.initial.sink ≤ g.K.Sink.faults l.sink;
}
