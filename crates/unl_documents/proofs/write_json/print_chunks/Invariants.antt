use Rattle.std.proofs.Common.{take}
use Rattle.std.specs.Prelude.{map}
use Rattle.unl_documents.specs.Chunks.{joined}
use Rattle.unl_documents.specs.Tokens.{Wrote, all_tokens}
use Rattle.unl_documents.proofs.write_json.print_chunks.Given as goal

abbrev pub invariant-loop-chunk : goal.invariant-loop-chunk
invariant-loop-chunk g l = Wrote (all_tokens (map g.P.WriteJson.written (joined (take l.chunk-index l.chunks)))) l.initial.out l.out
