use Rattle.std.proofs.Common.{sym, subst, ◌∙◌}
use Rattle.std.specs.Prelude.{All}
use Rattle.unl_documents.proofs.Joined.{each_in_list}
use Rattle.unl_documents.proofs.write_json.print_chunks.Goals as goal

pub print_each-requires : goal.print_each-requires
print_each-requires g c =
    let printable = g.P.WriteJson.is_printable in
    subst (All printable) (sym (c.as_slice.ensures ∙ c.get.ensures)) (each_in_list printable c.args.chunks.now c.loop-chunk.chunk-index c.chunk-item.result c.loop-chunk-test.true c.chunk-item.is c.requires)
