use Rattle.unl_documents.proofs.Tokens.{one, then, spelled, segment_tokens}
use Rattle.unl_documents.proofs.segment.SegmentWriteJson.print.Goals as goal

pub returns : goal.returns
returns c =
    let begun = one c.in_ok-begin_object.ensures in
    let ended = one c.in_ok-end_object.ensures in
    spelled (segment_tokens c.args.self.now) (then begun (then c.in_ok-print_at.ensures (then c.in_ok-print_at-2.ensures ended)))
