use Rattle.unl_documents.proofs.Tokens.{one, then, spelled, feed_tokens}
use Rattle.unl_documents.proofs.writing.print_feed.Goals as goal

pub returns : goal.returns
returns c =
    let begun = one c.in_ok-begin_object.ensures in
    let ended = one c.in_ok-end_object.ensures in
    spelled (feed_tokens c.args.head.now c.args.state.now) (then begun (then c.in_ok-print_at.ensures (then c.in_ok-print_key.ensures (then c.in_ok-print_meta.ensures (then c.in_ok-print_key-2.ensures (then c.in_ok-print_query.ensures (then c.in_ok-print_at-2.ensures (then c.in_ok-print_at-3.ensures ended))))))))
