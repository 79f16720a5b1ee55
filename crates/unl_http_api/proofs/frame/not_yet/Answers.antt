use Rattle.unl_http_api.proofs.FindLemmas.{no_head_yet}
use Rattle.unl_http_api.proofs.frame.not_yet.Goals as goal

pub returns-then-bytes-lt-WINDOW : goal.returns-then-bytes-lt-WINDOW
returns-then-bytes-lt-WINDOW c = no_head_yet c.args.bytes.now c.if-bytes-lt-WINDOW.true c.requires.none c.requires.hopeful
