-- The bytes that are logged for a request are UTF-8, so the error case of `as_str` cannot occur.
use Rattle.std.proofs.Common.{rules, take}
use Rattle.unl_net.proofs.LoggedText.{is_text}
use Rattle.unl_net.proofs.request_kind.RequestKind.as_str.Goals as goal

pub returns-in-Err : goal.returns-in-Err
returns-in-Err c = absurd (c.in-Err.ensures.cases.0 (is_text (take c.args.self.now.len c.args.self.now.text) (search rules)))
