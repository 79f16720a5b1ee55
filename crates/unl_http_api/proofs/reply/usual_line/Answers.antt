use Rattle.std.proofs.Common.{refl}
use Rattle.std.specs.Fmt.{digits}
use Rattle.unl_http_api.proofs.reply.usual_line.Goals as goal

pub returns-in-200 : goal.returns-in-200
unfolding digits
returns-in-200 c = rw c.in-200.is refl

pub returns-in-304 : goal.returns-in-304
unfolding digits
returns-in-304 c = rw c.in-304.is refl
