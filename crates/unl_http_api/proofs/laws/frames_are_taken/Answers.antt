use Rattle.unl_http_api.proofs.Frames.{frame_is_taken}
use Rattle.unl_http_api.proofs.laws.frames_are_taken.Goals as goal

pub returns : goal.returns
returns c = frame_is_taken
