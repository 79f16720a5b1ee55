use Rattle.unl_upstream.proofs.KeptNaming.{links_are_named}
use Rattle.unl_upstream.proofs.laws.kept_links_name_commands.Goals as goal

pub returns : goal.returns
returns c = links_are_named
