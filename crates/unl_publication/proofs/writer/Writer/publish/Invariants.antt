use Rattle.std.proofs.Common.{drop}
use Rattle.unl_publication.proofs.writer.Writer.publish.Given as goal

abbrev pub ghosts-publish_given : goal.ghosts-publish_given
ghosts-publish_given g a = record { given = drop a.sides.behind a.sides.log.items }
