use Rattle.unl_documents.proofs.FeedTrip.{feed_back}
use Rattle.unl_documents.proofs.RoundTrip.{features, segments, document_back}
use Rattle.unl_documents.proofs.laws.what_is_written_is_read.Goals as goal

pub returns-clause-feature : goal.returns-clause-feature
returns-clause-feature c f valid = document_back features f valid

pub returns-clause-segment : goal.returns-clause-segment
returns-clause-segment c s valid = document_back segments s valid

pub returns-clause-feed : goal.returns-clause-feed
returns-clause-feed c head s valid few fewer = feed_back head s valid few fewer
