use Rattle.unl_documents.specs.States.{feed_of}
use Rattle.unl_documents.specs.Faults.{faults_of_feed, first_fault_of_feed}
use Rattle.unl_documents.specs.Kinds.{document}
use Rattle.unl_documents.specs.Reads.{ReadsFeed}
use Rattle.unl_documents.proofs.FirstFaults.{document_first, feed_first, meta_first}
use Rattle.unl_documents.proofs.ReadingLemmas.{exactly, faulty}
use Rattle.unl_documents.proofs.Sound.{feed_is}
use Rattle.unl_documents.proofs.Unique.{feed_one}
use Rattle.unl_documents.proofs.laws.feeds_are_read.Goals as goal

pub returns-clause-read : goal.returns-clause-read
unfolding first_fault_of_feed
returns-clause-read c value d = exactly feed_of ReadsFeed feed_is feed_one value d _ (document_first feed_of faults_of_feed value (feed_first value))

pub returns-clause-fault : goal.returns-clause-fault
unfolding first_fault_of_feed
returns-clause-fault c value e = faulty (document feed_of value) e _ (document_first feed_of faults_of_feed value (feed_first value))

pub returns-clause-meta : goal.returns-clause-meta
returns-clause-meta c value = meta_first value
