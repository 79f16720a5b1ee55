use Rattle.unl_documents.specs.Documents.{feature_of}
use Rattle.unl_documents.specs.Faults.{faults_of_feature, first_fault_of_feature}
use Rattle.unl_documents.specs.Kinds.{document}
use Rattle.unl_documents.specs.Reads.{ReadsFeature}
use Rattle.unl_documents.proofs.FirstFaults.{document_first, feature_first}
use Rattle.unl_documents.proofs.ReadingLemmas.{exactly, faulty}
use Rattle.unl_documents.proofs.Sound.{feature_is}
use Rattle.unl_documents.proofs.Unique.{feature_one}
use Rattle.unl_documents.proofs.laws.features_are_read.Goals as goal

pub returns-clause-read : goal.returns-clause-read
unfolding first_fault_of_feature
returns-clause-read c value d = exactly feature_of ReadsFeature feature_is feature_one value d _ (document_first feature_of faults_of_feature value (feature_first value))

pub returns-clause-fault : goal.returns-clause-fault
unfolding first_fault_of_feature
returns-clause-fault c value e = faulty (document feature_of value) e _ (document_first feature_of faults_of_feature value (feature_first value))
