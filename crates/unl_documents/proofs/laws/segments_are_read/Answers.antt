use Rattle.unl_documents.specs.Documents.{segment_of}
use Rattle.unl_documents.specs.Faults.{faults_of_segment, first_fault_of_segment}
use Rattle.unl_documents.specs.Kinds.{document}
use Rattle.unl_documents.specs.Reads.{ReadsSegment}
use Rattle.unl_documents.proofs.FirstFaults.{document_first, segment_first}
use Rattle.unl_documents.proofs.ReadingLemmas.{exactly, faulty}
use Rattle.unl_documents.proofs.Sound.{segment_is}
use Rattle.unl_documents.proofs.Unique.{segment_one}
use Rattle.unl_documents.proofs.laws.segments_are_read.Goals as goal

pub returns-clause-read : goal.returns-clause-read
unfolding first_fault_of_segment
returns-clause-read c value d = exactly segment_of ReadsSegment segment_is segment_one value d _ (document_first segment_of faults_of_segment value (segment_first value))

pub returns-clause-fault : goal.returns-clause-fault
unfolding first_fault_of_segment
returns-clause-fault c value e = faulty (document segment_of value) e _ (document_first segment_of faults_of_segment value (segment_first value))
