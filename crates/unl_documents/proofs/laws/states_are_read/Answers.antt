use Rattle.unl_documents.specs.States.{state_of}
use Rattle.unl_documents.specs.Faults.{faults_of_state, first_fault_of_state}
use Rattle.unl_documents.specs.Kinds.{document}
use Rattle.unl_documents.specs.Reads.{ReadsState}
use Rattle.unl_documents.proofs.FirstFaults.{document_first, state_first}
use Rattle.unl_documents.proofs.ReadingLemmas.{exactly, faulty}
use Rattle.unl_documents.proofs.Sound.{state_is}
use Rattle.unl_documents.proofs.Unique.{state_one}
use Rattle.unl_documents.proofs.laws.states_are_read.Goals as goal

pub returns-clause-read : goal.returns-clause-read
unfolding first_fault_of_state
returns-clause-read c value d = exactly state_of ReadsState state_is state_one value d _ (document_first state_of faults_of_state value (state_first value))

pub returns-clause-fault : goal.returns-clause-fault
unfolding first_fault_of_state
returns-clause-fault c value e = faulty (document state_of value) e _ (document_first state_of faults_of_state value (state_first value))
