use Rattle.std.proofs.Common.{◌≡◌, ◌++◌, take}
use Rattle.unl_documents.proofs.chunked_list.push_owners.Given as goal

abbrev pub invariant-loop-shared : goal.invariant-loop-shared
invariant-loop-shared g l = l.list ≡ l.fn.list ++ take l.shared-index l.more
