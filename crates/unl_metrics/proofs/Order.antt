-- The order of keys is a total order.
use Rattle.std.proofs.lemmas.Cmp.{lists_total, nat_list_cmp_total}
use Rattle.std.specs.Cmp.{IsTotalOrder, on_total}
use Rattle.unl_metrics.specs.Book.{key_cmp, key_parts}

pub keys_total : IsTotalOrder key_cmp
keys_total = on_total key_parts (lists_total nat_list_cmp_total)
