-- Lists split into chunks.
use Rattle.std.specs.Prelude.{◌≤◌, List, length, flat_map, All}

-- The items of all chunks, in order.
abbrev pub joined : {T : Type 0} → List (List T) → List T
joined chunks = flat_map (λ chunk. chunk) chunks

-- Every chunk has at least one item.
abbrev pub NoneIsEmpty : {T : Type 0} → List (List T) → Type 0
NoneIsEmpty chunks = All (λ chunk. 1 ≤ length chunk) chunks
