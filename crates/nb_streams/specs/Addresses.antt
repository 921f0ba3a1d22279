-- The text of IPv4 addresses (our choice).
use Rattle.std.specs.Prelude.{ℕ, List, ◌++◌, slice_index, codes}
use Rattle.std.specs.Fmt.{decimal}

-- an address: its four numbers in decimal, with dots between them
abbrev pub address_text : List ℕ → List ℕ
address_text address =
    decimal (slice_index address 0)
    ++ (codes "." ++ (decimal (slice_index address 1)
    ++ (codes "." ++ (decimal (slice_index address 2) ++ (codes "." ++ decimal (slice_index address 3))))))
