-- What a part of a store is when a field at its front has gone. Promised to nobody.
use Rattle.std.specs.Prelude.{ℕ, ◌+◌, List, length, get_or}
use Rattle.lists.specs.Table.{table}

-- each entry takes the one that stands n further on, and 0 where there is none
unfoldable pub moved_down : ℕ → List ℕ → List ℕ
moved_down n part = table (length part) (λ i. get_or part (n + i) 0)
