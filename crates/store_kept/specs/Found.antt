-- What the search for a name finds. Promised to nobody.
use Rattle.std.specs.Prelude.{ℕ, suc, cond, List, [], ◌∷◌, eqb}
use Rattle.store_kept.specs.Store.{Kept}

-- how many fields stand before the first that bears the name: all of them, where none does
unfoldable pub fields_before : ℕ → List Kept → ℕ
fields_before name [] = 0
fields_before name (f ∷ fs) = cond (eqb f.name name) 0 (suc (fields_before name fs))
