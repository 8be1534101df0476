-- Document 02, S-1: every figure of a field fits its columns, so that each line is as long as the paper says.
use Rattle.std.specs.Prelude.{ℕ, ◌^◌, ◌≤◌, ◌<◌, List}
use Rattle.text.specs.Digits.{most_digits}
use Rattle.page.specs.Page.{cell_places, qPlaces, mass_places, qOf, rest_at, page_mass}

pub record Fitting (places : ℕ) (volumes masses : List ℕ) (cells : ℕ) : Type 0 where
  pub some_places : 1 ≤ places
  pub few_places : mass_places places ≤ most_digits
  pub cell_fits : (c : ℕ) → c < cells → c < 10 ^ cell_places
  pub q_fits : (c : ℕ) → c < cells → qOf volumes masses c < 10 ^ qPlaces
  pub rest_fits : (c : ℕ) → c < cells → rest_at volumes masses c < 10 ^ places
  pub mass_fits : (page : ℕ) → page_mass volumes masses cells page < 10 ^ mass_places places
