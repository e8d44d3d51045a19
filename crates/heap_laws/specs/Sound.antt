-- M5: what holds of every model that calls reach.
--   Sound   rows in range and each once; columns in range and each once; the floor lies between
use Rattle.std.specs.Prelude.{◌≡◌, true}
use Prim.Native.Nat.{ℕ, ◌≤◌, ◌<◌}
use Rattle.definitions.specs.Limits.{max_label}
use Rattle.definitions.specs.Lists.{mem, Every}
use Rattle.definitions.specs.Network.{Rectangle}
use Rattle.definitions.specs.Model.{Model, parent, available}
use Rattle.basics.specs.ListLaws.{Different}
use Rattle.heap_laws.specs.Lesser.{From, UpTo}
use Rattle.heap_laws.specs.Parents.{Once}

pub record Sound (e : Rectangle) (rows cols : ℕ) (m : Model) : Type 0 where
  -- the activated rows are rows, each once, with labels within the limit
  pub in_rows : Every (λ a. a.row < rows) m.activated
  pub once : Once m.activated
  pub labelled : Every (λ a. a.label ≤ max_label) m.activated
  -- the extracted columns are columns, each once
  pub in_columns : Every (λ c. c < cols) m.extracted
  pub different : Different m.extracted
  -- an extracted column has a parent, and its least sum is at most the floor
  pub low : (c : ℕ) → mem c m.extracted ≡ true → UpTo m.floor (parent e m.activated c)
  -- the least sum of any other column with a parent is at least the floor
  pub high : (c : ℕ) → c < cols → From m.floor (available e m c)
