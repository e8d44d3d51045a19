-- The columns that a new row wins, after any list of calls: one of the main theorems that `HeapTheorems` gathers.
--   won_one_range   M4: they are a range, less its closed columns, and none of them is extracted
use Rattle.std.specs.Prelude.{◌≡◌, true, false, List, ℕ, ◌≤◌, ◌<◌}
use Rattle.std.proofs.Common.{arith}
use Rattle.definitions.specs.Lists.{mem}
use Rattle.definitions.specs.Network.{Rectangle}
use Rattle.definitions.specs.Monge.{Monge, is_closed}
use Rattle.definitions.specs.Model.{Model, Call, trace}
use Rattle.heap_laws.specs.Won.{won, SomeRange}
use Rattle.heap_laws.proofs.Won.{won_between, range}
use Rattle.heap_laws.proofs.Sound.{trace_sound, won_open}

module _ (e : Rectangle) (rows cols : ℕ) (ks : List Call) where
  -- the model that the calls leave
  abbrev model : Model
  model = (trace e rows cols ks).model

  -- M4. The columns where a new row has a path and is strictly below every activated row that has one are a range, less its closed
  -- columns: beating a lower row goes on to later columns, beating a higher one to earlier columns; and if no activated row has a path
  -- at a column between, then any row that has one there forces one of the new row. Its label is at least the floor, so by M5 none of
  -- them is extracted.
  pub won_one_range : Monge e rows cols → (r v : ℕ) → r < rows → model.floor ≤ v
      → SomeRange (won e model.activated r v) (is_closed e rows) cols × ((c : ℕ) → won e model.activated r v c ≡ true → mem c model.extracted ≡ false)
  won_one_range ok r v hr high =
      let g = trace_sound e rows cols ks in
      (range (won e model.activated r v) (is_closed e rows) cols (won_between e rows cols ok model.activated g.in_rows r v hr), λ c h. won_open e rows cols model g r v c (omega arith) h)
