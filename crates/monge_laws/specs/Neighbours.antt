-- The check by neighbours: linear in the table. Where there is no path anywhere in a row or a column, the neighbours are those on either side.
--   last_below agrees_at neighbours   neighbours among the places that a test holds of
--   is_open_row is_open_column        a row that has a path somewhere; a column where one of two rows has one
--   agree is_monge_fast               two rows, by neighbouring columns; all rows, by neighbouring rows
use Rattle.std.specs.Prelude.{Bool, cond, not, ◌&&◌, ◌||◌}
use Prim.Native.Nat.{ℕ, zero, suc, pred}
use Rattle.std.proofs.Math.Dec.{eqb}
use Rattle.definitions.specs.Limits.{no_path}
use Rattle.definitions.specs.Lists.{all}
use Rattle.definitions.specs.Network.{Rectangle}
use Rattle.definitions.specs.Monge.{corners}

-- ---- neighbours

-- the last place below n that the test holds of, plus 1; 0 if there is none
unfoldable pub last_below : (ℕ → Bool) → ℕ → ℕ
last_below p zero = 0
last_below p (suc n) = cond (p n) (suc n) (last_below p n)

-- a place that the test holds of agrees with the last such place before it, if there is one
unfoldable pub agrees_at : (ℕ → Bool) → (ℕ → ℕ → Bool) → ℕ → Bool
agrees_at p ok l = not (p l) || (eqb (last_below p l) 0 || ok (pred (last_below p l)) l)

-- each of the n places does
unfoldable pub neighbours : (ℕ → Bool) → (ℕ → ℕ → Bool) → ℕ → Bool
neighbours p ok n = all (agrees_at p ok) n

-- ---- two rows

-- one of two rows has a path there
unfoldable pub is_open_column : Rectangle → ℕ → ℕ → ℕ → Bool
is_open_column e i j k = not (eqb (e i k) no_path && eqb (e j k) no_path)

-- two rows agree: the inequality at neighbouring columns among these
unfoldable pub agree : Rectangle → ℕ → ℕ → ℕ → Bool
agree e cols i j = neighbours (is_open_column e i j) (corners e i j) cols

-- ---- all rows

-- a row that has a path somewhere
unfoldable pub is_open_row : Rectangle → ℕ → ℕ → Bool
is_open_row e cols i = not (all (λ k. eqb (e i k) no_path) cols)

-- neighbouring rows among these agree
unfoldable pub is_monge_fast : Rectangle → ℕ → ℕ → Bool
is_monge_fast e rows cols = neighbours (is_open_row e cols) (agree e cols) rows
