-- Document 01, "Splitting a district", as document 02, request 7, has it: the inequality that a block is checked for, and a test of it that computes.
--   corners Monge      the inequality
--   is_monge            the test
--   is_closed closed    the columns that are all no path, and how many there are
use Rattle.std.specs.Prelude.{◌≡◌, Bool, true, ℕ, ◌<◌, eqb}
use Rattle.definitions.specs.Limits.{no_path}
use Rattle.definitions.specs.Lists.{all, count}
use Rattle.definitions.specs.Metres.{metres_of, plus, at_most}
use Rattle.definitions.specs.Network.{Rectangle}

-- of two rows i, j and two columns k, l the diagonal has no larger sum than the other two corners
unfoldable pub corners : Rectangle → ℕ → ℕ → ℕ → ℕ → Bool
corners e i j k l = at_most (plus (metres_of (e i k)) (metres_of (e j l))) (plus (metres_of (e i l)) (metres_of (e j k)))

-- Monge, 01's checked: so for every two rows and every two columns, neighbours or not.
abbrev pub Monge : Rectangle → ℕ → ℕ → Type 0
Monge e rows cols = (i j k l : ℕ) → i < j → j < rows → k < l → l < cols → corners e i j k l ≡ true

-- the same as a test; with one row or one column there are no two
unfoldable pub is_monge : Rectangle → ℕ → ℕ → Bool
is_monge e rows cols = all (λ j. all (λ i. all (λ l. all (λ k. corners e i j k l) l) cols) j) rows

-- a column that is all no path
unfoldable pub is_closed : Rectangle → ℕ → ℕ → Bool
is_closed e rows c = all (λ i. eqb (e i c) no_path) rows

-- how many of these there are
unfoldable pub closed : Rectangle → ℕ → ℕ → ℕ
closed e rows cols = count (is_closed e rows) cols
