-- The quick check: the inequality of numbers, at neighbouring rows and columns alone. What passes it is Monge, with no path or without; a rectangle of lengths without no path
-- passes it exactly if it is Monge.
--   quick_corners is_monge_quick   the check
use Rattle.std.specs.Prelude.{Bool, ◌&&◌, ℕ, suc, pred, ◌+◌, leb, ltb}
use Rattle.definitions.specs.Limits.{no_path}
use Rattle.definitions.specs.Lists.{all}
use Rattle.definitions.specs.Network.{Rectangle}

-- A sum below no path has no path in it. So the left side is one of numbers, and the right side is no smaller, or no path.
unfoldable pub quick_corners : Rectangle → ℕ → ℕ → Bool
quick_corners e i k = ltb (e i k + e (suc i) (suc k)) no_path && leb (e i k + e (suc i) (suc k)) (e i (suc k) + e (suc i) k)

unfoldable pub is_monge_quick : Rectangle → ℕ → ℕ → Bool
is_monge_quick e rows cols = all (λ i. all (quick_corners e i) (pred cols)) (pred rows)
