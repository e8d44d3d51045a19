-- Walks over the arcs of blocks.
--   walk_map    from one kind of arc to another
use Rattle.std.specs.Prelude.{ℕ}
use Rattle.definitions.specs.Network.{Walk, stay, then}

pub walk_map : {A B : ℕ → ℕ → ℕ → Type 0} → ((u v l : ℕ) → A u v l → B u v l) → {s v l : ℕ} → Walk A s v l → Walk B s v l
walk_map f stay = stay
walk_map f (then {u} {l} {v} {l'} p a) = then (walk_map f p) (f u v l' a)
