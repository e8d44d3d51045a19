-- The bests of the intervals, document 02, request 3.
--   SameSum   two bests with one sum
use Rattle.std.specs.Prelude.{◌≡◌}
use Rattle.definitions.specs.Best.{Best, nobody, by}

-- both are nobody, or both have the same sum
abbrev pub SameSum : Best → Best → Type 0
SameSum nobody nobody = Unit {0}
SameSum nobody (by q t) = ⊥
SameSum (by p s) nobody = ⊥
SameSum (by p s) (by q t) = s ≡ t
