-- `store_split`: the stores of a split's two blocks follow each other.
use mathlib.Core.List.{[], ◌∷◌}
use Prim.Native.Nat.{◌-◌}
use native.Mathlib.Omega.{arith}
use Rattle.definitions.specs.Lists.{total}
use Rattle.definitions.specs.Blocks.{windows}
use Rattle.preparation.specs.Prepared.{Placement, place, split_placements, numbers, numbers_from, words_of}
use Rattle.preparation.specs.Numbers.{stored_more}
use Rattle.preparation.proofs.store_split.Goals as goal

pub returns : goal.returns
unfolding split_placements windows numbers numbers_from words_of total
returns c =
    let a = c.args in
    let one = c.store_part-next in
    let two = c.store_part in
    let first : Placement = place a.d (record { row0 = a.c.first; rows = a.c.middle - a.c.first; col0 = a.c.middle; cols = a.c.end - a.c.middle }) in
    let second : Placement = place a.d (record { row0 = a.c.middle; rows = a.c.end - a.c.middle; col0 = a.c.first; cols = a.c.middle - a.c.first }) in
    stored_more a.parts.now one.new.parts two.new.parts a.b a.slot one.result two.result (first ∷ []) (second ∷ [])
    (record { stored = one.ensures.stored; end = omega (arith, one.ensures.next) })
    (record { stored = two.ensures.stored; end = omega (arith, two.ensures.next) })
