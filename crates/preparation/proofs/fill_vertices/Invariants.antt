-- `fill_vertices`: after i turns the first i vertices are stored.
use Rattle.std.proofs.Common.{◌≡◌, ◌++◌, map, drop, get_or}
use Rattle.definitions.specs.Lists.{up_from}
use Rattle.preparation.proofs.fill_vertices.Given as goal

abbrev pub invariant-loop-i : goal.invariant-loop-i
invariant-loop-i l = l.out ≡ map (λ j. get_or l.vertices j 0) (up_from 0 l.i) ++ drop l.i l.initial.out
