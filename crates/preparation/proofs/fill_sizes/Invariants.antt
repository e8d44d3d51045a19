-- `fill_sizes`: after d turns the sizes of the first d pieces are stored.
use Rattle.std.proofs.Common.{◌≡◌, ◌++◌, map, drop}
use Rattle.definitions.specs.Lists.{up_from}
use Rattle.preparation.specs.Prepared.{size_at}
use Rattle.preparation.proofs.fill_sizes.Given as goal

abbrev pub invariant-loop-d : goal.invariant-loop-d
invariant-loop-d l = l.out ≡ map (size_at l.p l.sizes) (up_from 0 l.d) ++ drop l.d l.initial.out
