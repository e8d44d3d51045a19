-- `fill_firsts`: after d turns the first d numbers are the definition's, and b counts the blocks of the first d pieces.
use Rattle.std.proofs.Common.{◌≡◌, ◌++◌, ◌*◌, ◌≤◌, map, drop}
use Rattle.definitions.specs.Lists.{up_from}
use Rattle.preparation.specs.Prepared.{piece_blocks, blocks_up_to}
use Rattle.preparation.proofs.fill_firsts.Given as goal

abbrev pub invariant-loop-d : goal.invariant-loop-d
invariant-loop-d l = record {
  blocks : l.b ≡ blocks_up_to l.p l.sizes l.d;
  few : l.b ≤ piece_blocks * l.d;
  filled : l.firsts ≡ map (blocks_up_to l.p l.sizes) (up_from 0 l.d) ++ drop l.d l.initial.firsts;
}
