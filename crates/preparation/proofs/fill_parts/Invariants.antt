-- `fill_parts`: after d turns the blocks of the first d pieces are stored. The blocks and words that a piece has at most keep the numbers small.
use Rattle.std.proofs.Common.{◌≡◌, ◌*◌, ◌≤◌, length}
use Rattle.definitions.specs.Blocks.{all_splits}
use Rattle.splits.specs.Table.{flattened}
use Rattle.preparation.specs.Prepared.{piece_blocks, part_places, piece_words, blocks_up_to, placements_up_to, Stored}
use Rattle.preparation.proofs.fill_parts.Given as goal

abbrev pub invariant-loop-d : goal.invariant-loop-d
invariant-loop-d l = record {
  sized : length l.parts ≡ part_places;
  splits : l.splits ≡ flattened all_splits;
  blocks : l.b ≡ blocks_up_to l.p l.sizes l.d;
  few : l.b ≤ piece_blocks * l.d;
  short : l.slot ≤ piece_words * l.d;
  stored : Stored l.initial.parts l.parts 0 0 l.slot (placements_up_to l.p l.sizes l.d);
}
