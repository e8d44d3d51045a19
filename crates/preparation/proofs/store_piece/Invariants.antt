-- `store_piece`: after s turns the blocks of the first s splits are stored. The split that a turn reads from the list of all is split s of
-- the piece, cut between two of its places, so that no difference falls below 0.
use Rattle.std.proofs.Common.{◌≡◌, ◌+◌, ◌*◌, ◌≤◌, map, length, take}
use Rattle.definitions.specs.Blocks.{splits_of, windows}
use Rattle.preparation.specs.Prepared.{place, split_words, Stored}
use Rattle.preparation.proofs.store_piece.Given as goal

abbrev pub invariant-loop-s : goal.invariant-loop-s
invariant-loop-s l = record {
  sized : length l.parts ≡ length l.initial.parts;
  short : l.next ≤ l.slot + split_words * l.s;
  stored : Stored l.initial.parts l.parts l.b l.slot l.next (map (place l.d) (windows (take l.s (splits_of l.m))));
}
