-- `fill_places`: when piece d is next, those from d on are stored.
use Rattle.std.proofs.Common.{◌≡◌, ◌-◌, length}
use Rattle.definitions.specs.Limits.{max_pieces}
use Rattle.preparation.specs.Prepared.{place_count, places_from}
use Rattle.preparation.proofs.fill_places.Given as goal

abbrev pub invariant-loop-d : goal.invariant-loop-d
invariant-loop-d l = record {
  sized : length l.places ≡ place_count;
  stored : l.places ≡ places_from l.p l.sizes l.vertices (max_pieces - l.d);
}
