-- `store_places`: when place k of the piece is next, those from k on are stored.
use Rattle.std.proofs.Common.{◌≡◌, ◌-◌, length}
use Rattle.preparation.specs.Prepared.{place_count, store_places}
use Rattle.preparation.proofs.store_places.Given as goal

abbrev pub invariant-loop-k : goal.invariant-loop-k
invariant-loop-k l = record {
  sized : length l.places ≡ place_count;
  stored : l.places ≡ store_places l.vertices l.d l.m l.initial.places (l.m - l.k);
}
