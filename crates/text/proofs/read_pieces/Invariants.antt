-- `read_pieces`: the buffers hold the first d pieces, and the definition reads the others from the place reached on.
use Rattle.text.specs.PieceReading.{PiecesGoing}
use Rattle.text.proofs.read_pieces.Given as goal

abbrev pub invariant-loop-d : goal.invariant-loop-d
invariant-loop-d l = PiecesGoing l.text l.n l.at l.p l.d l.place l.sizes l.vertices l.lengths
