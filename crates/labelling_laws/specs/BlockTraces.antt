-- The trace of a block, as that of a list of calls on a fresh model. The law is in proofs/.
--   Made
use Rattle.std.specs.Prelude.{◌≡◌, List, length}
use Rattle.definitions.specs.Model.{Call, trace}
use Rattle.definitions.specs.Labelling.{BlockState}

pub record Made (s : BlockState) : Type 0 where
  pub calls : List Call
  pub trace_is : s.trace ≡ trace s.block.lengths (length s.block.rows) (length s.block.cols) calls
