-- `path_turn`: up to the column that is found the row has what is not wanted.
use mathlib.Core.Path.{◌≡◌}
use mathlib.Core.Bool.{true, false}
use Rattle.std.specs.Bool.{beq}
use Rattle.std.proofs.Common.{rules}
use Rattle.engine.specs.Heap.RowRuns.{has_path, wanted, unwanted}
use Rattle.engine.proofs.rows.Block.path_turn.Goals as goal

pub first_in-requires : goal.first_in-requires
first_in-requires c = record { ordered = c.requires.1; asks = λ x a b. search rules }

pub returns : goal.returns
returns c = let s = c.args.self.now in record { low = c.first_in.ensures.low; high = c.first_in.ensures.high; before = λ x a b. let k = c.first_in.ensures.before x a b in let e : beq (has_path s.rows.now s.col0 c.args.row x) c.args.want ≡ false = search rules in unwanted _ _ e; here = λ a. let k = c.first_in.ensures.here a in let e : beq (has_path s.rows.now s.col0 c.args.row c.first_in.result) c.args.want ≡ true = search rules in wanted _ _ e }
