-- `lengths_fit`: the chain goes through the row from its front.
use mathlib.Core.Path.{◌≡◌, ◌∙◌}
use mathlib.Core.Bool.{true, ◌&&◌}
use borrow.Author.Rules.{rules}
use Rattle.std.specs.List.{fold}
use Rattle.definitions.specs.Metres.{is_length}
use Rattle.judgements.proofs.VertexTests.{fold_every}
use Rattle.judgements.proofs.lengths_fit.Goals as goal

pub returns : goal.returns
returns c =
    let e : c.fold.result ≡ fold (λ fit l. fit && is_length l) true c.args.row.now = search rules in
    e ∙ fold_every is_length true c.args.row.now
