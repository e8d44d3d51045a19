-- `labelling::half_of` answers the half that has the place, by the same test.
use borrow.Author.Tests.{lt-ltb, le-ltb}
use Rattle.engine.specs.Labeller.Halves.{half_first, half_second}
use mathlib.Core.Path.{sym}
use Rattle.engine.proofs.labelling.half_of.Goals as goal

pub returns-then-i-start : goal.returns-then-i-start
returns-then-i-start c = sym (half_first _ _ _ _ (lt-ltb _ _ c.if-i-start.true))

pub returns : goal.returns
returns c = sym (half_second _ _ _ _ (le-ltb _ _ c.if-i-start.false))
