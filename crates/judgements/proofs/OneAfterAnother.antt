-- Laws of a judgement that asks one thing after another, each with `?`.
--   not_none                   a cause has a number other than 0
--   first_is next_is last_is   what it answers where the first turns the input away, where the first does not, and where there is only one
use mathlib.Core.Path.{◌≡◌, sym, ◌∙◌}
use mathlib.Core.Logic.{◌≢◌}
use mathlib.Core.List.{List, [], ◌∷◌}
use Prim.Native.Nat.{ℕ}
use native.Mathlib.Omega.{arith}
use Rattle.definitions.specs.declared.Cause.{Cause}
use Rattle.definitions.specs.declared.Cause.TheVariants.{Buffer, Text, Layout, Bounds, Vertex, Length, Block, Source, Target}
use Rattle.definitions.specs.Causes.{number_of}
use Rattle.definitions.specs.Lists.{first_cause}
use Rattle.definitions.proofs.Laws.CauseLaws.{refused, passed, last}

pub not_none : (e : Cause) → number_of e ≢ 0
not_none Buffer h = absurd (omega arith)
not_none Text h = absurd (omega arith)
not_none Layout h = absurd (omega arith)
not_none Bounds h = absurd (omega arith)
not_none Vertex h = absurd (omega arith)
not_none Length h = absurd (omega arith)
not_none Block h = absurd (omega arith)
not_none Source h = absurd (omega arith)
not_none Target h = absurd (omega arith)

pub first_is : (e : Cause) (x : ℕ) (xs : List ℕ) → number_of e ≡ x → number_of e ≡ first_cause (x ∷ xs)
first_is e x xs h = h ∙ sym (refused x xs (λ z. not_none e (h ∙ z)))

pub next_is : (r x : ℕ) (xs : List ℕ) → 0 ≡ x → r ≡ first_cause xs → r ≡ first_cause (x ∷ xs)
next_is r x xs z h = h ∙ sym (passed x xs (sym z))

pub last_is : (r x : ℕ) → r ≡ x → r ≡ first_cause (x ∷ [])
last_is r x h = h ∙ sym (last x)
