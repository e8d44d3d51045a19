-- The law of the file `Causes` of specs/: no two judgements have one number. A number leads back to the judgement that it is of.
use Rattle.std.specs.Prelude.{◌≡◌, cond, ℕ, eqb, ⊤, Result, Ok, Err}
use Rattle.std.proofs.Common.{refl, sym, ◌∙◌, ap}
use Rattle.definitions.specs.declared.Cause.{Cause}
use Rattle.definitions.specs.declared.Cause.TheVariants.{Buffer, Text, Layout, Bounds, Vertex, Length, Block, Source, Target}
use Rattle.definitions.specs.Causes.{verdict}

abbrev judgement_of : ℕ → Result ⊤ Cause
judgement_of n =
    cond (eqb n 1) (Err Buffer) (cond (eqb n 2) (Err Text) (cond (eqb n 3) (Err Layout) (cond (eqb n 4) (Err Bounds)
    (cond (eqb n 5) (Err Vertex) (cond (eqb n 6) (Err Length) (cond (eqb n 7) (Err Block) (cond (eqb n 8) (Err Source)
    (cond (eqb n 12) (Err Target) (Ok tt)))))))))

led_back : (r : Result ⊤ Cause) → judgement_of (verdict r) ≡ r
led_back (Ok tt) = refl
led_back (Err Buffer) = refl
led_back (Err Text) = refl
led_back (Err Layout) = refl
led_back (Err Bounds) = refl
led_back (Err Vertex) = refl
led_back (Err Length) = refl
led_back (Err Block) = refl
led_back (Err Source) = refl
led_back (Err Target) = refl

pub verdict_lem : (r s : Result ⊤ Cause) → verdict r ≡ verdict s → r ≡ s
verdict_lem r s e = sym (led_back r) ∙ ap judgement_of e ∙ led_back s
