-- `store_part`: six stores are the run of stores of six numbers.
use mathlib.Core.Path.{◌≡◌}
use mathlib.Core.List.{List, [], ◌∷◌}
use Prim.Native.Nat.{ℕ, suc, ◌+◌, ◌-◌, ◌*◌}
use native.Mathlib.Omega.{arith}
use borrow.Author.Rules.{rules}
use lib.ListN.{set}
use lib.Seq.{sets}
use Rattle.definitions.specs.Limits.{row_places}
use Rattle.preparation.specs.Prepared.{part_numbers}
use Rattle.preparation.proofs.store_part.Goals as goal

six : (l : List ℕ) (i x₀ x₁ x₂ x₃ x₄ x₅ : ℕ)
    → set (set (set (set (set (set l i x₀) (i + 1) x₁) (i + 2) x₂) (i + 3) x₃) (i + 4) x₄) (i + 5) x₅ ≡ sets l i (x₀ ∷ x₁ ∷ x₂ ∷ x₃ ∷ x₄ ∷ x₅ ∷ [])
six l i x₀ x₁ x₂ x₃ x₄ x₅ =
    let e₁ : i + 1 ≡ suc i = omega arith in
    let e₂ : i + 2 ≡ suc (suc i) = omega arith in
    let e₃ : i + 3 ≡ suc (suc (suc i)) = omega arith in
    let e₄ : i + 4 ≡ suc (suc (suc (suc i))) = omega arith in
    let e₅ : i + 5 ≡ suc (suc (suc (suc (suc i)))) = omega arith in
    rw (e₁, e₂, e₃, e₄, e₅)

pub returns : goal.returns
returns c =
    let a = c.args in
    let x = a.part in
    record { stored = six a.parts.now (part_numbers * a.b) a.slot (row_places * x.d + x.row0) (row_places - (x.col0 + x.cols)) x.cols (row_places * x.d + (x.col0 + x.cols - 1)) x.rows; next = search rules }
